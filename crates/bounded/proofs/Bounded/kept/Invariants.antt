use Rattle.std.proofs.Common.{◌≤◌, map, length}
use Rattle.std.specs.Fn.{CalledAt}
use Rattle.bounded.specs.Bounded.{items}
use Rattle.bounded.proofs.Filtering.{Keeps}
use Rattle.bounded.proofs.Bounded.kept.Given as goal

abbrev pub invariant-loop-value : goal.invariant-loop-value
invariant-loop-value g l =
    record {
      callable : goal.F-IsAlwaysCallable g l.keep;
      room : length (items l.kept) ≤ length l.yielded;
      keeps : Keeps (CalledAt g.F.FnMut) l.fn.keep (map (λ y. y.now) l.yielded) l.keep (items l.kept);
    }
