use Rattle.std.proofs.Common.{◌+◌, ◌≤◌, length}
use Rattle.std.specs.Fn.{CalledAt}
use Rattle.bounded.specs.Bounded.{items}
use Rattle.bounded.specs.Values.{coming}
use Rattle.frame_packings.proofs.Filtering.{Keeps}
use Rattle.frame_packings.proofs.packings.table.kept.Given as goal

-- what the closure keeps of the values to come, behind what it kept so far, is what it keeps of all
abbrev pub invariant-loop-packing : goal.invariant-loop-packing
invariant-loop-packing g l =
    record {
      callable : goal.F-IsAlwaysCallable g l.keep;
      room : length (items l.kept) + length (coming l.packing-iterator) ≤ length (items l.table);
      keeps : Keeps (CalledAt g.F.FnMut) l.fn.keep (items l.table) l.keep (items l.kept) (coming l.packing-iterator);
    }
