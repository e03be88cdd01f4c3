use Rattle.std.proofs.Common.{◌≡◌, ◌++◌, map, take}
use Rattle.bounded.specs.Bounded.{items}
use Rattle.bounded.proofs.Bounded.append.Given as goal

abbrev pub invariant-loop-value : goal.invariant-loop-value
invariant-loop-value g l = items l.self ≡ take g.row.N (items l.fn.self ++ map (λ x. x.now) l.yielded)
