use Rattle.std.proofs.Common.{◌≡◌, ◌≤◌, ◌++◌, length, take, drop}
use Rattle.units.proofs.fill.fill.Given as goal

-- what has come stands in the scratch, and the rest is to come
abbrev pub invariant-loop-byte : goal.invariant-loop-byte
invariant-loop-byte g l =
    (l.taken ≤ l.room)
    × (l.taken ≤ length (g.X.Source.coming l.initial.source))
    × (g.X.Source.coming l.source ≡ drop l.taken (g.X.Source.coming l.initial.source))
    × (g.X.Source.faulty l.source ≡ g.X.Source.faulty l.initial.source)
    × (l.scratch ≡ take l.taken (g.X.Source.coming l.initial.source) ++ drop l.taken l.initial.scratch)

abbrev pub decreases-loop-byte : goal.decreases-loop-byte
decreases-loop-byte g l = length (g.X.Source.coming l.source)
