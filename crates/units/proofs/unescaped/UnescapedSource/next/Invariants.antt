use Rattle.std.proofs.Common.{◌≡◌, Ok, length}
use Rattle.units.specs.Escapes.{opened}
use Rattle.units.specs.Layers.{opened_from}
use Rattle.units.proofs.unescaped.UnescapedSource.next.Given as goal

-- what is left below gives the same
abbrev pub invariant-loop-byte : goal.invariant-loop-byte
invariant-loop-byte g l =
    (l.self.zeros ≡ Ok l.zeros)
    × (opened l.zeros (g.S.Source.coming l.self.below) (g.S.Source.faulty l.self.below)
    ≡ opened_from l.initial.self.zeros (g.S.Source.coming l.initial.self.below) (g.S.Source.faulty l.initial.self.below))

abbrev pub decreases-loop-byte : goal.decreases-loop-byte
decreases-loop-byte g l = length (g.S.Source.coming l.self.below)
