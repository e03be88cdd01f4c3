use Rattle.std.proofs.Common.{◌≡◌, drop}
use Rattle.layouts.specs.Frames.{under}
use Rattle.sets.specs.Parts.{sized}
use Rattle.sets.proofs.parts.with_part.Given as goal

-- what is left to add gives what is to be added
abbrev pub invariant-loop-n : goal.invariant-loop-n
invariant-loop-n g l =
    let t = g.K.Kind.model.number in
    let ps = g.K.Kind.model.part (g.K.Kind.meaning l.kind) in
    sized (under t (drop l.n ps)) l.size ≡ sized (under t ps) l.initial.size
