use Rattle.std.proofs.Common.{◌≡◌, drop}
use Rattle.layouts.specs.Frames.{under}
use Rattle.sets.specs.Parts.{written}
use Rattle.sets.proofs.parts.put_part.Given as goal

-- what is left to write gives what is to be written
abbrev pub invariant-loop-n : goal.invariant-loop-n
invariant-loop-n g l =
    let t = g.K.Kind.model.number in
    let ps = g.K.Kind.model.part (g.K.Kind.meaning l.kind) in
    written (under t (drop l.n ps)) l.place l.buffer ≡ written (under t ps) l.at l.initial.buffer
