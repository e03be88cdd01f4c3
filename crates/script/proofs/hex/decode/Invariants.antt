use Rattle.std.proofs.Common.{vec_items}
use Rattle.script.proofs.Reading.{Sofar}
use Rattle.script.proofs.hex.decode.Given as goal

abbrev pub invariant-loop-i : goal.invariant-loop-i
invariant-loop-i l = Sofar l.text (vec_items l.bytes) l.high l.word l.i
