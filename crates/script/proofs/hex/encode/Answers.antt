use Rattle.std.proofs.Common.{arith}
use Rattle.script.proofs.Reading.{written-first, written-more}
use Rattle.script.proofs.hex.encode.Goals as goal

pub loop-i-preserved : goal.loop-i-preserved
loop-i-preserved c = grind (arith, written-first, written-more)
