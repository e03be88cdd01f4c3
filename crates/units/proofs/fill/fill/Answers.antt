use Rattle.std.proofs.Common.{arith}
use Rattle.units.proofs.Fills.{pulled, come, fill_step, full-left}
use Rattle.units.proofs.fill.fill.Goals as goal

pub returns-then-taken-room-clause-coming : goal.returns-then-taken-room-clause-coming
returns-then-taken-room-clause-coming g c = grind (arith, pulled, full-left)

pub loop-byte-preserved : goal.loop-byte-preserved
loop-byte-preserved g c = grind (arith, pulled, come, fill_step)
