-- Not found alone: what is in force after an arrangement was brought.
use Rattle.std.proofs.Common.{rules}
use Rattle.frame_packings.proofs.packings.FramePackings.decide.Goals as goal

pub returns-else-is_full-clause-after : goal.returns-else-is_full-clause-after
returns-else-is_full-clause-after c = rw c.in-Some.is (search rules)
