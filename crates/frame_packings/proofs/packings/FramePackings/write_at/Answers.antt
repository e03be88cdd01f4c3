-- Not found by the rules, which find the rest: what the buffer holds where there is room.
use Rattle.std.proofs.Common.{rules}
use Rattle.bounded.specs.Bounded.{items}
use Rattle.frame_packings.proofs.Parts.{some-bytes}
use Rattle.frame_packings.proofs.packings.FramePackings.write_at.Goals as goal

pub returns-clause-bytes : goal.returns-clause-bytes
returns-clause-bytes c = some-bytes (items c.args.self.now.table) c.args.n _ c.in_ok-packing.packing _ c.get.ensures (search rules) c.message.ensures c.args.buffer.now _ c.in_ok-write.ensures.bytes
