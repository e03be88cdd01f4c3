-- Not found alone, nor by a rule: that the numbers of a message are those of its layout.
use Rattle.frame_packing.specs.Propers.{packing-holds}
use Rattle.frame_packing.proofs.message.record.FramePackingRecord.encode.Goals as goal

pub returns-in-Some-clause-holds : goal.returns-in-Some-clause-holds
returns-in-Some-clause-holds c = packing-holds c.args.self.now.id c.args.self.now.arrangement
