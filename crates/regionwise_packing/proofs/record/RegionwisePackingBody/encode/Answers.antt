use Rattle.regionwise_packing.specs.Holds.{packing-holds}
use Rattle.regionwise_packing.specs.Packing.{content_numbers}
use Rattle.regionwise_packing.proofs.Contents.{content-written}
use Rattle.regionwise_packing.proofs.record.RegionwisePackingBody.encode.Goals as goal

pub returns-clause-after : goal.returns-clause-after
returns-clause-after c = content-written (content_numbers c.args.self.now) _ _ _ c.write_content.ensures.after c.close.ensures.after

pub returns-clause-holds : goal.returns-clause-holds
returns-clause-holds c = packing-holds c.args.self.now
