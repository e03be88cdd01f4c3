use Rattle.std.proofs.Common.{◌∙◌}
use Rattle.regionwise_packing.proofs.Writing.{region-written}
use Rattle.regionwise_packing.proofs.region.Region.write.Goals as goal

pub returns : goal.returns
returns c = record { after = region-written c.args.self.now _ _ _ _ _ _ _ _ _ (c.from-2.ensures ∙ c.from.ensures) c.bits.ensures.after c.bits-2.ensures.after c.is_some.ensures c.flag.ensures.after c.write.ensures.after c.write-2.ensures.after c.write_guard.ensures.after }
