use Rattle.regionwise_packing.proofs.Bands.{band-written}
use Rattle.regionwise_packing.proofs.guard_band.GuardBand.write.Goals as goal

pub returns : goal.returns
returns c = record { after = band-written _ _ _ _ _ _ _ _ _ _ _ _ _ _ c.write.ensures.after c.flag.ensures.after c.write-2.ensures.after c.bits.ensures.after }
