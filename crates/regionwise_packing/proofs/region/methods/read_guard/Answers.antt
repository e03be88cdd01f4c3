use Rattle.std.proofs.Common.{Bool, ap, ◌∙◌}
use Rattle.layouts.specs.Layout.{reads}
use Rattle.fields.specs.Reading.{left}
use Rattle.regionwise_packing.specs.Regions.{guard_band_if}
use Rattle.regionwise_packing.proofs.Exits.{goes_out}
use Rattle.regionwise_packing.proofs.region.methods.read_guard.Goals as goal

pub returns-in_err-band-clause-reads : goal.returns-in_err-band-clause-reads
returns-in_err-band-clause-reads c =
    rw (goes_out _ c.from_residual.ensures.1) (λ l. ap (λ (b : Bool). reads (guard_band_if b l) (left c.args.reader.now)) c.if-guarded.true ∙ c.in_err-band.ensures.reads l)
