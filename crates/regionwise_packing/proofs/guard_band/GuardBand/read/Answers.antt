use Rattle.fields.specs.Reading.{left}
use Rattle.regionwise_packing.proofs.Exits.{goes_out}
use Rattle.regionwise_packing.proofs.Bands.{band-none, band-widths, band-flag, band-types, band-whole, band-place}
use Rattle.regionwise_packing.proofs.guard_band.GuardBand.read.Goals as goal

pub returns-in_err-widths-clause-reads : goal.returns-in_err-widths-clause-reads
returns-in_err-widths-clause-reads c =
    rw (goes_out _ c.from_residual.ensures.1) (band-none _ _ c.in_err-widths.ensures.reads)

pub returns-in_err-not_used-clause-reads : goal.returns-in_err-not_used-clause-reads
returns-in_err-not_used-clause-reads c =
    rw (goes_out _ c.from_residual-in_err-not_used.ensures.1) (band-widths _ _ _ _ _ _ c.in_ok-widths.ensures.reads _ c.in_err-not_used.ensures.0)

pub returns-in_err-types-clause-reads : goal.returns-in_err-types-clause-reads
returns-in_err-types-clause-reads c =
    rw (goes_out _ c.from_residual-in_err-types.ensures.1) (band-flag _ _ _ _ _ _ c.in_ok-widths.ensures.reads _ _ c.in_ok-not_used.ensures.0 _ c.in_err-types.ensures.reads)

pub returns-in_err-bits-clause-reads : goal.returns-in_err-bits-clause-reads
returns-in_err-bits-clause-reads c =
    rw (goes_out _ c.from_residual-in_err-bits.ensures.1) (band-types _ _ _ _ _ _ c.in_ok-widths.ensures.reads _ _ c.in_ok-not_used.ensures.0 _ _ _ _ _ c.in_ok-types.ensures.reads _ c.in_err-bits.ensures.reads.0)

pub returns-clause-reads : goal.returns-clause-reads
returns-clause-reads c = band-whole _ _ _ _ _ _ c.in_ok-widths.ensures.reads _ _ c.in_ok-not_used.ensures.0 _ _ _ _ _ c.in_ok-types.ensures.reads _ _ c.in_ok-bits.ensures.reads.0

pub returns-clause-goes : goal.returns-clause-goes
returns-clause-goes c = band-place (left c.args.reader.now) _ _ _ _ _ _ c.in_ok-widths.ensures.goes c.in_ok-not_used.ensures.0 c.in_ok-types.ensures.goes c.in_ok-bits.ensures.reads.0
