use Rattle.regionwise_packing.proofs.Exits.{goes_out}
use Rattle.regionwise_packing.proofs.Contents.{packing-sizes, packing-regions, packing-whole}
use Rattle.regionwise_packing.proofs.RegionwisePacking.read_content.Goals as goal

pub returns-in_err-projected : goal.returns-in_err-projected
returns-in_err-projected c =
    rw (goes_out _ c.from_residual-in_err-projected.ensures.1) (packing-sizes _ _ _ _ _ _ _ _ _ c.in_ok-persistence.ensures.0 c.in_ok-matching.ensures.0 c.in_ok-bits.ensures.reads.0 c.in_ok-count.ensures.reads.0 _ c.in_err-projected.ensures.reads)

pub returns-in_err-regions : goal.returns-in_err-regions
returns-in_err-regions c =
    rw (goes_out _ c.from_residual-in_err-regions.ensures.1) (packing-regions _ _ _ _ _ _ _ _ _ c.in_ok-persistence.ensures.0 c.in_ok-matching.ensures.0 c.in_ok-bits.ensures.reads.0 c.in_ok-count.ensures.reads.0 _ _ _ c.in_ok-projected.ensures.reads _ c.in_err-regions.ensures.reads)

pub returns : goal.returns
returns c = packing-whole _ _ _ _ _ _ _ _ _ c.in_ok-persistence.ensures.0 c.in_ok-matching.ensures.0 c.in_ok-bits.ensures.reads.0 c.in_ok-count.ensures.reads.0 _ _ _ c.in_ok-projected.ensures.reads _ _ _ c.in_ok-regions.ensures.reads c.in_ok-regions.ensures.inside.0
