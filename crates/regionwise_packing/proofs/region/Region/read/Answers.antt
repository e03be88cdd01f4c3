use Rattle.std.proofs.Common.{sym, ◌∙◌, arith, rules}
use Rattle.regionwise_packing.proofs.Exits.{goes_out}
use Rattle.regionwise_packing.proofs.Reading.{region-guard, region-wide, region-narrow, region-out, region-past, region-whole, made-taken, made-refused}
use Rattle.regionwise_packing.proofs.region.Region.read.Goals as goal

pub returns-in_err-projected-clause-reads : goal.returns-in_err-projected-clause-reads
returns-in_err-projected-clause-reads c =
    rw (goes_out _ c.from_residual-in_err-projected.ensures.1) (region-guard c.args.picture _ _ _ c.in_ok-bits.ensures.reads.0 _ _ c.in_ok-transform.ensures.reads.0 _ _ c.in_ok-guarded.ensures.0 _ c.in_err-projected.ensures.reads)

pub returns-in_err-packed-clause-reads : goal.returns-in_err-packed-clause-reads
returns-in_err-packed-clause-reads c =
    rw (goes_out _ c.from_residual-in_err-packed.ensures.1) (region-wide c.args.picture _ _ _ c.in_ok-bits.ensures.reads.0 _ _ c.in_ok-transform.ensures.reads.0 _ _ c.in_ok-guarded.ensures.0 _ c.in_ok-projected.projected c.in_ok-projected.ensures.reads _ c.in_err-packed.ensures.reads)

pub returns-in_err-guard-clause-reads : goal.returns-in_err-guard-clause-reads
returns-in_err-guard-clause-reads c =
    rw (goes_out _ c.from_residual-in_err-guard.ensures.1) (region-narrow c.args.picture _ _ _ c.in_ok-bits.ensures.reads.0 _ _ c.in_ok-transform.ensures.reads.0 _ _ c.in_ok-guarded.ensures.0 _ c.in_ok-projected.projected c.in_ok-projected.ensures.reads _ c.in_ok-packed.packed c.in_ok-packed.ensures.reads _ c.in_err-guard.ensures.reads)

pub returns-in_err-region-clause-reads : goal.returns-in_err-region-clause-reads
returns-in_err-region-clause-reads c =
    let made = made-refused c.in_ok-transform.transform c.in_ok-projected.projected c.in_ok-packed.packed c.in_ok-guard.guard c.new.result c.new.ensures c.place-start.result _ _ c.in_err-region.ensures.cases (λ d q. search rules) in
    rw (goes_out _ c.from_residual-in_err-region.ensures.1) (region-out c.args.picture _ _ _ c.in_ok-bits.ensures.reads.0 _ _ c.in_ok-transform.ensures.reads.0 _ _ c.in_ok-guarded.ensures.0 _ c.in_ok-projected.projected c.in_ok-projected.ensures.reads _ c.in_ok-packed.packed c.in_ok-packed.ensures.reads _ _ c.in_ok-guard.ensures.reads c.in_ok-projected.ensures.goes c.in_ok-packed.ensures.goes c.in_ok-guard.ensures.goes c.place-start.result _ c.place-start.ensures (omega (arith, c.in_ok-transform.ensures.fits)) made.0 made.1)

pub returns-then-not-is_inside-clause-reads : goal.returns-then-not-is_inside-clause-reads
returns-then-not-is_inside-clause-reads c =
    let outside = sym c.is_inside.ensures ∙ c.if-not-is_inside.true in
    let made = made-taken c.in_ok-transform.transform c.in_ok-projected.projected c.in_ok-packed.packed c.in_ok-guard.guard c.new.result c.new.ensures c.in_ok-region.region c.in_ok-region.ensures.cases in
    region-past c.args.picture _ _ _ c.in_ok-bits.ensures.reads.0 _ _ c.in_ok-transform.ensures.reads.0 _ _ c.in_ok-guarded.ensures.0 _ c.in_ok-projected.projected c.in_ok-projected.ensures.reads _ c.in_ok-packed.packed c.in_ok-packed.ensures.reads _ _ c.in_ok-guard.ensures.reads c.in_ok-projected.ensures.goes c.in_ok-packed.ensures.goes c.in_ok-guard.ensures.goes c.in_ok-region.region made c.place-start.result c.place-start.ensures outside

pub returns-clause-reads : goal.returns-clause-reads
returns-clause-reads c =
    let within = sym c.is_inside.ensures ∙ c.if-not-is_inside.false in
    let made = made-taken c.in_ok-transform.transform c.in_ok-projected.projected c.in_ok-packed.packed c.in_ok-guard.guard c.new.result c.new.ensures c.in_ok-region.region c.in_ok-region.ensures.cases in
    region-whole c.args.picture _ _ _ c.in_ok-bits.ensures.reads.0 _ _ c.in_ok-transform.ensures.reads.0 _ _ c.in_ok-guarded.ensures.0 _ c.in_ok-projected.projected c.in_ok-projected.ensures.reads _ c.in_ok-packed.packed c.in_ok-packed.ensures.reads _ _ c.in_ok-guard.ensures.reads c.in_ok-projected.ensures.goes c.in_ok-packed.ensures.goes c.in_ok-guard.ensures.goes c.in_ok-region.region made c.in_ok-guard.ensures.some within
