use Rattle.bounded.specs.Bounded.{items}
use Rattle.fields.specs.Reading.{left}
use Rattle.regionwise_packing.proofs.Exits.{goes_out}
use Rattle.regionwise_packing.proofs.Loops.{read-err, read_more}
use Rattle.regionwise_packing.proofs.methods.read_regions.Goals as goal

pub returns-in_err-region-clause-reads : goal.returns-in_err-region-clause-reads
returns-in_err-region-clause-reads c =
    rw (goes_out _ c.from_residual.ensures.1) (read-err c.args.picture c.args.count c.loop.counter (left c.args.reader.now) (left c.loop.reader) (items c.loop.regions) _ c.loop-test.true c.loop.invariant c.in_err-region.ensures.reads)

pub loop-preserved : goal.loop-preserved
loop-preserved c =
    read_more c.args.picture c.args.count c.loop.counter (left c.args.reader.now) (left c.loop.reader) (left c.read.new.reader) (items c.loop.regions) (items c.push.new.self) c.in_ok-region.region _
    c.requires c.loop-test.true c.loop.invariant c.in_ok-region.ensures.reads c.in_ok-region.ensures.inside c.push.ensures.answer c.push.ensures.items
