use Rattle.bounded.specs.Bounded.{items}
use Rattle.fields.specs.Reading.{left}
use Rattle.regionwise_packing.proofs.Loops.{Read}
use Rattle.regionwise_packing.proofs.methods.read_regions.Given as goal

abbrev pub invariant-loop : goal.invariant-loop
invariant-loop l = Read l.picture l.count l.counter (left l.initial.reader) (items l.regions) (left l.reader)
