use Rattle.bounded.specs.Bounded.{items}
use Rattle.bounded.specs.Values.{coming}
use Rattle.fields.specs.Writing.{sheet}
use Rattle.regionwise_packing.proofs.Loops.{Written}
use Rattle.regionwise_packing.proofs.methods.write_regions.Given as goal

abbrev pub invariant-loop-region : goal.invariant-loop-region
invariant-loop-region l = Written (items l.regions) (coming l.region-iterator) (sheet l.initial.writer) (sheet l.writer)
