use Rattle.bounded.specs.Bounded.{items}
use Rattle.regionwise_packing.proofs.Loops.{Gathered}
use Rattle.regionwise_packing.proofs.methods.gathered.Given as goal

abbrev pub invariant-loop-region : goal.invariant-loop-region
invariant-loop-region l = Gathered l.packed l.region-index l.regions (items l.held)
