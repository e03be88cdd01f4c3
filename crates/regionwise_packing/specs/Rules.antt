-- Region-wise packing as a kind that holds one thing.
use Rattle.std.specs.Prelude.{ℕ, List, slice_index}
use Rattle.kinds.specs.declared.in_force.Stay.{Stay}
use Rattle.kinds.specs.Contents.{canceling, lasting}
use Rattle.kinds.specs.Single.{Rules}
use Rattle.regionwise_packing.specs.Packing.{content}

-- its persistence is the first number
abbrev pub packing_stay : List ℕ → Stay
packing_stay vs = lasting (slice_index vs 0)

abbrev pub packing_rules : Rules
packing_rules = canceling 155 1011 content packing_stay
