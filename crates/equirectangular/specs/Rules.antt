-- The rules of equirectangular projection, as a kind that holds one thing.
use Rattle.std.specs.Prelude.{ℕ, List, slice_index}
use Rattle.kinds.specs.declared.in_force.Stay.{Stay}
use Rattle.kinds.specs.Single.{Rules}
use Rattle.kinds.specs.Contents.{canceling, lasting}
use Rattle.equirectangular.specs.Equirectangular.{content}

-- its persistence is the first number
abbrev pub equirectangular_stay : List ℕ → Stay
equirectangular_stay vs = lasting (slice_index vs 0)

abbrev pub equirectangular_rules : Rules
equirectangular_rules = canceling 150 5 content equirectangular_stay
