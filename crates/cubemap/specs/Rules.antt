-- The rules of cubemap projection, as a kind that holds one thing.
use Rattle.std.specs.Prelude.{ℕ, List, slice_index}
use Rattle.kinds.specs.declared.in_force.Stay.{Stay}
use Rattle.kinds.specs.Single.{Rules}
use Rattle.kinds.specs.Contents.{canceling, lasting}
use Rattle.cubemap.specs.Cubemap.{content}

-- its persistence is the first number
abbrev pub cubemap_stay : List ℕ → Stay
cubemap_stay vs = lasting (slice_index vs 0)

abbrev pub cubemap_rules : Rules
cubemap_rules = canceling 151 3 content cubemap_stay
