-- The rules of display orientation, as a kind that holds one thing.
use Rattle.std.specs.Prelude.{ℕ, List, slice_index}
use Rattle.kinds.specs.declared.in_force.Stay.{Stay}
use Rattle.kinds.specs.Single.{Rules}
use Rattle.kinds.specs.Contents.{canceling, lasting}
use Rattle.display_orientation.specs.DisplayOrientation.{content}

-- its period is the fourth number
abbrev pub orientation_stay : List ℕ → Stay
orientation_stay vs = lasting (slice_index vs 3)

abbrev pub orientation_rules : Rules
orientation_rules = canceling 47 9 content orientation_stay
