-- The rules of sphere rotation, as a kind that holds one thing.
use Rattle.std.specs.Prelude.{ℕ, List, slice_index}
use Rattle.kinds.specs.declared.in_force.Stay.{Stay}
use Rattle.kinds.specs.Single.{Rules}
use Rattle.kinds.specs.Contents.{canceling, lasting}
use Rattle.sphere_rotation.specs.SphereRotation.{content}

-- its persistence is the first number
abbrev pub rotation_stay : List ℕ → Stay
rotation_stay vs = lasting (slice_index vs 0)

abbrev pub rotation_rules : Rules
rotation_rules = canceling 154 15 content rotation_stay
