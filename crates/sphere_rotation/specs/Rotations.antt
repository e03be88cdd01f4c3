-- The angles of a sphere rotation, by their numbers.
use Rattle.std.specs.Prelude.{◌^◌, ◌<◌, ℤ, pos, negsuc, FitsSigned}
use Rattle.std.proofs.Common.{arith, leb→le, of_z}
use Rattle.std.specs.Int.{w32}
use Rattle.std.proofs.lemmas.Int.{ints}
use Rattle.layouts.specs.Layout.{Inside, Holds}
use Rattle.layouts.proofs.Steps.{between-fine}
use Rattle.records.proofs.Same.{bit_below}
use Rattle.sphere_rotation.specs.declared.SphereRotation.{SphereRotation}
use Rattle.sphere_rotation.specs.Angles.{turn_low, turn_high, tilt_low, tilt_high, Turn, Tilt}
use Rattle.sphere_rotation.specs.SphereRotation.{turn, tilt, content, content_numbers}

pub turn-fits : (a : ℤ) → Turn a → FitsSigned w32 a
turn-fits (pos n) t = record { sfits = omega (arith, leb→le n 11796479 t.1.le) }
turn-fits (negsuc n) t = record { sfits = omega (arith, leb→le n 11796479 t.0.le) }

pub tilt-fits : (a : ℤ) → Tilt a → FitsSigned w32 a
tilt-fits (pos n) t = record { sfits = omega (arith, leb→le n 5898240 t.1.le) }
tilt-fits (negsuc n) t = record { sfits = omega (arith, leb→le n 5898239 t.0.le) }

below : (a : ℤ) → FitsSigned w32 a → of_z w32 a < 2 ^ 32
below a f = omega (arith, ints)

turn_inside : (a : ℤ) → Turn a → Inside turn (of_z w32 a)
turn_inside a t = (below a (turn-fits a t), between-fine turn_low turn_high a (turn-fits a t) t.0 t.1)

tilt-inside : (a : ℤ) → Tilt a → Inside tilt (of_z w32 a)
tilt-inside a t = (below a (tilt-fits a t), between-fine tilt_low tilt_high a (tilt-fits a t) t.0 t.1)

-- every rotation's numbers are those of a content
pub rotation-holds : (r : SphereRotation) → Holds content (content_numbers r)
rotation-holds r = (bit_below r.persistence, (turn_inside r.yaw r.turns.0, (tilt-inside r.pitch r.turns.1.0, (turn_inside r.roll r.turns.1.1, tt))))
