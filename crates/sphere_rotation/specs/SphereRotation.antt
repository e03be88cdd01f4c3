-- Type 154, sphere rotation.
use Rattle.std.specs.Prelude.{◌≡◌, ℕ, Bool, List, [], ◌∷◌, ℤ, Ok, Err, Result}
use Rattle.std.specs.Int.{w32}
use Rattle.std.proofs.Common.{of_z}
use Rattle.layouts.specs.declared.fault.FieldFault.{FieldFault}
use Rattle.layouts.specs.declared.fault.FieldFault.TheVariants.{OutOfRange}
use Rattle.layouts.specs.Bits.{bit}
use Rattle.layouts.specs.Layout.{Layout, close, reserved, flag, field, Code, u, within, between}
use Rattle.sphere_rotation.specs.declared.SphereRotation.{SphereRotation}
use Rattle.sphere_rotation.specs.Angles.{turn_low, turn_high, tilt_low, tilt_high, Turn, Tilt}

abbrev pub turn : Code
turn = within (u 32) (between turn_low turn_high)

abbrev pub tilt : Code
tilt = within (u 32) (between tilt_low tilt_high)

-- what follows the cancel bit
abbrev pub content : Layout
content = flag λ persistence. reserved 6 (field turn λ yaw. field tilt λ pitch. field turn λ roll. close)

-- an angle's number is its bits in two's complement
abbrev pub content_numbers : SphereRotation → List ℕ
content_numbers r = bit r.persistence ∷ of_z w32 r.yaw ∷ of_z w32 r.pitch ∷ of_z w32 r.roll ∷ []

-- the angles of a rotation
abbrev pub Turns : ℤ → ℤ → ℤ → Type 0
Turns yaw pitch roll = Turn yaw × Tilt pitch × Turn roll

-- a rotation by these angles, where they are in range; else the refusal, at place 0
abbrev pub MakesRotation : Bool → ℤ → ℤ → ℤ → Result SphereRotation FieldFault → Type 0
MakesRotation persistence yaw pitch roll (Ok r) = Turns yaw pitch roll × (r.persistence ≡ persistence) × (r.yaw ≡ yaw) × (r.pitch ≡ pitch) × (r.roll ≡ roll)
MakesRotation persistence yaw pitch roll (Err e) = (Turns yaw pitch roll → ⊥) × (e ≡ OutOfRange 0)
