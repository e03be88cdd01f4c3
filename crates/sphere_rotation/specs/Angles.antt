-- Angles, in steps of 1 / 65,536 degree.
use Rattle.std.specs.Prelude.{ℤ, pos, neg_ℤ, ◌≤ℤ◌}

-- a yaw or roll runs from -180 degrees to one step below 180 degrees
abbrev pub turn_low : ℤ
turn_low = neg_ℤ (pos 11796480)

abbrev pub turn_high : ℤ
turn_high = pos 11796479

abbrev pub Turn : ℤ → Type 0
Turn a = (turn_low ≤ℤ a) × (a ≤ℤ turn_high)

-- a pitch runs from -90 degrees to 90 degrees
abbrev pub tilt_low : ℤ
tilt_low = neg_ℤ (pos 5898240)

abbrev pub tilt_high : ℤ
tilt_high = pos 5898240

abbrev pub Tilt : ℤ → Type 0
Tilt a = (tilt_low ≤ℤ a) × (a ≤ℤ tilt_high)
