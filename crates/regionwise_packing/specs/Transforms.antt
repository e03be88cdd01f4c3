-- The numbers of the transforms of a region: each number below 8 is one, and none is two.
use Rattle.std.specs.Prelude.{◌≡◌, ℕ, ◌^◌, ◌<◌, List, [], ◌∷◌, get_or, Ok, Err, Result, refl}
use Rattle.std.proofs.Common.{sym, ap, ◌∙◌, arith}
use Rattle.layouts.specs.declared.fault.FieldFault.{FieldFault}
use Rattle.layouts.specs.declared.fault.FieldFault.TheVariants.{OutOfRange}
use Rattle.regionwise_packing.specs.declared.transform.Transform.{Transform}
use Rattle.regionwise_packing.specs.declared.transform.Transform.TheVariants.{Unturned, Mirrored, HalfTurn, HalfTurnMirrored, QuarterTurnMirrored, QuarterTurn, ThreeQuarterTurnMirrored, ThreeQuarterTurn}

abbrev pub transform_number : Transform → ℕ
transform_number Unturned = 0
transform_number Mirrored = 1
transform_number HalfTurn = 2
transform_number HalfTurnMirrored = 3
transform_number QuarterTurnMirrored = 4
transform_number QuarterTurn = 5
transform_number ThreeQuarterTurnMirrored = 6
transform_number ThreeQuarterTurn = 7

-- the transform of a number; one above 7 is out of range
abbrev pub MakesTransform : ℕ → Result Transform FieldFault → Type 0
MakesTransform n (Ok t) = (n < 8) × (transform_number t ≡ n)
MakesTransform n (Err e) = (7 < n) × (e ≡ OutOfRange 0)

pub transform-below : (t : Transform) → transform_number t < 2 ^ 3
transform-below Unturned = omega arith
transform-below Mirrored = omega arith
transform-below HalfTurn = omega arith
transform-below HalfTurnMirrored = omega arith
transform-below QuarterTurnMirrored = omega arith
transform-below QuarterTurn = omega arith
transform-below ThreeQuarterTurnMirrored = omega arith
transform-below ThreeQuarterTurn = omega arith

abbrev all : List Transform
all = Unturned ∷ Mirrored ∷ HalfTurn ∷ HalfTurnMirrored ∷ QuarterTurnMirrored ∷ QuarterTurn ∷ ThreeQuarterTurnMirrored ∷ ThreeQuarterTurn ∷ []

at_number : (t : Transform) → get_or all (transform_number t) Unturned ≡ t
at_number Unturned = refl
at_number Mirrored = refl
at_number HalfTurn = refl
at_number HalfTurnMirrored = refl
at_number QuarterTurnMirrored = refl
at_number QuarterTurn = refl
at_number ThreeQuarterTurnMirrored = refl
at_number ThreeQuarterTurn = refl

pub transform-same : (s t : Transform) → transform_number s ≡ transform_number t → s ≡ t
transform-same s t e = sym (at_number s) ∙ ap (λ n. get_or all n Unturned) e ∙ at_number t
