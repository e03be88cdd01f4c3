-- The same numbers are the same rotation.
use Rattle.std.specs.Prelude.{◌≡◌, ℤ, ◌≤ℤ◌, FitsSigned, int_le}
use Rattle.std.proofs.Common.{sym, ap, ◌∙◌, of_z, to_z}
use mathlib.Core.HLevel.{is_prop→PathP, ×_prop}
use Rattle.std.proofs.Math.Dec.{T_prop}
use Rattle.std.specs.Int.{w32}
use Rattle.std.proofs.lemmas.Int.{to_z-of_z}
use Rattle.sphere_rotation.specs.declared.SphereRotation.{SphereRotation}
use Rattle.sphere_rotation.specs.Angles.{Turn, Tilt}
use Rattle.sphere_rotation.specs.Rotations.{turn-fits, tilt-fits}

same-angle : (a b : ℤ) → FitsSigned w32 a → FitsSigned w32 b → of_z w32 a ≡ of_z w32 b → a ≡ b
same-angle a b f g e = sym (to_z-of_z w32 a f) ∙ ap (to_z w32) e ∙ to_z-of_z w32 b g

pub turn-same : (a b : ℤ) → Turn a → Turn b → of_z w32 a ≡ of_z w32 b → a ≡ b
turn-same a b s t = same-angle a b (turn-fits a s) (turn-fits b t)

pub tilt-same : (a b : ℤ) → Tilt a → Tilt b → of_z w32 a ≡ of_z w32 b → a ≡ b
tilt-same a b s t = same-angle a b (tilt-fits a s) (tilt-fits b t)

≤-prop : {a b : ℤ} (x y : a ≤ℤ b) → x ≡ y
≤-prop {a} {b} x y = λ i. record { le = T_prop (int_le a b) x.le y.le i }

pub rotation-same : (r q : SphereRotation) → r.persistence ≡ q.persistence → r.yaw ≡ q.yaw → r.pitch ≡ q.pitch → r.roll ≡ q.roll → r ≡ q
rotation-same r q d y p l = λ i. record {
  persistence = d i;
  yaw = y i;
  pitch = p i;
  roll = l i;
  turns = is_prop→PathP (λ j. Turn (y j) × (Tilt (p j) × Turn (l j))) (λ j. ×_prop (×_prop ≤-prop ≤-prop) (×_prop (×_prop ≤-prop ≤-prop) (×_prop ≤-prop ≤-prop))) r.turns q.turns i;
}
