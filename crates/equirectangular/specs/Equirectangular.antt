-- Type 150, equirectangular projection.
use Rattle.std.specs.Prelude.{◌≡◌, ℕ, ◌<◌, ◌≤◌, not, List, [], ◌∷◌, Some, None, Ok, Err, Option, Result}
use Rattle.layouts.specs.declared.fault.FieldFault.{FieldFault}
use Rattle.layouts.specs.declared.fault.FieldFault.TheVariants.{OutOfRange}
use Rattle.layouts.specs.Bits.{bit}
use Rattle.layouts.specs.Layout.{Layout, close, reserved, flag, unless, field, u}
use Rattle.equirectangular.specs.declared.Equirectangular.{Equirectangular}
use Rattle.equirectangular.specs.declared.GuardBand.{GuardBand}

-- what follows the reserved bits where there is a guard band
abbrev pub band : Layout
band = field (u 3) λ guard_type. field (u 8) λ left_width. field (u 8) λ right_width. close

-- what follows the cancel bit
abbrev pub content : Layout
content = flag λ persistence. flag λ guard_band. reserved 2 (unless (not guard_band) band)

-- the guard band's flag, and its fields where there is one
abbrev pub band_numbers : Option GuardBand → List ℕ
band_numbers None = 0 ∷ []
band_numbers (Some g) = 1 ∷ g.guard_type ∷ g.left_width ∷ g.right_width ∷ []

abbrev pub content_numbers : Equirectangular → List ℕ
content_numbers e = bit e.persistence ∷ band_numbers e.guard_band

-- a guard band of this type and these widths, where the type is at most 7; else the refusal, at place 0
abbrev pub MakesBand : ℕ → ℕ → ℕ → Result GuardBand FieldFault → Type 0
MakesBand t l r (Ok g) = (t ≤ 7) × (g.guard_type ≡ t) × (g.left_width ≡ l) × (g.right_width ≡ r)
MakesBand t l r (Err e) = (7 < t) × (e ≡ OutOfRange 0)
