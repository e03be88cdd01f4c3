use Rattle.std.specs.Prelude.{◌≡◌, Some, None, Option, slice_index, refl}
use Rattle.std.proofs.Common.{ap, arith}
use Rattle.equirectangular.specs.declared.GuardBand.{GuardBand}
use Rattle.equirectangular.specs.Equirectangular.{band_numbers}
use Rattle.equirectangular.specs.Same.{band-same}

-- a guard band by its numbers
pub bands : (a b : Option GuardBand) → band_numbers a ≡ band_numbers b → a ≡ b
bands None None e = refl
bands None (Some h) e = absurd (omega (arith, ap (λ l. slice_index l 0) e))
bands (Some g) None e = absurd (omega (arith, ap (λ l. slice_index l 0) e))
bands (Some g) (Some h) e = ap Some (band-same g h (ap (λ l. slice_index l 1) e) (ap (λ l. slice_index l 2) e) (ap (λ l. slice_index l 3) e))
