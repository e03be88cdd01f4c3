-- Guard bands are equal where their fields are, since a fact in a ghost field has one proof at most.
use Rattle.std.specs.Prelude.{◌≡◌, ◌^◌, ◌<◌}
use mathlib.Core.HLevel.{is_prop→PathP, ×_prop}
use Rattle.std.proofs.Math.Bridge.{le_prop}
use Rattle.equirectangular.specs.declared.GuardBand.{GuardBand}

pub band-same : (g h : GuardBand) → g.guard_type ≡ h.guard_type → g.left_width ≡ h.left_width → g.right_width ≡ h.right_width → g ≡ h
band-same g h t l r = λ i. record {
  guard_type = t i;
  left_width = l i;
  right_width = r i;
  fits = is_prop→PathP (λ j. (t j < 2 ^ 3) × ((l j < 2 ^ 8) × (r j < 2 ^ 8))) (λ j. ×_prop le_prop (×_prop le_prop le_prop)) g.fits h.fits i;
}
