-- Display orientations are equal where their fields are, since a fact in a ghost field has one proof at most.
use Rattle.std.specs.Prelude.{◌≡◌, ◌^◌, ◌<◌}
use mathlib.Core.HLevel.{is_prop→PathP}
use Rattle.std.proofs.Math.Bridge.{le_prop}
use Rattle.display_orientation.specs.declared.DisplayOrientation.{DisplayOrientation}

pub orientation-same : (o p : DisplayOrientation) → o.horizontal_flip ≡ p.horizontal_flip → o.vertical_flip ≡ p.vertical_flip → o.rotation ≡ p.rotation → o.period ≡ p.period → o ≡ p
orientation-same o p h v r d = λ i. record {
  horizontal_flip = h i;
  vertical_flip = v i;
  rotation = r i;
  period = d i;
  fits = is_prop→PathP (λ j. r j < 2 ^ 16) (λ j. le_prop) o.fits p.fits i;
}
