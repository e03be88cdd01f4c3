-- Content light levels are equal where their fields are, since a fact in a ghost field has one proof at most.
use Rattle.std.specs.Prelude.{◌≡◌, ◌^◌, ◌<◌}
use mathlib.Core.HLevel.{is_prop→PathP, ×_prop}
use Rattle.std.proofs.Math.Bridge.{le_prop}
use Rattle.content_light_level.specs.declared.ContentLightLevel.{ContentLightLevel}

pub level-same : (l m : ContentLightLevel) → l.greatest ≡ m.greatest → l.greatest_average ≡ m.greatest_average → l ≡ m
level-same l m g a = λ i. record {
  greatest = g i;
  greatest_average = a i;
  fits = is_prop→PathP (λ j. (g j < 2 ^ 16) × (a j < 2 ^ 16)) (λ j. ×_prop le_prop le_prop) l.fits m.fits i;
}
