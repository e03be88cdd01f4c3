-- Type 144, content light level.
use Rattle.std.specs.Prelude.{ℕ, List, [], ◌∷◌}
use Rattle.layouts.specs.Layout.{Layout, close, field, u}
use Rattle.content_light_level.specs.declared.ContentLightLevel.{ContentLightLevel}

abbrev pub layout : Layout
layout = field (u 16) λ greatest. field (u 16) λ greatest_average. close

abbrev pub numbers : ContentLightLevel → List ℕ
numbers l = l.greatest ∷ l.greatest_average ∷ []
