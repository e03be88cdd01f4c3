-- Type 47, display orientation.
use Rattle.std.specs.Prelude.{ℕ, List, [], ◌∷◌}
use Rattle.layouts.specs.Bits.{bit}
use Rattle.layouts.specs.Layout.{Layout, extension, flag, field, u, ue, within, at_most}
use Rattle.display_orientation.specs.declared.DisplayOrientation.{DisplayOrientation}

-- what follows the cancel bit
abbrev pub content : Layout
content = flag λ horizontal_flip. flag λ vertical_flip. field (u 16) λ rotation. field (within ue (at_most 16384)) λ period. extension

abbrev pub content_numbers : DisplayOrientation → List ℕ
content_numbers o = bit o.horizontal_flip ∷ bit o.vertical_flip ∷ o.rotation ∷ o.period.pictures ∷ []
