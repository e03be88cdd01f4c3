-- Type 151, cubemap projection.
use Rattle.std.specs.Prelude.{ℕ, List, [], ◌∷◌}
use Rattle.layouts.specs.Bits.{bit}
use Rattle.layouts.specs.Layout.{Layout, close, flag}
use Rattle.cubemap.specs.declared.Cubemap.{Cubemap}

-- what follows the cancel bit
abbrev pub content : Layout
content = flag λ persistence. close

abbrev pub content_numbers : Cubemap → List ℕ
content_numbers c = bit c.persistence ∷ []
