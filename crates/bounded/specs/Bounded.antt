-- What a bounded list holds.
use Rattle.std.specs.Prelude.{ℕ, List}
use Rattle.bounded.specs.declared.Bounded.{Bounded}
use Rattle.bounded.specs.Places.{held}

-- its values, in order
abbrev pub items : {A : Type 0} {N : ℕ} → Bounded A N → List A
items b = held b.places
