-- The values of a bounded list, one after the other.
use Rattle.std.specs.Prelude.{ℕ, List, drop}
use Rattle.bounded.specs.declared.values.Values.{Values}
use Rattle.bounded.specs.Bounded.{items}

-- those that are still to come
abbrev pub coming : {A : Type 0} {N : ℕ} → Values A N → List A
coming v = drop v.at (items v.list)
