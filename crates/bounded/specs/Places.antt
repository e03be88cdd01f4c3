-- Places of which the first ones hold a value each.
use Rattle.std.specs.Prelude.{ℕ, zero, suc, Bool, true, false, List, [], ◌∷◌, Some, None, Option}

-- the values that places hold
unfoldable pub held : {A : Type 0} → List (Option A) → List A
held [] = []
held (None ∷ ps) = held ps
held (Some x ∷ ps) = x ∷ held ps

-- whether the first n places hold a value each, and the others none
unfoldable pub fills : {A : Type 0} → ℕ → List (Option A) → Bool
fills zero [] = true
fills zero (None ∷ ps) = fills zero ps
fills zero (Some x ∷ ps) = false
fills (suc n) [] = false
fills (suc n) (None ∷ ps) = false
fills (suc n) (Some x ∷ ps) = fills n ps
