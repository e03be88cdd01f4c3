-- Messages that begin with a cancel bit.
use Rattle.std.specs.Prelude.{ℕ, List, [], ◌∷◌, Some, None, Option}

-- the cancel bit, which is 1 where there is no body, and where it is 0 the numbers of the body
abbrev pub cancel_numbers : {C : Type 0} → (C → List ℕ) → Option C → List ℕ
cancel_numbers numbers None = 1 ∷ []
cancel_numbers numbers (Some c) = 0 ∷ numbers c
