-- A closure that answers by a test, and stays as it is.
use Rattle.std.specs.Prelude.{◌≡◌, Bool}

abbrev pub Tests : {F X : Type 0} → (F → X → Bool → F → Type 0) → F → (X → Bool) → Type 0
Tests {F} {X} R f test = (x : X) (b : Bool) (g : F) → R f x b g → (b ≡ test x) × (g ≡ f)
