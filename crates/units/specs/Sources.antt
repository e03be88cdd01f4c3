-- What a source answers, and what the source over clean bytes has to come.
use Rattle.std.specs.Prelude.{◌≡◌, ℕ, ◌%◌, Bool, true, false, List, [], ◌∷◌, Some, None, Ok, Err, Option, Result, nat_lt, refl}
use Rattle.std.proofs.Common.{mod-lt, lit<}
use Rattle.std.proofs.Math.Pow.{are_bytes}
use Rattle.std.proofs.lemmas.Bool.{lt-ltb, and_from}
use Rattle.units.specs.declared.source.SourceFault.{SourceFault}
use Rattle.units.specs.declared.source.Clean.{Clean}

-- the answer of a source with the bytes xs to come, and a fault after them where f, that has ys and g then
abbrev pub Pulled : Result (Option ℕ) SourceFault → List ℕ → Bool → List ℕ → Bool → Type 0
Pulled (Ok (Some b)) xs f ys g = (xs ≡ b ∷ ys) × (g ≡ f)
Pulled (Ok None) xs f ys g = (xs ≡ []) × (f ≡ false) × (ys ≡ []) × (g ≡ false)
Pulled (Err e) xs f ys g = (xs ≡ []) × (f ≡ true) × (ys ≡ []) × (g ≡ true)

-- numbers as bytes: what a slice of bytes holds is left as it is
abbrev pub as_bytes : List ℕ → List ℕ
as_bytes [] = []
as_bytes (b ∷ bs) = b % 256 ∷ as_bytes bs

pub as_bytes-bytes : (bs : List ℕ) → are_bytes (as_bytes bs) ≡ true
as_bytes-bytes [] = refl
as_bytes-bytes (b ∷ bs) = and_from (nat_lt (b % 256) 256) (are_bytes (as_bytes bs)) (lt-ltb (b % 256) 256 (mod-lt b (lit< tt))) (as_bytes-bytes bs)

-- what is left of clean bytes
abbrev pub clean_bytes : Clean → List ℕ
clean_bytes s = as_bytes s.rest.now

pub clean_are_bytes : (s : Clean) → are_bytes (clean_bytes s) ≡ true
clean_are_bytes s = as_bytes-bytes s.rest.now
