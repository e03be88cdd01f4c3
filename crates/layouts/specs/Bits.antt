-- Bytes as bits, the highest bit of each byte first.
use Rattle.std.specs.Prelude.{ℕ, zero, suc, ◌+◌, ◌*◌, ◌/◌, ◌%◌, ◌^◌, Bool, true, false, List, [], ◌∷◌, ◌++◌, length, ◌==◌}

abbrev pub bit : Bool → ℕ
bit true = 1
bit false = 0

-- the w lowest binary digits of n, highest first
unfoldable pub word : ℕ → ℕ → List Bool
word zero n = []
word (suc w) n = (n / 2 ^ w % 2 == 1) ∷ word w n

-- the number whose binary digits these are, highest first
unfoldable pub number : List Bool → ℕ
number [] = 0
number (b ∷ bs) = bit b * 2 ^ length bs + number bs

-- the bits of bytes
unfoldable pub bits_of : List ℕ → List Bool
bits_of [] = []
bits_of (b ∷ bs) = word 8 b ++ bits_of bs

-- how many zeros the bits begin with
unfoldable pub zeros : List Bool → ℕ
zeros [] = 0
zeros (true ∷ bs) = 0
zeros (false ∷ bs) = suc (zeros bs)
