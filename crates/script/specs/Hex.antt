-- Hex: what a text of digit pairs stands for, and the text of bytes.
use Rattle.std.specs.Prelude.{◌≡◌, ℕ, ◌+◌, ◌-◌, ◌*◌, ◌/◌, ◌%◌, ◌<◌, cond, List, [], ◌∷◌, ◌++◌, drop, Some, None, Ok, Err, vec_items, Option, Result, Vec, nat_lt}
use Rattle.std.specs.Int.{is_in_range}
use Rattle.std.specs.Char.{is_ascii_whitespace}
use Rattle.std.specs.List.{AllByRecursion}
use Rattle.std.specs.Str.{IsCharBoundary}
use Rattle.std.specs.declared.alloc.Global.{Global}
use Rattle.script.specs.declared.hex.HexFault.{HexFault}
use Rattle.script.specs.declared.hex.HexFault.TheVariants.{NotHex, Odd, Memory}

-- the value of a hex digit, in either case; none of any other character
abbrev pub digit : ℕ → Option ℕ
digit c = cond (is_in_range 48 57 c) (Some (c - 48)) (cond (is_in_range 65 70 c) (Some (c - 55)) (cond (is_in_range 97 102 c) (Some (c - 87)) None))

-- what a text says: its bytes; or, from the faulty word on, the text that is not hex or whose first word has an odd number of digits
pub data Reading : Type 0 where
  bytes : List ℕ → Reading
  not_hex : List ℕ → Reading
  odd : List ℕ → Reading

-- the reading goes on with the value of a digit, or stops
abbrev pub on_digit : Option ℕ → Reading → (ℕ → Reading) → Reading
on_digit None stop on = stop
on_digit (Some d) stop on = on d

-- the reading of a text, behind the bytes done, in the word that begins at w: between pairs, and behind a pair's first digit
abbrev pub reading : List ℕ → Option ℕ → List ℕ → List ℕ → Reading
reading done None w [] = bytes done
reading done (Some h) w [] = odd w
reading done None w (c ∷ cs) = cond (is_ascii_whitespace c) (reading done None cs cs) (on_digit (digit c) (not_hex w) (λ d. reading done (Some d) w cs))
reading done (Some h) w (c ∷ cs) = cond (is_ascii_whitespace c) (odd w) (on_digit (digit c) (not_hex w) (λ d. reading (done ++ (h * 16 + d) ∷ []) None w cs))

-- what a text of hex says
abbrev pub read : List ℕ → Reading
read text = reading [] None text text

-- an answer tells what the text says, and where the faulty word begins, unless memory fails
abbrev pub Decodes : List ℕ → Result (Vec ℕ Global) HexFault → Type 0
Decodes text (Ok v) = read text ≡ bytes (vec_items v)
Decodes text (Err (NotHex place)) = (read text ≡ not_hex (drop place text)) × IsCharBoundary text place
Decodes text (Err (Odd place)) = (read text ≡ odd (drop place text)) × IsCharBoundary text place
Decodes text (Err Memory) = Unit {0}

-- the digit of a value below 16, in upper case
abbrev pub numeral : ℕ → ℕ
numeral v = cond (nat_lt v 10) (48 + v) (55 + v)

-- a byte as two digits
abbrev pub pair : ℕ → List ℕ
pair b = numeral (b / 16) ∷ numeral (b % 16) ∷ []

-- bytes that follow others, a blank before each
abbrev pub more : List ℕ → List ℕ
more [] = []
more (b ∷ bs) = 32 ∷ (pair b ++ more bs)

-- the text of bytes
abbrev pub written : List ℕ → List ℕ
written [] = []
written (b ∷ bs) = pair b ++ more bs

-- the text of bytes says those bytes
abbrev pub ReadsBack : Type 0
ReadsBack = (bs : List ℕ) → AllByRecursion (λ b. b < 256) bs → read (written bs) ≡ bytes bs
