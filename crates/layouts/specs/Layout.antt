-- How a payload is laid out in bits: how a field is coded, which fields a record has, how it is read and how it is written.
use Rattle.std.specs.Prelude.{◌≡◌, ℕ, zero, suc, ◌+◌, ◌-◌, ◌%◌, ◌^◌, ◌<◌, Bool, true, false, cond, ◌&&◌, List, [], ◌∷◌, ◌++◌, length, take, drop, replicate, ℤ, Ok, Err, Result, ◌==◌, int_le, nat_le, nat_lt}
use Rattle.std.specs.Int.Count.{count_leading_zeros}
use Rattle.std.specs.Int.{w32}
use Rattle.std.proofs.Common.{to_z}
use Rattle.layouts.specs.declared.fault.FieldFault.{FieldFault}
use Rattle.layouts.specs.declared.fault.FieldFault.TheVariants.{Short, OutOfRange, PastLimit, Ending}
use Rattle.layouts.specs.Bits.{word, number, bits_of, zeros}

-- what is left of a payload: the place of its next bit, and its bits from there on
pub record Left : Type 0 where
  pub place : ℕ
  pub rest : List Bool

-- w bits further on
abbrev pub past : ℕ → Left → Left
past w s = record { place = s.place + w; rest = drop w s.rest }

-- what is left of the bytes from the bit p on
abbrev pub from : List ℕ → ℕ → Left
from bytes p = record { place = p; rest = drop p (bits_of bytes) }

-- the next question is asked where the last was answered: the first "no" is the answer
abbrev pub and_then : {A B : Type 0} → Result A FieldFault → (A → Result B FieldFault) → Result B FieldFault
and_then (Ok a) f = f a
and_then (Err e) f = Err e

-- ---- fields

-- what is said of a number that was read
pub data Verdict : Type 0 where
  fine : Verdict
  out_of_range : Verdict
  past_limit : Verdict

-- numbers above `most` are out of range
abbrev pub at_most : ℕ → ℕ → Verdict
at_most most n = cond (nat_le n most) fine out_of_range

-- the signed number whose 32 bits, in two's complement, make n
abbrev pub signed : ℕ → ℤ
signed n = to_z w32 n

-- signed numbers below `low` or above `high` are out of range
unfoldable pub between : ℤ → ℤ → ℕ → Verdict
between low high n = cond (int_le low (signed n) && int_le (signed n) high) fine out_of_range

-- 0 is out of range
abbrev pub positive : ℕ → Verdict
positive n = cond (n == 0) out_of_range fine

-- a count of 0 is out of range, and one above `most` past the limit
abbrev pub counted : ℕ → ℕ → Verdict
counted most n = cond (n == 0) out_of_range (cond (nat_le n most) fine past_limit)

-- how a field is coded
pub data Code : Type 0 where
  -- a number of w bits, highest first
  u : ℕ → Code
  -- n zeros, a one, then n bits: the number is 2 ^ n - 1 more than those bits make; n is at most 31
  ue : Code
  -- a field whose number is judged
  within : Code → (ℕ → Verdict) → Code

-- a number of w bits where w is at most 32; no number is wider, so any other is out of range
abbrev pub fixed : ℕ → Code
fixed w = cond (nat_le w 32) (u w) (within (u 0) (λ _. out_of_range))

abbrev pub judged : {A : Type 0} → Verdict → ℕ → A → Result A FieldFault
judged fine place a = Ok a
judged out_of_range place a = Err (OutOfRange place)
judged past_limit place a = Err (PastLimit place)

-- the w bits that come next, as a number, and what is left after them
unfoldable pub next_u : ℕ → Left → Result (ℕ × Left) FieldFault
next_u w s = cond (nat_le w (length s.rest)) (Ok (number (take w s.rest), past w s)) (Err (Short s.place))

-- the ue that comes next
unfoldable pub next_ue : Left → Result (ℕ × Left) FieldFault
next_ue s =
    let n = zeros s.rest in
    cond (nat_le 32 n) (Err (OutOfRange s.place))
    (cond (nat_le (n + 1 + n) (length s.rest))
    (Ok (2 ^ n - 1 + number (take n (drop (n + 1) s.rest)), past (n + 1 + n) s))
    (Err (Short s.place)))

-- the field that comes next, and what is left after it
abbrev pub next : Code → Left → Result (ℕ × Left) FieldFault
next (u w) s = next_u w s
next ue s = next_ue s
next (within c ok) s = and_then (next c s) (λ a. judged (ok a.0) s.place a)

-- the bits of a ue: as many zeros as v + 1 has digits behind its first, and those digits; from 2 ^ 32 - 1 on there is no code
unfoldable pub coded_ue : ℕ → List Bool
coded_ue v = let n = 31 - count_leading_zeros 32 (v + 1) in cond (nat_lt (v + 1) (2 ^ 32)) (replicate n false ++ word (n + 1) (v + 1)) []

-- the bits of a field
abbrev pub coded : Code → ℕ → List Bool
coded (u w) v = word w v
coded ue v = coded_ue v
coded (within c ok) v = coded c v

-- the numbers that a field can hold
abbrev pub Inside : Code → ℕ → Type 0
Inside (u w) v = v < 2 ^ w
Inside ue v = v + 1 < 2 ^ 32
Inside (within c ok) v = Inside c v × (ok v ≡ fine)

-- ---- how a payload ends

-- a closing 1 and zeros, up to a whole byte; nothing where the byte is whole
unfoldable pub closing : ℕ → List Bool
closing place = cond (place % 8 == 0) [] (true ∷ replicate (7 - place % 8) false)

abbrev pub same : List Bool → List Bool → Bool
same [] [] = true
same [] (y ∷ ys) = false
same (x ∷ xs) [] = false
same (true ∷ xs) (true ∷ ys) = same xs ys
same (true ∷ xs) (false ∷ ys) = false
same (false ∷ xs) (true ∷ ys) = false
same (false ∷ xs) (false ∷ ys) = same xs ys

-- the closing bits are all that is left
unfoldable pub closes : Left → Result Unit FieldFault
closes s = cond (same s.rest (closing s.place)) (Ok tt) (Err (Ending s.place))

-- an extension bit and the closing bits; after an extension bit of 1 all that follows is ignored
abbrev pub extends : Left → Result Unit FieldFault
extends s = and_then (next (u 1) s) (λ a. cond (a.0 == 1) (Ok tt) (closes a.1))

-- ---- records

-- Field after field, where what follows a field may depend on the number that it holds.
pub data Layout : Type 0 where
  -- the payload ends here
  close : Layout
  -- an extension bit, and the payload ends
  extension : Layout
  -- w bits that are ignored
  reserved : ℕ → Layout → Layout
  field : Code → (ℕ → Layout) → Layout
  -- what is said of the fields before it, of n bits together: a refusal stands at the first of these bits
  judge : ℕ → Verdict → Layout → Layout

abbrev pub flag : (Bool → Layout) → Layout
flag more = field (u 1) (λ n. more (n == 1))

-- nothing follows where b is true
abbrev pub unless : Bool → Layout → Layout
unless b l = cond b close l

-- a cancel bit, and where it is 0 what follows
abbrev pub cancelable : Layout → Layout
cancelable more = flag λ cancel. unless cancel more

-- a group of fields so many times, then what follows; a group is handed what follows it
abbrev pub times : ℕ → (Layout → Layout) → Layout → Layout
times zero group more = more
times (suc n) group more = group (times n group more)

-- the numbers of a record, field after field, or why the payload is refused
abbrev pub reads : Layout → Left → Result (List ℕ) FieldFault
reads close s = and_then (closes s) (λ _. Ok [])
reads extension s = and_then (extends s) (λ _. Ok [])
reads (reserved w l) s = and_then (next (u w) s) (λ a. reads l a.1)
reads (field c l) s = and_then (next c s) (λ a. and_then (reads (l a.0) a.1) (λ vs. Ok (a.0 ∷ vs)))
reads (judge n v l) s = and_then (judged v (s.place - n) s) (λ t. reads l t)

-- the bits of a record of these numbers, from a place on; reserved bits and the extension bit are 0
abbrev pub writes : Layout → ℕ → List ℕ → List Bool
writes close p vs = closing p
writes extension p vs = false ∷ closing (p + 1)
writes (reserved w l) p vs = replicate w false ++ writes l (p + w) vs
writes (field c l) p [] = []
writes (field c l) p (v ∷ vs) = coded c v ++ writes (l v) (p + length (coded c v)) vs
writes (judge n v l) p vs = writes l p vs

-- how many bits its fields take, the extension bit among them
abbrev pub extent : Layout → List ℕ → ℕ
extent close vs = 0
extent extension vs = 1
extent (reserved w l) vs = w + extent l vs
extent (field c l) [] = 0
extent (field c l) (v ∷ vs) = length (coded c v) + extent (l v) vs
extent (judge n v l) vs = extent l vs

-- these are the numbers of such a record
abbrev pub Holds : Layout → List ℕ → Type 0
Holds close [] = Unit {0}
Holds close (v ∷ vs) = ⊥
Holds extension [] = Unit {0}
Holds extension (v ∷ vs) = ⊥
Holds (reserved w l) vs = Holds l vs
Holds (field c l) [] = ⊥
Holds (field c l) (v ∷ vs) = Inside c v × Holds (l v) vs
Holds (judge n v l) vs = (v ≡ fine) × Holds l vs

-- where a field is read, what is said of its number and of what is left
abbrev pub Then : Result (ℕ × Left) FieldFault → (ℕ → Left → Type 0) → Type 0
Then (Ok a) P = P a.0 a.1
Then (Err e) P = Unit {0}

-- the reserved bits and the extension bit are 0
abbrev pub Plain : Layout → Left → Type 0
Plain close s = Unit {0}
Plain extension s = Then (next (u 1) s) (λ n _. n ≡ 0)
Plain (reserved w l) s = Then (next (u w) s) (λ n t. (n ≡ 0) × Plain l t)
Plain (field c l) s = Then (next c s) (λ n t. Plain (l n) t)
Plain (judge n v l) s = Plain l s
