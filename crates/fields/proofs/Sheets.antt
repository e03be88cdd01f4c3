-- What a writer's methods come to: one part written where it fits, and one part after the other.
use Rattle.std.proofs.Common.{◌≡◌, ℕ, suc, ◌+◌, ◌-◌, ◌*◌, ◌/◌, ◌%◌, ◌^◌, ◌<◌, ◌≤◌, min, Bool, true, false, cond, leb, List, [], ◌++◌, length, replicate, sym, refl, ap, ◌∙◌, subst, pow-suc, add-one, arith}
use native.Mathlib.Nat.{div-eq_of_lt}
use lib.Count.{count_leading_zeros, leading_unique}
use Rattle.std.proofs.lemmas.Nat.{one_shl}
use Rattle.std.proofs.lemmas.Bool.{le-leb, lt-leb, lt-ltb, le-ltb}
use Rattle.layouts.specs.Bits.{word, number, bits_of}
use Rattle.layouts.specs.Layout.{ue, fixed, coded, coded_ue, closing}
use Rattle.fields.specs.Writing.{Sheet, laid, put}
use Rattle.layouts.proofs.Numbers.{length-word, length-bits}
use Rattle.layouts.proofs.Words.{word_split}
use Rattle.layouts.proofs.Closes.{closing-is}
use Rattle.layouts.proofs.Fields.{top_of, word_of, word-zero}
use Rattle.fields.proofs.Laid.{laid_none}

pub put-fits : (bs : List Bool) (s : Sheet) → s.place + length bs ≤ min (length s.bits) 524280 → put bs s ≡ record s { place = s.place + length bs; bits = laid s.place bs s.bits }
unfolding put
put-fits bs s h =
    let p : min (s.place + length bs) (2 ^ 64 - 1) ≡ s.place + length bs = omega arith in
    let b = le-leb (s.place + length bs) (min (length s.bits) 524280) h in
    λ i. record s { place = p i; bits = cond (b i) (laid s.place bs s.bits) s.bits }

pub put-past : (bs : List Bool) (s : Sheet) → min (length s.bits) 524280 < s.place + length bs → put bs s ≡ record s { place = min (s.place + length bs) (2 ^ 64 - 1); bits = s.bits }
unfolding put
put-past bs s h =
    let b = lt-leb (s.place + length bs) (min (length s.bits) 524280) h in
    λ i. record s { place = min (s.place + length bs) (2 ^ 64 - 1); bits = cond (b i) (laid s.place bs s.bits) s.bits }

pub put-none : (s : Sheet) → s.place < 2 ^ 64 → put [] s ≡ s
unfolding put
put-none s h =
    let p : min (s.place + 0) (2 ^ 64 - 1) ≡ s.place = omega arith in
    λ i. record s { place = p i; bits = (go (leb (s.place + 0) (min (length s.bits) 524280))) i }
  where
    go : (b : Bool) → cond b (laid s.place [] s.bits) s.bits ≡ s.bits
    go true = laid_none s.place s.bits
    go false = refl

-- w bits that fit, and w bits that do not
pub word_fits : (bytes after : List ℕ) (at w v loan : ℕ) → at + w ≤ 8 * length bytes → at + w ≤ 524280 → bits_of after ≡ laid at (word w v) (bits_of bytes)
    → record { place = min (at + w) (2 ^ 64 - 1); bits = bits_of after; loan = loan } ≡ put (word w v) (record { place = at; bits = bits_of bytes; loan = loan })
word_fits bytes after at w v loan room most e =
    let n : length (word w v) ≡ w = length-word w v in
    let p : min (at + w) (2 ^ 64 - 1) ≡ at + length (word w v) = omega arith in
    (λ i. record { place = p i; bits = e i; loan = loan }) ∙ sym (put-fits (word w v) (record { place = at; bits = bits_of bytes; loan = loan }) (omega (arith, length-bits bytes)))

pub word-past : (bytes : List ℕ) (at w v loan : ℕ) → min (8 * length bytes) 524280 < at + w
    → record { place = min (at + w) (2 ^ 64 - 1); bits = bits_of bytes; loan = loan } ≡ put (word w v) (record { place = at; bits = bits_of bytes; loan = loan })
word-past bytes at w v loan less =
    let n : length (word w v) ≡ w = length-word w v in
    (λ i. record { place = min (at + sym n i) (2 ^ 64 - 1); bits = bits_of bytes; loan = loan }) ∙ sym (put-past (word w v) (record { place = at; bits = bits_of bytes; loan = loan }) (omega (arith, length-bits bytes)))

-- a part that fits, and one that does not
pub ruleset wording = (word_fits, word-past)

-- ---- a number of any width

pub coded-narrow : (w v : ℕ) → w ≤ 32 → coded (fixed w) v ≡ word w v
coded-narrow w v h = rw (le-leb w 32 h)

pub coded-wide : (w v : ℕ) → 32 < w → coded (fixed w) v ≡ word 0 v
coded-wide w v h = rw (lt-leb w 32 h)

-- ---- a ue

ue-top : (v : ℕ) → v + 1 < 2 ^ 32 → coded ue v ≡ word (2 * (31 - count_leading_zeros 32 (v + 1)) + 1) (v + 1)
unfolding coded_ue
ue-top v h =
    let n = 31 - count_leading_zeros 32 (v + 1) in
    let t = top_of v h in
    let e : n + suc n ≡ 2 * n + 1 = omega arith in
    let z : (v + 1) / 2 ^ suc n ≡ 0 = div-eq_of_lt t.1 in
    ap (λ b. cond b (replicate n false ++ word (n + 1) (v + 1)) []) (lt-ltb (v + 1) (2 ^ 32) h)
    ∙ ap (λ w. replicate n false ++ word w (v + 1)) (add-one n)
    ∙ sym (ap (λ w. word w (v + 1)) (sym e) ∙ word_split n (suc n) (v + 1) ∙ ap (λ x. word n x ++ word (suc n) (v + 1)) z ∙ ap (λ l. l ++ word (suc n) (v + 1)) (word-zero n))

pub ue-is : (v n : ℕ) → v + 1 < 2 ^ 32 → n < 32 → 2 ^ n ≤ v + 1 → v + 1 < 2 * 2 ^ n → coded ue v ≡ word (2 * n + 1) (v + 1)
ue-is v n h k l u =
    let p = pow-suc 2 n in
    let c = leading_unique 32 (v + 1) (31 - n) (suc n) (omega arith) (omega (arith, p)) (omega (arith, p)) in
    let e : 31 - count_leading_zeros 32 (v + 1) ≡ n = omega (arith, c) in
    subst (λ m. coded ue v ≡ word (2 * m + 1) (v + 1)) e (ue-top v h)

pub ue-none : (v : ℕ) → 2 ^ 32 ≤ v + 1 → coded ue v ≡ word 0 (v + 1)
unfolding coded_ue word
ue-none v h = rw (le-ltb (v + 1) (2 ^ 32) h)

-- ---- how a payload is closed

pub close_width : (p : ℕ) → (8 - p % 8) % 8 ≡ length (closing p)
close_width p = sym (closing-is p).0

pub close_value : (p : ℕ) → (1 * 2 ^ ((8 - p % 8) % 8)) % 2 ^ 32 / 2 ≡ number (closing p)
close_value p = ap (λ x. x / 2) (one_shl ((8 - p % 8) % 8) 32 (omega arith)) ∙ sym (closing-is p).1

pub close_word : (p : ℕ) → word (length (closing p)) (number (closing p)) ≡ closing p
close_word p = word_of (closing p) _ refl

-- what the bits of a close come to
pub ruleset closings = (close_width, close_value, close_word)

-- what the widths of a number and of a ue come to
pub ruleset widths = (coded-narrow, coded-wide, ue-is, ue-none)
