-- A ue field, by the zeros at the head of the 32 bits that come next.
use Rattle.std.proofs.Common.{◌≡◌, ℕ, zero, suc, ◌+◌, ◌-◌, ◌*◌, ◌^◌, ◌<◌, ◌≤◌, min, Bool, true, false, List, [], ◌∷◌, length, take, drop, Ok, Err, sym, refl, ap, ◌∙◌, pow-suc, add-one, arith, length-drop, length-take-le, drop-drop, pow_pos}
use lib.Count.{count_leading_zeros, leading_unique}
use Rattle.std.proofs.lemmas.Bool.{le-leb, lt-leb}
use Rattle.layouts.specs.declared.fault.FieldFault.TheVariants.{Short, OutOfRange}
use Rattle.layouts.specs.Bits.{number, bits_of, zeros}
use Rattle.layouts.specs.Layout.{ue, next, next_u, next_ue, from}
use Rattle.layouts.proofs.Numbers.{number_lt}
use Rattle.layouts.proofs.Steps.{length_from}

pub zeros-le : (l : List Bool) → zeros l ≤ length l
unfolding zeros
zeros-le [] = omega arith
zeros-le (true ∷ l) = omega arith
zeros-le (false ∷ l) = omega (arith, zeros-le l)

pub zeros-take : (k : ℕ) (l : List Bool) → zeros (take k l) ≡ min k (zeros l)
unfolding zeros
zeros-take zero l = omega arith
zeros-take (suc k) [] = omega arith
zeros-take (suc k) (true ∷ l) = omega arith
zeros-take (suc k) (false ∷ l) = omega (arith, zeros-take k l)

-- what stands behind the zeros is the number
number-zeros : (l : List Bool) → (number l < 2 ^ (length l - zeros l)) × (2 ^ (length l - zeros l) ≤ 2 * number l + 1)
unfolding zeros number
number-zeros [] = (omega arith, omega arith)
number-zeros (true ∷ l) =
    let e : suc (length l) - 0 ≡ suc (length l) = omega arith in
    (rw e (omega (arith, number_lt l, pow-suc 2 (length l))), rw e (omega (arith, pow-suc 2 (length l))))
number-zeros (false ∷ l) =
    let e : suc (length l) - suc (zeros l) ≡ length l - zeros l = omega arith in
    let h = number-zeros l in
    (rw e (omega (arith, h.0)), rw e (omega (arith, h.1)))

pub leading_zeros : (l : List Bool) → length l ≤ 32 → count_leading_zeros 32 (number l) ≡ 32 - length l + zeros l
leading_zeros l h =
    sym (leading_unique 32 (number l) (32 - length l + zeros l) (length l - zeros l) (omega (arith, zeros-le l)) (number-zeros l).0 (number-zeros l).1)

pub drop-zeros : (l : List Bool) → zeros l < length l → drop (zeros l) l ≡ true ∷ drop (zeros l + 1) l
unfolding zeros
drop-zeros [] h = absurd (omega arith)
drop-zeros (true ∷ l) h = refl
drop-zeros (false ∷ l) h =
    let s : suc (zeros l) + 1 ≡ suc (zeros l + 1) = omega arith in
    drop-zeros l (omega arith) ∙ sym (ap (λ x. true ∷ drop x (false ∷ l)) s)

pub number-one : (l : List Bool) → number (true ∷ l) ≡ 2 ^ length l + number l
unfolding number
number-one l = omega arith

-- the one and the bits after it, one less, make the number
pub ue-number : (l : List Bool) → zeros l + 1 + zeros l ≤ length l
    → (1 ≤ number (take (zeros l + 1) (drop (zeros l) l))) × (2 ^ zeros l - 1 + number (take (zeros l) (drop (zeros l + 1) l)) ≡ number (take (zeros l + 1) (drop (zeros l) l)) - 1)
ue-number l h =
    let z = zeros l in
    let t = drop (z + 1) l in
    let e : take (z + 1) (drop z l) ≡ true ∷ take z t = ap (take (z + 1)) (drop-zeros l (omega arith)) ∙ ap (λ x. take x (true ∷ t)) (add-one z) in
    let long : length (take z t) ≡ z = length-take-le z t (simp length-drop (omega arith)) in
    let n : number (take (z + 1) (drop z l)) ≡ 2 ^ z + number (take z t) = ap number e ∙ number-one (take z t) ∙ ap (λ x. 2 ^ x + number (take z t)) long in
    let pos = pow_pos z in
    (omega arith, omega arith)

module _ (bs : List ℕ) (p : ℕ) (within : p ≤ 8 * length bs) where
  -- the zeros at the head of a bits that come next, which are 32 or all that there are
  pub head-zeros : (a n : ℕ) → a ≡ min (8 * length bs - p) 32 → n ≡ number (take a (drop p (bits_of bs))) → count_leading_zeros 32 n ≡ 32 - a + min 32 (zeros (drop p (bits_of bs)))
  head-zeros a n e f =
      let l = drop p (bits_of bs) in
      let long = length_from bs p in
      let short : length (take a l) ≡ a = length-take-le a l (omega arith) in
      ap (count_leading_zeros 32) f ∙ leading_zeros (take a l) (omega arith) ∙ omega (arith, zeros-take a l, zeros-le l)

  pub ue-many : 32 ≤ zeros (drop p (bits_of bs)) → next ue (from bs p) ≡ Err (OutOfRange p)
  unfolding next_u next_ue
  ue-many h = rw (le-leb 32 (zeros (drop p (bits_of bs))) h)

  pub ue-short : (z : ℕ) → z ≡ zeros (drop p (bits_of bs)) → z < 32 → 8 * length bs - p < 2 * z + 1 → next ue (from bs p) ≡ Err (Short p)
  unfolding next_u next_ue
  ue-short z e k h =
      let l = drop p (bits_of bs) in
      rw (lt-leb 32 (zeros l) (omega arith), lt-leb (zeros l + 1 + zeros l) (length l) (omega (arith, length_from bs p)))

  pub ue-whole : (z v : ℕ) → z ≡ zeros (drop p (bits_of bs)) → z < 32 → 2 * z + 1 ≤ 8 * length bs - p → v ≡ number (take (z + 1) (drop (p + z) (bits_of bs)))
      → (1 ≤ v) × (next ue (from bs p) ≡ Ok (v - 1, from bs (p + 2 * z + 1)))
  unfolding next_u next_ue
  ue-whole z v e k h f =
      let l = drop p (bits_of bs) in
      let long = length_from bs p in
      let q = ue-number l (omega arith) in
      let g : v ≡ number (take (zeros l + 1) (drop (zeros l) l)) =
      f ∙ ap (λ x. number (take (x + 1) (drop (p + x) (bits_of bs)))) e ∙ sym (ap (λ x. number (take (zeros l + 1) x)) (drop-drop (zeros l) p (bits_of bs))) in
      let w : p + (zeros l + 1 + zeros l) ≡ p + 2 * z + 1 = omega arith in
      (omega (arith, q.0), rw (lt-leb 32 (zeros l) (omega arith), le-leb (zeros l + 1 + zeros l) (length l) (omega arith), q.1, sym g, drop-drop (zeros l + 1 + zeros l) p (bits_of bs), w))

  pub ue-first : (z v : ℕ) → z ≡ zeros (drop p (bits_of bs)) → z < 32 → 2 * z + 1 ≤ 8 * length bs - p → v ≡ number (take (z + 1) (drop (p + z) (bits_of bs))) → 1 ≤ v
  ue-first z v e k h f = (ue-whole z v e k h f).0

-- the zeros that come next, and a ue
pub ruleset ue_left = (head-zeros, ue-many, ue-short, ue-whole, ue-first)
