-- How a payload closes, by the bits that are left in its last byte.
use Rattle.std.proofs.Common.{◌≡◌, ℕ, zero, suc, ◌-◌, ◌*◌, ◌/◌, ◌%◌, ◌^◌, ◌≤◌, Bool, true, false, List, [], ◌∷◌, length, take, drop, replicate, Ok, Err, sym, refl, ap, ◌∙◌, ⊎_elim, pow-suc, mul-div_cancel, arith, take_all}
use lib.ListN.{length-replicate}
use Rattle.std.proofs.lemmas.Bool.{eq-eqb, ne_eqb, cases_eq, cases_Bool}
use Rattle.layouts.specs.declared.fault.FieldFault.TheVariants.{Ending}
use Rattle.layouts.specs.Bits.{bit, word, number, bits_of}
use Rattle.layouts.specs.Layout.{closing, closes, same, from}
use Rattle.layouts.proofs.Numbers.{word_number}
use Rattle.layouts.proofs.Steps.{length_from}

pub same_refl : (l : List Bool) → same l l ≡ true
same_refl [] = refl
same_refl (true ∷ l) = same_refl l
same_refl (false ∷ l) = same_refl l

pub same-eq : (x y : List Bool) → same x y ≡ true → x ≡ y
same-eq [] [] e = refl
same-eq [] (y ∷ ys) e = absurd (omega (arith, ap bit e))
same-eq (x ∷ xs) [] e = absurd (omega (arith, ap bit e))
same-eq (true ∷ xs) (true ∷ ys) e = ap (λ l. true ∷ l) (same-eq xs ys e)
same-eq (true ∷ xs) (false ∷ ys) e = absurd (omega (arith, ap bit e))
same-eq (false ∷ xs) (true ∷ ys) e = absurd (omega (arith, ap bit e))
same-eq (false ∷ xs) (false ∷ ys) e = ap (λ l. false ∷ l) (same-eq xs ys e)

pub same_not : (x y : List Bool) → (x ≡ y → ⊥) → same x y ≡ false
same_not x y n = ⊎_elim (λ e. absurd (n (same-eq x y e))) (λ e. e) (cases_Bool (same x y))

pub number_same : (x y : List Bool) → length x ≡ length y → number x ≡ number y → x ≡ y
number_same x y e f = sym (word_number x) ∙ ap (λ n. word n (number x)) e ∙ ap (word (length y)) f ∙ word_number y

pub number-zeros : (k : ℕ) → number (replicate k false) ≡ 0
unfolding number
number-zeros zero = refl
number-zeros (suc k) = omega (arith, number-zeros k)

number-top : (k : ℕ) → number (true ∷ replicate k false) ≡ 2 ^ k
unfolding number
number-top k = omega (arith, number-zeros k, ap (λ x. 2 ^ x) (length-replicate k false))

pub half : (k : ℕ) → 2 ^ suc k / 2 ≡ 2 ^ k
half k = ap (λ x. x / 2) (pow-suc 2 k) ∙ mul-div_cancel (2 ^ k) (omega arith)

pub closing-is : (p : ℕ) → (length (closing p) ≡ (8 - p % 8) % 8) × (number (closing p) ≡ 2 ^ ((8 - p % 8) % 8) / 2)
unfolding closing number
closing-is p =
    ⊎_elim
    (λ e. let w : (8 - p % 8) % 8 ≡ 0 = omega arith in rw (eq-eqb (p % 8) 0 e, w) (refl, refl))
    (λ n.
    let w : (8 - p % 8) % 8 ≡ suc (7 - p % 8) = omega arith in
    rw (ne_eqb (p % 8) 0 n, w) (ap suc (length-replicate (7 - p % 8) false), number-top (7 - p % 8) ∙ sym (half (7 - p % 8))))
    (cases_eq (p % 8) 0)

module _ (bs : List ℕ) (p : ℕ) (within : p ≤ 8 * length bs) where
  pub closes-not : (8 * length bs - p ≡ length (closing p) → ⊥) → closes (from bs p) ≡ Err (Ending p)
  unfolding closes
  closes-not n = rw (same_not (drop p (bits_of bs)) (closing p) (λ e. n (sym (length_from bs p) ∙ ap length e)))

  pub closes-else : (v : ℕ) → 8 * length bs - p ≡ length (closing p) → v ≡ number (take (length (closing p)) (drop p (bits_of bs))) → (v ≡ number (closing p) → ⊥) → closes (from bs p) ≡ Err (Ending p)
  unfolding closes
  closes-else v r e n =
      let l = drop p (bits_of bs) in
      let all = take_all (length (closing p)) l (omega (arith, length_from bs p)) in
      rw (same_not l (closing p) (λ s. n (e ∙ ap number all ∙ ap number s)))

  pub closes-so : (v : ℕ) → 8 * length bs - p ≡ length (closing p) → v ≡ number (take (length (closing p)) (drop p (bits_of bs))) → v ≡ number (closing p) → closes (from bs p) ≡ Ok tt
  unfolding closes
  closes-so v r e f =
      let l = drop p (bits_of bs) in
      let long = length_from bs p in
      let all = take_all (length (closing p)) l (omega arith) in
      let i : l ≡ closing p = number_same l (closing p) (long ∙ r) (sym (ap number all) ∙ sym e ∙ f) in
      rw (i, same_refl (closing p))

-- whether what is left closes
pub ruleset closing_left = (closes-not, closes-else, closes-so)
