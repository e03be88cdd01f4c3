-- Where a text is cut into words.
use Rattle.std.proofs.Common.{◌≡◌, ℕ, zero, suc, ◌<◌, ◌≤◌, true, false, List, [], ◌∷◌, length, get_or, take, drop, sym, refl, ap, ◌∙◌, arith}
use Rattle.std.proofs.lemmas.Bool.{cond-true, cond-false}
use Rattle.std.specs.Char.{is_ascii_whitespace}
use Rattle.script.specs.Words.{trimmed, front, rest}

-- cut at the first blank, or at its end, a text is its front and the rest
pub front-is : (text : List ℕ) (n : ℕ) → n ≤ length text → ((k : ℕ) → k < n → is_ascii_whitespace (get_or text k 0) ≡ false) → (n < length text → is_ascii_whitespace (get_or text n 0) ≡ true) → take n text ≡ front text
front-is [] zero within before blank = refl
front-is [] (suc n) within before blank = refl
front-is (c ∷ cs) zero within before blank = sym (cond-true _ _ _ (blank (omega arith)))
front-is (c ∷ cs) (suc n) within before blank =
    ap (λ l. c ∷ l) (front-is cs n (omega arith) (λ k h. before (suc k) (omega arith)) (λ h. blank (omega arith))) ∙ sym (cond-false _ _ _ (before 0 (omega arith)))

pub rest-is : (text : List ℕ) (n : ℕ) → n ≤ length text → ((k : ℕ) → k < n → is_ascii_whitespace (get_or text k 0) ≡ false) → (n < length text → is_ascii_whitespace (get_or text n 0) ≡ true) → drop n text ≡ rest text
rest-is [] zero within before blank = refl
rest-is [] (suc n) within before blank = refl
rest-is (c ∷ cs) zero within before blank = sym (cond-true _ _ _ (blank (omega arith)))
rest-is (c ∷ cs) (suc n) within before blank =
    rest-is cs n (omega arith) (λ k h. before (suc k) (omega arith)) (λ h. blank (omega arith)) ∙ sym (cond-false _ _ _ (before 0 (omega arith)))

-- what `trim_ascii_start` leaves
pub trimmed-is : (text : List ℕ) (n : ℕ) → ((i : ℕ) → i < n → is_ascii_whitespace (get_or text i 0) ≡ true) → n ≤ length text → (n < length text → is_ascii_whitespace (get_or text n 0) ≡ false) → trimmed text ≡ drop n text
trimmed-is [] zero white within dark = refl
trimmed-is [] (suc n) white within dark = refl
trimmed-is (c ∷ cs) zero white within dark = cond-false _ _ _ (dark (omega arith))
trimmed-is (c ∷ cs) (suc n) white within dark =
    cond-true _ _ _ (white 0 (omega arith)) ∙ trimmed-is cs n (λ i h. white (suc i) (omega arith)) (omega arith) (λ h. dark (omega arith))

pub ruleset CUTS = (front-is, rest-is, trimmed-is)
