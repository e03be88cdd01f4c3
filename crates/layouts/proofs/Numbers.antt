-- Laws of bits and numbers.
use Rattle.std.proofs.Common.{◌≡◌, ℕ, zero, suc, ◌+◌, ◌-◌, ◌*◌, ◌/◌, ◌%◌, ◌^◌, ◌<◌, ◌≤◌, Bool, true, false, eqb, List, [], ◌∷◌, ◌++◌, length, take, drop, sym, refl, ap, ◌∙◌, subst, ⊎_elim, append_assoc, append-nil, mod-lt, mod-eq_of_lt, mul_assoc, add-mul, pow-suc, zero-mul, arith, length-append, length-drop, take-append-drop, length-take, pow_pos, pow-add}
use native.Mathlib.Nat.{mod-one}
use lib.Pow.{high, low, mod-pow-add}
use Rattle.std.proofs.lemmas.Bool.{eqb-true, eqb-false, cases_Bool}
use Rattle.layouts.specs.Bits.{bit, word, number, bits_of}

pub length-word : (w n : ℕ) → length (word w n) ≡ w
unfolding word
length-word zero n = refl
length-word (suc w) n = ap suc (length-word w n)

pub length-bits : (bs : List ℕ) → length (bits_of bs) ≡ 8 * length bs
unfolding bits_of
length-bits [] = refl
length-bits (b ∷ bs) = simp (length-append, length-word) (omega (arith, length-bits bs))

pub bit-of : (n : ℕ) → bit (eqb (n % 2) 1) ≡ n % 2
bit-of n =
    let h : n % 2 < 2 = mod-lt n (omega arith) in
    ⊎_elim (λ e. let k = eqb-true (n % 2) 1 e in rw e (sym k)) (λ e. let k = eqb-false (n % 2) 1 e in rw e (omega arith)) (cases_Bool (eqb (n % 2) 1))

of-bit : (b : Bool) (k n : ℕ) → n < 2 ^ k → eqb ((bit b * 2 ^ k + n) / 2 ^ k % 2) 1 ≡ b
of-bit true k n h = rw (high 1 k h)
of-bit false k n h = rw (high 0 k h)

pub number_lt : (l : List Bool) → number l < 2 ^ length l
unfolding number
number_lt [] = omega arith
number_lt (true ∷ l) = omega (arith, number_lt l, pow-suc 2 (length l))
number_lt (false ∷ l) = omega (arith, number_lt l, pow-suc 2 (length l))

pub number_append : (xs ys : List Bool) → number (xs ++ ys) ≡ number xs * 2 ^ length ys + number ys
unfolding number
number_append [] ys = omega (arith, zero-mul (2 ^ length ys))
number_append (x ∷ xs) ys =
    let p : 2 ^ length (xs ++ ys) ≡ 2 ^ length xs * 2 ^ length ys = ap (λ z. 2 ^ z) (length-append xs ys) ∙ pow-add 2 (length xs) (length ys) in
    omega (arith, number_append xs ys, add-mul (bit x * 2 ^ length xs) (number xs) (2 ^ length ys), mul_assoc (bit x) (2 ^ length xs) (2 ^ length ys), ap (λ z. bit x * z) p)

-- the number of a number's w lowest digits
pub number_word : (w n : ℕ) → number (word w n) ≡ n % 2 ^ w
unfolding number word
number_word zero n = sym (mod-one n)
number_word (suc w) n =
    let e = mod-pow-add n 1 w in
    let s : 1 + w ≡ suc w = omega arith in
    let ih = number_word w n in
    ap (λ z. bit (eqb (n / 2 ^ w % 2) 1) * 2 ^ z + number (word w n)) (length-word w n) ∙ ap (λ z. z * 2 ^ w + number (word w n)) (bit-of (n / 2 ^ w))
    ∙ ap (λ z. n / 2 ^ w % 2 * 2 ^ w + z) ih ∙ sym (rw s at e)

-- the digits of a number's digits are those digits
pub word_low : (w n m : ℕ) → n % 2 ^ w ≡ m % 2 ^ w → word w n ≡ word w m
unfolding word
word_low zero n m e = refl
word_low (suc w) n m e =
    let s : 1 + w ≡ suc w = omega arith in
    let en = rw s at (mod-pow-add n 1 w) in
    let em = rw s at (mod-pow-add m 1 w) in
    let ln = mod-lt n (pow_pos w) in
    let lm = mod-lt m (pow_pos w) in
    let hi : n / 2 ^ w % 2 ≡ m / 2 ^ w % 2 = sym (high (n / 2 ^ w % 2) w ln) ∙ ap (λ x. x / 2 ^ w) (sym en ∙ e ∙ em) ∙ high (m / 2 ^ w % 2) w lm in
    let lo : n % 2 ^ w ≡ m % 2 ^ w = sym (low (n / 2 ^ w % 2) w ln) ∙ ap (λ x. x % 2 ^ w) (sym en ∙ e ∙ em) ∙ low (m / 2 ^ w % 2) w lm in
    rw (hi, word_low w n m lo)

pub word_number : (l : List Bool) → word (length l) (number l) ≡ l
unfolding number word
word_number [] = refl
word_number (b ∷ l) =
    let h = number_lt l in
    let k = low (bit b) (length l) h in
    let t = word_low (length l) (bit b * 2 ^ length l + number l) (number l) (k ∙ sym (mod-eq_of_lt h)) ∙ word_number l in
    rw (of-bit b (length l) (number l) h, t)

-- w digits, k digits in
pub number-part : (l : List Bool) (k w : ℕ) → k + w ≤ length l → number (take w (drop k l)) ≡ number l / 2 ^ (length l - k - w) % 2 ^ w
number-part l k w h =
    let a = take k l in
    let b = take w (drop k l) in
    let c = drop w (drop k l) in
    let lb : length b ≡ w = simp (length-take, length-drop) (omega arith) in
    let lc : length c ≡ length l - k - w = simp (length-drop) refl in
    let e1 : number l ≡ number a * 2 ^ length (drop k l) + number (drop k l) = rw (sym (number_append a (drop k l)), take-append-drop k l) in
    let e2 : number (drop k l) ≡ number b * 2 ^ length c + number c = rw (sym (number_append b c), take-append-drop w (drop k l)) in
    let ld : length (drop k l) ≡ w + length c = simp (length-drop) (omega arith) in
    let e3 : number l ≡ (number a * 2 ^ w + number b) * 2 ^ length c + number c =
    e1 ∙ simp (ld, pow-add, add-mul) (omega (arith, e2, mul_assoc (number a) (2 ^ w) (2 ^ length c))) in
    let hb : number b < 2 ^ w = subst (λ x. number b < 2 ^ x) lb (number_lt b) in
    rw (sym lc, e3, high (number a * 2 ^ w + number b) (length c) (number_lt c), low (number a) w hb)

pub bits-append : (xs ys : List ℕ) → bits_of (xs ++ ys) ≡ bits_of xs ++ bits_of ys
unfolding bits_of
bits-append [] ys = refl
bits-append (x ∷ xs) ys = ap (λ l. word 8 x ++ l) (bits-append xs ys) ∙ sym (append_assoc (word 8 x) (bits_of xs) (bits_of ys))

pub bits-one : (b : ℕ) → bits_of (b ∷ []) ≡ word 8 b
unfolding bits_of
bits-one b = append-nil (word 8 b)

pub bits-cons : (b : ℕ) (bs : List ℕ) → bits_of (b ∷ bs) ≡ word 8 b ++ bits_of bs
unfolding bits_of
bits-cons b bs = refl
