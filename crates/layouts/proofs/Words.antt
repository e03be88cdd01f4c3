-- Words of several parts.
use Rattle.std.proofs.Common.{◌≡◌, ℕ, zero, suc, ◌+◌, ◌*◌, ◌/◌, ◌%◌, ◌^◌, ◌<◌, eqb, ◌∷◌, ◌++◌, sym, ap, ◌∙◌, mod-eq_of_lt, add_comm, suc-add, arith, shr-shr}
use native.Mathlib.Nat.{mod-mod}
use lib.Pow.{high, low}
use Rattle.layouts.specs.Bits.{word}
use Rattle.layouts.proofs.Numbers.{word_low}

-- the digits above the k lowest, then those
pub word_split : (j k n : ℕ) → word (j + k) n ≡ word j (n / 2 ^ k) ++ word k n
unfolding word
word_split zero k n = ap (λ x. word x n) (omega arith)
word_split (suc j) k n =
    let d : n / 2 ^ (j + k) ≡ n / 2 ^ k / 2 ^ j = ap (λ x. n / 2 ^ x) (add_comm j k) ∙ sym (shr-shr n k j) in
    ap (λ x. word x n) (suc-add j k) ∙ (λ i. eqb (d i % 2) 1 ∷ word_split j k n i)

pub word-join : (j k a b : ℕ) → b < 2 ^ k → word (j + k) (a * 2 ^ k + b) ≡ word j a ++ word k b
word-join j k a b h =
    word_split j k (a * 2 ^ k + b) ∙ (λ i. word j (high a k h i) ++ word_low k (a * 2 ^ k + b) b (low a k h ∙ sym (mod-eq_of_lt h)) i)

pub word_mod : (w n : ℕ) → word w (n % 2 ^ w) ≡ word w n
word_mod w n = word_low w (n % 2 ^ w) n (mod-mod n (2 ^ w))
