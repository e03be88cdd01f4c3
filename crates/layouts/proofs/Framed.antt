-- The bytes of a type or a size, and how long a framed message is.
use Rattle.std.proofs.Common.{◌≡◌, ℕ, suc, ◌+◌, ◌-◌, ◌/◌, ◌%◌, ◌<◌, ◌≤◌, List, [], ◌∷◌, length, arith, length-append}
use lib.ListN.{length-replicate}
use Rattle.layouts.specs.Frames.{count, framed}

pub length-count : (n : ℕ) → length (count n) ≡ n / 255 + 1
unfolding count
length-count n = simp (length-append, length-replicate) (omega arith)

pub length-framed : (t : ℕ) (p : List ℕ) → length (framed (t, p)) ≡ t / 255 + 1 + (length p / 255 + 1 + length p)
unfolding framed
length-framed t p = simp length-append (omega (arith, length-count t, length-count (length p)))

-- 255 of a number is a byte FF before the rest of it
pub count-more : (n : ℕ) → 255 ≤ n → count n ≡ 255 ∷ count (n - 255)
unfolding count
count-more n h =
    let d : n / 255 ≡ suc ((n - 255) / 255) = omega arith in
    let m : n % 255 ≡ (n - 255) % 255 = omega arith in
    rw (d, m)

-- what is below 255 is the last byte
pub count-last : (n : ℕ) → n < 255 → count n ≡ n ∷ []
unfolding count
count-last n h =
    let d : n / 255 ≡ 0 = omega arith in
    let m : n % 255 ≡ n = omega arith in
    rw (d, m)
