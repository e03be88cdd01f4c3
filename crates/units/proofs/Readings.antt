-- Counts and messages, read from a place of a list on.
use Rattle.std.proofs.Common.{◌≡◌, ℕ, ◌+◌, ◌-◌, ◌<◌, ◌≤◌, cond, ltb, leb, List, ◌∷◌, length, get_or, take, drop, Some, None, sym, refl, ap, ◌∙◌, arith, length-drop}
use Rattle.std.proofs.lemmas.List.{at_drop_more, drop-drop, length-take-le}
use Rattle.std.proofs.lemmas.Bool.{cond-true, cond-false, le-leb, lt-leb, lt-ltb}
use Rattle.layouts.specs.Frames.{count, framed}
use Rattle.layouts.proofs.Framed.{length-count, length-framed}
use Rattle.units.specs.Units.{counted, cut, message, heard, placed}
use Rattle.units.proofs.Parts.{placed-none, placed-more}

-- a turn of a count, at the byte of a place
module _ (bs : List ℕ) (sum next b : ℕ) (within : next < length bs) (is : b ≡ get_or bs next 0) where
  turn : counted sum (drop next bs) ≡ cond (leb (sum + b) 65535) (cond (ltb b 255) (Some (sum + b, drop (next + 1) bs)) (counted (sum + b) (drop (next + 1) bs))) None
  turn = at_drop_more (counted sum) bs next 0 within ∙ ap (λ (x : ℕ). counted sum (x ∷ drop (next + 1) bs)) (sym is)

  pub counted-last : sum + b ≤ 65535 → b < 255 → counted sum (drop next bs) ≡ Some (sum + b, drop (next + 1) bs)
  counted-last h k = turn ∙ (cond-true (leb (sum + b) 65535) _ None (le-leb (sum + b) 65535 h) ∙ cond-true (ltb b 255) (Some (sum + b, drop (next + 1) bs)) _ (lt-ltb b 255 k))

-- the last byte of a count, in the bytes from a place on
pub counted-end : (bs rest : List ℕ) (at sum i : ℕ) → rest ≡ drop at bs → i < length rest → sum + get_or rest i 0 ≤ 65535 → get_or rest i 0 < 255 →
    counted sum (drop i rest) ≡ counted 0 (drop at bs) → counted 0 (drop at bs) ≡ Some (sum + get_or rest i 0, drop (at + i + 1) bs)
counted-end bs rest at sum i from within h k same =
    let d : drop (i + 1) rest ≡ drop (at + i + 1) bs = ap (drop (i + 1)) from ∙ (drop-drop (i + 1) at bs ∙ ap (λ (n : ℕ). drop n bs) (omega arith)) in
    sym same ∙ (counted-last rest sum i (get_or rest i 0) within refl h k ∙ ap (λ (x : List ℕ). Some (sum + get_or rest i 0, x)) d)

-- a message by its parts
pub message-no-type : (bs : List ℕ) → counted 0 bs ≡ None → message bs ≡ None
unfolding message
message-no-type bs e = rw e

pub message-no-size : (bs cs : List ℕ) (t : ℕ) → counted 0 bs ≡ Some (t, cs) → counted 0 cs ≡ None → message bs ≡ None
unfolding message
message-no-size bs cs t e f = rw (e, f)

pub message-short : (bs cs ds : List ℕ) (t n : ℕ) → counted 0 bs ≡ Some (t, cs) → counted 0 cs ≡ Some (n, ds) → length ds < n → message bs ≡ None
unfolding message
message-short bs cs ds t n e f h =
    let g : cut n ds ≡ None = cond-false (leb n (length ds)) (Some (take n ds, drop n ds)) None (lt-leb n (length ds) h) in
    rw (e, f, g)

pub message-whole : (bs cs ds : List ℕ) (t n : ℕ) → counted 0 bs ≡ Some (t, cs) → counted 0 cs ≡ Some (n, ds) → n ≤ length ds → message bs ≡ Some ((t, take n ds), drop n ds)
unfolding message
message-whole bs cs ds t n e f h =
    let g : cut n ds ≡ Some (take n ds, drop n ds) = cond-true (leb n (length ds)) (Some (take n ds, drop n ds)) None (le-leb n (length ds) h) in
    rw (e, f, g)

-- the message at a place, with its payload from `start` on
pub message-found : (bs : List ℕ) (at next start t n : ℕ) → counted 0 (drop at bs) ≡ Some (t, drop next bs) → counted 0 (drop next bs) ≡ Some (n, drop start bs) → start ≤ length bs → n ≤ length bs - start →
    message (drop at bs) ≡ Some ((t, take (start + n - start) (drop start bs)), drop (start + n) bs)
message-found bs at next start t n e f h k =
    let i : start + n - start ≡ n = omega arith in
    let d : drop n (drop start bs) ≡ drop (start + n) bs = drop-drop n start bs in
    message-whole (drop at bs) (drop next bs) (drop start bs) t n e f (omega (arith, length-drop start bs))
    ∙ (ap (λ (x : List ℕ). Some ((t, take n (drop start bs)), x)) d ∙ ap (λ (x : ℕ). Some ((t, take x (drop start bs)), drop (start + n) bs)) (sym i))

-- and where it ends
pub found-end : (bs : List ℕ) (at next start t n : ℕ) → next ≡ at + length (count t) → start ≡ next + length (count n) → start ≤ length bs → n ≤ length bs - start →
    start + n ≡ at + length (framed (t, take (start + n - start) (drop start bs)))
found-end bs at next start t n e f h k =
    let i : start + n - start ≡ n = omega arith in
    let p : length (take n (drop start bs)) ≡ n = length-take-le n (drop start bs) (omega (arith, length-drop start bs)) in
    let g : length (framed (t, take n (drop start bs))) ≡ length (count t) + (length (count n) + n) =
    length-framed t (take n (drop start bs)) ∙ (rw p (omega (arith, length-count t, length-count n))) in
    rw i (omega (arith, g))

-- and those behind it
pub messages-found : (bs : List ℕ) (at next start t n : ℕ) → counted 0 (drop at bs) ≡ Some (t, drop next bs) → next ≡ at + length (count t) →
    counted 0 (drop next bs) ≡ Some (n, drop start bs) → start ≡ next + length (count n) → start ≤ length bs → n ≤ length bs - start →
    placed at (heard (drop at bs)) ≡ (at, (t, take (start + n - start) (drop start bs))) ∷ placed (start + n) (heard (drop (start + n) bs))
messages-found bs at next start t n e f g h k l =
    placed-more bs _ at (start + n) t (message-found bs at next start t n e g k l) (found-end bs at next start t n f h k l)

-- a message at a place, or none
pub ruleset message_here = (message-no-type, message-no-size, message-short, placed-none, length-drop, message-found, messages-found, length-count)

-- a count at a place
pub ruleset counted_here = (counted-end, length-count)
