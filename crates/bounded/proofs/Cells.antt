-- Places of which the first ones hold a value each: how many, which, one more, and that the values tell the places.
use Rattle.std.proofs.Common.{◌≡◌, ℕ, zero, suc, ◌+◌, ◌<◌, ◌≤◌, Bool, true, cond, ltb, List, [], ◌∷◌, ◌++◌, length, get_or, drop, set, replicate, Some, None, Option, sym, refl, ap, ◌∙◌, add-one, arith, length-set, length-drop}
use mathlib.Core.Bool.{Bool-set, false≢true}
use mathlib.Core.HLevel.{is_prop→PathP}
use native.Mathlib.Nat.{ℕ_set}
use lib.ListN.{length-replicate}
use Rattle.std.proofs.Math.Seq.{drop-nil}
use Rattle.std.proofs.lemmas.Bool.{lt-ltb}
use Rattle.std.proofs.lemmas.List.{get_or_default, get_or_past}
use Rattle.std.proofs.lemmas.Option.{slice_get_within}
use Rattle.std.specs.List.{slice_get}
use Rattle.bounded.specs.declared.Bounded.{Bounded}
use Rattle.bounded.specs.Bounded.{items}
use Rattle.bounded.specs.Places.{held, fills}

none-held : {A : Type 0} (ps : List (Option A)) → fills 0 ps ≡ true → held ps ≡ []
unfolding held fills
none-held [] f = refl
none-held (None ∷ ps) f = none-held ps f
none-held (Some x ∷ ps) f = absurd (false≢true f)

pub held_none : (A : Type 0) (n : ℕ) → held (replicate {A = Option A} n None) ≡ []
unfolding held
held_none A zero = refl
held_none A (suc n) = held_none A n

pub fills-none : (A : Type 0) (n : ℕ) → fills 0 (replicate {A = Option A} n None) ≡ true
unfolding fills
fills-none A zero = refl
fills-none A (suc n) = fills-none A n

pub length-held : {A : Type 0} (n : ℕ) (ps : List (Option A)) → fills n ps ≡ true → length (held ps) ≡ n
unfolding held fills
length-held zero ps f = ap length (none-held ps f)
length-held (suc n) [] f = absurd (false≢true f)
length-held (suc n) (None ∷ ps) f = absurd (false≢true f)
length-held (suc n) (Some x ∷ ps) f = ap suc (length-held n ps f)

-- what stands at a place
pub held_at : {A : Type 0} (n : ℕ) (ps : List (Option A)) (i : ℕ) → fills n ps ≡ true → get_or ps i None ≡ slice_get (held ps) i
unfolding held fills
held_at n [] i f = refl
held_at zero (None ∷ ps) zero f = sym (ap (λ l. slice_get l 0) (none-held ps f))
held_at zero (None ∷ ps) (suc i) f = held_at zero ps i f ∙ ap (λ l. slice_get l i) (none-held ps f) ∙ sym (ap (λ l. slice_get l (suc i)) (none-held ps f))
held_at zero (Some x ∷ ps) i f = absurd (false≢true f)
held_at (suc n) (None ∷ ps) i f = absurd (false≢true f)
held_at (suc n) (Some x ∷ ps) zero f = refl
held_at (suc n) (Some x ∷ ps) (suc i) f = held_at n ps i f

-- one more, at the first place that is free
pub held-push : {A : Type 0} (n : ℕ) (ps : List (Option A)) (x : A) → fills n ps ≡ true → n < length ps → held (set ps n (Some x)) ≡ held ps ++ x ∷ []
unfolding held fills
held-push n [] x f h = absurd (omega arith)
held-push zero (None ∷ ps) x f h = ap (λ l. x ∷ l) (none-held ps f) ∙ ap (λ l. l ++ x ∷ []) (sym (none-held ps f))
held-push zero (Some y ∷ ps) x f h = absurd (false≢true f)
held-push (suc n) (None ∷ ps) x f h = absurd (false≢true f)
held-push (suc n) (Some y ∷ ps) x f h = ap (λ l. y ∷ l) (held-push n ps x f (omega arith))

pub fills-push : {A : Type 0} (n : ℕ) (ps : List (Option A)) (x : A) → fills n ps ≡ true → n < length ps → fills (suc n) (set ps n (Some x)) ≡ true
unfolding fills
fills-push n [] x f h = absurd (omega arith)
fills-push zero (None ∷ ps) x f h = f
fills-push zero (Some y ∷ ps) x f h = absurd (false≢true f)
fills-push (suc n) (None ∷ ps) x f h = absurd (false≢true f)
fills-push (suc n) (Some y ∷ ps) x f h = fills-push n ps x f (omega arith)

-- as many places with the same values are the same places
pub held_same : {A : Type 0} (n m : ℕ) (ps qs : List (Option A)) → fills n ps ≡ true → fills m qs ≡ true → length ps ≡ length qs → held ps ≡ held qs → ps ≡ qs
unfolding held fills
held_same n m [] [] f g l e = refl
held_same n m [] (q ∷ qs) f g l e = absurd (omega arith)
held_same n m (p ∷ ps) [] f g l e = absurd (omega arith)
held_same zero zero (None ∷ ps) (None ∷ qs) f g l e = ap (λ x. None ∷ x) (held_same zero zero ps qs f g (omega arith) e)
held_same zero zero (None ∷ ps) (Some y ∷ qs) f g l e = absurd (false≢true g)
held_same zero zero (Some x ∷ ps) (q ∷ qs) f g l e = absurd (false≢true f)
held_same zero (suc m) (None ∷ ps) (None ∷ qs) f g l e = absurd (false≢true g)
held_same zero (suc m) (None ∷ ps) (Some y ∷ qs) f g l e = absurd (omega (arith, ap length (sym (none-held ps f) ∙ e)))
held_same zero (suc m) (Some x ∷ ps) (q ∷ qs) f g l e = absurd (false≢true f)
held_same (suc n) zero (None ∷ ps) (q ∷ qs) f g l e = absurd (false≢true f)
held_same (suc n) zero (Some x ∷ ps) (None ∷ qs) f g l e = absurd (omega (arith, ap length (e ∙ none-held qs g)))
held_same (suc n) zero (Some x ∷ ps) (Some y ∷ qs) f g l e = absurd (false≢true g)
held_same (suc n) (suc m) (None ∷ ps) (q ∷ qs) f g l e = absurd (false≢true f)
held_same (suc n) (suc m) (Some x ∷ ps) (None ∷ qs) f g l e = absurd (false≢true g)
held_same (suc n) (suc m) (Some x ∷ ps) (Some y ∷ qs) f g l e =
    let h : x ≡ y = cc in
    let t : held ps ≡ held qs = cc in
    λ i. Some (h i) ∷ held_same n m ps qs f g (omega arith) t i

pub held-short : {A : Type 0} (ps : List (Option A)) → length (held ps) ≤ length ps
unfolding held
held-short [] = omega arith
held-short (None ∷ ps) = omega (arith, held-short ps)
held-short (Some x ∷ ps) = omega (arith, held-short ps)

-- ---- bounded lists

pub items-few : {A : Type 0} {N : ℕ} (b : Bounded A N) → length (items b) ≤ N
items-few b = omega (arith, held-short b.places, b.whole)

-- a bounded list is told by its values
pub bounded-same : {A : Type 0} {N : ℕ} (a b : Bounded A N) → items a ≡ items b → a ≡ b
bounded-same {A} {N} a b e =
    let cells : a.places ≡ b.places = held_same a.len b.len a.places b.places a.filled b.filled (a.whole ∙ sym b.whole) e in
    let len : a.len ≡ b.len = sym (length-held a.len a.places a.filled) ∙ ap length e ∙ length-held b.len b.places b.filled in
    λ i. record {
      places = cells i;
      len = len i;
      whole = is_prop→PathP (λ j. length (cells j) ≡ N) (λ j. ℕ_set (length (cells j)) N) a.whole b.whole i;
      filled = is_prop→PathP (λ j. fills (len j) (cells j) ≡ true) (λ j. Bool-set (fills (len j) (cells j)) true) a.filled b.filled i;
    }

-- where there is room, a value is added
pub pushed : {A : Type 0} (n : ℕ) (ok : Bool) (xs ys : List A) (x : A) → length xs < n → ok ≡ ltb (length xs) n → ys ≡ cond ok (xs ++ x ∷ []) xs → ys ≡ xs ++ x ∷ []
pushed n ok xs ys x h e f = f ∙ ap (λ b. cond b (xs ++ x ∷ []) xs) (e ∙ lt-ltb (length xs) n h)

-- the value at a place, and those behind it
pub drop_nth : {A : Type 0} (xs : List A) (i : ℕ) (x : A) → slice_get xs i ≡ Some x → drop i xs ≡ x ∷ drop (suc i) xs
drop_nth [] i x e = let z : ◌≡◌ {A = ℕ} 0 1 = cc in absurd (omega arith)
drop_nth (y ∷ ys) zero x e = let h : y ≡ x = cc in ap (λ z. z ∷ ys) h
drop_nth (y ∷ ys) (suc i) x e = drop_nth ys i x e

-- ---- going through a list by places

pub drop-here : {A : Type 0} (xs : List A) (i : ℕ) (x : A) → Some x ≡ slice_get xs i → drop i xs ≡ x ∷ drop (i + 1) xs
drop-here xs i x e = drop_nth xs i x (sym e) ∙ ap (λ n. x ∷ drop n xs) (sym (add-one i))

pub drop-past : {A : Type 0} (xs : List A) (i : ℕ) → None ≡ slice_get xs i → drop i xs ≡ []
drop-past [] i e = drop-nil i
drop-past (y ∷ ys) zero e = let z : ◌≡◌ {A = ℕ} 0 1 = cc in absurd (omega arith)
drop-past (y ∷ ys) (suc i) e = drop-past ys i e

-- the next value, or the end
pub ruleset coming_next = (drop-here, slice_get_within, drop-past, held-short, length-drop)

-- ---- what the methods say

-- what is read at a place, and beyond them
pub place-in : {A : Type 0} (ps : List (Option A)) (n i : ℕ) (d : Option A) → fills n ps ≡ true → i < length ps → get_or ps i d ≡ slice_get (held ps) i
place-in ps n i d f h = get_or_default ps i d None h ∙ held_at n ps i f

pub place-past : {A : Type 0} (ps : List (Option A)) (n i : ℕ) → fills n ps ≡ true → length ps ≤ i → None ≡ slice_get (held ps) i
place-past ps n i f h = sym (get_or_past ps i None h) ∙ held_at n ps i f

-- how many are held
pub ruleset counted = (length-held, held-short)

-- which one stands at a place
pub ruleset placed = (place-in, place-past)

-- none in places that are all free
pub ruleset free = (length-replicate, held_none, fills-none)

-- one more behind those that are held
pub fills-added : {A : Type 0} (n : ℕ) (ps : List (Option A)) (x : A) → fills n ps ≡ true → n < length ps → fills (n + 1) (set ps n (Some x)) ≡ true
fills-added n ps x f h = (λ i. fills (add-one n i) (set ps n (Some x))) ∙ fills-push n ps x f h

pub ruleset added = (length-held, held-push, fills-added, length-set)
