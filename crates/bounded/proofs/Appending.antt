-- A list behind another, as far as there is room, value by value.
use Rattle.std.proofs.Common.{◌≡◌, ℕ, ◌<◌, ◌≤◌, Bool, cond, ltb, List, [], ◌∷◌, ◌++◌, map, length, take, Option, Bor, sym, ap, ◌∙◌, ⊎_elim, append_assoc, append-nil, take_all, arith, length-append}
use Rattle.std.proofs.lemmas.Bool.{lt-ltb, le-ltb, cases_lt}
use Rattle.std.proofs.lemmas.List.{length-take, take-append-le, map-append}
use Rattle.bounded.specs.Places.{held}
use Rattle.bounded.proofs.Cells.{held-short}

-- a value is added if there is room
append-value : {A : Type 0} (n : ℕ) (ok : Bool) (all xs ys : List A) (x : A) → xs ≡ take n all → ok ≡ ltb (length xs) n → ys ≡ cond ok (xs ++ x ∷ []) xs → ys ≡ take n (all ++ x ∷ [])
append-value n ok all xs ys x s e f =
    ⊎_elim
    (λ (h : length xs < n).
    let few : length all < n = omega (arith, ap length s, length-take n all) in
    f ∙ ap (λ b. cond b (xs ++ x ∷ []) xs) (e ∙ lt-ltb (length xs) n h) ∙ ap (λ l. l ++ x ∷ []) (s ∙ take_all n all (omega arith)) ∙ sym (take_all n (all ++ x ∷ []) (omega (arith, length-append all (x ∷ [])))))
    (λ (h : n ≤ length xs).
    let many : n ≤ length all = omega (arith, ap length s, length-take n all) in
    f ∙ ap (λ b. cond b (xs ++ x ∷ []) xs) (e ∙ le-ltb (length xs) n h) ∙ s ∙ sym (take-append-le n all (x ∷ []) many))
    (cases_lt (length xs) n)

-- as far as was gone: nothing yet, and one more
pub append-none : {A : Type 0} (n : ℕ) (qs : List (Option A)) → length qs ≡ n → held qs ≡ take n (held qs ++ [])
append-none n qs w = sym (ap (take n) (append-nil (held qs)) ∙ take_all n (held qs) (omega (arith, held-short qs)))

pub append-more : {A : Type 0} (n : ℕ) (ok : Bool) (start xs ys : List A) (done : List (Bor A)) (x : Bor A) → xs ≡ take n (start ++ map (λ y. y.now) done) → ok ≡ ltb (length xs) n → ys ≡ cond ok (xs ++ x.now ∷ []) xs
    → ys ≡ take n (start ++ map (λ y. y.now) (done ++ x ∷ []))
append-more n ok start xs ys done x s e f =
    append-value n ok (start ++ map (λ y. y.now) done) xs ys x.now s e f
    ∙ ap (take n) (append_assoc start (map (λ y. y.now) done) (x.now ∷ []) ∙ ap (λ l. start ++ l) (sym (map-append (λ y. y.now) done (x ∷ []))))

pub ruleset appends = (append-none, append-more)
