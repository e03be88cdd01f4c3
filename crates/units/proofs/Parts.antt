-- The messages of bytes, one after the other.
use Rattle.std.proofs.Common.{◌≡◌, ℕ, zero, suc, ◌+◌, ◌<◌, ◌≤◌, Bool, true, false, cond, ltb, leb, List, [], ◌∷◌, length, take, drop, IfSome, Some, None, Option, sym, refl, ap, ◌∙◌, arith, length-drop}
use Rattle.std.proofs.lemmas.Option.{MatchOption-at_some}
use Rattle.layouts.specs.Frames.{Message, framed}
use Rattle.units.specs.Units.{and_then, counted, cut, message, first_message, parts_in, heard, unheard, placed}

-- what holds of what is found
pub found-then : {A B : Type 0} (P : A → Type 0) (Q : B → Type 0) (o : Option A) (f : A → Option B) → IfSome o P → ((a : A) → P a → IfSome (f a) Q) → IfSome (and_then o f) Q
found-then P Q None f h k = tt
found-then P Q (Some a) f h k = k a h

pub found-cond : {A : Type 0} (P : A → Type 0) (t : Bool) (x y : Option A) → (t ≡ true → IfSome x P) → (t ≡ false → IfSome y P) → IfSome (cond t x y) P
found-cond P true x y h k = h refl
found-cond P false x y h k = k refl

-- less is left
counted-less : (n sum : ℕ) (bs : List ℕ) → length bs ≤ n → IfSome (counted sum bs) (λ r. length r.1 < n)
counted-less n sum [] h = tt
counted-less n sum (b ∷ bs) h =
    found-cond (λ r. length r.1 < n) (leb (sum + b) 65535) _ None
    (λ e. found-cond (λ r. length r.1 < n) (ltb b 255) (Some (sum + b, bs)) _ (λ f. omega arith) (λ f. counted-less n (sum + b) bs (omega arith)))
    (λ e. tt)

pub message-less : (bs : List ℕ) → IfSome (message bs) (λ r. length r.1 < length bs)
unfolding message
message-less bs =
    let n : ℕ = length bs in
    found-then (λ r. length r.1 < n) (λ r. length r.1 < n) (counted 0 bs) _ (counted-less n 0 bs (omega arith)) (λ t h.
    found-then (λ r. length r.1 < n) (λ r. length r.1 < n) (counted 0 t.1) _ (counted-less n 0 t.1 (omega arith)) (λ s k.
    found-then (λ r. length r.1 < n) (λ r. length r.1 < n) (cut s.0 s.1) _
    (found-cond (λ r. length r.1 < n) (leb s.0 (length s.1)) (Some (take s.0 s.1, drop s.0 s.1)) None (λ e. simp length-drop (omega arith)) (λ e. tt))
    (λ p l. l)))

first_message-same : (o : Option (Message × List ℕ)) (bs : List ℕ) (f g : List ℕ → List Message × List ℕ) → ((m : Message × List ℕ) → o ≡ Some m → f m.1 ≡ g m.1) → first_message o bs f ≡ first_message o bs g
first_message-same None bs f g h = refl
first_message-same (Some m) bs f g h = ap (λ (r : List Message × List ℕ). (m.0 ∷ r.0, r.1)) (h m refl)

pub message-nil : message [] ≡ None
unfolding message
message-nil = refl

-- as many steps as there are bytes are enough
enough : (i j : ℕ) (bs : List ℕ) → length bs ≤ i → length bs ≤ j → parts_in i bs ≡ parts_in j bs
unfolding parts_in message
enough zero zero bs h k = refl
enough zero (suc j) [] h k = refl
enough zero (suc j) (b ∷ bs) h k = absurd (omega arith)
enough (suc i) zero [] h k = refl
enough (suc i) zero (b ∷ bs) h k = absurd (omega arith)
enough (suc i) (suc j) bs h k =
    first_message-same (message bs) bs (parts_in i) (parts_in j) (λ m e.
    let s : length m.1 < length bs = MatchOption-at_some (Unit {0}) (λ r. length r.1 < length bs) m e (message-less bs) in
    enough i j m.1 (omega arith) (omega arith))

parts_more : (n : ℕ) (bs rest : List ℕ) (m : Message) → length bs ≡ n → length rest < length bs → message bs ≡ Some (m, rest) → parts_in n bs ≡ (m ∷ heard rest, unheard rest)
unfolding parts_in
parts_more zero bs rest m h k e = absurd (omega arith)
parts_more (suc n) bs rest m h k e =
    ap (λ (o : Option (Message × List ℕ)). first_message o bs (parts_in n)) e
    ∙ ap (λ (r : List Message × List ℕ). (m ∷ r.0, r.1)) (enough n (length rest) rest (omega arith) (omega arith))

parts_none : (n : ℕ) (bs : List ℕ) → message bs ≡ None → parts_in n bs ≡ ([], bs)
unfolding parts_in
parts_none zero bs e = refl
parts_none (suc n) bs e = ap (λ (o : Option (Message × List ℕ)). first_message o bs (parts_in n)) e

shorter : (bs rest : List ℕ) (m : Message) → message bs ≡ Some (m, rest) → length rest < length bs
shorter bs rest m e = MatchOption-at_some (Unit {0}) (λ r. length r.1 < length bs) (m, rest) e (message-less bs)

-- the first message, and those behind it
pub heard-more : (bs rest : List ℕ) (m : Message) → message bs ≡ Some (m, rest) → heard bs ≡ m ∷ heard rest
heard-more bs rest m e = ap (λ (r : List Message × List ℕ). r.0) (parts_more (length bs) bs rest m refl (shorter bs rest m e) e)

pub unheard-more : (bs rest : List ℕ) (m : Message) → message bs ≡ Some (m, rest) → unheard bs ≡ unheard rest
unheard-more bs rest m e = ap (λ (r : List Message × List ℕ). r.1) (parts_more (length bs) bs rest m refl (shorter bs rest m e) e)

pub heard-none : (bs : List ℕ) → message bs ≡ None → heard bs ≡ []
heard-none bs e = ap (λ (r : List Message × List ℕ). r.0) (parts_none (length bs) bs e)

pub unheard-none : (bs : List ℕ) → message bs ≡ None → unheard bs ≡ bs
unheard-none bs e = ap (λ (r : List Message × List ℕ). r.1) (parts_none (length bs) bs e)

-- the messages from a place on, with their places
pub placed-more : (bs p : List ℕ) (at end t : ℕ) → message (drop at bs) ≡ Some ((t, p), drop end bs) → end ≡ at + length (framed (t, p)) → placed at (heard (drop at bs)) ≡ (at, (t, p)) ∷ placed end (heard (drop end bs))
placed-more bs p at end t e f =
    ap (placed at) (heard-more (drop at bs) (drop end bs) (t, p) e) ∙ ap (λ (i : ℕ). (at, (t, p)) ∷ placed i (heard (drop end bs))) (sym f)

pub placed-none : (bs : List ℕ) (at : ℕ) → message (drop at bs) ≡ None → placed at (heard (drop at bs)) ≡ []
placed-none bs at e = ap (placed at) (heard-none (drop at bs) e)

-- no bytes hold no message
pub placed_nil : (bs : List ℕ) → length bs ≡ 0 → placed 0 (heard (drop 0 bs)) ≡ []
placed_nil [] h = placed-none [] 0 message-nil
placed_nil (b ∷ bs) h = absurd (omega arith)

-- what is left does not begin with a message
first_message-stops : (o : Option (Message × List ℕ)) (bs : List ℕ) (more : List ℕ → List Message × List ℕ) → message bs ≡ o → ((m : Message × List ℕ) → o ≡ Some m → message (more m.1).1 ≡ None) → message (first_message o bs more).1 ≡ None
first_message-stops None bs more e h = e
first_message-stops (Some m) bs more e h = h m refl

stops : (n : ℕ) (bs : List ℕ) → length bs ≤ n → message (parts_in n bs).1 ≡ None
unfolding parts_in
stops zero [] h = message-nil
stops zero (b ∷ bs) h = absurd (omega arith)
stops (suc n) bs h =
    first_message-stops (message bs) bs (parts_in n) refl (λ m e.
    let s : length m.1 < length bs = MatchOption-at_some (Unit {0}) (λ r. length r.1 < length bs) m e (message-less bs) in
    stops n m.1 (omega arith))

pub unheard-stops : (bs : List ℕ) → message (unheard bs) ≡ None
unheard-stops bs = stops (length bs) bs (omega arith)

-- what is left behind a message, and where none is
pub ruleset left_over = (unheard-more, unheard-none, length-drop)
