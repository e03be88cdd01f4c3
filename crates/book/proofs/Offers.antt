-- What an offer does to a list of kinds, by which of them has the type.
use Rattle.std.proofs.Common.{◌≡◌, ℕ, Bool, true, false, cond, eqb, leb, ◌⊎◌, List, [], ◌∷◌, ◌++◌, length, sym, refl, ap, ◌∙◌, subst, inl, inr, ⊎_elim, append_assoc, arith, ne_eqb, eqb-true}
use borrow.Author.Tests.{clash, eqb-false}
use Rattle.std.proofs.lemmas.Bool.{cases_Bool, cond-true, cond-false}
use Rattle.records.specs.declared.fault.PayloadFault.TheVariants.{TooLong}
use Rattle.kinds.specs.declared.fault.OfferFault.TheVariants.{Payload}
use Rattle.kinds.specs.Outcome.{Outcome, granted, passed, refused, after, lift}
use Rattle.kinds.specs.Model.{Model}
use Rattle.book.specs.Models.{Models, empty, first, both, Meanings, has, offers, listed, Apart, Distinct}
use Rattle.book.specs.Units.{judged}

-- ---- offers to a part of a whole

pub after-lift : {A B : Type 0} (f : A → B) (a : A) (o : Outcome A) → after (f a) (lift f o) ≡ f (after a o)
after-lift f a (granted x) = refl
after-lift f a passed = refl
after-lift f a (refused e) = refl

module _ (k : Model) (ks : Models) (m : Meanings (first k ks)) (t : ℕ) (p : List ℕ) where
  pub here : eqb t k.number ≡ true → after m (offers (first k ks) m t p) ≡ (after m.0 (k.offered m.0 p), m.1)
  here e = ap (after m) (cond-true (eqb t k.number) _ _ e) ∙ after-lift {B = Meanings (first k ks)} (λ n. (n, m.1)) m.0 (k.offered m.0 p)

  pub behind : eqb t k.number ≡ false → after m (offers (first k ks) m t p) ≡ (m.0, after m.1 (offers ks m.1 t p))
  behind e = ap (after m) (cond-false (eqb t k.number) _ _ e) ∙ after-lift {B = Meanings (first k ks)} (λ n. (m.0, n)) m.1 (offers ks m.1 t p)

module _ (ks js : Models) (m : Meanings (both ks js)) (t : ℕ) (p : List ℕ) where
  pub on-left : has ks t ≡ true → after m (offers (both ks js) m t p) ≡ (after m.0 (offers ks m.0 t p), m.1)
  on-left e = ap (after m) (cond-true (has ks t) _ _ e) ∙ after-lift {B = Meanings (both ks js)} (λ n. (n, m.1)) m.0 (offers ks m.0 t p)

  pub on-right : has ks t ≡ false → after m (offers (both ks js) m t p) ≡ (m.0, after m.1 (offers js m.1 t p))
  on-right e = ap (after m) (cond-false (has ks t) _ _ e) ∙ after-lift {B = Meanings (both ks js)} (λ n. (m.0, n)) m.1 (offers js m.1 t p)

-- ---- types

pub apart-left : (t : ℕ) (xs ys : List Model) → Apart t (xs ++ ys) → Apart t xs
apart-left t [] ys h = tt
apart-left t (x ∷ xs) ys h = (h.0, apart-left t xs ys h.1)

pub apart-right : (t : ℕ) (xs ys : List Model) → Apart t (xs ++ ys) → Apart t ys
apart-right t [] ys h = h
apart-right t (x ∷ xs) ys h = apart-right t xs ys h.1

pub distinct-left : (xs ys : List Model) → Distinct (xs ++ ys) → Distinct xs
distinct-left [] ys h = tt
distinct-left (x ∷ xs) ys h = (apart-left x.number xs ys h.0, distinct-left xs ys h.1)

pub distinct-right : (xs ys : List Model) → Distinct (xs ++ ys) → Distinct ys
distinct-right [] ys h = h
distinct-right (x ∷ xs) ys h = distinct-right xs ys h.1

apart-same : (t u : ℕ) (xs : List Model) → t ≡ u → Apart u xs → Apart t xs
apart-same t u xs e h = let P : ℕ → Type 0 = λ n. Apart n xs in subst P (sym e) h

-- a type of a list is apart from the lists that are distinct from it
has-apart : (ks : Models) (ys : List Model) (t : ℕ) → Distinct (listed ks ++ ys) → has ks t ≡ true → Apart t ys
has-apart empty ys t d e = absurd (clash e)
has-apart (first k ks) ys t d e =
    ⊎_elim
    (λ h. apart-same t k.number ys (eqb-true t k.number h) (apart-right k.number (listed ks) ys d.0))
    (λ h. has-apart ks ys t d.1 (sym (cond-false (eqb t k.number) true (has ks t) h) ∙ e))
    (cases_Bool (eqb t k.number))
has-apart (both ks js) ys t d e =
    let P : List Model → Type 0 = λ xs. Distinct xs in
    let joined : Distinct (listed ks ++ (listed js ++ ys)) = subst P (append_assoc (listed ks) (listed js) ys) d in
    ⊎_elim
    (λ h. apart-right t (listed js) ys (has-apart ks (listed js ++ ys) t joined h))
    (λ h. has-apart js ys t (distinct-right (listed ks) (listed js ++ ys) joined) (sym (cond-false (has ks t) true (has js t) h) ∙ e))
    (cases_Bool (has ks t))

pub left-apart : (ks js : Models) (t : ℕ) → Distinct (listed (both ks js)) → has ks t ≡ true → Apart t (listed js)
left-apart ks js t d e = has-apart ks (listed js) t d e

-- no kind of a list has a type that is apart from it
pub apart-has : (ks : Models) (t : ℕ) → Apart t (listed ks) → has ks t ≡ false
apart-has empty t h = refl
apart-has (first k ks) t h = cond-false (eqb t k.number) true (has ks t) (ne_eqb t k.number h.0) ∙ apart-has ks t h.1
apart-has (both ks js) t h = cond-false (has ks t) true (has js t) (apart-has ks t (apart-left t (listed ks) (listed js) h)) ∙ apart-has js t (apart-right t (listed ks) (listed js) h)

-- where none has the first type nor one of the others
not_first : (b c : Bool) → cond b true c ≡ false → (b ≡ false) × (c ≡ false)
not_first true c e = absurd (clash (sym e))
not_first false c e = (refl, e)

apart-append : (t : ℕ) (xs ys : List Model) → Apart t xs → Apart t ys → Apart t (xs ++ ys)
apart-append t [] ys h i = i
apart-append t (x ∷ xs) ys h i = (h.0, apart-append t xs ys h.1 i)

-- and a type that none has is apart from it
pub has-none : (ks : Models) (t : ℕ) → has ks t ≡ false → Apart t (listed ks)
has-none empty t e = tt
has-none (first k ks) t e = let n = not_first (eqb t k.number) (has ks t) e in (eqb-false t k.number n.0, has-none ks t n.1)
has-none (both ks js) t e = let n = not_first (has ks t) (has js t) e in apart-append t (listed ks) (listed js) (has-none ks t n.0) (has-none js t n.1)

-- ---- offers

-- an offer of a type that none has is passed
pub none_passed : (ks : Models) (m : Meanings ks) (t : ℕ) (p : List ℕ) → has ks t ≡ false → offers ks m t p ≡ passed
none_passed empty m t p e = refl
none_passed (first k ks) m t p e =
    let n = not_first (eqb t k.number) (has ks t) e in
    cond-false (eqb t k.number) _ _ n.0 ∙ ap (lift {N = Meanings (first k ks)} (λ x. (m.0, x))) (none_passed ks m.1 t p n.1)
none_passed (both ks js) m t p e =
    let n = not_first (has ks t) (has js t) e in
    cond-false (has ks t) _ _ n.0 ∙ ap (lift {N = Meanings (both ks js)} (λ x. (m.0, x))) (none_passed js m.1 t p n.1)

-- so a granted offer has found its kind
pub granted-has : (ks : Models) (m n : Meanings ks) (t : ℕ) (p : List ℕ) → offers ks m t p ≡ granted n → has ks t ≡ true
granted-has ks m n t p e = go (cases_Bool (has ks t))
  where
    go : (has ks t ≡ true) ⊎ (has ks t ≡ false) → has ks t ≡ true
    go (inl h) = h
    go (inr h) = absurd (let f : passed ≡ granted n = sym (none_passed ks m t p h) ∙ e in let z : ◌≡◌ {A = ℕ} 0 1 = cc in omega arith)

-- a message of at most 65,535 bytes is an offer
pub judged-short : (ks : Models) (m : Meanings ks) (t : ℕ) (p : List ℕ) → leb (length p) 65535 ≡ true → judged ks m t p ≡ offers ks m t p
judged-short ks m t p s = go (cases_Bool (has ks t))
  where
    go : (has ks t ≡ true) ⊎ (has ks t ≡ false) → judged ks m t p ≡ offers ks m t p
    go (inl h) = cond-true (has ks t) _ _ h ∙ cond-true (leb (length p) 65535) _ _ s
    go (inr h) = cond-false (has ks t) _ _ h ∙ sym (none_passed ks m t p h)

-- and a longer one changes nothing
pub judged-long : (ks : Models) (m : Meanings ks) (t : ℕ) (p : List ℕ) → leb (length p) 65535 ≡ false → after m (judged ks m t p) ≡ m
judged-long ks m t p s = go (cases_Bool (has ks t))
  where
    go : (has ks t ≡ true) ⊎ (has ks t ≡ false) → after m (judged ks m t p) ≡ m
    go (inl h) = ap (after m) (cond-true (has ks t) _ passed h ∙ cond-false (leb (length p) 65535) (offers ks m t p) (refused (Payload TooLong)) s)
    go (inr h) = ap (after m) (cond-false (has ks t) (cond (leb (length p) 65535) (offers ks m t p) (refused (Payload TooLong))) passed h)
