-- Every kind's part, offered in order to a set with nothing in force, is granted and leads to what was in force.
use Rattle.std.proofs.Common.{◌≡◌, ℕ, ◌+◌, ◌≤◌, true, false, eqb, List, [], ◌∷◌, ◌++◌, length, sym, refl, ap, ◌∙◌, subst, ⊎_elim, arith, length-append, eq-eqb, ne_eqb}
use borrow.Author.Tests.{clash}
use Rattle.std.proofs.lemmas.Bool.{cases_Bool, cond-true, cond-false}
use Rattle.layouts.specs.Frames.{Message, framed, frames, under}
use Rattle.layouts.proofs.Framed.{length-framed}
use Rattle.kinds.specs.Outcome.{granted, lift}
use Rattle.kinds.specs.Model.{Model, Replay}
use Rattle.units.specs.Units.{AllLimited}
use Rattle.book.specs.Models.{Models, empty, first, both, Meanings, Sounds, Lawfuls, nothing, has, offers, messages, listed, Numbered, Distinct, total, Proper}
use Rattle.book.proofs.Offers.{granted-has, left-apart, apart-has, distinct-left, distinct-right}

-- the messages, offered in order, are all granted, and lead from m to n
abbrev pub Replays : (ks : Models) → Meanings ks → List Message → Meanings ks → Type 0
Replays ks m [] n = m ≡ n
Replays ks m (p ∷ ps) n = (x : Meanings ks) × (offers ks m p.0 p.1 ≡ granted x) × Replays ks x ps n

replays-append : (ks : Models) (ps qs : List Message) (a b c : Meanings ks) → Replays ks a ps b → Replays ks b qs c → Replays ks a (ps ++ qs) c
replays-append ks [] qs a b c h i = let P : Meanings ks → Type 0 = λ x. Replays ks x qs c in subst P (sym h) i
replays-append ks (p ∷ ps) qs a b c h i = (h.0, h.1, replays-append ks ps qs h.0 b c h.2 i)

-- ---- one kind before others

replays-here : (k : Model) (ks : Models) (ps : List (List ℕ)) (a b : k.Meaning) (x : Meanings ks) → Replay k a ps b → Replays (first k ks) (a, x) (under k.number ps) (b, x)
replays-here k ks [] a b x h = ap (λ (y : k.Meaning). (y, x)) h
replays-here k ks (p ∷ ps) a b x h =
    ((h.0, x), cond-true (eqb k.number k.number) _ _ (eq-eqb k.number k.number refl) ∙ ap (lift {N = Meanings (first k ks)} (λ n. (n, x))) h.1.0, replays-here k ks ps h.0 b x h.1.1)

-- a type that others have is not the first one's
not-here : (k : Model) (ks : Models) (t : ℕ) → Distinct (listed (first k ks)) → has ks t ≡ true → eqb t k.number ≡ false
not-here k ks t d e = ne_eqb t k.number (λ i.
    let f : has ks t ≡ false = ap (has ks) i ∙ apart-has ks k.number d.0 in
    absurd (clash (sym f ∙ e)))

replays-behind : (k : Model) (ks : Models) → Distinct (listed (first k ks)) → (ms : List Message) (a : k.Meaning) (x y : Meanings ks) → Replays ks x ms y → Replays (first k ks) (a, x) ms (a, y)
replays-behind k ks d [] a x y h = ap (λ (z : Meanings ks). (a, z)) h
replays-behind k ks d (m ∷ ms) a x y h = (
  (a, h.0),
  cond-false (eqb m.0 k.number) _ _ (not-here k ks m.0 d (granted-has ks x h.0 m.0 m.1 h.1)) ∙ ap (lift {N = Meanings (first k ks)} (λ n. (a, n))) h.1,
  replays-behind k ks d ms a h.0 y h.2,
)

-- ---- one list before another

replays-left : (ks js : Models) (ms : List Message) (a b : Meanings ks) (x : Meanings js) → Replays ks a ms b → Replays (both ks js) (a, x) ms (b, x)
replays-left ks js [] a b x h = ap (λ (y : Meanings ks). (y, x)) h
replays-left ks js (m ∷ ms) a b x h = (
  (h.0, x),
  cond-true (has ks m.0) _ _ (granted-has ks a h.0 m.0 m.1 h.1) ∙ ap (lift {N = Meanings (both ks js)} (λ n. (n, x))) h.1,
  replays-left ks js ms h.0 b x h.2,
)

-- a type that the second list has is not one of the first's
not_left : (ks js : Models) (t : ℕ) → Distinct (listed (both ks js)) → has js t ≡ true → has ks t ≡ false
not_left ks js t d e =
    ⊎_elim
    (λ h. absurd (clash (sym (apart-has js t (left-apart ks js t d h)) ∙ e)))
    (λ h. h)
    (cases_Bool (has ks t))

replays-right : (ks js : Models) → Distinct (listed (both ks js)) → (ms : List Message) (a : Meanings ks) (x y : Meanings js) → Replays js x ms y → Replays (both ks js) (a, x) ms (a, y)
replays-right ks js d [] a x y h = ap (λ (z : Meanings js). (a, z)) h
replays-right ks js d (m ∷ ms) a x y h = (
  (a, h.0),
  cond-false (has ks m.0) _ _ (not_left ks js m.0 d (granted-has js x h.0 m.0 m.1 h.1)) ∙ ap (lift {N = Meanings (both ks js)} (λ n. (a, n))) h.1,
  replays-right ks js d ms a h.0 y h.2,
)

-- ---- all kinds

pub replays-all : (ks : Models) → Lawfuls ks → Distinct (listed ks) → (m : Meanings ks) → Sounds ks m → Replays ks (nothing ks) (messages ks m) m
replays-all empty l d m s = refl
replays-all (first k ks) l d m s =
    replays-append (first k ks) (under k.number (k.part m.0)) (messages ks m.1) (k.none, nothing ks) (m.0, nothing ks) (m.0, m.1)
    (replays-here k ks (k.part m.0) k.none m.0 (nothing ks) (l.0.replay m.0 s.0))
    (replays-behind k ks d (messages ks m.1) m.0 (nothing ks) m.1 (replays-all ks l.1 d.1 m.1 s.1))
replays-all (both ks js) l d m s =
    replays-append (both ks js) (messages ks m.0) (messages js m.1) (nothing ks, nothing js) (m.0, nothing js) (m.0, m.1)
    (replays-left ks js (messages ks m.0) (nothing ks) m.0 (nothing js) (replays-all ks l.0 (distinct-left (listed ks) (listed js) d) m.0 s.0))
    (replays-right ks js d (messages js m.1) m.0 (nothing js) m.1 (replays-all js l.1 (distinct-right (listed ks) (listed js) d) m.1 s.1))

-- what is granted leads to one thing
pub replays-same : (ks : Models) (ms : List Message) (a b c : Meanings ks) → Replays ks a ms b → Replays ks a ms c → b ≡ c
replays-same ks [] a b c h i = sym h ∙ i
replays-same ks (m ∷ ms) a b c h i =
    let e : h.0 ≡ i.0 = granted-same h.0 i.0 (sym h.1 ∙ i.1) in
    let P : Meanings ks → Type 0 = λ x. Replays ks x ms c in
    replays-same ks ms h.0 b c h.2 (subst P (sym e) i.2)
  where
    granted-same : (x y : Meanings ks) → granted x ≡ granted y → x ≡ y
    granted-same x y e = cc

-- ---- lengths

length-frames : (ms ns : List Message) → length (frames (ms ++ ns)) ≡ length (frames ms) + length (frames ns)
length-frames [] ns = omega arith
length-frames (m ∷ ms) ns = omega (arith, length-append (framed m) (frames (ms ++ ns)), length-append (framed m) (frames ms), length-frames ms ns)

total-append : (xs ys : List Model) → total (xs ++ ys) ≡ total xs + total ys
total-append [] ys = omega arith
total-append (x ∷ xs) ys = omega (arith, total-append xs ys)

-- the parts, framed, fit the greatest lengths
pub parts-fit : (ks : Models) → Lawfuls ks → (m : Meanings ks) → Sounds ks m → length (frames (messages ks m)) ≤ total (listed ks)
parts-fit empty l m s = omega arith
parts-fit (first k ks) l m s = omega (arith, length-frames (under k.number (k.part m.0)) (messages ks m.1), l.0.fits m.0 s.0, parts-fit ks l.1 m.1 s.1)
parts-fit (both ks js) l m s = omega (arith, length-frames (messages ks m.0) (messages js m.1), total-append (listed ks) (listed js), parts-fit ks l.0 m.0 s.0, parts-fit js l.1 m.1 s.1)

-- every type is at most 65,535
abbrev Typed : List Message → Type 0
Typed [] = Unit {0}
Typed (m ∷ ms) = (m.0 ≤ 65535) × Typed ms

typed-append : (ms ns : List Message) → Typed ms → Typed ns → Typed (ms ++ ns)
typed-append [] ns h i = i
typed-append (m ∷ ms) ns h i = (h.0, typed-append ms ns h.1 i)

typed-under : (t : ℕ) (ps : List (List ℕ)) → t ≤ 65535 → Typed (under t ps)
typed-under t [] h = tt
typed-under t (p ∷ ps) h = (h, typed-under t ps h)

numbered-left : (xs ys : List Model) → Numbered (xs ++ ys) → Numbered xs
numbered-left [] ys h = tt
numbered-left (x ∷ xs) ys h = (h.0, numbered-left xs ys h.1)

numbered-right : (xs ys : List Model) → Numbered (xs ++ ys) → Numbered ys
numbered-right [] ys h = h
numbered-right (x ∷ xs) ys h = numbered-right xs ys h.1

parts_typed : (ks : Models) → Numbered (listed ks) → (m : Meanings ks) → Typed (messages ks m)
parts_typed empty h m = tt
parts_typed (first k ks) h m = typed-append (under k.number (k.part m.0)) (messages ks m.1) (typed-under k.number (k.part m.0) h.0) (parts_typed ks h.1 m.1)
parts_typed (both ks js) h m = typed-append (messages ks m.0) (messages js m.1) (parts_typed ks (numbered-left (listed ks) (listed js) h) m.0) (parts_typed js (numbered-right (listed ks) (listed js) h) m.1)

-- messages of such types that take at most 65,535 bytes together are within the limits
limited : (ms : List Message) → Typed ms → length (frames ms) ≤ 65535 → AllLimited ms
limited [] t h = tt
limited (m ∷ ms) t h =
    let n = length-append (framed m) (frames ms) in
    let f = length-framed m.0 m.1 in
    ((t.0, omega arith), limited ms t.1 (omega arith))

module _ (ks : Models) (l : Lawfuls ks) (p : Proper (listed ks)) (m : Meanings ks) (s : Sounds ks m) where
  pub parts-short : length (frames (messages ks m)) ≤ 65535
  parts-short = omega (arith, parts-fit ks l m s, p.short)

  pub parts-limited : AllLimited (messages ks m)
  parts-limited = limited (messages ks m) (parts_typed ks p.numbered m) parts-short
