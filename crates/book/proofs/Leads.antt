-- What is in force of a kind is what its own events lead it to.
use Rattle.std.proofs.Common.{◌≡◌, ℕ, Bool, true, false, cond, eqb, leb, List, [], ◌∷◌, ◌++◌, length, Ok, Err, Result, sym, refl, ap, ◌∙◌, subst, ⊎_elim, ne_eqb, eqb-true}
use Rattle.std.proofs.lemmas.Bool.{cases_Bool, cond-true, cond-false}
use Rattle.layouts.specs.Frames.{Message}
use Rattle.kinds.specs.Outcome.{after}
use Rattle.kinds.specs.Model.{Model}
use Rattle.units.specs.declared.fault.UnitFault.{UnitFault}
use Rattle.book.specs.Models.{Models, empty, first, both, Meanings, nothing, turns, has, offers, part_of, listed, Apart, Distinct}
use Rattle.book.specs.Units.{judged, brought, offered_all, offered_from}
use Rattle.book.specs.Book.{Asked, picture, clear, message, unit, look, catch_up, Book, step, run}
use Rattle.book.specs.Events.{Event, turned, cleared, given, of_message, of_messages, of_unit, of_call, begins, events, led, Led, SameOf}
use Rattle.book.proofs.Offers.{here, behind, on-left, on-right, apart-left, apart-right, left-apart, has-none, distinct-left, distinct-right, judged-short, judged-long}

-- ---- events one after the other

pub led-append : (k : Model) (m : k.Meaning) (es fs : List Event) → led k m (es ++ fs) ≡ led k (led k m es) fs
led-append k m [] fs = refl
led-append k m (turned mark ∷ es) fs = led-append k (k.turned m mark) es fs
led-append k m (cleared ∷ es) fs = led-append k k.none es fs
led-append k m (given p ∷ es) fs = led-append k (after m (k.offered m p)) es fs

led-then : (ks : Models) (a b c : Meanings ks) (es fs : ℕ → List Event) → Led ks a es b → Led ks b fs c → Led ks a (λ t. es t ++ fs t) c
led-then empty a b c es fs h i = tt
led-then (first k ks) a b c es fs h i =
    (i.0 ∙ (ap (λ x. led k x (fs k.number)) h.0 ∙ sym (led-append k a.0 (es k.number) (fs k.number))), led-then ks a.1 b.1 c.1 es fs h.1 i.1)
led-then (both ks js) a b c es fs h i = (led-then ks a.0 b.0 c.0 es fs h.0 i.0, led-then js a.1 b.1 c.1 es fs h.1 i.1)

led-none : (ks : Models) (m : Meanings ks) → Led ks m (λ t. []) m
led-none empty m = tt
led-none (first k ks) m = (refl, led-none ks m.1)
led-none (both ks js) m = (led-none ks m.0, led-none js m.1)

led-turned : (ks : Models) (m : Meanings ks) (mark : Bool) → Led ks m (λ t. turned mark ∷ []) (turns ks m mark)
led-turned empty m mark = tt
led-turned (first k ks) m mark = (refl, led-turned ks m.1 mark)
led-turned (both ks js) m mark = (led-turned ks m.0 mark, led-turned js m.1 mark)

led-cleared : (ks : Models) (m : Meanings ks) → Led ks m (λ t. cleared ∷ []) (nothing ks)
led-cleared empty m = tt
led-cleared (first k ks) m = (refl, led-cleared ks m.1)
led-cleared (both ks js) m = (led-cleared ks m.0, led-cleared js m.1)

-- ---- one message

-- an offer of p to type t, as an event of type u
abbrev offering : ℕ → List ℕ → ℕ → List Event
offering t p u = cond (eqb t u) (given p ∷ []) []

led-apart : (ks : Models) (m : Meanings ks) (t : ℕ) (p : List ℕ) → Apart t (listed ks) → Led ks m (offering t p) m
led-apart empty m t p h = tt
led-apart (first k ks) m t p h = (sym (ap (led k m.0) (cond-false (eqb t k.number) (given p ∷ []) [] (ne_eqb t k.number h.0))), led-apart ks m.1 t p h.1)
led-apart (both ks js) m t p h = (led-apart ks m.0 t p (apart-left t (listed ks) (listed js) h), led-apart js m.1 t p (apart-right t (listed ks) (listed js) h))

moved : (ks : Models) (m n x : Meanings ks) (es : ℕ → List Event) → n ≡ x → Led ks m es x → Led ks m es n
moved ks m n x es e h = let P : Meanings ks → Type 0 = λ y. Led ks m es y in subst P (sym e) h

led-offers : (ks : Models) → Distinct (listed ks) → (m : Meanings ks) (t : ℕ) (p : List ℕ) → Led ks m (offering t p) (after m (offers ks m t p))
led-offers empty d m t p = tt
led-offers (first k ks) d m t p =
    ⊎_elim
    (λ e. let A : ℕ → Type 0 = λ n. Apart n (listed ks) in
    moved (first k ks) m (after m (offers (first k ks) m t p)) _ (offering t p) (here k ks m t p e)
    (sym (ap (led k m.0) (cond-true (eqb t k.number) (given p ∷ []) [] e)), led-apart ks m.1 t p (subst A (sym (eqb-true t k.number e)) d.0)))
    (λ e. moved (first k ks) m (after m (offers (first k ks) m t p)) _ (offering t p) (behind k ks m t p e)
    (sym (ap (led k m.0) (cond-false (eqb t k.number) (given p ∷ []) [] e)), led-offers ks d.1 m.1 t p))
    (cases_Bool (eqb t k.number))
led-offers (both ks js) d m t p =
    ⊎_elim
    (λ e. moved (both ks js) m (after m (offers (both ks js) m t p)) _ (offering t p) (on-left ks js m t p e)
    (led-offers ks (distinct-left (listed ks) (listed js) d) m.0 t p, led-apart js m.1 t p (left-apart ks js t d e)))
    (λ e. moved (both ks js) m (after m (offers (both ks js) m t p)) _ (offering t p) (on-right ks js m t p e)
    (led-apart ks m.0 t p (has-none ks t e), led-offers js (distinct-right (listed ks) (listed js) d) m.1 t p))
    (cases_Bool (has ks t))

-- events that are the same of every type
led-same : (ks : Models) (m n : Meanings ks) (es fs : ℕ → List Event) → ((t : ℕ) → es t ≡ fs t) → Led ks m es n → Led ks m fs n
led-same empty m n es fs e h = tt
led-same (first k ks) m n es fs e h = (h.0 ∙ ap (led k m.0) (e k.number), led-same ks m.1 n.1 es fs e h.1)
led-same (both ks js) m n es fs e h = (led-same ks m.0 n.0 es fs e h.0, led-same js m.1 n.1 es fs e h.1)

cond_same : {A : Type 0} (b : Bool) (x : A) → x ≡ cond b x x
cond_same true x = refl
cond_same false x = refl

led-message : (ks : Models) → Distinct (listed ks) → (m : Meanings ks) (x : Message) → Led ks m (λ u. of_message u x) (after m (judged ks m x.0 x.1))
led-message ks d m x =
    let t : ℕ = x.0 in
    let p : List ℕ = x.1 in
    ⊎_elim
    (λ e. moved ks m (after m (judged ks m t p)) _ (λ u. of_message u x) (ap (after m) (judged-short ks m t p e))
    (led-same ks m (after m (offers ks m t p)) (offering t p) (λ u. of_message u x)
    (λ u. ap (λ (l : List Event). cond (eqb t u) l []) (sym (cond-true (leb (length p) 65535) (given p ∷ []) [] e)))
    (led-offers ks d m t p)))
    (λ e. moved ks m (after m (judged ks m t p)) m (λ u. of_message u x) (judged-long ks m t p e)
    (led-same ks m m (λ u. []) (λ u. of_message u x)
    (λ u. cond_same (eqb t u) [] ∙ ap (λ (l : List Event). cond (eqb t u) l []) (sym (cond-false (leb (length p) 65535) (given p ∷ []) [] e)))
    (led-none ks m)))
    (cases_Bool (leb (length p) 65535))

-- ---- lists of calls

led-all : (ks : Models) → Distinct (listed ks) → (m : Meanings ks) (xs : List (ℕ × Message)) → Led ks m (λ t. of_messages t xs) (offered_all ks m xs)
led-all ks d m [] = led-none ks m
led-all ks d m (x ∷ xs) =
    let n : Meanings ks = after m (judged ks m x.1.0 x.1.1) in
    led-then ks m n (offered_all ks n xs) (λ t. of_message t x.1) (λ t. of_messages t xs) (led-message ks d m x.1) (led-all ks d n xs)

led-from : (ks : Models) → Distinct (listed ks) → (m : Meanings ks) (r : Result (List (ℕ × Message)) UnitFault) → Led ks m (λ t. of_unit t r) (offered_from ks m r)
led-from ks d m (Ok xs) = led-all ks d m xs
led-from ks d m (Err f) = led-none ks m

-- where no picture has begun there are no messages
led-begun : (ks : Models) (begun : Bool) (m n : Meanings ks) (es : ℕ → List Event) → Led ks m es n → Led ks m (λ t. cond begun (es t) []) (cond begun n m)
led-begun ks true m n es h = h
led-begun ks false m n es h = led-none ks m

led-call : (ks : Models) → Distinct (listed ks) → (b : Book ks) (c : Asked) → Led ks b.1 (λ t. of_call t b.0 c) (step ks b c).1
led-call ks d b (picture mark) = led-turned ks b.1 mark
led-call ks d b clear = led-cleared ks b.1
led-call ks d b (message t p) = led-begun ks b.0 b.1 (after b.1 (judged ks b.1 t p)) (λ u. of_message u (t, p)) (led-message ks d b.1 (t, p))
led-call ks d b (unit bs fault scratch) = led-begun ks b.0 b.1 (offered_from ks b.1 (brought bs fault scratch)) (λ t. of_unit t (brought bs fault scratch)) (led-from ks d b.1 (brought bs fault scratch))
led-call ks d b (look t n buffer) = led-none ks b.1
led-call ks d b (catch_up buffer) = led-none ks b.1

begun-step : (ks : Models) (b : Book ks) (c : Asked) → (step ks b c).0 ≡ begins b.0 c
begun-step ks b (picture mark) = refl
begun-step ks b clear = refl
begun-step ks b (message t p) = refl
begun-step ks b (unit bs fault scratch) = refl
begun-step ks b (look t n buffer) = refl
begun-step ks b (catch_up buffer) = refl

pub led-run : (ks : Models) → Distinct (listed ks) → (b : Book ks) (cs : List Asked) → Led ks b.1 (λ t. events t b.0 cs) (run ks b cs).1
led-run ks d b [] = led-none ks b.1
led-run ks d b (c ∷ cs) =
    led-same ks b.1 (run ks b (c ∷ cs)).1 (λ t. of_call t b.0 c ++ events t (step ks b c).0 cs) (λ t. events t b.0 (c ∷ cs))
    (λ t. ap (λ (x : Bool). of_call t b.0 c ++ events t x cs) (begun-step ks b c))
    (led-then ks b.1 (step ks b c).1 (run ks b (c ∷ cs)).1 (λ t. of_call t b.0 c) (λ t. events t (step ks b c).0 cs) (led-call ks d b c) (led-run ks d (step ks b c) cs))

-- ---- lists that agree on the events of one type

pub led-alike : (ks : Models) (t : ℕ) (m a b : Meanings ks) (es fs : ℕ → List Event) → es t ≡ fs t → Led ks m es a → Led ks m fs b → SameOf ks t a b
led-alike empty t m a b es fs e h i = tt
led-alike (first k ks) t m a b es fs e h i = (
  (λ n. h.0 ∙ (ap (λ (u : ℕ). led k m.0 (es u)) (sym n) ∙ (ap (led k m.0) e ∙ (ap (λ (u : ℕ). led k m.0 (fs u)) n ∙ sym i.0)))),
  led-alike ks t m.1 a.1 b.1 es fs e h.1 i.1,
)
led-alike (both ks js) t m a b es fs e h i = (led-alike ks t m.0 a.0 b.0 es fs e h.0 i.0, led-alike js t m.1 a.1 b.1 es fs e h.1 i.1)

pub same-part : (ks : Models) (t : ℕ) (m n : Meanings ks) → SameOf ks t m n → part_of ks m t ≡ part_of ks n t
same-part empty t m n h = refl
same-part (first k ks) t m n h =
    ⊎_elim
    (λ e. cond-true (eqb t k.number) _ _ e ∙ (ap k.part (h.0 (eqb-true t k.number e)) ∙ sym (cond-true (eqb t k.number) _ _ e)))
    (λ e. ap (λ (x : List (List ℕ)). cond (eqb t k.number) (k.part m.0) x) (same-part ks t m.1 n.1 h.1) ∙ (cond-false (eqb t k.number) _ _ e ∙ sym (cond-false (eqb t k.number) _ _ e)))
    (cases_Bool (eqb t k.number))
same-part (both ks js) t m n h =
    ap (λ (x : List (List ℕ)). cond (has ks t) x (part_of js m.1 t)) (same-part ks t m.0 n.0 h.0)
    ∙ ap (λ (x : List (List ℕ)). cond (has ks t) (part_of ks n.0 t) x) (same-part js t m.1 n.1 h.1)

-- ---- whether a picture has begun shows in the events of every type

abbrev pub opened : Bool → List Event → Bool
opened b [] = b
opened b (turned mark ∷ es) = opened true es
opened b (cleared ∷ es) = opened false es
opened b (given p ∷ es) = opened b es

opened-append : (b : Bool) (es fs : List Event) → opened b (es ++ fs) ≡ opened (opened b es) fs
opened-append b [] fs = refl
opened-append b (turned mark ∷ es) fs = opened-append true es fs
opened-append b (cleared ∷ es) fs = opened-append false es fs
opened-append b (given p ∷ es) fs = opened-append b es fs

opened-if : (b c : Bool) (es : List Event) → opened b es ≡ b → opened b (cond c es []) ≡ b
opened-if b true es h = h
opened-if b false es h = refl

opened-message : (b : Bool) (t : ℕ) (x : Message) → opened b (of_message t x) ≡ b
opened-message b t x = opened-if b (eqb x.0 t) (cond (leb (length x.1) 65535) (given x.1 ∷ []) []) (opened-if b (leb (length x.1) 65535) (given x.1 ∷ []) refl)

opened-messages : (b : Bool) (t : ℕ) (xs : List (ℕ × Message)) → opened b (of_messages t xs) ≡ b
opened-messages b t [] = refl
opened-messages b t (x ∷ xs) = opened-append b (of_message t x.1) (of_messages t xs) ∙ (ap (λ (c : Bool). opened c (of_messages t xs)) (opened-message b t x.1) ∙ opened-messages b t xs)

opened-unit : (b : Bool) (t : ℕ) (r : Result (List (ℕ × Message)) UnitFault) → opened b (of_unit t r) ≡ b
opened-unit b t (Ok xs) = opened-messages b t xs
opened-unit b t (Err f) = refl

opened-call : (b : Bool) (t : ℕ) (c : Asked) → opened b (of_call t b c) ≡ begins b c
opened-call b t (picture mark) = refl
opened-call b t clear = refl
opened-call b t (message u p) = opened-if b b (of_message t (u, p)) (opened-message b t (u, p))
opened-call b t (unit bs fault scratch) = opened-if b b (of_unit t (brought bs fault scratch)) (opened-unit b t (brought bs fault scratch))
opened-call b t (look u n buffer) = refl
opened-call b t (catch_up buffer) = refl

pub opened-run : (ks : Models) (t : ℕ) (b : Book ks) (cs : List Asked) → (run ks b cs).0 ≡ opened b.0 (events t b.0 cs)
opened-run ks t b [] = refl
opened-run ks t b (c ∷ cs) =
    opened-run ks t (step ks b c) cs
    ∙ (ap (λ (x : Bool). opened x (events t x cs)) (begun-step ks b c)
    ∙ (ap (λ (x : Bool). opened x (events t (begins b.0 c) cs)) (sym (opened-call b.0 t c))
    ∙ sym (opened-append b.0 (of_call t b.0 c) (events t (begins b.0 c) cs))))
