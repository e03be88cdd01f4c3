-- Every list of calls comes to sound meanings alone.
use Rattle.std.proofs.Common.{◌≡◌, ℕ, ◌+◌, Bool, true, false, cond, eqb, ltb, leb, List, [], ◌∷◌, ◌++◌, length, Ok, Err, Result, sym, refl, ap, subst, ⊎_elim}
use lib.Pow.{are_bytes}
use Rattle.std.proofs.lemmas.Bool.{cases_Bool, lt-ltb, and_from}
use Rattle.layouts.specs.Frames.{Message, count, framed, frames}
use Rattle.kinds.specs.Outcome.{Outcome, granted, passed, refused, after}
use Rattle.kinds.specs.Model.{Model, Bytes, Lawful}
use Rattle.units.specs.declared.fault.UnitFault.{UnitFault}
use Rattle.units.specs.Units.{unit_bytes, placed, judged as framing}
use Rattle.units.specs.Fills.{filling}
use Rattle.units.proofs.Judgements.{Judged, sound, broken, judgement}
use Rattle.book.specs.Models.{Models, empty, first, both, Meanings, Sounds, Lawfuls, nothing, turns, has, offers}
use Rattle.book.specs.Units.{judged, framed as framed_by, offered_all, offered_from}
use Rattle.book.specs.Book.{Asked, picture, clear, message, unit, look, catch_up, Book, step, run}
use Rattle.book.specs.Trust.{Fit, Fits}
use Rattle.book.proofs.Offers.{here, behind, on-left, on-right, judged-short, judged-long}

-- ---- what one call does

pub sounds-nothing : (ks : Models) → Lawfuls ks → Sounds ks (nothing ks)
sounds-nothing empty l = tt
sounds-nothing (first k ks) l = (l.0.sound_none, sounds-nothing ks l.1)
sounds-nothing (both ks js) l = (sounds-nothing ks l.0, sounds-nothing js l.1)

sounds-turns : (ks : Models) → Lawfuls ks → (m : Meanings ks) (mark : Bool) → Sounds ks m → Sounds ks (turns ks m mark)
sounds-turns empty l m mark s = tt
sounds-turns (first k ks) l m mark s = (l.0.sound_turned m.0 mark s.0, sounds-turns ks l.1 m.1 mark s.1)
sounds-turns (both ks js) l m mark s = (sounds-turns ks l.0 m.0 mark s.0, sounds-turns js l.1 m.1 mark s.1)

sound-after : (k : Model) → Lawful k → (m : k.Meaning) (p : List ℕ) → k.Sound m → Bytes p → (o : Outcome k.Meaning) → k.offered m p ≡ o → k.Sound (after m o)
sound-after k l m p s h (granted n) e = l.sound_offered m n p s h e
sound-after k l m p s h passed e = s
sound-after k l m p s h (refused f) e = s

moved : (ks : Models) (m n : Meanings ks) → m ≡ n → Sounds ks n → Sounds ks m
moved ks m n e s = let P : Meanings ks → Type 0 = λ x. Sounds ks x in subst P (sym e) s

sounds-offers : (ks : Models) → Lawfuls ks → (m : Meanings ks) (t : ℕ) (p : List ℕ) → Sounds ks m → Bytes p → Sounds ks (after m (offers ks m t p))
sounds-offers empty l m t p s h = tt
sounds-offers (first k ks) l m t p s h =
    ⊎_elim
    (λ e. moved (first k ks) (after m (offers (first k ks) m t p)) _ (here k ks m t p e) (sound-after k l.0 m.0 p s.0 h (k.offered m.0 p) refl, s.1))
    (λ e. moved (first k ks) (after m (offers (first k ks) m t p)) _ (behind k ks m t p e) (s.0, sounds-offers ks l.1 m.1 t p s.1 h))
    (cases_Bool (eqb t k.number))
sounds-offers (both ks js) l m t p s h =
    ⊎_elim
    (λ e. moved (both ks js) (after m (offers (both ks js) m t p)) _ (on-left ks js m t p e) (sounds-offers ks l.0 m.0 t p s.0 h, s.1))
    (λ e. moved (both ks js) (after m (offers (both ks js) m t p)) _ (on-right ks js m t p e) (s.0, sounds-offers js l.1 m.1 t p s.1 h))
    (cases_Bool (has ks t))

sounds-judged : (ks : Models) → Lawfuls ks → (m : Meanings ks) (t : ℕ) (p : List ℕ) → Sounds ks m → Bytes p → Sounds ks (after m (judged ks m t p))
sounds-judged ks l m t p s h =
    ⊎_elim
    (λ e. moved ks (after m (judged ks m t p)) _ (ap (after m) (judged-short ks m t p e)) (sounds-offers ks l m t p s h))
    (λ e. moved ks (after m (judged ks m t p)) m (judged-long ks m t p e) s)
    (cases_Bool (leb (length p) 65535))

-- ---- units

-- messages whose payloads are bytes
abbrev Payloads : List Message → Type 0
Payloads [] = Unit {0}
Payloads (m ∷ ms) = Bytes m.1 × Payloads ms

sounds-all : (ks : Models) → Lawfuls ks → (m : Meanings ks) (at : ℕ) (ms : List Message) → Sounds ks m → Payloads ms → Sounds ks (offered_all ks m (placed at ms))
sounds-all ks l m at [] s h = s
sounds-all ks l m at (p ∷ ps) s h = sounds-all ks l (after m (judged ks m p.0 p.1)) (at + length (framed p)) ps (sounds-judged ks l m p.0 p.1 s h.0) h.1

pub bytes_left : (xs ys : List ℕ) → Bytes (xs ++ ys) → Bytes xs
bytes_left [] ys h = tt
bytes_left (x ∷ xs) ys h = (h.0, bytes_left xs ys h.1)

pub bytes-right : (xs ys : List ℕ) → Bytes (xs ++ ys) → Bytes ys
bytes-right [] ys h = h
bytes-right (x ∷ xs) ys h = bytes-right xs ys h.1

pub bytes-are : (bs : List ℕ) → Bytes bs → are_bytes bs ≡ true
bytes-are [] h = refl
bytes-are (b ∷ bs) h = and_from (ltb b 256) (are_bytes bs) (lt-ltb b 256 h.0) (bytes-are bs h.1)

bytes-framed : (m : Message) → Bytes (framed m) → Bytes m.1
unfolding framed
bytes-framed m h = bytes-right (count (length m.1)) m.1 (bytes-right (count m.0) (count (length m.1) ++ m.1) h)

bytes-frames : (ms : List Message) → Bytes (frames ms) → Payloads ms
bytes-frames [] h = tt
bytes-frames (m ∷ ms) h = (bytes-framed m (bytes_left (framed m) (frames ms) h), bytes-frames ms (bytes-right (framed m) (frames ms) h))

bytes-unit : (ms : List Message) → Bytes (unit_bytes ms) → Payloads ms
bytes-unit [] h = tt
bytes-unit (m ∷ ms) h = bytes-frames (m ∷ ms) (bytes_left (frames (m ∷ ms)) (128 ∷ []) h)

module _ (ks : Models) (l : Lawfuls ks) (m : Meanings ks) (s : Sounds ks m) where
  sounds-framing : (bs : List ℕ) → Bytes bs → Judged bs → Sounds ks (offered_from ks m (framing bs))
  sounds-framing bs h (sound ms e f lim) =
      let P : List ℕ → Type 0 = λ x. Bytes x in
      moved ks (offered_from ks m (framing bs)) _ (ap (offered_from ks m) e) (sounds-all ks l m 0 ms s (bytes-unit ms (subst P f h)))
  sounds-framing bs h (broken at e b) = moved ks (offered_from ks m (framing bs)) m (ap (offered_from ks m) e) s

  sounds-framed : (r : Result ℕ UnitFault) (bs : List ℕ) → Bytes bs → Sounds ks (offered_from ks m (framed_by r bs))
  sounds-framed (Ok n) bs h = sounds-framing bs h (judgement bs (bytes-are bs h))
  sounds-framed (Err f) bs h = s

-- ---- lists of calls

sounds-if : (ks : Models) (b : Bool) (x y : Meanings ks) → Sounds ks x → Sounds ks y → Sounds ks (cond b x y)
sounds-if ks true x y h i = h
sounds-if ks false x y h i = i

sounds-step : (ks : Models) → Lawfuls ks → (b : Book ks) (c : Asked) → Sounds ks b.1 → Fit c → Sounds ks (step ks b c).1
sounds-step ks l b (picture mark) s h = sounds-turns ks l b.1 mark s
sounds-step ks l b clear s h = sounds-nothing ks l
sounds-step ks l b (message t p) s h = sounds-if ks b.0 _ _ (sounds-judged ks l b.1 t p s h) s
sounds-step ks l b (unit bs fault scratch) s h = sounds-if ks b.0 _ _ (sounds-framed ks l b.1 s (filling bs fault scratch) bs h) s
sounds-step ks l b (look t n buffer) s h = s
sounds-step ks l b (catch_up buffer) s h = s

pub sounds-run : (ks : Models) → Lawfuls ks → (b : Book ks) (cs : List Asked) → Sounds ks b.1 → Fits cs → Sounds ks (run ks b cs).1
sounds-run ks l b [] s h = s
sounds-run ks l b (c ∷ cs) s h = sounds-run ks l (step ks b c) cs (sounds-step ks l b c s h.0) h.1
