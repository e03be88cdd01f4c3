-- A catch-up that is measured, and then written.
use Rattle.std.proofs.Common.{◌≡◌, ℕ, ◌+◌, ◌<◌, ◌≤◌, Bool, true, false, cond, ltb, leb, List, [], ◌∷◌, ◌++◌, length, take, drop, set, Some, None, Ok, Err, Option, sym, refl, ap, ◌∙◌, arith, length-append, take-append-drop, le-leb}
use Rattle.std.proofs.lemmas.Bool.{lt-ltb, lt-leb, cond-true, cond-false}
use Rattle.layouts.proofs.Framed.{length-count}
use Rattle.layouts.specs.Frames.{Message, framed, frames, under, fronted}
use Rattle.units.specs.Units.{and_then, Limited, AllLimited, unit_bytes}
use Rattle.units.specs.Writings.{put, framed_length, limited, fits}
use Rattle.units.proofs.Writings.{put-put, length-put, put_one}
use Rattle.book.specs.declared.fault.Refusal.TheVariants.{ShortBuffer}
use Rattle.book.specs.Models.{Models, empty, first, both, Meanings, messages}
use Rattle.book.specs.Book.{saved}
use Rattle.sets.specs.declared.parts.Size.{Size}
use Rattle.sets.specs.Parts.{more, sized, sizes, behind, written, writes, closed}
use Rattle.sets.proofs.Written.{length_whole}
use Rattle.book.proofs.Replays.{parts-limited, parts-short}

-- ---- all kinds' parts are their messages

sized-append : (ms ns : List Message) (s : Size) → sized (ms ++ ns) s ≡ and_then (sized ms s) (sized ns)
sized-append [] ns s = refl
sized-append (m ∷ ms) ns s = step (more s m.0 (length m.1)) (sized-append ms ns)
  where
    step : (o : Option Size) → ((x : Size) → sized (ms ++ ns) x ≡ and_then (sized ms x) (sized ns)) → and_then o (sized (ms ++ ns)) ≡ and_then (and_then o (sized ms)) (sized ns)
    step (Some x) h = h x
    step None h = refl

onto : {A B : Type 0} (o : Option A) (f g : A → Option B) → ((a : A) → f a ≡ g a) → and_then o f ≡ and_then o g
onto (Some a) f g h = h a
onto None f g h = refl

pub sizes-all : (ks : Models) (m : Meanings ks) (s : Size) → sizes ks m s ≡ sized (messages ks m) s
sizes-all empty m s = refl
sizes-all (first k ks) m s =
    onto (sized (under k.number (k.part m.0)) s) (sizes ks m.1) (sized (messages ks m.1)) (sizes-all ks m.1)
    ∙ sym (sized-append (under k.number (k.part m.0)) (messages ks m.1) s)
sizes-all (both ks js) m s =
    ap (λ o. and_then o (sizes js m.1)) (sizes-all ks m.0 s)
    ∙ (onto (sized (messages ks m.0) s) (sizes js m.1) (sized (messages js m.1)) (sizes-all js m.1)
    ∙ sym (sized-append (messages ks m.0) (messages js m.1) s))

abbrev Onward : Type 0
Onward = ℕ → List ℕ → Option ℕ × List ℕ

abbrev next : Option ℕ × List ℕ → Onward → Option ℕ × List ℕ
next w f = behind w.0 w.1 f

written-append : (ms ns : List Message) (at : ℕ) (b : List ℕ) → written (ms ++ ns) at b ≡ next (written ms at b) (written ns)
written-append [] ns at b = refl
written-append (m ∷ ms) ns at b = step (fits m.0 (length m.1) at (length b)) (written-append ms ns (at + length (framed m)) (put at (framed m) b))
  where
    step : (t : Bool) → written (ms ++ ns) (at + length (framed m)) (put at (framed m) b) ≡ next (written ms (at + length (framed m)) (put at (framed m) b)) (written ns) →
        cond t (written (ms ++ ns) (at + length (framed m)) (put at (framed m) b)) (None, b) ≡ next (cond t (written ms (at + length (framed m)) (put at (framed m) b)) (None, b)) (written ns)
    step true h = h
    step false h = refl

next-onto : (o : Option ℕ) (b : List ℕ) (f g : Onward) → ((at : ℕ) (x : List ℕ) → f at x ≡ g at x) → behind o b f ≡ behind o b g
next-onto (Some at) b f g h = h at b
next-onto None b f g h = refl

pub writes-all : (ks : Models) (m : Meanings ks) (at : ℕ) (b : List ℕ) → writes ks m at b ≡ written (messages ks m) at b
writes-all empty m at b = refl
writes-all (first k ks) m at b =
    let ms : List Message = under k.number (k.part m.0) in
    next-onto (written ms at b).0 (written ms at b).1 (writes ks m.1) (written (messages ks m.1)) (writes-all ks m.1) ∙ sym (written-append ms (messages ks m.1) at b)
writes-all (both ks js) m at b =
    let ms : List Message = messages ks m.0 in
    ap (λ w. next w (writes js m.1)) (writes-all ks m.0 at b)
    ∙ (next-onto (written ms at b).0 (written ms at b).1 (writes js m.1) (written (messages js m.1)) (writes-all js m.1) ∙ sym (written-append ms (messages js m.1) at b))

-- ---- messages within the limits

fits-limited : (m : Message) (at len : ℕ) → Limited m → at + length (framed m) ≤ len → fits m.0 (length m.1) at len ≡ true
fits-limited m at len l h =
    cond-true (limited m.0 (length m.1)) _ false (cond-true (leb m.0 65535) _ false (le-leb m.0 65535 l.0) ∙ le-leb (length m.1) 65535 l.1)
    ∙ le-leb (at + framed_length m.0 (length m.1)) len (omega (arith, length_whole m.0 m.1))

pub sized-sum : (ms : List Message) (s : Size) → AllLimited ms → s.bytes + length (frames ms) ≤ 65535 → s.messages + length ms ≤ 65535 → sized ms s ≡ Some (record { bytes = s.bytes + length (frames ms); messages = s.messages + length ms })
sized-sum [] s l h i =
    let e : s.bytes ≡ s.bytes + 0 = omega arith in
    let f : s.messages ≡ s.messages + 0 = omega arith in
    ap (λ (x : ℕ). Some (record { bytes = x; messages = s.messages })) e ∙ ap (λ (x : ℕ). Some (record { bytes = s.bytes + 0; messages = x })) f
sized-sum (m ∷ ms) s l h i =
    let n = length-append (framed m) (frames ms) in
    let w = length_whole m.0 m.1 in
    let t : Size = record { bytes = s.bytes + framed_length m.0 (length m.1); messages = s.messages + 1 } in
    let fit : cond (fits m.0 (length m.1) s.bytes 65535) (ltb s.messages 65535) false ≡ true =
    cond-true (fits m.0 (length m.1) s.bytes 65535) _ false (fits-limited m s.bytes 65535 l.0 (omega arith)) ∙ lt-ltb s.messages 65535 (omega arith) in
    let e : t.bytes + length (frames ms) ≡ s.bytes + length (frames (m ∷ ms)) = omega arith in
    let f : t.messages + length ms ≡ s.messages + length (m ∷ ms) = omega arith in
    ap (λ o. and_then o (sized ms)) (cond-true _ (Some t) None fit)
    ∙ (sized-sum ms t l.1 (omega arith) (omega arith)
    ∙ (ap (λ (x : ℕ). Some (record { bytes = x; messages = t.messages + length ms })) e ∙ ap (λ (x : ℕ). Some (record { bytes = s.bytes + length (frames (m ∷ ms)); messages = x })) f))

put-none : (at : ℕ) (b : List ℕ) → put at [] b ≡ b
put-none at b = let e : at + 0 ≡ at = omega arith in ap (λ (n : ℕ). take at b ++ drop n b) e ∙ take-append-drop at b

pub written_all : (ms : List Message) (at : ℕ) (b : List ℕ) → AllLimited ms → at + length (frames ms) ≤ length b → written ms at b ≡ (Some (at + length (frames ms)), put at (frames ms) b)
written_all [] at b l h =
    let e : at ≡ at + 0 = omega arith in
    ap (λ (x : ℕ). (Some x, b)) e ∙ ap (λ (x : List ℕ). (Some (at + 0), x)) (sym (put-none at b))
written_all (m ∷ ms) at b l h =
    let n = length-append (framed m) (frames ms) in
    let long = length-put at (framed m) b (omega arith) in
    let e : at + length (framed m) + length (frames ms) ≡ at + length (frames (m ∷ ms)) = omega arith in
    cond-true (fits m.0 (length m.1) at (length b)) _ _ (fits-limited m at (length b) l.0 (omega arith))
    ∙ (written_all ms (at + length (framed m)) (put at (framed m) b) l.1 (omega arith)
    ∙ (ap (λ (x : ℕ). (Some x, put (at + length (framed m)) (frames ms) (put at (framed m) b))) e ∙ ap (λ (x : List ℕ). (Some (at + length (frames (m ∷ ms))), x)) (put-put at (framed m) (frames ms) b (omega arith))))

-- ---- the catch-up

-- a message takes a byte and more
pub few : (ms : List Message) → length ms ≤ length (frames ms)
few [] = omega arith
few (m ∷ ms) = omega (arith, length-append (framed m) (frames ms), length_whole m.0 m.1, few ms, length-count m.0)

-- how much all parts take
pub sizes-told : (ks : Models) (m : Meanings ks) → AllLimited (messages ks m) → length (frames (messages ks m)) ≤ 65535 →
    sizes ks m (record { bytes = 0; messages = 0 }) ≡ Some (record { bytes = 0 + length (frames (messages ks m)); messages = 0 + length (messages ks m) })
sizes-told ks m l h =
    let ms : List Message = messages ks m in
    sizes-all ks m (record { bytes = 0; messages = 0 }) ∙ sized-sum ms (record { bytes = 0; messages = 0 }) l (omega arith) (omega (arith, few ms))

-- with no message it is no byte
pub saved-none : (ms : List Message) (b : List ℕ) → length ms ≡ 0 → saved ms b ≡ (Ok (record { len = 0; messages = 0 }), b)
saved-none [] b e = cond-true (leb 0 (length b)) _ _ (le-leb 0 (length b) (omega arith))
saved-none (m ∷ ms) b e = absurd (omega arith)

length-unit : (ms : List Message) → 0 < length ms → length (unit_bytes ms) ≡ length (frames ms) + 1
length-unit [] h = absurd (omega arith)
length-unit (m ∷ ms) h = length-append (frames (m ∷ ms)) (128 ∷ [])

unit-some : (ms : List Message) → 0 < length ms → unit_bytes ms ≡ frames ms ++ (128 ∷ [])
unit-some [] h = absurd (omega arith)
unit-some (m ∷ ms) h = refl

-- with no room nothing is written
pub saved-short : (ms : List Message) (b : List ℕ) → 0 < length ms → length b ≤ length (frames ms) → saved ms b ≡ (Err ShortBuffer, b)
saved-short ms b h n = cond-false (leb (length (unit_bytes ms)) (length b)) _ _ (lt-leb (length (unit_bytes ms)) (length b) (omega (arith, length-unit ms h)))

-- with room everything is
pub closed_all : (ms : List Message) (b : List ℕ) → AllLimited ms → 0 < length ms → length (frames ms) < length b → closed (written ms 0 b) ≡ (Some (length (unit_bytes ms)), fronted (unit_bytes ms) b)
closed_all ms b l h n =
    let w = written_all ms 0 b l (omega arith) in
    let c : List ℕ = put 0 (frames ms) b in
    let long : length c ≡ length b = length-put 0 (frames ms) b (omega arith) in
    let at : ℕ = 0 + length (frames ms) in
    let e : at + 1 ≡ length (unit_bytes ms) = omega (arith, length-unit ms h) in
    let zero : 0 + length (unit_bytes ms) ≡ length (unit_bytes ms) = omega arith in
    let f : set c at 128 ≡ fronted (unit_bytes ms) b =
    put_one at 128 c (omega arith)
    ∙ (put-put 0 (frames ms) (128 ∷ []) b (omega arith)
    ∙ (ap (λ (xs : List ℕ). put 0 xs b) (sym (unit-some ms h)) ∙ ap (λ (n : ℕ). unit_bytes ms ++ drop n b) zero)) in
    ap closed w
    ∙ (cond-true (ltb at (length c)) _ _ (lt-ltb at (length c) (omega arith))
    ∙ (ap (λ (x : ℕ). (Some x, set c at 128)) e ∙ ap (λ (x : List ℕ). (Some (length (unit_bytes ms)), x)) f))

pub saved-all : (ms : List Message) (b : List ℕ) → 0 < length ms → length (frames ms) < length b → saved ms b ≡ (Ok (record { len = length (unit_bytes ms); messages = length ms }), fronted (unit_bytes ms) b)
saved-all ms b h n = cond-true (leb (length (unit_bytes ms)) (length b)) _ _ (le-leb (length (unit_bytes ms)) (length b) (omega (arith, length-unit ms h)))

-- what is written of all kinds, where there is room
pub unit-put : (ks : Models) (m : Meanings ks) (b : List ℕ) → AllLimited (messages ks m) → 0 < length (messages ks m) → length (frames (messages ks m)) < length b →
    closed (writes ks m 0 b) ≡ (Some (length (unit_bytes (messages ks m))), fronted (unit_bytes (messages ks m)) b)
unit-put ks m b l some room = ap closed (writes-all ks m 0 b) ∙ closed_all (messages ks m) b l some room

-- what is saved of parts that were measured
pub ruleset saving = (sizes-told, saved-none, saved-short, saved-all, unit-put)

-- what is in force in a visit can be saved
pub ruleset savable = (parts-limited, parts-short)
