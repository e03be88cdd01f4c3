-- When a unit is sound, and where it is broken.
use Rattle.std.proofs.Common.{◌≡◌, ℕ, zero, suc, ◌+◌, ◌-◌, ◌<◌, Bool, true, false, cond, eqb, ltb, ◌⊎◌, List, [], ◌∷◌, ◌++◌, length, get_or, take, drop, Some, None, Ok, Err, Result, sym, refl, ap, ◌∙◌, subst, inl, inr, append_assoc, arith, length-append, take-append-drop}
use Rattle.std.proofs.Math.Pow.{are_bytes}
use Rattle.std.proofs.lemmas.List.{append-nil, nil_from_length, drop_more, drop_all, take_at, get_or_at}
use Rattle.std.proofs.lemmas.Bool.{cases_Bool, cond-true, cond-false, eq-eqb, ne_eqb, eqb-true, eqb-false, lt-ltb, ltb-true, and_parts, and_from}
use Rattle.layouts.specs.Frames.{Message, framed, frames}
use Rattle.layouts.proofs.Framed.{length-count, length-framed}
use Rattle.units.specs.declared.fault.UnitFault.{UnitFault}
use Rattle.units.specs.declared.fault.UnitFault.TheVariants.{Frame}
use Rattle.units.specs.declared.unescaped.Zeros.TheVariants.{None as NoZero}
use Rattle.units.specs.Units.{AllLimited, unit_bytes, message, heard, unheard, placed, judged_body, judged}
use Rattle.units.specs.Laws.{Broken, last, behind, Lawful}
use Rattle.units.proofs.Parts.{message-nil, unheard-stops}
use Rattle.units.proofs.Escapes.{opened-escaped}
use Rattle.units.proofs.Frames.{message-framed, heard-frames, unheard-frames, back-parts}

-- a unit by its last byte
abbrev body : List ℕ → List ℕ
body bs = take (length bs - 1) bs

abbrev final : List ℕ → ℕ
final bs = get_or bs (length bs - 1) 0

ends : (bs : List ℕ) → 0 < length bs → bs ≡ body bs ++ (final bs ∷ [])
ends bs h =
    let d : drop (length bs - 1) bs ≡ final bs ∷ [] = drop_more bs (length bs - 1) 0 (omega arith) ∙ ap (λ (l : List ℕ). final bs ∷ l) (drop_all (length bs - 1 + 1) bs (omega arith)) in
    sym (take-append-drop (length bs - 1) bs) ∙ ap (λ (l : List ℕ). body bs ++ l) d

judged-none : (bs : List ℕ) → length bs ≡ 0 → judged bs ≡ Ok []
judged-none bs h = cond-true (eqb (length bs) 0) (Ok []) _ (eq-eqb (length bs) 0 h)

judged-some : (bs : List ℕ) → 0 < length bs → judged bs ≡ cond (eqb (final bs) 128) (judged_body (body bs)) (Err (Frame (length bs - 1)))
judged-some bs h = cond-false (eqb (length bs) 0) (Ok []) _ (ne_eqb (length bs) 0 (λ e. omega arith))

abbrev whole : List ℕ → Bool
whole bs = cond (ltb 0 (length bs)) (eqb (length (unheard bs)) 0) false

whole_parts : (bs : List ℕ) → whole bs ≡ true → (0 < length bs) × (length (unheard bs) ≡ 0)
whole_parts bs e = go (ltb 0 (length bs)) refl e
  where
    go : (t : Bool) → ltb 0 (length bs) ≡ t → cond t (eqb (length (unheard bs)) 0) false ≡ true → (0 < length bs) × (length (unheard bs) ≡ 0)
    go true f e = (ltb-true 0 (length bs) f, eqb-true (length (unheard bs)) 0 e)
    go false f e = absurd (let z : ◌≡◌ {A = ℕ} 0 1 = cc in omega arith)

-- messages without their places
unplaced : List (ℕ × Message) → List Message
unplaced [] = []
unplaced (x ∷ xs) = x.1 ∷ unplaced xs

unplaced-placed : (at : ℕ) (ms : List Message) → unplaced (placed at ms) ≡ ms
unfolding unplaced
unplaced-placed at [] = refl
unplaced-placed at (m ∷ ms) = ap (λ (l : List Message). m ∷ l) (unplaced-placed (at + length (framed m)) ms)

same-placed : (ms ns : List Message) → ◌≡◌ {A = Result (List (ℕ × Message)) UnitFault} (Ok (placed 0 ms)) (Ok (placed 0 ns)) → ms ≡ ns
same-placed ms ns e =
    let f : placed 0 ms ≡ placed 0 ns = cc in
    sym (unplaced-placed 0 ms) ∙ (ap unplaced f ∙ unplaced-placed 0 ns)

-- the framing of messages is read as them
pub unit-judged : (ms : List Message) → AllLimited ms → judged (unit_bytes ms) ≡ Ok (placed 0 ms)
unit-judged [] h = refl
unit-judged (m ∷ ms) h =
    let fs : List ℕ = frames (m ∷ ms) in
    let bs : List ℕ = fs ++ (128 ∷ []) in
    let n : length bs ≡ length fs + 1 = length-append fs (128 ∷ []) in
    let long : 0 < length fs = omega (arith, length-append (framed m) (frames ms), length-framed m.0 m.1) in
    let i : length fs ≡ length bs - 1 = omega arith in
    let b : body bs ≡ fs = take_at fs (128 ∷ []) (length bs - 1) i in
    let f : final bs ≡ 128 = get_or_at fs 128 [] 0 (length bs - 1) i in
    let nil : fs ≡ fs ++ [] = sym (append-nil fs) in
    let heard_all : heard fs ≡ m ∷ ms = ap heard nil ∙ heard-frames (m ∷ ms) [] h message-nil in
    let left_none : unheard fs ≡ [] = ap unheard nil ∙ unheard-frames (m ∷ ms) [] h message-nil in
    judged-some bs (omega arith)
    ∙ (cond-true (eqb (final bs) 128) _ _ (eq-eqb (final bs) 128 f)
    ∙ (ap judged_body b
    ∙ (cond-true (whole fs) _ _ (cond-true (ltb 0 (length fs)) _ false (lt-ltb 0 (length fs) long) ∙ eq-eqb (length (unheard fs)) 0 (ap length left_none))
    ∙ ap (λ (l : List Message). Ok (placed 0 l)) heard_all)))

unit-some : (ms : List Message) → 0 < length (frames ms) → unit_bytes ms ≡ frames ms ++ (128 ∷ [])
unit-some [] h = absurd (omega arith)
unit-some (m ∷ ms) h = refl

-- what any bytes are judged to be
pub data Judged (bs : List ℕ) : Type 0 where
  sound : (ms : List Message) → judged bs ≡ Ok (placed 0 ms) → bs ≡ unit_bytes ms → AllLimited ms → Judged bs
  broken : (at : ℕ) → judged bs ≡ Err (Frame at) → Broken bs at → Judged bs

bytes_take : (n : ℕ) (bs : List ℕ) → are_bytes bs ≡ true → are_bytes (take n bs) ≡ true
bytes_take zero bs h = refl
bytes_take (suc n) [] h = refl
bytes_take (suc n) (b ∷ bs) h =
    let p : (ltb b 256 ≡ true) × (are_bytes bs ≡ true) = and_parts (ltb b 256) (are_bytes bs) h in
    and_from (ltb b 256) (are_bytes (take n bs)) p.0 (bytes_take n bs p.1)

-- a unit that ends with 80
module _ (bs : List ℕ) (some : 0 < length bs) (ended : final bs ≡ 128) (bytes : are_bytes bs ≡ true) where
  before : judged bs ≡ judged_body (body bs)
  before = judged-some bs some ∙ cond-true (eqb (final bs) 128) _ _ (eq-eqb (final bs) 128 ended)

  parts : (body bs ≡ frames (heard (body bs)) ++ unheard (body bs)) × AllLimited (heard (body bs))
  parts = back-parts (length (body bs)) (body bs) (bytes_take (length bs - 1) bs bytes)

  closed : bs ≡ body bs ++ (128 ∷ [])
  closed = ends bs some ∙ ap (λ (b : ℕ). body bs ++ (b ∷ [])) ended

  is-sound : whole (body bs) ≡ true → Judged bs
  is-sound e =
      let w : (0 < length (body bs)) × (length (unheard (body bs)) ≡ 0) = whole_parts (body bs) e in
      let ms : List Message = heard (body bs) in
      let all : body bs ≡ frames ms = parts.0 ∙ (ap (λ (l : List ℕ). frames ms ++ l) (nil_from_length (unheard (body bs)) w.1) ∙ append-nil (frames ms)) in
      sound ms (before ∙ cond-true (whole (body bs)) _ _ e) (closed ∙ (ap (λ (l : List ℕ). l ++ (128 ∷ [])) all ∙ sym (unit-some ms (omega (arith, w.0, ap length all))))) parts.1

  is-broken : whole (body bs) ≡ false → Judged bs
  is-broken e =
      let ms : List Message = heard (body bs) in
      let rest : List ℕ = unheard (body bs) in
      let n : length (body bs) ≡ length (frames ms) + length rest = ap length parts.0 ∙ length-append (frames ms) rest in
      broken (length (body bs) - length rest) (before ∙ cond-false (whole (body bs)) _ _ e)
      (behind ms rest (closed ∙ (ap (λ (l : List ℕ). l ++ (128 ∷ [])) parts.0 ∙ append_assoc (frames ms) rest (128 ∷ []))) parts.1 (omega arith)
      (λ m more l i.
      let none : message rest ≡ None = unheard-stops (body bs) in
      let one : message rest ≡ Some (m, more) = ap message i ∙ message-framed m more l in
      let z : ◌≡◌ {A = ℕ} 0 1 = cc in
      omega arith))

pub judgement : (bs : List ℕ) → are_bytes bs ≡ true → Judged bs
judgement bs bytes = by_length (cases_Bool (eqb (length bs) 0))
  where
    by-body : (some : 0 < length bs) (ended : final bs ≡ 128) → (whole (body bs) ≡ true) ⊎ (whole (body bs) ≡ false) → Judged bs
    by-body some ended (inl e) = is-sound bs some ended bytes e
    by-body some ended (inr e) = is-broken bs some ended bytes e

    by_last : (some : 0 < length bs) → (eqb (final bs) 128 ≡ true) ⊎ (eqb (final bs) 128 ≡ false) → Judged bs
    by_last some (inl e) = by-body some (eqb-true (final bs) 128 e) (cases_Bool (whole (body bs)))
    by_last some (inr e) = broken (length bs - 1) (judged-some bs some ∙ cond-false (eqb (final bs) 128) _ _ e) (last (omega arith) (eqb-false (final bs) 128 e))

    by_length : (eqb (length bs) 0 ≡ true) ⊎ (eqb (length bs) 0 ≡ false) → Judged bs
    by_length (inl e) = let n : length bs ≡ 0 = eqb-true (length bs) 0 e in sound [] (judged-none bs n) (nil_from_length bs n) tt
    by_length (inr e) = let n : length bs ≡ 0 → ⊥ = eqb-false (length bs) 0 e in by_last (omega arith) (cases_Bool (eqb (final bs) 128))

read_back : (bs : List ℕ) (ms : List Message) → Judged bs → judged bs ≡ Ok (placed 0 ms) → (bs ≡ unit_bytes ms) × AllLimited ms
read_back bs ms (sound ns e f l) g =
    let s : ns ≡ ms = same-placed ns ms (sym e ∙ g) in
    (f ∙ ap unit_bytes s, (let P : List Message → Type 0 = λ x. AllLimited x in subst P s l))
read_back bs ms (broken at e b) g = absurd (let z : ◌≡◌ {A = ℕ} 0 1 = cc in omega arith)

either : (bs : List ℕ) → Judged bs → ((ms : List Message) × (judged bs ≡ Ok (placed 0 ms))) ⊎ ((at : ℕ) × (judged bs ≡ Err (Frame at)) × Broken bs at)
either bs (sound ms e f l) = inl (ms, e)
either bs (broken at e b) = inr (at, e, b)

pub lawful : Lawful
lawful = record {
  escapes = λ bs. opened-escaped NoZero bs tt;
  reads = λ bs ms h. ((λ e. read_back bs ms (judgement bs h) e), (λ e. ap judged e.0 ∙ unit-judged ms e.1));
  apart = λ ms ns h k e. same-placed ms ns (sym (unit-judged ms h) ∙ (ap judged e ∙ unit-judged ns k));
  lengths = λ m. omega (arith, length-framed m.0 m.1, length-count m.0, length-count (length m.1));
  judges = λ bs h. either bs (judgement bs h);
}
