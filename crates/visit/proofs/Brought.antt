-- The messages of a unit that has filled its scratch.
use Rattle.std.proofs.Common.{◌≡◌, ℕ, zero, suc, ◌+◌, ◌-◌, ◌≤◌, Bool, true, false, cond, eqb, ltb, leb, List, [], ◌∷◌, ◌++◌, length, get_or, take, drop, Some, None, Ok, Err, Option, Result, sym, refl, ap, ◌∙◌, subst, arith, length-take, leb-true}
use Rattle.std.proofs.lemmas.List.{take_at, take_all}
use Rattle.layouts.specs.Frames.{Message, framed}
use Rattle.units.specs.declared.fault.UnitFault.{UnitFault}
use Rattle.units.specs.declared.fault.UnitFault.TheVariants.{Source, Room}
use Rattle.units.specs.Fills.{room, filling, filled}
use Rattle.units.specs.Units.{message, first_message, parts_in, heard, unheard, placed, judged_body, judged}
use Rattle.book.specs.Units.{framed as framed_by, brought}

-- ---- no more messages than bytes

abbrev Few : ℕ → Result (List (ℕ × Message)) UnitFault → Type 0
Few n (Ok xs) = length xs ≤ n
Few n (Err f) = Unit {0}

few-first : (n : ℕ) (o : Option (Message × List ℕ)) (bs : List ℕ) (more : List ℕ → List Message × List ℕ) → ((cs : List ℕ) → length (more cs).0 ≤ n) → length (first_message o bs more).0 ≤ suc n
few-first n None bs more h = omega arith
few-first n (Some m) bs more h = omega (arith, h m.1)

few-parts : (n : ℕ) (bs : List ℕ) → length (parts_in n bs).0 ≤ n
unfolding parts_in
few-parts zero bs = omega arith
few-parts (suc n) bs = few-first n (message bs) bs (parts_in n) (few-parts n)

length-placed : (at : ℕ) (ms : List Message) → length (placed at ms) ≡ length ms
length-placed at [] = refl
length-placed at (m ∷ ms) = omega (arith, length-placed (at + length (framed m)) ms)

few-if : (n : ℕ) (b : Bool) (x y : Result (List (ℕ × Message)) UnitFault) → Few n x → Few n y → Few n (cond b x y)
few-if n true x y h i = h
few-if n false x y h i = i

few-judged : (bs : List ℕ) → Few (length bs) (judged bs)
few-judged bs =
    let body : List ℕ = take (length bs - 1) bs in
    few-if (length bs) (eqb (length bs) 0) (Ok []) _ (omega arith)
    (few-if (length bs) (eqb (get_or bs (length bs - 1) 0) 128) (judged_body body) _
    (few-if (length bs) (cond (ltb 0 (length body)) (eqb (length (unheard body)) 0) false) (Ok (placed 0 (heard body))) _
    (omega (arith, length-placed 0 (heard body), few-parts (length body) body, length-take (length bs - 1) bs)) tt) tt)

pub few-messages : (bs : List ℕ) (xs : List (ℕ × Message)) → Ok xs ≡ judged bs → length xs ≤ length bs
few-messages bs xs e = let P : Result (List (ℕ × Message)) UnitFault → Type 0 = λ r. Few (length bs) r in subst P (sym e) (few-judged bs)

-- a unit's messages can be counted
pub ruleset countable = (few-messages)

-- ---- the bytes of a filled scratch

ok_same : (x y : ℕ) → ◌≡◌ {A = Result ℕ UnitFault} (Ok x) (Ok y) → x ≡ y
ok_same x y e = cc

err-never : (f : UnitFault) (x : ℕ) → ◌≡◌ {A = Result ℕ UnitFault} (Ok x) (Err f) → ⊥
err-never f x e = let z : ◌≡◌ {A = ℕ} 0 1 = cc in omega arith

whole : (fit fault : Bool) (n r len : ℕ) → ◌≡◌ {A = Result ℕ UnitFault} (Ok len) (cond fit (cond fault (Err (Source n)) (Ok n)) (Err (Room r))) → (fit ≡ true) × (len ≡ n)
whole true true n r len e = absurd (err-never (Source n) len e)
whole true false n r len e = (refl, ok_same len n e)
whole false fault n r len e = absurd (err-never (Room r) len e)

pub brought-whole : (bs scratch after : List ℕ) (fault : Bool) (len : ℕ) → Ok len ≡ filling bs fault scratch → after ≡ filled bs scratch → brought bs fault scratch ≡ judged (take (len - 0) after)
brought-whole bs scratch after fault len e f =
    let w = whole (leb (length bs) (room scratch)) fault (length bs) (room scratch) len e in
    let fit : length bs ≤ room scratch = leb-true (length bs) (room scratch) w.0 in
    let all : take (room scratch) bs ≡ bs = take_all (room scratch) bs fit in
    let front : take (len - 0) after ≡ bs =
    ap (take (len - 0)) (f ∙ ap (λ (x : List ℕ). x ++ drop (length x) scratch) all) ∙ take_at bs (drop (length bs) scratch) (len - 0) (omega (arith, w.1)) in
    ap (λ r. framed_by r bs) (sym e) ∙ ap judged (sym front)

-- what a filled scratch brings
pub ruleset filling_brought = (brought-whole)
