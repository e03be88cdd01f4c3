-- Bytes taken one by one into a scratch, and the three ways to the end.
use Rattle.std.proofs.Common.{◌≡◌, ℕ, ◌+◌, ◌<◌, ◌≤◌, Bool, true, false, leb, List, [], ◌∷◌, ◌++◌, length, get_or, take, drop, set, Some, None, Ok, Err, Option, Result, sym, ap, ◌∙◌, append_assoc, arith, length-drop}
use Rattle.std.proofs.lemmas.List.{take_more, take_all, drop_all, drop_more, set_at, length-take-le}
use Rattle.std.proofs.lemmas.Bool.{cond-true, cond-false, le-leb, lt-leb}
use Rattle.std.specs.Result.{MatchResult}
use Rattle.units.specs.declared.fault.UnitFault.{UnitFault}
use Rattle.units.specs.declared.fault.UnitFault.TheVariants.{Source, Room}
use Rattle.units.specs.declared.source.SourceFault.{SourceFault}
use Rattle.units.specs.Fills.{room, filling, filled, unfilled}
use Rattle.units.specs.Sources.{Pulled}

-- a byte that the source answered
pub pulled : (r : Result (Option ℕ) SourceFault) (o : Option ℕ) (b : ℕ) (xs ys : List ℕ) (f g : Bool) → MatchResult r (λ x. ◌≡◌ {A = Result (Option ℕ) UnitFault} (Ok o) (Ok x)) (λ e. ⊥) → o ≡ Some b → Pulled r xs f ys g →
    (xs ≡ b ∷ ys) × (g ≡ f)
pulled (Ok (Some x)) o b xs ys f g h e p = let i : x ≡ b = cc in (p.0 ∙ ap (λ (n : ℕ). n ∷ ys) i, p.1)
pulled (Ok None) o b xs ys f g h e p = absurd cc
pulled (Err d) o b xs ys f g h e p = absurd h

-- the next byte of those to come
pub come : (bs ys : List ℕ) (n b : ℕ) → drop n bs ≡ b ∷ ys → (n < length bs) × (get_or bs n 0 ≡ b) × (drop (n + 1) bs ≡ ys)
come bs ys n b e =
    let h : n < length bs = omega (arith, ap length e, length-drop n bs) in
    let m : drop n bs ≡ get_or bs n 0 ∷ drop (n + 1) bs = drop_more bs n 0 h in
    (h, cc, cc)

-- none is to come any more
pub done : (bs : List ℕ) (n : ℕ) → n ≤ length bs → drop n bs ≡ [] → length bs ≡ n
done bs n h e = omega (arith, ap length e, length-drop n bs)

pub fill_step : (bs ys s s0 : List ℕ) (n b : ℕ) → n < length s0 → drop n bs ≡ b ∷ ys → s ≡ take n bs ++ drop n s0 → set s n b ≡ take (n + 1) bs ++ drop (n + 1) s0
fill_step bs ys s s0 n b h e f =
    let d : (n < length bs) × (get_or bs n 0 ≡ b) × (drop (n + 1) bs ≡ ys) = come bs ys n b e in
    let g : s ≡ take n bs ++ (get_or s0 n 0 ∷ drop (n + 1) s0) = f ∙ ap (λ (l : List ℕ). take n bs ++ l) (drop_more s0 n 0 h) in
    ap (λ (l : List ℕ). set l n b) g
    ∙ (set_at (take n bs) (get_or s0 n 0) (drop (n + 1) s0) b n (length-take-le n bs (omega arith))
    ∙ (sym (append_assoc (take n bs) (b ∷ []) (drop (n + 1) s0))
    ∙ ap (λ (l : List ℕ). l ++ drop (n + 1) s0) (sym (take_more bs n 0 d.0 ∙ ap (λ (x : ℕ). take n bs ++ (x ∷ [])) d.1))))

-- at the end all bytes have come
module _ (bs s s0 : List ℕ) (n : ℕ) (within : n ≤ room s0) (all : length bs ≡ n) (holds : s ≡ take n bs ++ drop n s0) where
  pub end-bytes : s ≡ filled bs s0
  end-bytes =
      let t : take (room s0) bs ≡ bs = take_all (room s0) bs (omega arith) in
      let u : take n bs ≡ bs = take_all n bs (omega arith) in
      holds ∙ (ap (λ (l : List ℕ). l ++ drop n s0) u ∙ (ap (λ (i : ℕ). bs ++ drop i s0) (sym all) ∙ sym (rw t)))

  pub end-left : (ys : List ℕ) → ys ≡ [] → ys ≡ unfilled bs s0
  end-left ys e = e ∙ sym (drop_all (room s0 + 1) bs (omega arith))

  fits : leb (length bs) (room s0) ≡ true
  fits = le-leb (length bs) (room s0) (omega arith)

  pub end-sound : (fault : Bool) → fault ≡ false → Ok n ≡ filling bs fault s0
  end-sound fault e = sym (cond-true (leb (length bs) (room s0)) _ (Err (Room (room s0))) fits ∙ (cond-false fault _ (Ok (length bs)) e ∙ ap Ok all))

  pub end-fault : (fault : Bool) → fault ≡ true → Err (Source n) ≡ filling bs fault s0
  end-fault fault e = sym (cond-true (leb (length bs) (room s0)) _ (Err (Room (room s0))) fits ∙ (cond-true fault (Err (Source (length bs))) _ e ∙ ap (λ (i : ℕ). Err (Source i)) all))

-- a byte comes behind those that fit
module _ (bs s s0 : List ℕ) (n : ℕ) (full : n ≡ room s0) (more : n < length bs) (holds : s ≡ take n bs ++ drop n s0) where
  pub full-bytes : s ≡ filled bs s0
  full-bytes =
      let t : length (take n bs) ≡ n = length-take-le n bs (omega arith) in
      holds ∙ (ap (λ (i : ℕ). take n bs ++ drop i s0) (sym t) ∙ ap (λ (i : ℕ). take i bs ++ drop (length (take i bs)) s0) full)

  pub full-fault : (fault : Bool) → Err (Room n) ≡ filling bs fault s0
  full-fault fault = sym (cond-false (leb (length bs) (room s0)) _ (Err (Room (room s0))) (lt-leb (length bs) (room s0) (omega arith)) ∙ ap (λ (i : ℕ). Err (Room i)) (sym full))

pub full-left : (bs ys s0 : List ℕ) (n b : ℕ) → n ≡ room s0 → drop n bs ≡ b ∷ ys → ys ≡ unfilled bs s0
full-left bs ys s0 n b full e = sym (come bs ys n b e).2 ∙ ap (λ (i : ℕ). drop (i + 1) bs) full

-- the three ways to the end
pub ruleset fill_ends = (come, done, end-bytes, end-left, end-sound, end-fault, full-bytes, full-fault)
