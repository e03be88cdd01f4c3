-- Bytes that were escaped, and what is left when that is removed again.
use Rattle.std.proofs.Common.{◌≡◌, ℕ, ◌<◌, Bool, true, false, cond, eqb, leb, ◌⊎◌, List, [], ◌∷◌, Ok, Result, refl, ap, ◌∙◌, inl, inr, arith}
use Rattle.std.proofs.lemmas.Bool.{cases_Bool, cond-true, cond-false, leb-false, lt-leb, ne_eqb}
use Rattle.units.specs.declared.source.SourceFault.{SourceFault}
use Rattle.units.specs.declared.unescaped.Zeros.{Zeros}
use Rattle.units.specs.declared.unescaped.Zeros.TheVariants.{None, One, Two, Removed}
use Rattle.units.specs.Escapes.{after, faults, weighed, kept, onward, opened, escaped_from}

-- bytes are escaped behind zeros alone
abbrev Bare : Zeros → Type 0
Bare None = Unit {0}
Bare One = Unit {0}
Bare Two = Unit {0}
Bare Removed = ⊥

bare-cond : (t : Bool) (y z : Zeros) → Bare y → Bare z → Bare (cond t y z)
bare-cond true y z h k = h
bare-cond false y z h k = k

-- a byte that is handed over
handed : (z : Zeros) (b : ℕ) (bs : List ℕ) (r : List ℕ × Bool) → Bare z → r ≡ (bs, false) → ◌≡◌ {A = List ℕ × Bool} (kept z b r.0, r.1) (b ∷ bs, false)
handed Removed b bs r h e = absurd h
handed z b bs r h e = ap (λ (x : List ℕ × Bool). (b ∷ x.0, x.1)) e

removed-high : (b : ℕ) → leb b 3 ≡ false → weighed Two b ≡ Ok None
removed-high b e =
    let h : 3 < b = leb-false b 3 e in
    cond-false (leb b 2) faults _ (lt-leb b 2 (omega arith)) ∙ cond-false (eqb b 3) (Ok Removed) (Ok None) (ne_eqb b 3 (λ i. omega arith))

pub opened-escaped : (z : Zeros) (bs : List ℕ) → Bare z → opened z (escaped_from z bs) false ≡ (bs, false)
opened-escaped None [] h = refl
opened-escaped One [] h = refl
opened-escaped Two [] h = refl
opened-escaped Removed bs h = absurd h
opened-escaped None (b ∷ bs) h = let k : Bare (after None b) = bare-cond (eqb b 0) One None tt tt in handed (after None b) b bs _ k (opened-escaped (after None b) bs k)
opened-escaped One (b ∷ bs) h = let k : Bare (after One b) = bare-cond (eqb b 0) Two None tt tt in handed (after One b) b bs _ k (opened-escaped (after One b) bs k)
opened-escaped Two (b ∷ bs) h = go (cases_Bool (leb b 3)) (opened-escaped (after Removed b) bs (bare-cond (eqb b 0) One None tt tt)) (opened-escaped None bs tt)
  where
    rest : Zeros → List ℕ × Bool
    rest z = opened z (escaped_from (after Removed b) bs) false

    go : (leb b 3 ≡ true) ⊎ (leb b 3 ≡ false) → opened (after Removed b) (escaped_from (after Removed b) bs) false ≡ (bs, false) → opened None (escaped_from None bs) false ≡ (bs, false) → opened Two (escaped_from Two (b ∷ bs)) false ≡ (b ∷ bs, false)
    go (inl e) low high =
        ap (λ (l : List ℕ). opened Two l false) (cond-true (leb b 3) _ _ e)
        ∙ (ap (λ (f : Result Zeros SourceFault). onward f b (λ z. opened z (escaped_from (after Removed b) bs) false)) (cond-true (leb b 3) (Ok (after Removed b)) faults e) ∙ handed (after Removed b) b bs _ (bare-cond (eqb b 0) One None tt tt) low)
    go (inr e) low high =
        ap (λ (l : List ℕ). opened Two l false) (cond-false (leb b 3) _ _ e)
        ∙ (ap (λ (f : Result Zeros SourceFault). onward f b (λ z. opened z (escaped_from None bs) false)) (removed-high b e) ∙ handed None b bs _ tt high)
