-- Fields of one width, one after the other, whatever follows them.
use Rattle.std.specs.Prelude.{◌≡◌, ℕ, zero, suc, List, [], ◌∷◌, ◌++◌, length, Ok, Err, Result, refl}
use Rattle.std.proofs.Common.{ap, ◌∙◌}
use Rattle.layouts.specs.declared.fault.FieldFault.{FieldFault}
use Rattle.layouts.specs.Layout.{Left, and_then, next, Layout, field, u, reads}

-- k fields of w bits
abbrev pub several : ℕ → ℕ → Layout → Layout
several zero w more = more
several (suc k) w more = field (u w) λ _. several k w more

-- these numbers are read one after the other
pub data Walk (w : ℕ) : List ℕ → Left → Left → Type 0 where
  stop : {s : Left} → Walk w [] s s
  go : {n : ℕ} {ns : List ℕ} {s t q : Left} → next (u w) s ≡ Ok (n, t) → Walk w ns t q → Walk w (n ∷ ns) s q

pub same : (r : Result (List ℕ) FieldFault) → r ≡ and_then r (λ vs. Ok vs)
same (Ok vs) = refl
same (Err e) = refl

pub after : (r : Result (List ℕ) FieldFault) (n : ℕ) (f : List ℕ → List ℕ) → and_then (and_then r (λ vs. Ok (f vs))) (λ vs. Ok (n ∷ vs)) ≡ and_then r (λ vs. Ok (n ∷ f vs))
after (Ok vs) n f = refl
after (Err e) n f = refl

pub walk-reads : (w : ℕ) (ns : List ℕ) (s q : Left) → Walk w ns s q → (more : Layout) → reads (several (length ns) w more) s ≡ and_then (reads more q) (λ vs. Ok (ns ++ vs))
walk-reads w [] s q stop more = same (reads more s)
walk-reads w (n ∷ ns) s q (go {t = t} h k) more =
    ap (λ r. and_then r (λ a. and_then (reads (several (length ns) w more) a.1) (λ vs. Ok (a.0 ∷ vs)))) h
    ∙ ap (λ r. and_then r (λ vs. Ok (n ∷ vs))) (walk-reads w ns t q k more)
    ∙ after (reads more q) n (λ vs. ns ++ vs)
