-- The rules of the kinds that hold one thing have what rules must have.
use Rattle.std.specs.Prelude.{◌≡◌, ℕ, ◌+◌, ◌/◌, ◌≤◌, Bool, true, false, cond, List, [], ◌∷◌, length, Some, None, Ok, Err, Option, Result, ◌==◌, nat_le, refl}
use Rattle.std.proofs.Common.{ap, subst, ◌∙◌, arith}
use Rattle.std.proofs.lemmas.Bool.{le-leb}
use Rattle.layouts.specs.declared.fault.FieldFault.{FieldFault}
use Rattle.layouts.specs.Layout.{Layout, unless, cancelable, reads, Holds, from}
use Rattle.layouts.specs.Payloads.{size, payload}
use Rattle.layouts.proofs.Extents.{Takes, takes-cancelable}
use Rattle.layouts.proofs.Framed.{length-framed}
use Rattle.layouts.proofs.Layouts.{lawful, length-payload}
use Rattle.records.specs.declared.fault.PayloadFault.{PayloadFault}
use Rattle.records.specs.declared.fault.PayloadFault.TheVariants.{TooLong}
use Rattle.records.specs.Record.{as_payload, reads_as}
use Rattle.kinds.specs.declared.in_force.Stay.{Stay}
use Rattle.kinds.specs.Single.{Ruled}
use Rattle.kinds.specs.Contents.{uncanceled, always, canceling, constant}

pub ok-err : {A B E : Type 0} {a : A} {e : E} → ◌≡◌ {A = Result A E} (Err e) (Ok a) → B
ok-err h = let z : ◌≡◌ {A = ℕ} 0 1 = cc in absurd (omega arith)

none-some : {A : Type 0} {vs : List ℕ} → ◌≡◌ {A = Result (Option (List ℕ)) PayloadFault} (Ok None) (Ok (Some vs)) → A
none-some h = let z : ◌≡◌ {A = ℕ} 0 1 = cc in absurd (omega arith)

-- what a payload reads as holds
pub reads-holds : (l : Layout) (p vs : List ℕ) → reads_as l p ≡ Ok vs → Holds l vs
reads-holds l p vs e = short (nat_le (length p) 65535) e
  where
    fields : (r : Result (List ℕ) FieldFault) → reads l (from p 0) ≡ r → as_payload r ≡ Ok vs → Holds l vs
    fields (Ok ws) f g = (lawful l).reads_records p vs (f ∙ (let h : ws ≡ vs = cc in ap Ok h))
    fields (Err e) f g = ok-err g

    short : (b : Bool) → cond b (as_payload (reads l (from p 0))) (Err TooLong) ≡ Ok vs → Holds l vs
    short true f = fields (reads l (from p 0)) refl f
    short false f = ok-err f

-- a written payload reads as its record
pub reads-payload : (l : Layout) (vs : List ℕ) → Holds l vs → size l vs ≤ 65535 → reads_as l (payload l vs) ≡ Ok vs
reads-payload l vs h short =
    ap (λ b. cond b (as_payload (reads l (from (payload l vs) 0))) (Err TooLong)) (le-leb (length (payload l vs)) 65535 (omega (arith, length-payload l vs)))
    ∙ ap as_payload ((lawful l).reads_as_written vs h)

module _ (number greatest n : ℕ) (content : Layout) (takes : Takes content n) (short : (n + 7) / 8 ≤ 65535) where
  -- without a cancel bit
  pub constant_ruled : number / 255 + 1 + ((n + 7) / 8 / 255 + 1 + (n + 7) / 8) ≤ greatest → Ruled (constant number greatest content)
  constant_ruled most = record {
    says_proper = λ p vs e. said p vs (reads_as content p) refl e;
    says_back = λ vs h. ap always (reads-payload content vs h (omega (arith, takes vs h)));
    fits = λ vs h. omega (arith, length-framed number (payload content vs), length-payload content vs, takes vs h);
  }
    where
      said : (p vs : List ℕ) (r : Result (List ℕ) PayloadFault) → reads_as content p ≡ r → always r ≡ Ok (Some vs) → Holds content vs
      said p vs (Ok ws) f g = reads-holds content p vs (f ∙ (let h : ws ≡ vs = cc in ap Ok h))
      said p vs (Err e) f g = ok-err g

-- what stands behind a cancel bit of 0
behind : (content : Layout) (ws vs : List ℕ) (b : Bool) → Holds (unless b content) ws → ◌≡◌ {A = Result (Option (List ℕ)) PayloadFault} (cond b (Ok None) (Ok (Some ws))) (Ok (Some vs)) → Holds content vs
behind content ws vs true h g = none-some g
behind content ws vs false h g = let e : ws ≡ vs = cc in subst (Holds content) e h

module _ (number greatest n : ℕ) (content : Layout) (takes : Takes content n) (stay : List ℕ → Stay) (short : (n + 8) / 8 ≤ 65535) where
  -- behind a cancel bit
  pub canceling_ruled : number / 255 + 1 + ((n + 8) / 8 / 255 + 1 + (n + 8) / 8) ≤ greatest → Ruled (canceling number greatest content stay)
  canceling_ruled most = record {
    says_proper = λ p vs e. said p vs (reads_as (cancelable content) p) refl e;
    says_back = λ vs h. ap uncanceled (reads-payload (cancelable content) (0 ∷ vs) (omega arith, h) (omega (arith, whole (0 ∷ vs) (omega arith, h))));
    fits = λ vs h. omega (arith, length-framed number (payload (cancelable content) (0 ∷ vs)), length-payload (cancelable content) (0 ∷ vs), whole (0 ∷ vs) (omega arith, h));
  }
    where
      whole : Takes (cancelable content) (1 + n)
      whole = takes-cancelable n content takes

      said : (p vs : List ℕ) (r : Result (List ℕ) PayloadFault) → reads_as (cancelable content) p ≡ r → uncanceled r ≡ Ok (Some vs) → Holds content vs
      said p vs (Ok []) f g = none-some g
      said p vs (Ok (c ∷ ws)) f g = behind content ws vs (c == 1) (reads-holds (cancelable content) p (c ∷ ws) f).1 g
      said p vs (Err e) f g = ok-err g

-- the same for a content whose bits are known to fit a payload
pub canceling_of : (number greatest most : ℕ) (content : Layout) → Takes content most → most ≤ 524279 → (stay : List ℕ → Stay) → number / 255 + 1 + ((most + 8) / 8 / 255 + 1 + (most + 8) / 8) ≤ greatest → Ruled (canceling number greatest content stay)
canceling_of number greatest most content takes few stay = canceling_ruled number greatest most content takes stay (omega (arith, few))
