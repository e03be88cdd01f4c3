-- Groups of fields that are read one after the other: what is read so far comes before what is read behind it.
use Rattle.std.proofs.Common.{◌≡◌, ℕ, suc, ◌+◌, ◌-◌, ◌<◌, ◌≤◌, Bool, true, false, eqb, List, [], ◌∷◌, ◌++◌, Ok, Err, Result, sym, refl, ap, ◌∙◌, append_assoc, arith}
use Rattle.layouts.specs.declared.fault.FieldFault.{FieldFault}
use Rattle.layouts.specs.Bits.{bit}
use Rattle.fields.specs.Groups.{before}
use Rattle.layouts.specs.Layout.{Left, and_then, Verdict, judged, Code, u, fixed, next, coded_ue, Layout, reserved, field, judge, times, reads}
use Rattle.layouts.proofs.Numbers.{length-word}
use Rattle.layouts.proofs.Fields.{step}
use Rattle.layouts.proofs.Steps.{fixed-narrow}

-- ---- places

pub next_place : (w v : ℕ) (s t : Left) → next (u w) s ≡ Ok (v, t) → t.place ≡ s.place + w
unfolding coded_ue
next_place w v s t e = (step (u w) v s t e).place ∙ ap (λ n. s.place + n) (length-word w v)

pub fixed-place : (w v : ℕ) (s t : Left) → w ≤ 32 → next (fixed w) s ≡ Ok (v, t) → t.place ≡ s.place + w
fixed-place w v s t h e = next_place w v s t (ap (λ c. next c s) (sym (fixed-narrow w h)) ∙ e)

-- ---- a flag

pub bit_is : (b : Bool) → eqb (bit b) 1 ≡ b
bit_is true = refl
bit_is false = refl

-- ---- one part after the other

pub before-before : (xs ys : List ℕ) (r : Result (List ℕ) FieldFault) → before xs (before ys r) ≡ before (xs ++ ys) r
before-before xs ys (Ok vs) = ap Ok (sym (append_assoc xs ys vs))
before-before xs ys (Err e) = refl

-- a field, and what follows it
pub field-reads : (c : Code) (l : ℕ → Layout) (s t : Left) (v : ℕ) → next c s ≡ Ok (v, t) → reads (field c l) s ≡ before (v ∷ []) (reads (l v) t)
field-reads c l s t v e = ap (λ r. and_then r (λ a. and_then (reads (l a.0) a.1) (λ vs. Ok (a.0 ∷ vs)))) e

pub field-err : (c : Code) (l : ℕ → Layout) (s : Left) (e : FieldFault) → next c s ≡ Err e → reads (field c l) s ≡ Err e
field-err c l s e f = ap (λ r. and_then r (λ a. and_then (reads (l a.0) a.1) (λ vs. Ok (a.0 ∷ vs)))) f

pub reserved-reads : (w : ℕ) (l : Layout) (s t : Left) (v : ℕ) → next (u w) s ≡ Ok (v, t) → reads (reserved w l) s ≡ reads l t
reserved-reads w l s t v e = ap (λ r. and_then r (λ a. reads l a.1)) e

pub reserved-err : (w : ℕ) (l : Layout) (s : Left) (e : FieldFault) → next (u w) s ≡ Err e → reads (reserved w l) s ≡ Err e
reserved-err w l s e f = ap (λ r. and_then r (λ a. reads l a.1)) f

-- ---- a judgement

pub judge-reads : (n p : ℕ) (v : Verdict) (l : Layout) (s : Left) → s.place ≡ p + n → reads (judge n v l) s ≡ and_then (judged v p s) (λ t. reads l t)
judge-reads n p v l s e = let f : s.place - n ≡ p = omega arith in ap (λ x. and_then (judged v x s) (λ t. reads l t)) f

-- ---- a group so many times

module _ (n i : ℕ) (group : Layout → Layout) (l : Layout) (done : List ℕ) (s : Left) (whole : Result (List ℕ) FieldFault) (h : i < n) (inv : whole ≡ before done (reads (times (n - i) group l) s)) where
  one-off : n - i ≡ suc (n - (i + 1))
  one-off = omega arith

  now-one : whole ≡ before done (reads (group (times (n - (i + 1)) group l)) s)
  now-one = inv ∙ ap (λ k. before done (reads (times k group l) s)) one-off

  pub times_more : (vs : List ℕ) (t : Left) → ((k : Layout) → reads (group k) s ≡ before vs (reads k t)) → whole ≡ before (done ++ vs) (reads (times (n - (i + 1)) group l) t)
  times_more vs t e = now-one ∙ ap (before done) (e (times (n - (i + 1)) group l)) ∙ before-before done vs (reads (times (n - (i + 1)) group l) t)

  pub times-err : (e : FieldFault) → ((k : Layout) → reads (group k) s ≡ Err e) → whole ≡ Err e
  times-err e f = now-one ∙ ap (before done) (f (times (n - (i + 1)) group l))
