-- A packing that is read and written part by part, behind its cancel bit.
use Rattle.std.proofs.Common.{◌≡◌, ℕ, Bool, List, [], ◌∷◌, ◌++◌, Ok, Err, sym, ap, ◌∙◌, append-nil}
use Rattle.layouts.specs.declared.fault.FieldFault.{FieldFault}
use Rattle.layouts.specs.Bits.{bit}
use Rattle.fields.specs.Groups.{before, WritesGroup}
use Rattle.layouts.specs.Layout.{Left, and_then, counted, closing, closes, Layout, close, reserved, field, flag, times, u, within, next, reads}
use Rattle.fields.specs.Writing.{Sheet, put, lays}
use Rattle.fields.proofs.Groups.{before-before, field-reads, reserved-reads}
use Rattle.regionwise_packing.specs.declared.shapes.Size.{Size}
use Rattle.regionwise_packing.specs.Regions.{region}
use Rattle.regionwise_packing.specs.Packing.{size_numbers, sizes, packing, content}

module _ (s0 s1 s2 s3 s4 : Left) (a b : Bool) (v n : ℕ) (persistence : next (u 1) s0 ≡ Ok (bit a, s1)) (matching : next (u 1) s1 ≡ Ok (bit b, s2)) (blank : next (u 5) s2 ≡ Ok (v, s3)) (count : next (within (u 8) (counted 32)) s3 ≡ Ok (n, s4)) where
  behind-count : (l : Layout) → reads (packing l) s0 ≡ before (bit a ∷ bit b ∷ n ∷ []) (reads (sizes λ _ k. times n (region k) l) s4)
  behind-count l =
      let rest : ℕ → Layout = λ m. sizes λ _ k. times m (region k) l in
      field-reads (u 1) (λ _. flag λ _. reserved 5 (field (within (u 8) (counted 32)) rest)) s0 s1 (bit a) persistence
      ∙ ap (before (bit a ∷ []))
      (field-reads (u 1) (λ _. reserved 5 (field (within (u 8) (counted 32)) rest)) s1 s2 (bit b) matching
      ∙ ap (before (bit b ∷ [])) (reserved-reads 5 (field (within (u 8) (counted 32)) rest) s2 s3 v blank ∙ field-reads (within (u 8) (counted 32)) rest s3 s4 n count)
      ∙ before-before (bit b ∷ []) (n ∷ []) (reads (rest n) s4))
      ∙ before-before (bit a ∷ []) (bit b ∷ n ∷ []) (reads (rest n) s4)

  pub packing-sizes : (e : FieldFault) → ((l : Size ℕ → Size ℕ → Layout) → reads (sizes l) s4 ≡ Err e) → (l : Layout) → reads (packing l) s0 ≡ Err e
  packing-sizes e f l = behind-count l ∙ ap (before (bit a ∷ bit b ∷ n ∷ [])) (f (λ _ k. times n (region k) l))

  module _ (s5 : Left) (p k : Size ℕ) (sized : (l : Size ℕ → Size ℕ → Layout) → reads (sizes l) s4 ≡ before (size_numbers p k) (reads (l p k) s5)) where
    behind-sizes : (l : Layout) → reads (packing l) s0 ≡ before (bit a ∷ bit b ∷ n ∷ size_numbers p k) (reads (times n (region k) l) s5)
    behind-sizes l =
        behind-count l ∙ ap (before (bit a ∷ bit b ∷ n ∷ [])) (sized (λ _ q. times n (region q) l))
        ∙ before-before (bit a ∷ bit b ∷ n ∷ []) (size_numbers p k) (reads (times n (region k) l) s5)

    pub packing-regions : (e : FieldFault) → ((l : Layout) → reads (times n (region k) l) s5 ≡ Err e) → (l : Layout) → reads (packing l) s0 ≡ Err e
    packing-regions e f l = behind-sizes l ∙ ap (before (bit a ∷ bit b ∷ n ∷ size_numbers p k)) (f l)

    pub packing-whole : (s6 : Left) (m : ℕ) (ns : List ℕ) → ((l : Layout) → reads (times n (region k) l) s5 ≡ before ns (reads l s6)) → m ≡ n → (l : Layout) → reads (packing l) s0 ≡ before (bit a ∷ bit b ∷ m ∷ (size_numbers p k ++ ns)) (reads l s6)
    packing-whole s6 m ns f e l =
        behind-sizes l ∙ ap (before (bit a ∷ bit b ∷ n ∷ size_numbers p k)) (f l) ∙ before-before (bit a ∷ bit b ∷ n ∷ size_numbers p k) ns (reads l s6)
        ∙ ap (λ x. before (bit a ∷ bit b ∷ x ∷ (size_numbers p k ++ ns)) (reads l s6)) (sym e)

-- ---- to its end

module _ (s1 s2 : Left) (ns : List ℕ) (whole : (l : Layout) → reads (packing l) s1 ≡ before ns (reads l s2)) where
  pub content-close : (e : FieldFault) → Err e ≡ closes s2 → reads content s1 ≡ Err e
  content-close e f = whole close ∙ ap (λ r. before ns (and_then r (λ _. Ok []))) (sym f)

  pub content-whole : Ok tt ≡ closes s2 → reads content s1 ≡ Ok ns
  content-whole f = whole close ∙ ap (λ r. before ns (and_then r (λ _. Ok []))) (sym f) ∙ ap Ok (append-nil ns)

pub content-written : (ns : List ℕ) (s1 s2 s3 : Sheet) → WritesGroup packing ns s1 s2 → s3 ≡ put (closing s2.place) s2 → s3 ≡ lays content ns s1
content-written ns s1 s2 s3 b c = c ∙ sym (ap (λ x. lays content x s1) (sym (append-nil ns)) ∙ b close [])
