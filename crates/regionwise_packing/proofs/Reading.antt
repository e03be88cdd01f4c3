-- A region that is read part by part and then judged.
use Rattle.std.proofs.Common.{◌≡◌, ℕ, ◌+◌, ◌*◌, ◌<◌, Bool, true, false, cond, ◌&&◌, eqb, ltb, [], ◌∷◌, ◌++◌, is_some, Ok, Err, Option, Result, MatchResult, subst, sym, ap, ◌∙◌, arith}
use Rattle.std.proofs.lemmas.Bool.{lt-ltb, and_parts}
use Rattle.layouts.specs.declared.fault.FieldFault.{FieldFault}
use Rattle.layouts.specs.declared.fault.FieldFault.TheVariants.{OutOfRange, PastLimit}
use Rattle.layouts.specs.Bits.{bit}
use Rattle.fields.specs.Groups.{before}
use Rattle.layouts.specs.Layout.{Left, and_then, Verdict, fine, out_of_range, past_limit, judged, Layout, field, flag, judge, u, next, reads}
use Rattle.fields.proofs.Groups.{bit_is, before-before, field-reads, reserved-reads, judge-reads, next_place}
use Rattle.regionwise_packing.specs.declared.guard_band.GuardBand.{GuardBand}
use Rattle.regionwise_packing.specs.declared.region.Region.{Region}
use Rattle.regionwise_packing.specs.declared.shapes.Rectangle.{Rectangle}
use Rattle.regionwise_packing.specs.declared.shapes.Size.{Size}
use Rattle.regionwise_packing.specs.Regions.{rectangle_numbers, spans, inside, judgement, four, rectangle, guard_band_if, region_bits, region}
use Rattle.regionwise_packing.specs.Numbers.{option_numbers, region_numbers}
use Rattle.regionwise_packing.specs.Makings.{proper, MakesRegion}
use Rattle.regionwise_packing.specs.Transforms.{transform_number}
use Rattle.regionwise_packing.proofs.Bands.{ReadFour}

-- a region that is made, and where it is not, refused at another place
module _ (t : ℕ) (p k : Rectangle ℕ) (o : Option GuardBand) (made : Result Region FieldFault) (makes : MakesRegion 0 t p k o made) where
  pub made-taken : (r : Region) → MatchResult made (λ x. ◌≡◌ {A = Result Region FieldFault} (Ok r) (Ok x)) (λ _. ⊥) → MakesRegion 0 t p k o (Ok r)
  made-taken r e = taken made makes e
    where
      taken : (m : Result Region FieldFault) → MakesRegion 0 t p k o m → MatchResult m (λ x. ◌≡◌ {A = Result Region FieldFault} (Ok r) (Ok x)) (λ _. ⊥) → MakesRegion 0 t p k o (Ok r)
      taken (Ok x) m f = subst (MakesRegion 0 t p k o) (sym f) m
      taken (Err d) m f = absurd f

  pub made-refused : (place : ℕ) (e : FieldFault) (Q : FieldFault → Type 0) → MatchResult made (λ x. ◌≡◌ {A = Result Region FieldFault} (Err e) (Ok x)) Q → ((d : FieldFault) → Q d → e ≡ OutOfRange place) → MakesRegion place t p k o (Err e)
  made-refused place e Q f says = refused made makes f
    where
      refused : (m : Result Region FieldFault) → MakesRegion 0 t p k o m → MatchResult m (λ x. ◌≡◌ {A = Result Region FieldFault} (Err e) (Ok x)) Q → MakesRegion place t p k o (Err e)
      refused (Ok x) m g = subst (MakesRegion place t p k o) (sym g) m
      refused (Err d) m g = (m.0, says d g)

-- ---- what is left of a region behind its parts

module _ (z : Size ℕ) where
  abbrev judged_rest : Bool → Rectangle ℕ → Rectangle ℕ → Layout → Layout
  judged_rest g p k l = judge (region_bits g) (judgement z p k) l

  abbrev packed_rest : Bool → Rectangle ℕ → Layout → Layout
  packed_rest g p l = rectangle 16 λ k. guard_band_if g (judged_rest g p k l)

  abbrev projected_rest : Bool → Layout → Layout
  projected_rest g l = rectangle 32 λ p. packed_rest g p l

  abbrev guard_rest : Layout → Layout
  guard_rest l = flag λ g. projected_rest g l

  abbrev turn_rest : Layout → Layout
  turn_rest l = field (u 3) λ t. guard_rest l

-- how far a region reaches
region-place : (s0 s1 s2 s3 s4 s5 s6 : Left) (n t : ℕ) (g : Bool) → next (u 4) s0 ≡ Ok (n, s1) → next (u 3) s1 ≡ Ok (t, s2) → next (u 1) s2 ≡ Ok (bit g, s3) → s4.place ≡ s3.place + 4 * 32 → s5.place ≡ s4.place + 4 * 16 → s6.place ≡ s5.place + cond g 48 0
    → s6.place ≡ s0.place + region_bits g
region-place s0 s1 s2 s3 s4 s5 s6 n t true a b c d e f = omega (arith, next_place 4 n s0 s1 a, next_place 3 t s1 s2 b, next_place 1 1 s2 s3 c)
region-place s0 s1 s2 s3 s4 s5 s6 n t false a b c d e f = omega (arith, next_place 4 n s0 s1 a, next_place 3 t s1 s2 b, next_place 1 0 s2 s3 c)

module _ (z : Size ℕ) (s0 s1 : Left) (n : ℕ) (blank : next (u 4) s0 ≡ Ok (n, s1)) where
  behind-blank : (l : Layout) → reads (region z l) s0 ≡ reads (turn_rest z l) s1
  behind-blank l = reserved-reads 4 (turn_rest z l) s0 s1 n blank

  module _ (s2 : Left) (t : ℕ) (turn : next (u 3) s1 ≡ Ok (t, s2)) where
    behind-turn : (l : Layout) → reads (region z l) s0 ≡ before (t ∷ []) (reads (guard_rest z l) s2)
    behind-turn l = behind-blank l ∙ field-reads (u 3) (λ _. guard_rest z l) s1 s2 t turn

    module _ (s3 : Left) (g : Bool) (has : next (u 1) s2 ≡ Ok (bit g, s3)) where
      behind-guard : (l : Layout) → reads (region z l) s0 ≡ before (t ∷ bit g ∷ []) (reads (projected_rest z g l) s3)
      behind-guard l =
          behind-turn l
          ∙ ap (before (t ∷ [])) (field-reads (u 1) (λ v. projected_rest z (eqb v 1) l) s2 s3 (bit g) has ∙ ap (λ b. before (bit g ∷ []) (reads (projected_rest z b l) s3)) (bit_is g))
          ∙ before-before (t ∷ []) (bit g ∷ []) (reads (projected_rest z g l) s3)

      pub region-guard : (e : FieldFault) → ((l : ℕ → ℕ → ℕ → ℕ → Layout) → reads (four 32 l) s3 ≡ Err e) → (l : Layout) → reads (region z l) s0 ≡ Err e
      region-guard e f l = behind-guard l ∙ ap (before (t ∷ bit g ∷ [])) (f (λ a b c d. packed_rest z g (record { width = a; height = b; top = c; left = d }) l))

      module _ (s4 : Left) (p : Rectangle ℕ) (wide : ReadFour 32 s3 p.width p.height p.top p.left s4) where
        behind-wide : (l : Layout) → reads (region z l) s0 ≡ before (t ∷ bit g ∷ rectangle_numbers p) (reads (packed_rest z g p l) s4)
        behind-wide l =
            behind-guard l ∙ ap (before (t ∷ bit g ∷ [])) (wide (λ a b c d. packed_rest z g (record { width = a; height = b; top = c; left = d }) l))
            ∙ before-before (t ∷ bit g ∷ []) (rectangle_numbers p) (reads (packed_rest z g p l) s4)

        pub region-wide : (e : FieldFault) → ((l : ℕ → ℕ → ℕ → ℕ → Layout) → reads (four 16 l) s4 ≡ Err e) → (l : Layout) → reads (region z l) s0 ≡ Err e
        region-wide e f l =
            behind-wide l ∙ ap (before (t ∷ bit g ∷ rectangle_numbers p)) (f (λ a b c d. guard_band_if g (judged_rest z g p (record { width = a; height = b; top = c; left = d }) l)))

        module _ (s5 : Left) (k : Rectangle ℕ) (narrow : ReadFour 16 s4 k.width k.height k.top k.left s5) where
          behind-narrow : (l : Layout) → reads (region z l) s0 ≡ before (t ∷ bit g ∷ (rectangle_numbers p ++ rectangle_numbers k)) (reads (guard_band_if g (judged_rest z g p k l)) s5)
          behind-narrow l =
              behind-wide l ∙ ap (before (t ∷ bit g ∷ rectangle_numbers p)) (narrow (λ a b c d. guard_band_if g (judged_rest z g p (record { width = a; height = b; top = c; left = d }) l)))
              ∙ before-before (t ∷ bit g ∷ rectangle_numbers p) (rectangle_numbers k) (reads (guard_band_if g (judged_rest z g p k l)) s5)

          pub region-narrow : (e : FieldFault) → ((l : Layout) → reads (guard_band_if g l) s5 ≡ Err e) → (l : Layout) → reads (region z l) s0 ≡ Err e
          region-narrow e f l = behind-narrow l ∙ ap (before (t ∷ bit g ∷ (rectangle_numbers p ++ rectangle_numbers k))) (f (judged_rest z g p k l))

          module _ (s6 : Left) (o : Option GuardBand) (band : (l : Layout) → reads (guard_band_if g l) s5 ≡ before (option_numbers o) (reads l s6)) (far4 : s4.place ≡ s3.place + 4 * 32) (far5 : s5.place ≡ s4.place + 4 * 16) (far6 : s6.place ≡ s5.place + cond g 48 0) where
            far : s6.place ≡ s0.place + region_bits g
            far = region-place s0 s1 s2 s3 s4 s5 s6 n t g blank turn has far4 far5 far6

            behind-band : (l : Layout) → reads (region z l) s0 ≡ before (t ∷ bit g ∷ (rectangle_numbers p ++ (rectangle_numbers k ++ option_numbers o))) (and_then (judged (judgement z p k) s0.place s6) (λ x. reads l x))
            behind-band l =
                behind-narrow l ∙ ap (before (t ∷ bit g ∷ (rectangle_numbers p ++ rectangle_numbers k))) (band (judged_rest z g p k l))
                ∙ before-before (t ∷ bit g ∷ (rectangle_numbers p ++ rectangle_numbers k)) (option_numbers o) (reads (judged_rest z g p k l) s6)
                ∙ ap (before (t ∷ bit g ∷ (rectangle_numbers p ++ (rectangle_numbers k ++ option_numbers o)))) (judge-reads (region_bits g) s0.place (judgement z p k) l s6 far)

            verdict-is : (v : Verdict) → judgement z p k ≡ v → (l : Layout) → reads (region z l) s0 ≡ before (t ∷ bit g ∷ (rectangle_numbers p ++ (rectangle_numbers k ++ option_numbers o))) (and_then (judged v s0.place s6) (λ x. reads l x))
            verdict-is v e l = behind-band l ∙ ap (λ x. before (t ∷ bit g ∷ (rectangle_numbers p ++ (rectangle_numbers k ++ option_numbers o))) (and_then (judged x s0.place s6) (λ y. reads l y))) e

            -- a rectangle has no area
            pub region-out : (place : ℕ) (e : FieldFault) → place ≡ s0.place → t < 8 → proper t p k ≡ false → e ≡ OutOfRange place → (l : Layout) → reads (region z l) s0 ≡ Err e
            region-out place e a b c d l =
                let f : spans p k ≡ false = sym (ap (λ x. x && spans p k) (lt-ltb t 8 b)) ∙ c in
                verdict-is out_of_range (ap (λ x. cond x (cond (inside z k) fine past_limit) out_of_range) f) l ∙ ap (λ x. Err (OutOfRange x)) (sym a) ∙ ap Err (sym d)

            module _ (r : Region) (made : (proper t p k ≡ true) × (transform_number r.transform ≡ t) × (r.projected ≡ p) × (r.packed ≡ k) × (r.guard ≡ o)) where
              spanned : spans p k ≡ true
              spanned = (and_parts (ltb t 8) (spans p k) made.0).1

              -- it lies outside the packed picture
              pub region-past : (place : ℕ) → place ≡ s0.place → inside z r.packed ≡ false → (l : Layout) → reads (region z l) s0 ≡ Err (PastLimit place)
              region-past place a b l =
                  let f : inside z k ≡ false = ap (inside z) (sym made.3) ∙ b in
                  verdict-is past_limit (ap (λ x. cond x (cond (inside z k) fine past_limit) out_of_range) spanned ∙ ap (λ x. cond x fine past_limit) f) l ∙ ap (λ x. Err (PastLimit x)) (sym a)

              pub region-whole : is_some o ≡ g → inside z r.packed ≡ true → (l : Layout) → reads (region z l) s0 ≡ before (region_numbers r) (reads l s6)
              region-whole c b l =
                  let f : inside z k ≡ true = ap (inside z) (sym made.3) ∙ b in
                  verdict-is fine (ap (λ x. cond x (cond (inside z k) fine past_limit) out_of_range) spanned ∙ ap (λ x. cond x fine past_limit) f) l
                  ∙ ap (λ x. before (t ∷ bit x ∷ (rectangle_numbers p ++ (rectangle_numbers k ++ option_numbers o))) (reads l s6)) (sym c)
                  ∙ (λ i. before (sym made.1 i ∷ bit (is_some (sym made.4 i)) ∷ (rectangle_numbers (sym made.2 i) ++ (rectangle_numbers (sym made.3 i) ++ option_numbers (sym made.4 i)))) (reads l s6))
