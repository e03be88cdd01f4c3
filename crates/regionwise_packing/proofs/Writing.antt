-- A region that is written part by part.
use Rattle.std.proofs.Common.{◌≡◌, ℕ, Bool, eqb, ◌++◌, is_some, sym, ap, ◌∙◌}
use Rattle.layouts.specs.Bits.{bit, word}
use Rattle.fields.specs.Groups.{WritesGroup}
use Rattle.layouts.specs.Layout.{Layout, judge}
use Rattle.fields.specs.Writing.{Sheet, put, lays}
use Rattle.fields.proofs.Groups.{bit_is}
use Rattle.regionwise_packing.specs.declared.region.Region.{Region}
use Rattle.regionwise_packing.specs.declared.shapes.Rectangle.{Rectangle}
use Rattle.regionwise_packing.specs.declared.shapes.Size.{Size}
use Rattle.regionwise_packing.specs.Regions.{rectangle_numbers, judgement, rectangle, guard_band_if, region_bits, region}
use Rattle.regionwise_packing.specs.Numbers.{option_numbers, region_numbers}
use Rattle.regionwise_packing.specs.Makings.{WritesFour, rectangle_four}
use Rattle.regionwise_packing.specs.Transforms.{transform_number}

pub region-written : (r : Region) (s0 s1 s2 s3 s4 s5 s6 : Sheet) (n : ℕ) (g : Bool) → n ≡ transform_number r.transform → s1 ≡ put (word 4 0) s0 → s2 ≡ put (word 3 n) s1 → g ≡ is_some r.guard → s3 ≡ put (word 1 (bit g)) s2
    → WritesFour 32 (rectangle_four r.projected) s3 s4
    → WritesFour 16 (rectangle_four r.packed) s4 s5
    → WritesGroup (guard_band_if (is_some r.guard)) (option_numbers r.guard) s5 s6
    → (z : Size ℕ) → WritesGroup (region z) (region_numbers r) s0 s6
region-written r s0 s1 s2 s3 s4 s5 s6 n g m a b h c d e f z l vs =
    let o = is_some r.guard in
    let rest : Bool → Rectangle ℕ → Rectangle ℕ → Layout = λ x p k. guard_band_if x (judge (region_bits x) (judgement z p k) l) in
    let tail : Bool → Layout = λ x. rectangle 32 λ p. rectangle 16 λ k. rest x p k in
    let ns = rectangle_numbers r.projected ++ (rectangle_numbers r.packed ++ (option_numbers r.guard ++ vs)) in
    let at3 : put (word 1 (bit o)) (put (word 3 (transform_number r.transform)) (put (word 4 0) s0)) ≡ s3 =
    (λ i. put (word 1 (bit o)) (put (word 3 (sym m i)) (sym a i))) ∙ ap (put (word 1 (bit o))) (sym b) ∙ ap (λ x. put (word 1 (bit x)) s2) (sym h) ∙ sym c in
    ap (λ s. lays (tail (eqb (bit o) 1)) ns s) at3 ∙ ap (λ x. lays (tail x) ns s3) (bit_is o)
    ∙ d (λ w v t q. rectangle 16 λ k. rest o (record { width = w; height = v; top = t; left = q }) k) (rectangle_numbers r.packed ++ (option_numbers r.guard ++ vs))
    ∙ e (λ w v t q. rest o r.projected (record { width = w; height = v; top = t; left = q })) (option_numbers r.guard ++ vs)
    ∙ f (judge (region_bits o) (judgement z r.projected r.packed) l) vs
