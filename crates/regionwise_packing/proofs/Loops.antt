-- Regions one after the other: read, written and gathered.
use Rattle.std.proofs.Common.{◌≡◌, ℕ, ◌+◌, ◌-◌, ◌<◌, ◌≤◌, Bool, true, cond, ltb, List, [], ◌∷◌, ◌++◌, length, take, Err, sym, ap, ◌∙◌, append-nil, arith, length-append}
use Rattle.std.proofs.lemmas.Grind.{common_steps, flat_map-append}
use Rattle.layouts.specs.declared.fault.FieldFault.{FieldFault}
use Rattle.fields.specs.Groups.{before}
use Rattle.layouts.specs.Layout.{Left, Layout, times, reads}
use Rattle.fields.specs.Writing.{Sheet, lays}
use Rattle.bounded.proofs.Cells.{pushed}
use Rattle.fields.proofs.Groups.{times_more, times-err}
use Rattle.regionwise_packing.specs.declared.region.Region.{Region}
use Rattle.regionwise_packing.specs.declared.shapes.Size.{Size}
use Rattle.regionwise_packing.specs.Regions.{inside, region}
use Rattle.regionwise_packing.specs.Numbers.{region_numbers, regions_numbers, all_inside}

numbers-push : (rs : List Region) (r : Region) → regions_numbers (rs ++ r ∷ []) ≡ regions_numbers rs ++ region_numbers r
numbers-push rs r = flat_map-append region_numbers rs (r ∷ []) ∙ ap (λ x. regions_numbers rs ++ x) (append-nil (region_numbers r))

inside-push : (z : Size ℕ) (rs : List Region) (r : Region) → all_inside z rs ≡ true → inside z r.packed ≡ true → all_inside z (rs ++ r ∷ []) ≡ true
inside-push z rs r e f = grind (arith, common_steps)

-- i of n regions are read, and all of them lie inside the picture
abbrev pub Read : Size ℕ → ℕ → ℕ → Left → List Region → Left → Type 0
Read z n i s0 rs s =
    ((k : Layout) → reads (times n (region z) k) s0 ≡ before (regions_numbers rs) (reads (times (n - i) (region z) k) s)) × (length rs ≡ i) × (all_inside z rs ≡ true)

pub read-err : (z : Size ℕ) (n i : ℕ) (s0 s : Left) (rs : List Region) (e : FieldFault) → i < n → Read z n i s0 rs s → ((k : Layout) → reads (region z k) s ≡ Err e) → (l : Layout) → reads (times n (region z) l) s0 ≡ Err e
read-err z n i s0 s rs e h inv f l = times-err n i (region z) l (regions_numbers rs) s (reads (times n (region z) l) s0) h (inv.0 l) e f

pub read_more : (z : Size ℕ) (n i : ℕ) (s0 s t : Left) (rs more : List Region) (r : Region) (ok : Bool) → n ≤ 32 → i < n → Read z n i s0 rs s → ((k : Layout) → reads (region z k) s ≡ before (region_numbers r) (reads k t)) → inside z r.packed ≡ true
    → ok ≡ ltb (length rs) 32 → more ≡ cond ok (rs ++ r ∷ []) rs → Read z n (i + 1) s0 more t
read_more z n i s0 s t rs more r ok few h inv one lies e f =
    let g : more ≡ rs ++ r ∷ [] = pushed 32 ok rs more r (omega (arith, inv.1)) e f in (
      λ k. times_more n i (region z) k (regions_numbers rs) s (reads (times n (region z) k) s0) h (inv.0 k) (region_numbers r) t one
          ∙ ap (λ x. before x (reads (times (n - (i + 1)) (region z) k) t)) (sym (numbers-push rs r) ∙ ap regions_numbers (sym g)),
      ap length g ∙ length-append rs (r ∷ []) ∙ ap (λ x. x + 1) inv.1,
      ap (all_inside z) g ∙ inside-push z rs r inv.2 lies,
    )

-- of all regions the last ones are still to be written
abbrev pub Written : List Region → List Region → Sheet → Sheet → Type 0
Written rs more s0 s = (z : Size ℕ) (k : Layout) (vs : List ℕ) → lays (times (length rs) (region z) k) (regions_numbers rs ++ vs) s0 ≡ lays (times (length more) (region z) k) (regions_numbers more ++ vs) s

-- i regions are gathered, all of them inside the picture
abbrev pub Gathered : Size ℕ → ℕ → List Region → List Region → Type 0
Gathered z i rs held = (held ≡ take i rs) × (all_inside z (take i rs) ≡ true)
