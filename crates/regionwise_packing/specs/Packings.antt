-- Packings with the same numbers are the same.
use Rattle.std.specs.Prelude.{◌≡◌, ℕ, ◌^◌, ◌<◌, true, List, [], ◌∷◌, ◌++◌, length, drop, is_some, Some, None, Option, slice_index, refl}
use Rattle.std.proofs.Common.{ap, arith}
use Rattle.std.proofs.Math.Bool.{Bool-set}
use mathlib.Core.HLevel.{is_prop→PathP, ×_prop}
use Rattle.std.proofs.Math.Bridge.{le_prop}
use Rattle.layouts.specs.Bits.{bit}
use Rattle.bounded.specs.Bounded.{items}
use Rattle.bounded.proofs.Cells.{bounded-same}
use Rattle.regionwise_packing.specs.declared.RegionwisePacking.{RegionwisePacking}
use Rattle.regionwise_packing.specs.declared.guard_band.GuardBand.{GuardBand}
use Rattle.regionwise_packing.specs.declared.region.Region.{Region}
use Rattle.regionwise_packing.specs.declared.shapes.Rectangle.{Rectangle}
use Rattle.regionwise_packing.specs.declared.shapes.Sides.{Sides}
use Rattle.regionwise_packing.specs.declared.shapes.Size.{Size}
use Rattle.regionwise_packing.specs.Regions.{Sized, Spans, Below, rectangle_numbers, sides_numbers}
use Rattle.regionwise_packing.specs.Numbers.{band_numbers, option_numbers, region_numbers, regions_numbers, all_inside}
use Rattle.regionwise_packing.specs.Packing.{content_numbers}
use Rattle.regionwise_packing.specs.Transforms.{transform-same}
use Rattle.records.proofs.Same.{bit-same}

-- each of these facts has one proof at most
below-prop : (b : ℕ) (s : Sides ℕ) → IsProp (Below b s)
below-prop b s = ×_prop (×_prop le_prop le_prop) (×_prop le_prop le_prop)

sized-prop : (b : ℕ) (s : Size ℕ) → IsProp (Sized b s)
sized-prop b s = ×_prop (×_prop le_prop le_prop) (×_prop le_prop le_prop)

spans-prop : (b : ℕ) (r : Rectangle ℕ) → IsProp (Spans b r)
spans-prop b r = ×_prop (×_prop (×_prop le_prop le_prop) (×_prop le_prop le_prop)) (×_prop le_prop le_prop)

rectangle-same : (r q : Rectangle ℕ) (xs ys : List ℕ) → rectangle_numbers r ++ xs ≡ rectangle_numbers q ++ ys → (r ≡ q) × (xs ≡ ys)
rectangle-same r q xs ys e = (λ i. record { width = slice_index (e i) 0; height = slice_index (e i) 1; top = slice_index (e i) 2; left = slice_index (e i) 3 }, ap (drop 4) e)

sides-same : (r q : Sides ℕ) (xs ys : List ℕ) → sides_numbers r ++ xs ≡ sides_numbers q ++ ys → (r ≡ q) × (xs ≡ ys)
sides-same r q xs ys e = (λ i. record { left = slice_index (e i) 0; right = slice_index (e i) 1; top = slice_index (e i) 2; bottom = slice_index (e i) 3 }, ap (drop 4) e)

band-same : (g h : GuardBand) (xs ys : List ℕ) → band_numbers g ++ xs ≡ band_numbers h ++ ys → (g ≡ h) × (xs ≡ ys)
band-same g h xs ys e =
    let widths = sides-same g.widths h.widths (bit g.not_used ∷ (sides_numbers g.types ++ xs)) (bit h.not_used ∷ (sides_numbers h.types ++ ys)) e in
    let used = bit-same g.not_used h.not_used (ap (λ l. slice_index l 0) widths.1) in
    let types = sides-same g.types h.types xs ys (ap (drop 1) widths.1) in (
      λ i. record {
        widths = widths.0 i;
        not_used = used i;
        types = types.0 i;
        narrow = is_prop→PathP (λ j. Below 256 (widths.0 j)) (λ j. below-prop 256 (widths.0 j)) g.narrow h.narrow i;
        typed = is_prop→PathP (λ j. Below 8 (types.0 j)) (λ j. below-prop 8 (types.0 j)) g.typed h.typed i;
      },
      types.1,
    )

option-same : (o p : Option GuardBand) (xs ys : List ℕ) → bit (is_some o) ≡ bit (is_some p) → option_numbers o ++ xs ≡ option_numbers p ++ ys → (o ≡ p) × (xs ≡ ys)
option-same None None xs ys b e = (refl, e)
option-same None (Some h) xs ys b e = absurd (omega (arith, b))
option-same (Some g) None xs ys b e = absurd (omega (arith, b))
option-same (Some g) (Some h) xs ys b e = let s = band-same g h xs ys e in (ap Some s.0, s.1)

region-same : (r q : Region) (xs ys : List ℕ) → region_numbers r ++ xs ≡ region_numbers q ++ ys → (r ≡ q) × (xs ≡ ys)
region-same r q xs ys e =
    let transform = transform-same r.transform q.transform (ap (λ l. slice_index l 0) e) in
    let wide = rectangle-same r.projected q.projected (rectangle_numbers r.packed ++ (option_numbers r.guard ++ xs)) (rectangle_numbers q.packed ++ (option_numbers q.guard ++ ys)) (ap (drop 2) e) in
    let narrow = rectangle-same r.packed q.packed (option_numbers r.guard ++ xs) (option_numbers q.guard ++ ys) wide.1 in
    let guard = option-same r.guard q.guard xs ys (ap (λ l. slice_index l 1) e) narrow.1 in (
      λ i. record {
        transform = transform i;
        projected = wide.0 i;
        packed = narrow.0 i;
        guard = guard.0 i;
        wide = is_prop→PathP (λ j. Spans (2 ^ 32) (wide.0 j)) (λ j. spans-prop (2 ^ 32) (wide.0 j)) r.wide q.wide i;
        narrow = is_prop→PathP (λ j. Spans (2 ^ 16) (narrow.0 j)) (λ j. spans-prop (2 ^ 16) (narrow.0 j)) r.narrow q.narrow i;
      },
      guard.1,
    )

regions-same : (rs qs : List Region) → length rs ≡ length qs → regions_numbers rs ≡ regions_numbers qs → rs ≡ qs
regions-same [] [] n e = refl
regions-same [] (q ∷ qs) n e = absurd (omega arith)
regions-same (r ∷ rs) [] n e = absurd (omega arith)
regions-same (r ∷ rs) (q ∷ qs) n e =
    let s = region-same r q (regions_numbers rs) (regions_numbers qs) e in
    λ i. s.0 i ∷ regions-same rs qs (omega arith) s.1 i

pub packing-same : (p q : RegionwisePacking) → content_numbers p ≡ content_numbers q → p ≡ q
packing-same p q e =
    let persistence = bit-same p.persistence q.persistence (ap (λ l. slice_index l 0) e) in
    let matching = bit-same p.matching q.matching (ap (λ l. slice_index l 1) e) in
    let projected : p.projected ≡ q.projected = λ i. record { width = slice_index (e i) 3; height = slice_index (e i) 4 } in
    let packed : p.packed ≡ q.packed = λ i. record { width = slice_index (e i) 5; height = slice_index (e i) 6 } in
    let regions = bounded-same p.regions q.regions (regions-same (items p.regions) (items q.regions) (ap (λ l. slice_index l 2) e) (ap (drop 7) e)) in
    λ i. record {
      persistence = persistence i;
      matching = matching i;
      projected = projected i;
      packed = packed i;
      regions = regions i;
      wide = is_prop→PathP (λ j. Sized (2 ^ 32) (projected j)) (λ j. sized-prop (2 ^ 32) (projected j)) p.wide q.wide i;
      narrow = is_prop→PathP (λ j. Sized (2 ^ 16) (packed j)) (λ j. sized-prop (2 ^ 16) (packed j)) p.narrow q.narrow i;
      some = is_prop→PathP (λ j. 0 < length (items (regions j))) (λ j. le_prop) p.some q.some i;
      within = is_prop→PathP (λ j. all_inside (packed j) (items (regions j)) ≡ true) (λ j. Bool-set (all_inside (packed j) (items (regions j))) true) p.within q.within i;
    }
