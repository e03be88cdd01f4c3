-- A packing's numbers are those of a payload.
use Rattle.std.specs.Prelude.{◌≡◌, ℕ, ◌<◌, ◌≤◌, Bool, true, cond, List, [], ◌∷◌, ◌++◌, length, is_some, Some, None, Option, ◌==◌, nat_le}
use Rattle.std.proofs.Common.{ap, ◌∙◌, arith}
use Rattle.std.proofs.lemmas.Bool.{and_parts, and_from, lt-ltb, le-leb, ne_eqb}
use Rattle.layouts.specs.Bits.{bit}
use Rattle.bounded.specs.Bounded.{items}
use Rattle.layouts.specs.Layout.{Verdict, fine, out_of_range, past_limit, positive, counted, Layout, close, judge, times, Holds}
use Rattle.bounded.proofs.Cells.{items-few}
use Rattle.records.proofs.Same.{bit_below}
use Rattle.regionwise_packing.specs.declared.RegionwisePacking.{RegionwisePacking}
use Rattle.regionwise_packing.specs.declared.guard_band.GuardBand.{GuardBand}
use Rattle.regionwise_packing.specs.declared.region.Region.{Region}
use Rattle.regionwise_packing.specs.declared.shapes.Size.{Size}
use Rattle.regionwise_packing.specs.Regions.{spans, inside, judgement, guard_band_if, region_bits, region}
use Rattle.regionwise_packing.specs.Numbers.{option_numbers, region_numbers, regions_numbers, all_inside}
use Rattle.regionwise_packing.specs.Packing.{content, content_numbers}
use Rattle.regionwise_packing.specs.Transforms.{transform-below}

pub positive-fine : (n : ℕ) → 0 < n → positive n ≡ fine
positive-fine n h = ap (λ b. cond b out_of_range fine) (ne_eqb n 0 (λ e. omega arith))

pub counted-fine : (m n : ℕ) → 0 < n → n ≤ m → counted m n ≡ fine
counted-fine m n h k = ap (λ b. cond b out_of_range (cond (nat_le n m) fine past_limit)) (ne_eqb n 0 (λ e. omega arith)) ∙ ap (λ b. cond b fine past_limit) (le-leb n m k)

region-fine : (z : Size ℕ) (r : Region) → inside z r.packed ≡ true → judgement z r.projected r.packed ≡ fine
region-fine z r e =
    let p = r.wide.0 in
    let k = r.narrow.0 in
    let s : spans r.projected r.packed ≡ true =
    and_from _ _ (and_from _ _ (lt-ltb 0 r.projected.width p.0.0) (lt-ltb 0 r.projected.height p.1.0)) (and_from _ _ (lt-ltb 0 r.packed.width k.0.0) (lt-ltb 0 r.packed.height k.1.0)) in
    ap (λ b. cond b (cond (inside z r.packed) fine past_limit) out_of_range) s ∙ ap (λ b. cond b fine past_limit) e

guard-holds : (o : Option GuardBand) (n : Bool → ℕ) (v : Verdict) (l : Layout) (vs : List ℕ) → v ≡ fine → Holds l vs → Holds (guard_band_if (bit (is_some o) == 1) (judge (n (bit (is_some o) == 1)) v l)) (option_numbers o ++ vs)
guard-holds None n v l vs e h = (e, h)
guard-holds (Some g) n v l vs e h =
    let w = g.narrow in
    let t = g.typed in
    (w.0.0, (w.0.1, (w.1.0, (w.1.1, (bit_below g.not_used, (t.0.0, (t.0.1, (t.1.0, (t.1.1, (e, h))))))))))

region-holds : (z : Size ℕ) (r : Region) (l : Layout) (vs : List ℕ) → inside z r.packed ≡ true → Holds l vs → Holds (region z l) (region_numbers r ++ vs)
region-holds z r l vs e h =
    let p = r.wide in
    let k = r.narrow in
    (transform-below r.transform, (bit_below (is_some r.guard), (p.0.0.1, (p.0.1.1, (p.1.0, (p.1.1, (k.0.0.1, (k.0.1.1, (k.1.0, (k.1.1, guard-holds r.guard region_bits (judgement z r.projected r.packed) l vs (region-fine z r e) h))))))))))

regions-holds : (z : Size ℕ) (rs : List Region) → all_inside z rs ≡ true → Holds (times (length rs) (region z) close) (regions_numbers rs)
regions-holds z [] e = tt
regions-holds z (r ∷ rs) e =
    let s = and_parts (inside z r.packed) (all_inside z rs) e in
    region-holds z r (times (length rs) (region z) close) (regions_numbers rs) s.0 (regions-holds z rs s.1)

pub packing-holds : (p : RegionwisePacking) → Holds content (content_numbers p)
packing-holds p =
    let n = length (items p.regions) in
    let few = items-few p.regions in (
      bit_below p.persistence,
      (
        bit_below p.matching,
        (
          (omega (arith, few), counted-fine 32 n p.some few),
          (
            (p.wide.0.1, positive-fine p.projected.width p.wide.0.0),
            (
              (p.wide.1.1, positive-fine p.projected.height p.wide.1.0),
              ((p.narrow.0.1, positive-fine p.packed.width p.narrow.0.0), ((p.narrow.1.1, positive-fine p.packed.height p.narrow.1.0), regions-holds p.packed (items p.regions) p.within)),
            ),
          ),
        ),
      ),
    )
