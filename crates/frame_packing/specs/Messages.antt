-- A frame packing by its numbers, and its id by itself.
use Rattle.std.specs.Prelude.{◌≡◌, ℕ, ◌^◌, ◌<◌, ◌≤◌, false, cond, not, List, ◌++◌, length, take, drop, is_some, Some, None, Ok, Err, Option, Result, slice_index, refl}
use Rattle.std.proofs.Common.{sym, ap, ◌∙◌, arith, take_all}
use Rattle.std.proofs.Math.Bool.{Bool-set}
use mathlib.Core.HLevel.{is_prop→PathP, ×_prop}
use Rattle.std.proofs.Math.Bridge.{le_prop}
use Rattle.std.proofs.lemmas.Bool.{le-leb}
use Rattle.layouts.specs.declared.fault.FieldFault.{FieldFault}
use Rattle.layouts.specs.Layout.{Left, and_then, next, ue, from}
use Rattle.records.specs.declared.fault.PayloadFault.TheVariants.{TooLong}
use Rattle.frame_packing.specs.declared.message.Arrangement.{Arrangement}
use Rattle.frame_packing.specs.declared.message.GridPositions.{GridPositions}
use Rattle.frame_packing.specs.declared.message.PackingFlags.{PackingFlags}
use Rattle.frame_packing.specs.declared.message.PackingId.{PackingId}
use Rattle.records.specs.declared.period.Period.{Period}
use Rattle.frame_packing.specs.FramePacking.{flag_numbers, grid_numbers, period_numbers, content_numbers, arrangement_numbers, id_as}
use Rattle.frame_packing.specs.PackingIds.{reserved_id, gridless}
use Rattle.records.specs.Record.{as_payload}
use Rattle.records.proofs.Same.{bit-same, period-same}

-- an id that is read alone
pub id-whole : (bytes : List ℕ) (s : Left) → length bytes ≤ 65535 → s ≡ from (take 65535 bytes) 0 → (r : Result (ℕ × Left) FieldFault) → next ue s ≡ r → as_payload (and_then r (λ a. Ok a.0)) ≡ id_as bytes
id-whole bytes s short e r h =
    ap (λ x. as_payload (and_then x (λ a. Ok a.0))) (sym h ∙ ap (next ue) (e ∙ ap (λ x. from x 0) (take_all 65535 bytes short)))
    ∙ sym (ap (λ b. cond b (as_payload (and_then (next ue (from bytes 0)) (λ a. Ok a.0))) (Err TooLong)) (le-leb (length bytes) 65535 short))

-- ---- no two frame packings have the same numbers

pub id_same : (i j : PackingId) → i.number ≡ j.number → i ≡ j
id_same i j e = λ k. record { number = e k; unreserved = is_prop→PathP (λ l. reserved_id (e l) ≡ false) (λ l. Bool-set (reserved_id (e l)) false) i.unreserved j.unreserved k }

grid-same : (g h : GridPositions) → g.frame0_x ≡ h.frame0_x → g.frame0_y ≡ h.frame0_y → g.frame1_x ≡ h.frame1_x → g.frame1_y ≡ h.frame1_y → g ≡ h
grid-same g h a b c d = λ i. record {
  frame0_x = a i;
  frame0_y = b i;
  frame1_x = c i;
  frame1_y = d i;
  fits = is_prop→PathP (λ j. (a j < 2 ^ 4) × ((b j < 2 ^ 4) × ((c j < 2 ^ 4) × (d j < 2 ^ 4)))) (λ j. ×_prop le_prop (×_prop le_prop (×_prop le_prop le_prop))) g.fits h.fits i;
}

flags-same : (f g : PackingFlags) (vs ws : List ℕ) → flag_numbers f ++ vs ≡ flag_numbers g ++ ws → f ≡ g
flags-same f g vs ws e =
    let a = bit-same f.spatial_flipping g.spatial_flipping (ap (λ l. slice_index l 0) e) in
    let b = bit-same f.frame0_flipped g.frame0_flipped (ap (λ l. slice_index l 1) e) in
    let c = bit-same f.field_views g.field_views (ap (λ l. slice_index l 2) e) in
    let d = bit-same f.current_frame_is_frame0 g.current_frame_is_frame0 (ap (λ l. slice_index l 3) e) in
    let m = bit-same f.frame0_self_contained g.frame0_self_contained (ap (λ l. slice_index l 4) e) in
    let n = bit-same f.frame1_self_contained g.frame1_self_contained (ap (λ l. slice_index l 5) e) in
    λ i. record {
      spatial_flipping = a i;
      frame0_flipped = b i;
      field_views = c i;
      current_frame_is_frame0 = d i;
      frame0_self_contained = m i;
      frame1_self_contained = n i;
    }

-- the grid positions and the period
ends_same : (g h : Option GridPositions) (p q : Period) → grid_numbers g ++ period_numbers p ≡ grid_numbers h ++ period_numbers q → (g ≡ h) × (p ≡ q)
ends_same None None p q e = (refl, period-same p q (ap (λ l. slice_index l 0) e))
ends_same None (Some h) p q e = absurd (omega (arith, ap length e))
ends_same (Some g) None p q e = absurd (omega (arith, ap length e))
ends_same (Some g) (Some h) p q e =
    (ap Some (grid-same g h (ap (λ l. slice_index l 0) e) (ap (λ l. slice_index l 1) e) (ap (λ l. slice_index l 2) e) (ap (λ l. slice_index l 3) e)), period-same p q (ap (λ l. slice_index l 4) e))

arrangement-same : (a b : Arrangement) → content_numbers a ≡ content_numbers b → a ≡ b
arrangement-same a b e =
    let t : a.arrangement_type ≡ b.arrangement_type = ap (λ l. slice_index l 0) e in
    let q = bit-same a.quincunx_sampling b.quincunx_sampling (ap (λ l. slice_index l 1) e) in
    let n : a.content_interpretation ≡ b.content_interpretation = ap (λ l. slice_index l 2) e in
    let f = flags-same a.flags b.flags (grid_numbers a.grid ++ period_numbers a.period) (grid_numbers b.grid ++ period_numbers b.period) (ap (drop 3) e) in
    let g = ends_same a.grid b.grid a.period b.period (ap (drop 9) e) in
    λ i. record {
      arrangement_type = t i;
      quincunx_sampling = q i;
      content_interpretation = n i;
      flags = f i;
      grid = g.0 i;
      period = g.1 i;
      fits = is_prop→PathP (λ j. (t j < 2 ^ 7) × (n j < 2 ^ 6)) (λ j. ×_prop le_prop le_prop) a.fits b.fits i;
      gridded = is_prop→PathP (λ j. is_some (g.0 j) ≡ not (gridless (q j) (t j))) (λ j. Bool-set (is_some (g.0 j)) (not (gridless (q j) (t j)))) a.gridded b.gridded i;
    }

pub cancelable-same : (a b : Option Arrangement) → arrangement_numbers a ≡ arrangement_numbers b → a ≡ b
cancelable-same None None e = refl
cancelable-same None (Some b) e = absurd (omega (arith, ap (λ l. slice_index l 0) e))
cancelable-same (Some a) None e = absurd (omega (arith, ap (λ l. slice_index l 0) e))
cancelable-same (Some a) (Some b) e = ap Some (arrangement-same a b (ap (drop 1) e))
