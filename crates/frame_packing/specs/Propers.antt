-- Every frame packing's numbers are those of its layout.
use Rattle.std.specs.Prelude.{◌≡◌, ℕ, ◌<◌, Bool, true, false, cond, not, ◌&&◌, ◌||◌, List, ◌∷◌, ◌++◌, is_some, Some, None, Option, ◌==◌, nat_le, refl}
use Rattle.std.proofs.Common.{sym, ap, ◌∙◌, arith}
use Rattle.std.proofs.lemmas.Bool.{leb-false}
use Rattle.layouts.specs.Bits.{bit}
use Rattle.layouts.specs.Layout.{fine, out_of_range, Layout, Inside, Holds}
use Rattle.fields.proofs.Groups.{bit_is}
use Rattle.layouts.proofs.Steps.{at-most}
use Rattle.records.proofs.Same.{bit_below}
use Rattle.frame_packing.specs.declared.message.Arrangement.{Arrangement}
use Rattle.frame_packing.specs.declared.message.GridPositions.{GridPositions}
use Rattle.frame_packing.specs.declared.message.PackingFlags.{PackingFlags}
use Rattle.frame_packing.specs.declared.message.PackingId.{PackingId}
use Rattle.frame_packing.specs.FramePacking.{flags, grid, ending, content, flag_numbers, grid_numbers, period_numbers, content_numbers, arrangement_numbers, identity, layout}
use Rattle.frame_packing.specs.PackingIds.{reserved_id, gridless}

flags-hold : (f : PackingFlags) (more : Layout) (vs : List ℕ) → Holds more vs → Holds (flags more) (flag_numbers f ++ vs)
unfolding flags
flags-hold f more vs h =
    (bit_below f.spatial_flipping, (bit_below f.frame0_flipped, (bit_below f.field_views, (bit_below f.current_frame_is_frame0, (bit_below f.frame0_self_contained, (bit_below f.frame1_self_contained, h))))))

grid-holds : (g : Option GridPositions) (b : Bool) (more : Layout) (vs : List ℕ) → is_some g ≡ not b → Holds more vs → Holds (grid b more) (grid_numbers g ++ vs)
unfolding grid
grid-holds None true more vs e h = h
grid-holds None false more vs e h = absurd (omega (arith, ap bit e))
grid-holds (Some g) true more vs e h = absurd (omega (arith, ap bit e))
grid-holds (Some g) false more vs e h = (g.fits.0, (g.fits.1.0, (g.fits.1.1.0, (g.fits.1.1.1, h))))

pub arrangement-holds : (a : Arrangement) → Holds content (content_numbers a)
arrangement-holds a =
    let b = gridless (bit a.quincunx_sampling == 1) a.arrangement_type in
    let e : is_some a.grid ≡ not b = a.gridded ∙ ap (λ x. not (gridless x a.arrangement_type)) (sym (bit_is a.quincunx_sampling)) in (
      a.fits.0,
      (
        bit_below a.quincunx_sampling,
        (
          a.fits.1,
          flags-hold a.flags (grid b ending) (grid_numbers a.grid ++ period_numbers a.period)
              (grid-holds a.grid b ending (period_numbers a.period) e ((omega (arith, a.period.bounded), at-most 16384 a.period.pictures a.period.bounded), tt)),
        ),
      ),
    )

-- an id that is not reserved is below 2,147,483,648
pub id-small : (n : ℕ) → reserved_id n ≡ false → n < 2147483648
id-small n e = small (nat_le 256 n) (nat_le n 511) (nat_le 2147483648 n) refl e
  where
    small : (a b c : Bool) → nat_le 2147483648 n ≡ c → (a && b) || c ≡ false → n < 2147483648
    small a b false f e = leb-false 2147483648 n f
    small true true true f e = absurd (omega (arith, ap bit e))
    small true false true f e = absurd (omega (arith, ap bit e))
    small false b true f e = absurd (omega (arith, ap bit e))

pub id-inside : (i : PackingId) → Inside identity i.number
id-inside i = (omega (arith, id-small i.number i.unreserved), ap (λ b. cond b out_of_range fine) i.unreserved)

pub packing-holds : (i : PackingId) (a : Option Arrangement) → Holds layout (i.number ∷ arrangement_numbers a)
packing-holds i None = (id-inside i, (omega arith, tt))
packing-holds i (Some a) = (id-inside i, (omega arith, arrangement-holds a))
