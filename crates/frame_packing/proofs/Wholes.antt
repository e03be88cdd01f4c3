-- The parts of a frame packing: without grid positions, put together, and read with its id.
use Rattle.std.specs.Prelude.{◌≡◌, ℕ, Bool, true, false, cond, not, List, ◌∷◌, ◌++◌, is_some, Ok, ◌==◌, refl}
use Rattle.std.proofs.Common.{sym, ap, ◌∙◌, arith}
use Rattle.layouts.specs.Bits.{bit, word}
use Rattle.layouts.specs.Layout.{Left, and_then, next, Layout, extension, flag, u, coded, reads}
use Rattle.fields.specs.Writing.{Sheet, put, lays}
use Rattle.fields.proofs.Groups.{bit_is}
use Rattle.fields.specs.Groups.{WritesGroup}
use Rattle.frame_packing.specs.declared.message.Arrangement.{Arrangement}
use Rattle.frame_packing.specs.FramePacking.{flags, grid, ending, content, flag_numbers, grid_numbers, period_numbers, content_numbers, identity, layout}
use Rattle.frame_packing.specs.PackingIds.{gridless}
use Rattle.frame_packing.proofs.Walks.{same}

-- where there are no grid positions, nothing is read
pub grid-none : (b : Bool) → b ≡ true → (s : Left) (more : Layout) → reads (grid b more) s ≡ and_then (reads more s) (λ vs. Ok vs)
unfolding grid
grid-none true e s more = same (reads more s)
grid-none false e s more = absurd (omega (arith, ap bit e))

back : (b : Bool) → not (not b) ≡ b
back true = refl
back false = refl

-- an arrangement that was written part by part
pub arrangement-lays : (a : Arrangement) (s0 s1 s2 s3 s4 s5 s6 : Sheet)
    → s1 ≡ put (coded (u 7) a.arrangement_type) s0
    → s2 ≡ put (coded (u 1) (bit a.quincunx_sampling)) s1
    → s3 ≡ put (coded (u 6) a.content_interpretation) s2
    → WritesGroup flags (flag_numbers a.flags) s3 s4
    → WritesGroup (grid (not (is_some a.grid))) (grid_numbers a.grid) s4 s5
    → s6 ≡ lays ending (period_numbers a.period) s5
    → s6 ≡ lays content (content_numbers a) s0
arrangement-lays a s0 s1 s2 s3 s4 s5 s6 h1 h2 h3 f g e =
    let bare : not (is_some a.grid) ≡ gridless a.quincunx_sampling a.arrangement_type = ap not a.gridded ∙ back (gridless a.quincunx_sampling a.arrangement_type) in
    let rest = grid_numbers a.grid ++ period_numbers a.period in
    e ∙ sym (g ending (period_numbers a.period))
    ∙ ap (λ b. lays (grid b ending) rest s4) bare
    ∙ sym (f (grid (gridless a.quincunx_sampling a.arrangement_type) ending) rest)
    ∙ ap (λ s. lays (flags (grid (gridless a.quincunx_sampling a.arrangement_type) ending)) (flag_numbers a.flags ++ rest) s) (h3 ∙ ap (put (word 6 a.content_interpretation)) (h2 ∙ ap (put (word 1 (bit a.quincunx_sampling))) h1))
    ∙ ap (λ b. lays (flags (grid (gridless b a.arrangement_type) ending)) (flag_numbers a.flags ++ rest) (put (word 6 a.content_interpretation) (put (word 1 (bit a.quincunx_sampling)) (put (word 7 a.arrangement_type) s0)))) (sym (bit_is a.quincunx_sampling))

-- ---- a frame packing that is read

pub packing-reads : (s t q : Left) (i : ℕ) (vs : List ℕ) → next identity s ≡ Ok (i, t) → next (u 1) t ≡ Ok (0, q) → reads content q ≡ Ok vs → reads layout s ≡ Ok (i ∷ 0 ∷ vs)
packing-reads s t q i vs h k c =
    ap (λ r. and_then r (λ a. and_then (reads (flag λ cancel. cond cancel extension content) a.1) (λ ws. Ok (a.0 ∷ ws)))) h
    ∙ ap (λ r. and_then (and_then r (λ a. and_then (reads (cond (a.0 == 1) extension content) a.1) (λ ws. Ok (a.0 ∷ ws)))) (λ ws. Ok (i ∷ ws))) k
    ∙ ap (λ r. and_then (and_then r (λ ws. Ok (0 ∷ ws))) (λ ws. Ok (i ∷ ws))) c
