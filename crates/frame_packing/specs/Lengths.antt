-- How many bits a frame packing takes at most.
use Rattle.std.specs.Prelude.{ℕ, ◌+◌, Bool, true, false, cond, [], ◌∷◌}
use Rattle.std.proofs.Common.{arith}
use Rattle.layouts.specs.Layout.{Verdict, Layout, extension, flag, field, u, ue, within, at_most}
use Rattle.layouts.proofs.Extents.{Takes, length-ue, takes-flag, takes-reserved, takes-u, takes-ue-to, takes-extension}
use Rattle.frame_packing.specs.FramePacking.{flags, grid, ending, content, layout}
use Rattle.frame_packing.specs.PackingIds.{unreserved, gridless}

-- a ue of any number, judged or not
takes-ue : (n : ℕ) (ok : ℕ → Verdict) (l : ℕ → Layout) → ((v : ℕ) → Takes (l v) n) → Takes (field (within ue ok) l) (63 + n)
takes-ue n ok l t [] g = absurd g
takes-ue n ok l t (v ∷ vs) g = omega (arith, length-ue 31 v (omega arith) g.0.0, t v vs g.1)

flags-take : (more : Layout) → Takes more 54 → Takes (flags more) 60
unfolding flags
flags-take more t =
    takes-flag 59 (λ _. flag λ _. flag λ _. flag λ _. flag λ _. flag λ _. more)
    (λ _. takes-flag 58 (λ _. flag λ _. flag λ _. flag λ _. flag λ _. more)
    (λ _. takes-flag 57 (λ _. flag λ _. flag λ _. flag λ _. more)
    (λ _. takes-flag 56 (λ _. flag λ _. flag λ _. more)
    (λ _. takes-flag 55 (λ _. flag λ _. more)
    (λ _. takes-flag 54 (λ _. more) (λ _. t))))))

grid-takes : (b : Bool) (more : Layout) → Takes more 38 → Takes (grid b more) 54
unfolding grid
grid-takes true more t vs h = omega (arith, t vs h)
grid-takes false more t vs h =
    takes-u 4 50 (λ _. field (u 4) λ _. field (u 4) λ _. field (u 4) λ _. more)
    (λ _. takes-u 4 46 (λ _. field (u 4) λ _. field (u 4) λ _. more)
    (λ _. takes-u 4 42 (λ _. field (u 4) λ _. more)
    (λ _. takes-u 4 38 (λ _. more) (λ _. t)))) vs h

ending-takes : Takes ending 38
ending-takes = takes-reserved 8 30 (field (within ue (at_most 16384)) λ _. extension) (takes-ue-to 14 16384 1 (λ _. extension) (omega arith) (omega arith) (λ _. takes-extension))

pub packing-takes : Takes content 74
packing-takes =
    takes-u 7 67 (λ t. flag λ q. field (u 6) λ _. flags (grid (gridless q t) ending))
    (λ t. takes-flag 66 (λ q. field (u 6) λ _. flags (grid (gridless q t) ending))
    (λ q. takes-u 6 60 (λ _. flags (grid (gridless q t) ending))
    (λ _. flags-take (grid (gridless q t) ending) (grid-takes (gridless q t) ending ending-takes))))

-- what follows the id
packing-rest-takes : (cancel : Bool) → Takes (cond cancel extension content) 74
packing-rest-takes true vs h = omega (arith, takes-extension vs h)
packing-rest-takes false vs h = packing-takes vs h

pub packing-whole-takes : Takes layout 138
packing-whole-takes = takes-ue 75 unreserved (λ _. flag λ cancel. cond cancel extension content) (λ _. takes-flag 74 (λ cancel. cond cancel extension content) packing-rest-takes)
