-- Clean bytes: what a slice of bytes holds is what comes.
use Rattle.std.proofs.Common.{◌≡◌, ℕ, suc, ◌%◌, ◌<◌, List, [], ◌∷◌, get_or, refl, arith}
use Rattle.units.specs.Sources.{as_bytes}

pub as_bytes_same : (bs : List ℕ) → ((i : ℕ) → get_or bs i 0 < 256) → as_bytes bs ≡ bs
as_bytes_same [] h = refl
as_bytes_same (b ∷ bs) h =
    let m : b % 256 ≡ b = let k : b < 256 = h 0 in omega arith in
    rw (m, as_bytes_same bs (λ i. h (suc i)))
