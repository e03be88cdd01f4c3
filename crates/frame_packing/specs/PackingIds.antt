-- The ids of frame packings, and which packings have grid positions.
use Rattle.std.specs.Prelude.{ℕ, Bool, cond, ◌&&◌, ◌||◌, ◌==◌, nat_le}
use Rattle.layouts.specs.Layout.{Verdict, fine, out_of_range}

-- ids from 256 to 511 and from 2,147,483,648 on are reserved
abbrev pub reserved_id : ℕ → Bool
reserved_id n = (nat_le 256 n && nat_le n 511) || nat_le 2147483648 n

-- a reserved id is out of range
abbrev pub unreserved : ℕ → Verdict
unreserved n = cond (reserved_id n) out_of_range fine

-- a quincunx sampling and the arrangement type 5, one frame after the other, have no grid positions
abbrev pub gridless : Bool → ℕ → Bool
gridless quincunx arrangement_type = quincunx || arrangement_type == 5
