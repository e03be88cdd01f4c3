-- Filling a scratch from a source.
use Rattle.std.specs.Prelude.{ℕ, ◌+◌, min, Bool, cond, List, length, take, drop, Ok, Err, Result, nat_le}
use Rattle.layouts.specs.Frames.{fronted}
use Rattle.units.specs.declared.fault.UnitFault.{UnitFault}
use Rattle.units.specs.declared.fault.UnitFault.TheVariants.{Source, Room}

-- how many bytes a scratch takes: no unit has more than 65,536
abbrev pub room : List ℕ → ℕ
room scratch = min (length scratch) 65536

-- how many bytes came, if they fit and no fault follows; a fault behind a scratch that they fill is the source's
abbrev pub filling : List ℕ → Bool → List ℕ → Result ℕ UnitFault
filling bs fault scratch = cond (nat_le (length bs) (room scratch)) (cond fault (Err (Source (length bs))) (Ok (length bs))) (Err (Room (room scratch)))

-- what the scratch holds then: the bytes that fit it, and behind them what it held before
abbrev pub filled : List ℕ → List ℕ → List ℕ
filled bs scratch = fronted (take (room scratch) bs) scratch

-- what the source has left: where the bytes do not fit, one more is gone
abbrev pub unfilled : List ℕ → List ℕ → List ℕ
unfilled bs scratch = drop (room scratch + 1) bs
