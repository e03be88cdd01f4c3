-- What the source over bytes of its own has to come.
use Rattle.std.specs.Prelude.{◌≡◌, ℕ, true, List}
use Rattle.std.specs.Vec.Iter.{into_iter_items}
use Rattle.std.proofs.Math.Pow.{are_bytes}
use Rattle.units.specs.declared.stored.Stored.{Stored}
use Rattle.units.specs.Sources.{as_bytes, as_bytes-bytes}

-- what is left of its bytes
abbrev pub stored_bytes : Stored → List ℕ
stored_bytes s = as_bytes (into_iter_items s.rest)

pub stored_are_bytes : (s : Stored) → are_bytes (stored_bytes s) ≡ true
stored_are_bytes s = as_bytes-bytes (into_iter_items s.rest)
