-- The bytes of a record, and the laws of every layout.
use Rattle.std.specs.Prelude.{◌≡◌, ℕ, zero, suc, ◌+◌, ◌/◌, Bool, true, ◌↔◌, List, [], ◌∷◌, take, drop, Ok}
use Rattle.std.proofs.Math.Pow.{are_bytes}
use Rattle.layouts.specs.Bits.{number}
use Rattle.layouts.specs.Layout.{Layout, reads, writes, extent, Holds, Plain, from}

-- the first n bytes of bits
unfoldable pub bytes_of : ℕ → List Bool → List ℕ
bytes_of zero bs = []
bytes_of (suc n) bs = number (take 8 bs) ∷ bytes_of n (drop 8 bs)

-- how many bytes a record of these numbers takes
abbrev pub size : Layout → List ℕ → ℕ
size l vs = (extent l vs + 7) / 8

-- the payload of a record of these numbers
unfoldable pub payload : Layout → List ℕ → List ℕ
payload l vs = bytes_of (size l vs) (writes l 0 vs)

pub record Lawful (l : Layout) : Type 0 where
  -- a payload that is written reads as its record
  pub reads_as_written : (vs : List ℕ) → Holds l vs → reads l (from (payload l vs) 0) ≡ Ok vs
  -- what was read can be written
  pub reads_records : (bytes vs : List ℕ) → reads l (from bytes 0) ≡ Ok vs → Holds l vs
  -- a payload that was read, written again, is the same bytes exactly when it is plain
  pub same_when_plain : (bytes vs : List ℕ) → are_bytes bytes ≡ true → reads l (from bytes 0) ≡ Ok vs → (payload l vs ≡ bytes) ↔ Plain l (from bytes 0)
