-- What a reader has before it, and what its methods answer.
use Rattle.std.specs.Prelude.{◌≡◌, ℕ, ◌*◌, ◌≤◌, Bool, List, length, ℤ, Ok, Err, Result}
use Rattle.std.specs.Int.{w32}
use Rattle.std.proofs.Common.{of_z}
use Rattle.layouts.specs.declared.fault.FieldFault.{FieldFault}
use Rattle.fields.specs.declared.reader.Reader.{Reader}
use Rattle.layouts.specs.Bits.{bit}
use Rattle.layouts.specs.Layout.{Left, from, Code, u, next}

-- what a reader has before it
abbrev pub left : Reader → Left
left r = from r.bytes.now r.at

-- the field c at the bit p of the bytes: its number and the bit behind it, or why it is refused
abbrev pub Found : Code → List ℕ → ℕ → Result (ℕ × ℕ) FieldFault → Type 0
Found c bytes p (Ok a) = (next c (from bytes p) ≡ Ok (a.0, from bytes a.1)) × (a.1 ≤ 8 * length bytes)
Found c bytes p (Err e) = next c (from bytes p) ≡ Err e

-- the same bytes, at the same place
abbrev pub Stays : Reader → Reader → Type 0
Stays r q = (q.bytes.now ≡ r.bytes.now) × (q.at ≡ r.at)

-- a reader r that is asked for the field c answers it and is after it; a refusal leaves it where it was
abbrev pub Reads : Code → Reader → Result ℕ FieldFault → Reader → Type 0
Reads c r (Ok v) q = (next c (left r) ≡ Ok (v, left q)) × (q.bytes.now ≡ r.bytes.now)
Reads c r (Err e) q = (next c (left r) ≡ Err e) × Stays r q

-- the same of a flag
abbrev pub ReadsFlag : Reader → Result Bool FieldFault → Reader → Type 0
ReadsFlag r (Ok b) q = (next (u 1) (left r) ≡ Ok (bit b, left q)) × (q.bytes.now ≡ r.bytes.now)
ReadsFlag r (Err e) q = (next (u 1) (left r) ≡ Err e) × Stays r q

-- the same of a signed number of 32 bits, in two's complement
abbrev pub ReadsSigned : Code → Reader → Result ℤ FieldFault → Reader → Type 0
ReadsSigned c r (Ok x) q = (next c (left r) ≡ Ok (of_z w32 x, left q)) × (q.bytes.now ≡ r.bytes.now)
ReadsSigned c r (Err e) q = (next c (left r) ≡ Err e) × Stays r q
