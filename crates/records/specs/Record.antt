-- What a record's payload reads as, and what writing it gives.
use Rattle.std.specs.Prelude.{◌≡◌, ℕ, cond, List, length, Ok, Err, Result, nat_le}
use Rattle.layouts.specs.declared.fault.FieldFault.{FieldFault}
use Rattle.layouts.specs.declared.fault.ShortBuffer.{ShortBuffer}
use Rattle.layouts.specs.Frames.{fronted}
use Rattle.layouts.specs.Layout.{Left, Layout, reads, from}
use Rattle.records.specs.declared.fault.PayloadFault.{PayloadFault}
use Rattle.records.specs.declared.fault.PayloadFault.TheVariants.{TooLong, Field}

-- a field's fault is the payload's
abbrev pub as_payload : {A : Type 0} → Result A FieldFault → Result A PayloadFault
as_payload (Ok a) = Ok a
as_payload (Err e) = Err (Field e)

-- the numbers that a payload of a layout holds, or why it is refused: first by its length, then field by field
abbrev pub reads_as : Layout → List ℕ → Result (List ℕ) PayloadFault
reads_as l bytes = cond (nat_le (length bytes) 65535) (as_payload (reads l (from bytes 0))) (Err TooLong)

-- an answer by its record's numbers
abbrev pub numbered : {R E : Type 0} → (R → List ℕ) → Result R E → Result (List ℕ) E
numbered numbers (Ok r) = Ok (numbers r)
numbered numbers (Err e) = Err e

-- a record that is read from what is left of a payload
abbrev pub Decoded : {R : Type 0} → Layout → (R → List ℕ) → Left → Result R FieldFault → Type 0
Decoded l numbers s (Ok r) = reads l s ≡ Ok (numbers r)
Decoded l numbers s (Err e) = reads l s ≡ Err e

-- bytes that are written to a buffer's front: the answer, and what the buffer holds then
abbrev pub written : List ℕ → List ℕ → Result ℕ ShortBuffer × List ℕ
written p buffer = cond (nat_le (length p) (length buffer)) (Ok (length p), fronted p buffer) (Err (record {}), buffer)
