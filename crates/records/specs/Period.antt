-- A repetition period: its field, making one, and reading one.
use Rattle.std.specs.Prelude.{◌≡◌, ℕ, ◌<◌, ◌≤◌, Ok, Err, Result}
use Rattle.layouts.specs.declared.fault.FieldFault.{FieldFault}
use Rattle.layouts.specs.declared.fault.FieldFault.TheVariants.{OutOfRange}
use Rattle.layouts.specs.Layout.{Code, next, ue, within, at_most}
use Rattle.fields.specs.declared.reader.Reader.{Reader}
use Rattle.fields.specs.Reading.{left, Stays}
use Rattle.records.specs.declared.period.Period.{Period}

-- how it stands in a payload
abbrev pub period_code : Code
period_code = within ue (at_most 16384)

-- n pictures, where they are at most 16,384; else the refusal, at place 0
abbrev pub MakesPeriod : ℕ → Result Period FieldFault → Type 0
MakesPeriod n (Ok p) = (n ≤ 16384) × (p.pictures ≡ n)
MakesPeriod n (Err e) = (16384 < n) × (e ≡ OutOfRange 0)

-- a reader r that is asked for a period answers it and is after it; a refusal leaves it where it was
abbrev pub ReadsPeriod : Reader → Result Period FieldFault → Reader → Type 0
ReadsPeriod r (Ok p) q = (next period_code (left r) ≡ Ok (p.pictures, left q)) × (q.bytes.now ≡ r.bytes.now)
ReadsPeriod r (Err e) q = (next period_code (left r) ≡ Err e) × Stays r q
