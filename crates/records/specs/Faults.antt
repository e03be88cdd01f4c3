-- The number, the layer and the place of a payload's refusal.
use Rattle.std.specs.Prelude.{ℕ}
use Rattle.layouts.specs.declared.fault.Layer.{Layer}
use Rattle.layouts.specs.declared.fault.Layer.TheVariants.{Payload}
use Rattle.layouts.specs.Faults.{field_number, field_place}
use Rattle.records.specs.declared.fault.PayloadFault.{PayloadFault}
use Rattle.records.specs.declared.fault.PayloadFault.TheVariants.{TooLong, Field}

-- 5: more than 65,535 bytes; 6 to 9: a field
abbrev pub payload_number : PayloadFault → ℕ
payload_number TooLong = 5
payload_number (Field f) = field_number f

abbrev pub payload_layer : PayloadFault → Layer
payload_layer f = Payload

abbrev pub payload_place : PayloadFault → ℕ
payload_place TooLong = 0
payload_place (Field f) = field_place f
