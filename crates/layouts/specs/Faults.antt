-- The number, the layer and the place of a refusal.
use Rattle.std.specs.Prelude.{ℕ}
use Rattle.layouts.specs.declared.fault.Layer.{Layer}
use Rattle.layouts.specs.declared.fault.Layer.TheVariants.{Payload, Visit}
use Rattle.layouts.specs.declared.fault.FieldFault.{FieldFault}
use Rattle.layouts.specs.declared.fault.FieldFault.TheVariants.{Short, OutOfRange, PastLimit, Ending}
use Rattle.layouts.specs.declared.fault.ShortBuffer.{ShortBuffer}

-- 6: the field is not whole; 7: out of range; 8: past a limit; 9: the payload does not end as it should
abbrev pub field_number : FieldFault → ℕ
field_number (Short bit) = 6
field_number (OutOfRange bit) = 7
field_number (PastLimit bit) = 8
field_number (Ending bit) = 9

abbrev pub field_layer : FieldFault → Layer
field_layer f = Payload

-- the field's first bit; for 9 the first bit after the last field
abbrev pub field_place : FieldFault → ℕ
field_place (Short bit) = bit
field_place (OutOfRange bit) = bit
field_place (PastLimit bit) = bit
field_place (Ending bit) = bit

-- 13: the buffer is too short
abbrev pub buffer_number : ShortBuffer → ℕ
buffer_number f = 13

abbrev pub buffer_layer : ShortBuffer → Layer
buffer_layer f = Visit

abbrev pub buffer_place : ShortBuffer → ℕ
buffer_place f = 0
