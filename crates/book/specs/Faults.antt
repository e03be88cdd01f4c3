-- The number, the layer and the place of a visit's refusals.
use Rattle.std.specs.Prelude.{ℕ}
use Rattle.layouts.specs.declared.fault.Layer.{Layer}
use Rattle.layouts.specs.declared.fault.Layer.TheVariants.{Visit}
use Rattle.kinds.specs.Faults.{offer_number, offer_layer, offer_place}
use Rattle.kinds.specs.declared.fault.LookFault.{LookFault}
use Rattle.kinds.specs.declared.fault.LookFault.TheVariants.{Missing as NoPayload, ShortBuffer as NoRoom}
use Rattle.units.specs.Faults.{unit_number, unit_layer, unit_place}
use Rattle.book.specs.declared.fault.Refusal.{Refusal}
use Rattle.book.specs.declared.fault.Refusal.TheVariants.{NoPicture, Unit, Offer, Missing, ShortBuffer}

-- what a kind refuses to hand out, the visit refuses for the same reason
abbrev pub look_refusal : LookFault → Refusal
look_refusal NoPayload = Missing
look_refusal NoRoom = ShortBuffer

-- 1: no picture has begun; 2 to 4: the unit; 5 to 11: the offer; 12: there is no such payload; 13: the buffer is too short
abbrev pub refusal_number : Refusal → ℕ
refusal_number NoPicture = 1
refusal_number (Unit f) = unit_number f
refusal_number (Offer f) = offer_number f
refusal_number Missing = 12
refusal_number ShortBuffer = 13

abbrev pub refusal_layer : Refusal → Layer
refusal_layer NoPicture = Visit
refusal_layer (Unit f) = unit_layer f
refusal_layer (Offer f) = offer_layer f
refusal_layer Missing = Visit
refusal_layer ShortBuffer = Visit

-- only the refusals of a unit and of an offer have a place within something
abbrev pub refusal_place : Refusal → ℕ
refusal_place NoPicture = 0
refusal_place (Unit f) = unit_place f
refusal_place (Offer f) = offer_place f
refusal_place Missing = 0
refusal_place ShortBuffer = 0
