-- The number, the layer and the place of a kind's refusals.
use Rattle.std.specs.Prelude.{ℕ}
use Rattle.layouts.specs.declared.fault.Layer.{Layer}
use Rattle.layouts.specs.declared.fault.Layer.TheVariants.{Visit}
use Rattle.records.specs.Faults.{payload_number, payload_layer, payload_place}
use Rattle.kinds.specs.declared.fault.OfferFault.{OfferFault}
use Rattle.kinds.specs.declared.fault.OfferFault.TheVariants.{Payload, Disagrees, Full}
use Rattle.kinds.specs.declared.fault.LookFault.{LookFault}
use Rattle.kinds.specs.declared.fault.LookFault.TheVariants.{Missing, ShortBuffer}

-- 5 to 9: the payload; 10: it does not agree with what is in force; 11: as many are in force as there may be
abbrev pub offer_number : OfferFault → ℕ
offer_number (Payload f) = payload_number f
offer_number Disagrees = 10
offer_number Full = 11

abbrev pub offer_layer : OfferFault → Layer
offer_layer (Payload f) = payload_layer f
offer_layer Disagrees = Visit
offer_layer Full = Visit

abbrev pub offer_place : OfferFault → ℕ
offer_place (Payload f) = payload_place f
offer_place Disagrees = 0
offer_place Full = 0

-- 12: there is no such payload; 13: the buffer is too short
abbrev pub look_number : LookFault → ℕ
look_number Missing = 12
look_number ShortBuffer = 13

abbrev pub look_layer : LookFault → Layer
look_layer f = Visit

abbrev pub look_place : LookFault → ℕ
look_place f = 0
