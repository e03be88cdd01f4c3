-- Payloads with what they come to.
use Rattle.std.specs.Prelude.{◌≡◌, ℕ, List, [], ◌∷◌}
use Rattle.layouts.specs.declared.fault.FieldFault.TheVariants.{Ending}
use Rattle.records.specs.declared.fault.PayloadFault.TheVariants.{Field}
use Rattle.kinds.specs.declared.fault.OfferFault.TheVariants.{Payload}
use Rattle.kinds.specs.Outcome.{Outcome, granted, passed, refused}
use Rattle.frame_packings.specs.Packings.{Packed, packed, packing_model}

abbrev offer : List Packed → List ℕ → Outcome (List Packed)
offer m p = packing_model.offered m p

pub record Examples : Type 0 where
  -- a cancel with id 0 ends all packings; it must close
  pub cancels : (m : List Packed) → offer m (0xD0 ∷ []) ≡ granted []
  pub unclosed : (m : List Packed) → offer m (0xC0 ∷ []) ≡ refused (Payload (Field (Ending 3)))
  -- a message with id 256 is passed over, whatever follows its id
  pub passes : (m : List Packed) → offer m (0x00 ∷ 0x80 ∷ 0x80 ∷ []) ≡ passed
  -- frames side by side, which stay, and one after the other, once
  pub side : offer [] (0x81 ∷ 0x81 ∷ 0x00 ∷ 0x00 ∷ 0x00 ∷ 0x01 ∷ 0x20 ∷ []) ≡ granted (packed 0 (3 ∷ 0 ∷ 1 ∷ 0 ∷ 0 ∷ 0 ∷ 0 ∷ 0 ∷ 0 ∷ 0 ∷ 0 ∷ 0 ∷ 0 ∷ 1 ∷ []) ∷ [])
  pub turns : offer [] (0x82 ∷ 0x81 ∷ 0x10 ∷ 0x02 ∷ []) ≡ granted (packed 0 (5 ∷ 0 ∷ 1 ∷ 0 ∷ 0 ∷ 0 ∷ 1 ∷ 0 ∷ 0 ∷ 0 ∷ []) ∷ [])
