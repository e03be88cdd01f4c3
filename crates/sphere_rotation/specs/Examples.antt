-- Payloads with what they come to.
use Rattle.std.specs.Prelude.{◌≡◌, ℕ, ◌≤◌, List, [], ◌∷◌, length, None}
use Rattle.layouts.specs.declared.fault.FieldFault.TheVariants.{OutOfRange}
use Rattle.records.specs.declared.fault.PayloadFault.TheVariants.{Field}
use Rattle.kinds.specs.declared.fault.OfferFault.TheVariants.{Payload}
use Rattle.kinds.specs.declared.in_force.Stay.TheVariants.{Stays}
use Rattle.kinds.specs.Outcome.{granted, refused}
use Rattle.kinds.specs.Examples.{held, offer}
use Rattle.sphere_rotation.specs.Rules.{rotation_rules}

pub record Examples : Type 0 where
  -- a yaw of 180 degrees is out of range, whatever follows, and one of -180 degrees is in range
  pub beyond : (more : List ℕ) → length more ≤ 65530 → offer rotation_rules None (0x40 ∷ 0x00 ∷ 0xB4 ∷ 0x00 ∷ 0x00 ∷ more) ≡ refused (Payload (Field (OutOfRange 8)))
  pub within : offer rotation_rules None (0x40 ∷ 0xFF ∷ 0x4C ∷ 0x00 ∷ 0x00 ∷ 0x00 ∷ 0x00 ∷ 0x00 ∷ 0x00 ∷ 0x00 ∷ 0x00 ∷ 0x00 ∷ 0x00 ∷ []) ≡ granted (held Stays (1 ∷ 0xFF4C0000 ∷ 0 ∷ 0 ∷ []))
