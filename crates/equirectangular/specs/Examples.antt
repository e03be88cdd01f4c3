-- Payloads with what they come to.
use Rattle.std.specs.Prelude.{◌≡◌, [], ◌∷◌, None}
use Rattle.layouts.specs.declared.fault.FieldFault.TheVariants.{Short}
use Rattle.records.specs.declared.fault.PayloadFault.TheVariants.{Field}
use Rattle.kinds.specs.declared.fault.OfferFault.TheVariants.{Payload}
use Rattle.kinds.specs.declared.in_force.Stay.TheVariants.{Stays}
use Rattle.kinds.specs.Outcome.{granted, refused}
use Rattle.kinds.specs.Examples.{held, offer}
use Rattle.equirectangular.specs.Rules.{equirectangular_rules}

pub record Examples : Type 0 where
  pub unguarded : offer equirectangular_rules None (0x44 ∷ []) ≡ granted (held Stays (1 ∷ 0 ∷ []))
  -- guard bands of type 2, 2 and 4 samples wide
  pub guarded : offer equirectangular_rules None (0x62 ∷ 0x02 ∷ 0x04 ∷ []) ≡ granted (held Stays (1 ∷ 1 ∷ 2 ∷ 2 ∷ 4 ∷ []))
  -- the reserved bits are ignored
  pub ignored : offer equirectangular_rules None (0x7A ∷ 0x02 ∷ 0x04 ∷ []) ≡ granted (held Stays (1 ∷ 1 ∷ 2 ∷ 2 ∷ 4 ∷ []))
  pub short : offer equirectangular_rules None (0x62 ∷ 0x02 ∷ []) ≡ refused (Payload (Field (Short 16)))
