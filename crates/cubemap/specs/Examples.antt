-- Payloads with what they come to.
use Rattle.std.specs.Prelude.{◌≡◌, [], ◌∷◌, None}
use Rattle.layouts.specs.declared.fault.FieldFault.TheVariants.{Short, Ending}
use Rattle.records.specs.declared.fault.PayloadFault.TheVariants.{Field}
use Rattle.kinds.specs.declared.fault.OfferFault.TheVariants.{Payload}
use Rattle.kinds.specs.declared.in_force.Stay.TheVariants.{Once, Stays}
use Rattle.kinds.specs.Outcome.{granted, refused}
use Rattle.kinds.specs.Examples.{held, offer}
use Rattle.cubemap.specs.Rules.{cubemap_rules}

pub record Examples : Type 0 where
  pub stays : offer cubemap_rules None (0x60 ∷ []) ≡ granted (held Stays (1 ∷ []))
  pub once : offer cubemap_rules None (0x20 ∷ []) ≡ granted (held Once (0 ∷ []))
  pub cancels : offer cubemap_rules (held Stays (1 ∷ [])) (0xC0 ∷ []) ≡ granted None
  pub short : offer cubemap_rules None [] ≡ refused (Payload (Field (Short 0)))
  pub ending : offer cubemap_rules None (0x40 ∷ []) ≡ refused (Payload (Field (Ending 2)))
