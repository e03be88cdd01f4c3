-- Payloads with what they come to.
use Rattle.std.specs.Prelude.{◌≡◌, [], ◌∷◌, None}
use Rattle.kinds.specs.declared.fault.OfferFault.TheVariants.{Disagrees}
use Rattle.kinds.specs.declared.in_force.Stay.TheVariants.{Stays}
use Rattle.kinds.specs.Outcome.{granted, refused}
use Rattle.kinds.specs.Examples.{held, offer}
use Rattle.content_light_level.specs.Rules.{level_rules}

pub record Examples : Type 0 where
  pub comes : offer level_rules None (0x03 ∷ 0xE8 ∷ 0x00 ∷ 0xC8 ∷ []) ≡ granted (held Stays (1000 ∷ 200 ∷ []))
  pub again : offer level_rules (held Stays (1000 ∷ 200 ∷ [])) (0x03 ∷ 0xE8 ∷ 0x00 ∷ 0xC8 ∷ []) ≡ granted (held Stays (1000 ∷ 200 ∷ []))
  pub disagrees : offer level_rules (held Stays (1000 ∷ 200 ∷ [])) (0x03 ∷ 0xE8 ∷ 0x00 ∷ 0xC9 ∷ []) ≡ refused Disagrees
