-- Payloads with what they come to.
use Rattle.std.specs.Prelude.{◌≡◌, [], ◌∷◌, None}
use Rattle.kinds.specs.declared.in_force.Stay.TheVariants.{Once, Stays}
use Rattle.kinds.specs.Outcome.{granted}
use Rattle.kinds.specs.Examples.{held, offer}
use Rattle.display_orientation.specs.Rules.{orientation_rules}

pub record Examples : Type 0 where
  -- flipped left to right, rotation 16,384, period 0 and period 1
  pub once : offer orientation_rules None (0x48 ∷ 0x00 ∷ 0x14 ∷ []) ≡ granted (held Once (1 ∷ 0 ∷ 16384 ∷ 0 ∷ []))
  pub stays : offer orientation_rules None (0x48 ∷ 0x00 ∷ 0x09 ∷ []) ≡ granted (held Stays (1 ∷ 0 ∷ 16384 ∷ 1 ∷ []))
