-- The rules of display orientation have what rules must have, and every content is one that a payload can say.
use Rattle.std.proofs.Common.{arith}
use Rattle.layouts.specs.Layout.{extension, flag, field, u, ue, within, at_most}
use Rattle.layouts.proofs.Extents.{Takes, takes-flag, takes-u, takes-ue-to, takes-extension}
use Rattle.layouts.proofs.Steps.{at-most}
use Rattle.records.proofs.Same.{bit_below}
use Rattle.kinds.specs.Single.{Ruled}
use Rattle.kinds.specs.Rulings.{canceling_ruled}
use Rattle.display_orientation.specs.declared.DisplayOrientation.{DisplayOrientation}
use Rattle.display_orientation.specs.DisplayOrientation.{content, content_numbers}
use Rattle.display_orientation.specs.Rules.{orientation_stay, orientation_rules}

-- the bits that a content takes at most
pub content-takes : Takes content 48
content-takes =
    takes-flag 47 (λ _. flag λ _. field (u 16) λ _. field (within ue (at_most 16384)) λ _. extension)
    (λ _. takes-flag 46 (λ _. field (u 16) λ _. field (within ue (at_most 16384)) λ _. extension)
    (λ _. takes-u 16 30 (λ _. field (within ue (at_most 16384)) λ _. extension)
    (λ _. takes-ue-to 14 16384 1 (λ _. extension) (omega arith) (omega arith) (λ _. takes-extension))))

pub orientation_ruled : Ruled orientation_rules
orientation_ruled = canceling_ruled 47 9 48 content content-takes orientation_stay (omega arith) (omega arith)

pub orientation_proper : (o : DisplayOrientation) → orientation_rules.Proper (content_numbers o)
orientation_proper o = (bit_below o.horizontal_flip, (bit_below o.vertical_flip, (o.fits, ((omega (arith, o.period.bounded), at-most 16384 o.period.pictures o.period.bounded), tt))))
