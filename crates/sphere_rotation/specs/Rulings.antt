-- The rules of sphere rotation have what rules must have, and every content is one that a payload can say.
use Rattle.std.proofs.Common.{arith}
use Rattle.layouts.specs.Layout.{close, reserved, field, between}
use Rattle.layouts.proofs.Extents.{Takes, takes-flag, takes-reserved, takes-within, takes-close}
use Rattle.kinds.specs.Single.{Ruled}
use Rattle.kinds.specs.Rulings.{canceling_ruled}
use Rattle.sphere_rotation.specs.declared.SphereRotation.{SphereRotation}
use Rattle.sphere_rotation.specs.Angles.{turn_low, turn_high, tilt_low, tilt_high}
use Rattle.sphere_rotation.specs.Rotations.{rotation-holds}
use Rattle.sphere_rotation.specs.Rules.{rotation_stay, rotation_rules}
use Rattle.sphere_rotation.specs.SphereRotation.{turn, tilt, content, content_numbers}

-- the bits that a content takes at most
pub content-takes : Takes content 103
content-takes =
    takes-flag 102 (λ _. reserved 6 (field turn λ _. field tilt λ _. field turn λ _. close))
    (λ _. takes-reserved 6 96 (field turn λ _. field tilt λ _. field turn λ _. close)
    (takes-within 32 64 (between turn_low turn_high) (λ _. field tilt λ _. field turn λ _. close)
    (λ _. takes-within 32 32 (between tilt_low tilt_high) (λ _. field turn λ _. close)
    (λ _. takes-within 32 0 (between turn_low turn_high) (λ _. close) (λ _. takes-close)))))

pub rotation_ruled : Ruled rotation_rules
rotation_ruled = canceling_ruled 154 15 103 content content-takes rotation_stay (omega arith) (omega arith)

pub rotation_proper : (r : SphereRotation) → rotation_rules.Proper (content_numbers r)
rotation_proper = rotation-holds
