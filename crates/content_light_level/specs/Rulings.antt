-- The rules of content light level have what rules must have, and every content is one that a payload can say.
use Rattle.std.proofs.Common.{arith}
use Rattle.layouts.specs.Layout.{close, field, u}
use Rattle.layouts.proofs.Extents.{Takes, takes-u, takes-close}
use Rattle.kinds.specs.Single.{Ruled}
use Rattle.kinds.specs.Rulings.{constant_ruled}
use Rattle.content_light_level.specs.declared.ContentLightLevel.{ContentLightLevel}
use Rattle.content_light_level.specs.ContentLightLevel.{layout, numbers}
use Rattle.content_light_level.specs.Rules.{level_rules}

-- the bits that a content takes at most
pub content-takes : Takes layout 32
content-takes = takes-u 16 16 (λ _. field (u 16) λ _. close) (λ _. takes-u 16 0 (λ _. close) (λ _. takes-close))

pub level_ruled : Ruled level_rules
level_ruled = constant_ruled 144 6 32 layout content-takes (omega arith) (omega arith)

pub level_proper : (l : ContentLightLevel) → level_rules.Proper (numbers l)
level_proper l = (l.fits.0, (l.fits.1, tt))
