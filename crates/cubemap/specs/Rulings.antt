-- The rules of cubemap projection have what rules must have, and every content is one that a payload can say.
use Rattle.std.proofs.Common.{arith}
use Rattle.layouts.specs.Layout.{close}
use Rattle.layouts.proofs.Extents.{Takes, takes-flag, takes-close}
use Rattle.records.proofs.Same.{bit_below}
use Rattle.kinds.specs.Single.{Ruled}
use Rattle.kinds.specs.Rulings.{canceling_ruled}
use Rattle.cubemap.specs.declared.Cubemap.{Cubemap}
use Rattle.cubemap.specs.Cubemap.{content, content_numbers}
use Rattle.cubemap.specs.Rules.{cubemap_stay, cubemap_rules}

-- the bits that a content takes at most
pub content-takes : Takes content 1
content-takes = takes-flag 0 (λ _. close) (λ _. takes-close)

pub cubemap_ruled : Ruled cubemap_rules
cubemap_ruled = canceling_ruled 151 3 1 content content-takes cubemap_stay (omega arith) (omega arith)

pub cubemap_proper : (c : Cubemap) → cubemap_rules.Proper (content_numbers c)
cubemap_proper c = (bit_below c.persistence, tt)
