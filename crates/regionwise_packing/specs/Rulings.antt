-- The rules of region-wise packing have what rules must have, and every packing is one that a payload can say.
use Rattle.std.proofs.Common.{arith}
use Rattle.kinds.specs.Rulings.{canceling_ruled}
use Rattle.kinds.specs.Single.{Ruled}
use Rattle.regionwise_packing.specs.declared.RegionwisePacking.{RegionwisePacking}
use Rattle.regionwise_packing.specs.Holds.{packing-holds}
use Rattle.regionwise_packing.specs.Lengths.{takes-content}
use Rattle.regionwise_packing.specs.Packing.{content, content_numbers}
use Rattle.regionwise_packing.specs.Rules.{packing_stay, packing_rules}

pub packing_ruled : Ruled packing_rules
packing_ruled = canceling_ruled 155 1011 8047 content takes-content packing_stay (omega arith) (omega arith)

pub packing_proper : (p : RegionwisePacking) → packing_rules.Proper (content_numbers p)
packing_proper p = packing-holds p
