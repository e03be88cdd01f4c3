-- The rules of equirectangular projection have what rules must have, and every content is one that a payload can say.
use Rattle.std.specs.Prelude.{not, Some, None, Option}
use Rattle.std.proofs.Common.{arith}
use Rattle.layouts.specs.Layout.{close, reserved, flag, unless, field, u, Holds}
use Rattle.layouts.proofs.Extents.{Takes, takes-flag, takes-reserved, takes-unless, takes-u, takes-close}
use Rattle.records.proofs.Same.{bit_below}
use Rattle.kinds.specs.Single.{Ruled}
use Rattle.kinds.specs.Rulings.{canceling_ruled}
use Rattle.equirectangular.specs.declared.Equirectangular.{Equirectangular}
use Rattle.equirectangular.specs.declared.GuardBand.{GuardBand}
use Rattle.equirectangular.specs.Equirectangular.{band, content, band_numbers, content_numbers}
use Rattle.equirectangular.specs.Rules.{equirectangular_stay, equirectangular_rules}

-- the bits that a content takes at most
band-takes : Takes band 19
band-takes = takes-u 3 16 (λ _. field (u 8) λ _. field (u 8) λ _. close) (λ _. takes-u 8 8 (λ _. field (u 8) λ _. close) (λ _. takes-u 8 0 (λ _. close) (λ _. takes-close)))

pub content-takes : Takes content 23
content-takes =
    takes-flag 22 (λ _. flag λ guard_band. reserved 2 (unless (not guard_band) band))
    (λ _. takes-flag 21 (λ guard_band. reserved 2 (unless (not guard_band) band))
    (λ guard_band. takes-reserved 2 19 (unless (not guard_band) band) (takes-unless 19 band band-takes (not guard_band))))

pub equirectangular_ruled : Ruled equirectangular_rules
equirectangular_ruled = canceling_ruled 150 5 23 content content-takes equirectangular_stay (omega arith) (omega arith)

band_proper : (o : Option GuardBand) → Holds (flag λ guard_band. reserved 2 (unless (not guard_band) band)) (band_numbers o)
band_proper None = (omega arith, tt)
band_proper (Some g) = (omega arith, (g.fits.0, (g.fits.1.0, (g.fits.1.1, tt))))

pub equirectangular_proper : (e : Equirectangular) → equirectangular_rules.Proper (content_numbers e)
equirectangular_proper e = (bit_below e.persistence, band_proper e.guard_band)
