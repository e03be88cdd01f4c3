use Rattle.layouts.specs.Layout.{close}
use Rattle.regionwise_packing.specs.Packing.{content_numbers}
use Rattle.regionwise_packing.proofs.Exits.{goes_out}
use Rattle.regionwise_packing.proofs.Contents.{content-close, content-whole}
use Rattle.regionwise_packing.proofs.record.RegionwisePackingBody.decode.Goals as goal

pub returns-in_err-packing : goal.returns-in_err-packing
returns-in_err-packing c =
    rw (goes_out _ c.from_residual.ensures.1) (c.in_err-packing.ensures close)

pub returns-in_err-close : goal.returns-in_err-close
returns-in_err-close c =
    rw (goes_out _ c.from_residual-in_err-close.ensures.1) (content-close _ _ (content_numbers c.in_ok-packing.packing) c.in_ok-packing.ensures _ c.in_err-close.ensures)

pub returns : goal.returns
returns c = content-whole _ _ _ c.in_ok-packing.ensures c.in_ok-close.ensures
