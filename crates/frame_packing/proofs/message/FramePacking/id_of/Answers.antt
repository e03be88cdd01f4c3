use Rattle.std.proofs.Common.{arith}
use Rattle.std.proofs.lemmas.Result.{err_from_is_err_and}
use Rattle.frame_packing.specs.Messages.{id-whole}
use Rattle.frame_packing.proofs.message.FramePacking.id_of.Goals as goal

pub returns-in_err-id : goal.returns-in_err-id
returns-in_err-id c =
    let p = err_from_is_err_and c.from_residual-in_err-id.result c.from_residual-in_err-id.ensures.1 in
    rw (p.1, p.2) (id-whole c.args.payload.now _ (omega arith) c.new-reader.ensures _ c.in_err-id.ensures.0)

pub returns : goal.returns
returns c = id-whole c.args.payload.now _ (omega arith) c.new-reader.ensures _ c.in_ok-id.ensures.0
