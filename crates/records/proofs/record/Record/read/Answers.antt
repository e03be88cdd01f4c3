use Rattle.std.proofs.Common.{arith}
use Rattle.std.proofs.lemmas.Result.{err_from_is_err_and}
use Rattle.layouts.proofs.Layouts.{lawful}
use Rattle.fields.proofs.Records.{bytes-from}
use Rattle.records.proofs.Whole.{reads_first, reads_whole}
use Rattle.records.proofs.record.Record.read.Goals as goal

pub returns-in_err-record : goal.returns-in_err-record
returns-in_err-record g c =
    let p = err_from_is_err_and c.from_residual-in_err-record.result c.from_residual-in_err-record.ensures.1 in
    rw (p.1, p.2) (record { value = reads_whole g.Self.Record.layout c.args.payload.now _ (omega arith) c.new.ensures _ c.in_err-record.ensures; plain = tt })

pub returns : goal.returns
returns g c =
    let bytes = c.args.payload.now in
    record {
      value = reads_whole g.Self.Record.layout bytes _ (omega arith) c.new.ensures _ c.in_ok-record.ensures;
      plain = (lawful g.Self.Record.layout).same_when_plain bytes _ (bytes-from bytes (λ i. omega (arith, c.type_inv.payload i))) (reads_first g.Self.Record.layout bytes _ (omega arith) c.new.ensures _ c.in_ok-record.ensures);
    }
