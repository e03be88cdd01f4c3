use Rattle.std.proofs.Common.{◌≤◌, ap, arith}
use Rattle.layouts.specs.Payloads.{size}
use Rattle.fields.specs.Writing.{Sheet, sheet}
use Rattle.layouts.proofs.Layouts.{length-payload}
use Rattle.fields.proofs.Records.{written-place}
use Rattle.records.proofs.Whole.{reads-back}
use Rattle.records.proofs.record.Record.payload_len.Goals as goal

pub returns-clause-value : goal.returns-clause-value
returns-clause-value g c =
    let l = g.Self.Record.layout in
    let vs = g.Self.Record.numbers c.args.self.now in
    let holds = c.encode.ensures.holds in
    let short : size l vs ≤ 65535 = omega (arith, g.met.Self.Record.short vs holds, g.met.Self.Record.limited) in
    let place = written-place l vs (sheet c.new-counter.result) holds short c.new-counter.ensures.place in
    omega (arith, length-payload l vs, ap (λ (s : Sheet). s.place) c.encode.ensures.after)

pub returns-clause-reads : goal.returns-clause-reads
returns-clause-reads g c =
    let l = g.Self.Record.layout in
    let vs = g.Self.Record.numbers c.args.self.now in
    let holds = c.encode.ensures.holds in
    reads-back l vs holds (omega (arith, g.met.Self.Record.short vs holds, g.met.Self.Record.limited))
