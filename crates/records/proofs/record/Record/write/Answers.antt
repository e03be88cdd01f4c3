use Rattle.std.proofs.Common.{◌≡◌, ℕ, ◌≤◌, List, Result, ap, ◌∙◌, arith, rules}
use Rattle.layouts.specs.declared.fault.ShortBuffer.{ShortBuffer}
use Rattle.layouts.specs.Payloads.{size}
use Rattle.fields.specs.Writing.{Sheet, sheet}
use Rattle.fields.proofs.Records.{lays-loan}
use Rattle.records.proofs.Whole.{written-whole}
use Rattle.records.proofs.record.Record.write.Goals as goal

pub returns-clause-bytes : goal.returns-clause-bytes
returns-clause-bytes g c =
    let l = g.Self.Record.layout in
    let vs = g.Self.Record.numbers c.args.self.now in
    let holds = c.payload_len-len.ensures.holds in
    let short : size l vs ≤ 65535 = omega (arith, g.met.Self.Record.short vs holds, g.met.Self.Record.limited) in
    let lent : c.encode.new.writer.bytes.ghost_name ≡ c.new-writer.result.bytes.ghost_name = ap (λ (s : Sheet). s.loan) c.encode.ensures.after ∙ lays-loan l vs (sheet c.new-writer.result) in
    let w = written-whole l vs holds short c.args.buffer.now _ c.payload_len-len.result c.new-writer.result.bytes.ghost_name (sheet c.new-writer.result) _ c.payload_len-len.ensures.value (omega arith) (λ i. search rules) (λ i. omega (arith, c.type_inv.buffer i)) (search rules) c.encode.ensures.after (search (rules, lent)) in
    ap (λ (x : Result ℕ ShortBuffer × List ℕ). x.1) w
