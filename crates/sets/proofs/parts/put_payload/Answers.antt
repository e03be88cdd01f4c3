use Rattle.std.proofs.Common.{ℕ, List, subst, ◌∙◌}
use Rattle.sets.proofs.Written.{Headed, headed, length-there, payload-told}
use Rattle.sets.proofs.parts.put_payload.Goals as goal

pub returns : goal.returns
returns g c =
    let ps : List (List ℕ) = g.K.Kind.model.part (g.K.Kind.meaning c.args.kind.now) in
    let t : ℕ = g.K.Kind.model.number in
    let len : ℕ = c.in_ok-len.len in
    let start : ℕ = c.in_ok-start.start in
    let b0 : List ℕ = c.args.buffer.now in
    let b1 : List ℕ = c.put_head.new.buffer in
    let h = headed c.TYPE.result len c.args.at start b0 b1 c.in_ok-start.ensures.answer c.put_head.ensures.bytes in
    let P : ℕ → Type 0 = λ x. Headed x len c.args.at start b0 b1 in
    let told = payload-told ps c.args.n t c.args.at start len b0 b1 c.payload.new.buffer c.requires (length-there ps c.args.n len c.in_ok-len.ensures) (subst P (c.TYPE.ensures ∙ g.met.K.Kind.typed) h) c.payload.ensures.bytes in
    record { answer = told.0; bytes = told.1 }
