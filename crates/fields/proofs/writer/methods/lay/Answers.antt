use Rattle.std.proofs.Common.{◌≡◌, ◌+◌, ◌-◌, ◌*◌, max, set, sym, refl, ap, ◌∙◌, arith}
use Rattle.layouts.specs.Bits.{word, bits_of}
use Rattle.fields.specs.Writing.{laid}
use Rattle.fields.proofs.Laid.{lay-part, lay-none}
use Rattle.fields.proofs.writer.methods.lay.Goals as goal

pub loop-i-preserved : goal.loop-i-preserved
loop-i-preserved c =
    let at = c.args.at in
    let l = c.loop-i in
    let left = l.left - c.min-n.result in
    let next : max at (8 * (l.i + 1)) ≡ max at (8 * l.i) + c.min-n.result = omega arith in
    let turn = lay-part l.bytes _ at (at + c.args.width) l.i l.left l.free c.min-n.result c.patched.result c.args.value (omega arith) (omega arith) (omega arith) l.invariant.0 l.invariant.1 (omega arith) c.patched.ensures refl in
    (omega arith, omega arith, ap (λ p. laid p (word left c.args.value) (bits_of (set l.bytes l.i c.patched.result))) next ∙ turn ∙ l.invariant.2)

pub returns-then-left-eq0 : goal.returns-then-left-eq0
returns-then-left-eq0 c =
    let at = c.args.at in
    let l = c.loop-i in
    let turn = lay-part l.bytes _ at (at + c.args.width) l.i l.left l.free c.min-n.result c.patched.result c.args.value (omega arith) (omega arith) (omega arith) l.invariant.0 l.invariant.1 (omega arith) c.patched.ensures refl in
    sym (lay-none _ _ _ c.args.value (omega arith)) ∙ turn ∙ l.invariant.2
