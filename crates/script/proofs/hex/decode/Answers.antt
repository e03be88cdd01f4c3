-- Each turn reads one byte; `c.as_bytes-c-items.ensures` ties the bytes to the text.
use Rattle.std.proofs.Common.{◌+◌, ◌<◌, length, vec_items, IsUtf8, sym, refl, ap, ◌∙◌, subst, arith}
use Rattle.std.proofs.lemmas.Str.{IsCharBoundary-start}
use Rattle.script.proofs.Reading.{named, not-hex-at, blank_turn, first-turn, second-turn}
use Rattle.script.proofs.hex.decode.Goals as goal

pub loop-i-init : goal.loop-i-init
loop-i-init c = grind (arith, IsCharBoundary-start)

pub returns-in_err-low : goal.returns-in_err-low
returns-in_err-low c = grind (arith, not-hex-at)

pub loop-i-preserved : goal.loop-i-preserved
loop-i-preserved c =
    let same = c.as_bytes-c-items.ensures.value in
    let long = c.as_bytes-c-items.ensures.len in
    let lt : c.loop-i.i < length c.args.text.now = omega arith in
    let turn = c.loop-i.invariant in
    elim c.if-is_ascii_whitespace.branch [
      | goal.then-is_ascii_whitespace+else-is_some w ↦
          let white = w.if-is_ascii_whitespace.ensures.value in
          named c.args.text.now (c.loop-i.i + 1) (ap vec_items w.bytes-is) w.high-is w.word-is
          (blank_turn c.args.text.now c.loop-i.i lt _ _ c.loop-i.high (subst IsUtf8 same c.as_bytes-c-items.ensures.utf8) turn (cc) (sym w.if-is_some.ensures))
      | goal.else-is_ascii_whitespace+in_ok-low+in-None w ↦
          let dark = w.if-is_ascii_whitespace.ensures.value in
          let some = w.in_ok-low.ensures in
          named c.args.text.now (c.loop-i.i + 1) (ap vec_items w.bytes-is) w.high-is w.word-is
          (first-turn c.args.text.now c.loop-i.i lt _ _ _ (named c.args.text.now c.loop-i.i refl (sym w.in-None.is) refl turn) (cc) (cc))
      | goal.else-is_ascii_whitespace+in_ok-low+in-Some+in_ok-push-in-Some w ↦
          let dark = w.if-is_ascii_whitespace.ensures.value in
          let some = w.in_ok-low.ensures in
          named c.args.text.now (c.loop-i.i + 1) (ap vec_items w.bytes-is ∙ w.in_ok-push-in-Some.ensures.items) w.high-is w.word-is
          (second-turn c.args.text.now c.loop-i.i lt _ _ _ _ (named c.args.text.now c.loop-i.i refl (sym w.in-Some.is) refl turn) (cc) (cc))
    ]
