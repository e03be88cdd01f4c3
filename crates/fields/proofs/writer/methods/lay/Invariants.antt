use Rattle.std.proofs.Common.{◌≡◌, ◌+◌, ◌-◌, ◌*◌, max}
use Rattle.layouts.specs.Bits.{word, bits_of}
use Rattle.fields.specs.Writing.{laid}
use Rattle.fields.proofs.writer.methods.lay.Given as goal

-- what is left to write behind the place gives what is to be written
abbrev pub invariant-loop-i : goal.invariant-loop-i
invariant-loop-i l =
    let place = max l.at (8 * l.i) in
    (place + l.left ≡ l.at + l.width)
    × (l.free ≡ 8 * l.i + 8 - place)
    × (laid place (word l.left l.value) (bits_of l.bytes) ≡ laid l.at (word l.width l.value) (bits_of l.initial.bytes))
