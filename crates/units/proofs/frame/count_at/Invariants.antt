use Rattle.std.proofs.Common.{◌≡◌, ◌+◌, ◌*◌, ◌≤◌, drop}
use Rattle.units.specs.Units.{counted}
use Rattle.units.proofs.frame.count_at.Given as goal

-- the bytes so far are FF, and what is left gives the same count
abbrev pub invariant-loop-byte : goal.invariant-loop-byte
invariant-loop-byte l =
    (l.byte-items ≡ drop l.at l.bytes) × (l.next ≡ l.at + l.byte-index) × (l.value ≡ 255 * l.byte-index) × (l.value ≤ 65535)
    × (counted l.value (drop l.byte-index l.byte-items) ≡ counted 0 (drop l.at l.bytes))
