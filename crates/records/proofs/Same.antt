-- Records are equal where their fields are, since a fact in a ghost field has one proof at most.
use Rattle.std.proofs.Common.{◌≡◌, ◌<◌, ◌≤◌, Bool, true, false, arith}
use mathlib.Core.HLevel.{is_prop→PathP}
use native.Mathlib.Bridge.{le_prop}
use Rattle.layouts.specs.Bits.{bit}
use Rattle.records.specs.declared.period.Period.{Period}

pub bit-same : (a b : Bool) → bit a ≡ bit b → a ≡ b
bit-same a b e = grind arith

pub bit_below : (b : Bool) → bit b < 2
bit_below true = omega arith
bit_below false = omega arith

pub period-same : (p q : Period) → p.pictures ≡ q.pictures → p ≡ q
period-same p q e = λ i. record { pictures = e i; bounded = is_prop→PathP (λ j. e j ≤ 16384) (λ j. le_prop) p.bounded q.bounded i }
