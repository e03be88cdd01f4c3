use Rattle.std.proofs.Common.{◌≡◌, take, string_bytes}
use Rattle.script.specs.Hex.{written}
use Rattle.script.proofs.hex.encode.Given as goal

-- the text so far is that of the bytes so far
abbrev pub invariant-loop-i : goal.invariant-loop-i
invariant-loop-i l = string_bytes l.text ≡ written (take l.i l.bytes)
