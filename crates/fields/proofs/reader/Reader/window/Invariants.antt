use Rattle.std.proofs.Common.{◌≡◌, take}
use Rattle.layouts.specs.Bits.{number, bits_of}
use Rattle.fields.proofs.reader.Reader.window.Given as goal

abbrev pub invariant-loop-b : goal.invariant-loop-b
invariant-loop-b l = l.joined ≡ number (bits_of (take l.b-index l.b-items))
