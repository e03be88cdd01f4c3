-- What the definitions of this crate are for.
use Rattle.std.specs.Prelude.{◌≡◌, ℕ, ◌+◌, true, false, ◌⊎◌, ◌↔◌, List, [], ◌∷◌, ◌++◌, length, Ok, Err, ◌≢◌, slice_index}
use Rattle.std.proofs.Math.Pow.{are_bytes}
use Rattle.layouts.specs.Frames.{Message, framed, frames}
use Rattle.units.specs.declared.fault.UnitFault.TheVariants.{Frame}
use Rattle.units.specs.declared.unescaped.Zeros.TheVariants.{None}
use Rattle.units.specs.Escapes.{opened, escaped}
use Rattle.units.specs.Units.{Limited, AllLimited, unit_bytes, placed, judged}
use Rattle.units.specs.Writings.{framed_length}

-- where a unit is broken: at its last byte, which is not 80; or behind whole messages, where no message stands before the 80
pub data Broken (bs : List ℕ) (at : ℕ) : Type 0 where
  last : at + 1 ≡ length bs → (slice_index bs at ≢ 128) → Broken bs at
  behind : (ms : List Message) (rest : List ℕ) → bs ≡ frames ms ++ (rest ++ (128 ∷ [])) → AllLimited ms → at ≡ length (frames ms) →
      ((m : Message) (more : List ℕ) → Limited m → rest ≢ framed m ++ more) → Broken bs at

pub record Lawful : Type 0 where
  -- bytes that were escaped, with that removed again, are the same bytes, and no fault follows
  pub escapes : (bs : List ℕ) → opened None (escaped bs) false ≡ (bs, false)
  -- bytes are read as messages exactly when they are those messages framed, and each is within the limits
  pub reads : (bs : List ℕ) (ms : List Message) → are_bytes bs ≡ true → (judged bs ≡ Ok (placed 0 ms)) ↔ ((bs ≡ unit_bytes ms) × AllLimited ms)
  -- other messages have another framing
  pub apart : (ms ns : List Message) → AllLimited ms → AllLimited ns → unit_bytes ms ≡ unit_bytes ns → ms ≡ ns
  -- a message is as long as is told without writing it
  pub lengths : (m : Message) → length (framed m) ≡ framed_length m.0 (length m.1)
  -- any bytes are read as messages, or broken at a place
  pub judges : (bs : List ℕ) → are_bytes bs ≡ true → ((ms : List Message) × (judged bs ≡ Ok (placed 0 ms))) ⊎ ((at : ℕ) × (judged bs ≡ Err (Frame at)) × Broken bs at)
