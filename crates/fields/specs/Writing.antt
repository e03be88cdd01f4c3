-- What a writer has written, and how a record of a layout is written field after field.
use Rattle.std.specs.Prelude.{ℕ, ◌+◌, ◌-◌, ◌^◌, min, Bool, cond, List, [], ◌∷◌, ◌++◌, length, take, drop, nat_le}
use Rattle.fields.specs.declared.writer.Writer.{Writer}
use Rattle.layouts.specs.Bits.{word, bits_of}
use Rattle.layouts.specs.Layout.{coded, closing, Layout, close, extension, reserved, field, judge}

-- the place of a writer's next bit, the bits of its buffer, and the loan that the buffer is
pub record Sheet : Type 0 where
  pub place : ℕ
  pub bits : List Bool
  pub loan : ℕ

-- a writer's sheet
abbrev pub sheet : Writer → Sheet
sheet w = record { place = w.at; bits = bits_of w.bytes.now; loan = w.bytes.ghost_name }

-- these in place of what stood from p on, the rest as it was
abbrev pub laid : {A : Type 0} → ℕ → List A → List A → List A
laid p xs all = take p all ++ (xs ++ drop (p + length xs) all)

-- These bits are written at the place if they end within the buffer and within 65,535 bytes.
-- The place moves on in either case, so that a sheet with no room tells how long a record is; it stops at 2 ^ 64 - 1. The loan stays the same one.
unfoldable pub put : List Bool → Sheet → Sheet
put bs s = record s {
  place = min (s.place + length bs) (2 ^ 64 - 1);
  bits = cond (nat_le (s.place + length bs) (min (length s.bits) 524280)) (laid s.place bs s.bits) s.bits;
}

-- a sheet after a record of these numbers
abbrev pub lays : Layout → List ℕ → Sheet → Sheet
lays close vs s = put (closing s.place) s
lays extension vs s = put (closing (put (word 1 0) s).place) (put (word 1 0) s)
lays (reserved w l) vs s = lays l vs (put (word w 0) s)
lays (field c l) [] s = s
lays (field c l) (v ∷ vs) s = lays (l v) vs (put (coded c v) s)
lays (judge n v l) vs s = lays l vs s
