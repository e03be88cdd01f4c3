-- The frame of a unit: messages as its bytes, and its bytes as messages.
use Rattle.std.specs.Prelude.{ℕ, zero, suc, ◌+◌, ◌-◌, ◌≤◌, false, cond, List, [], ◌∷◌, ◌++◌, length, take, drop, Some, None, Ok, Err, Option, Result, ◌==◌, nat_le, nat_lt, slice_index}
use Rattle.layouts.specs.Frames.{Message, framed, frames}
use Rattle.units.specs.declared.fault.UnitFault.{UnitFault}
use Rattle.units.specs.declared.fault.UnitFault.TheVariants.{Frame}

-- a message whose type and size are within the limits
abbrev pub Limited : Message → Type 0
Limited m = (m.0 ≤ 65535) × (length m.1 ≤ 65535)

abbrev pub AllLimited : List Message → Type 0
AllLimited [] = Unit {0}
AllLimited (m ∷ ms) = Limited m × AllLimited ms

-- messages as a unit: no bytes, or one or more messages and the byte 80
abbrev pub unit_bytes : List Message → List ℕ
unit_bytes [] = []
unit_bytes (m ∷ ms) = frames (m ∷ ms) ++ (128 ∷ [])

-- the way back, for which each step may find nothing
abbrev pub and_then : {A B : Type 0} → Option A → (A → Option B) → Option B
and_then None f = None
and_then (Some a) f = f a

-- a type or a size at the front of bytes, with what stands behind it; FF goes on, and nothing past 65,535 is one
abbrev pub counted : ℕ → List ℕ → Option (ℕ × List ℕ)
counted sum [] = None
counted sum (b ∷ bs) = cond (nat_le (sum + b) 65535) (cond (nat_lt b 255) (Some (sum + b, bs)) (counted (sum + b) bs)) None

-- that many bytes, with what stands behind them
abbrev pub cut : ℕ → List ℕ → Option (List ℕ × List ℕ)
cut n bs = cond (nat_le n (length bs)) (Some (take n bs, drop n bs)) None

-- the message at the front of bytes, with what stands behind it
unfoldable pub message : List ℕ → Option (Message × List ℕ)
message bs = and_then (counted 0 bs) (λ t. and_then (counted 0 t.1) (λ n. and_then (cut n.0 n.1) (λ p. Some ((t.0, p.0), p.1))))

-- a message before those of what stands behind it; or none, and the bytes are left
abbrev pub first_message : Option (Message × List ℕ) → List ℕ → (List ℕ → List Message × List ℕ) → List Message × List ℕ
first_message None bs more = ([], bs)
first_message (Some m) bs more = (m.0 ∷ (more m.1).0, (more m.1).1)

-- up to n messages, one after the other, with what is left
unfoldable pub parts_in : ℕ → List ℕ → List Message × List ℕ
parts_in zero bs = ([], bs)
parts_in (suc n) bs = first_message (message bs) bs (parts_in n)

-- the messages of bytes up to the first that does not fit; a message has two bytes or more, so there are no more of them than bytes
abbrev pub heard : List ℕ → List Message
heard bs = (parts_in (length bs) bs).0

-- what is left from the first message on that does not fit
abbrev pub unheard : List ℕ → List ℕ
unheard bs = (parts_in (length bs) bs).1

-- messages with the places of their first bytes
abbrev pub placed : ℕ → List Message → List (ℕ × Message)
placed at [] = []
placed at (m ∷ ms) = (at, m) ∷ placed (at + length (framed m)) ms

-- what stands before the last byte of a unit: one or more messages and nothing else, or it is broken where the messages end
abbrev pub judged_body : List ℕ → Result (List (ℕ × Message)) UnitFault
judged_body body = cond (cond (nat_lt 0 (length body)) (length (unheard body) == 0) false) (Ok (placed 0 (heard body))) (Err (Frame (length body - length (unheard body))))

-- a unit's messages with their places; or it is broken at its last byte, which is to be 80, or before that
abbrev pub judged : List ℕ → Result (List (ℕ × Message)) UnitFault
judged bs = cond (length bs == 0) (Ok []) (cond (slice_index bs (length bs - 1) == 128) (judged_body (take (length bs - 1) bs)) (Err (Frame (length bs - 1))))
