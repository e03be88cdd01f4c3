-- What the code finds at a place of a slice, and what its reader has to hand out.
use Rattle.std.specs.Prelude.{◌≡◌, ℕ, ◌+◌, ◌<◌, ◌≤◌, List, [], ◌∷◌, length, drop, Some, None, Option, MatchOption}
use Rattle.layouts.specs.Frames.{Message as Framed, count}
use Rattle.units.specs.declared.frame.Count.{Count}
use Rattle.units.specs.declared.frame.Message.{Message}
use Rattle.units.specs.declared.frame.Messages.{Messages}
use Rattle.units.specs.Units.{counted, message, heard, placed}

-- a count from a place on, which ends before `next`
abbrev pub Counts : Option Count → List ℕ → ℕ → Type 0
Counts None bs at = counted 0 (drop at bs) ≡ None
Counts (Some n) bs at = (counted 0 (drop at bs) ≡ Some (n.value, drop n.next bs)) × (n.next ≡ at + length (count n.value)) × (n.next ≤ length bs)

-- the messages from a place on, with their places
abbrev pub messages_from : List ℕ → ℕ → List (ℕ × Framed)
messages_from bs at = placed at (heard (drop at bs))

-- a message that was handed out
abbrev pub handed_out : Message → ℕ × Framed
handed_out m = (m.place, (m.kind, m.payload.now))

-- a message from a place on, which ends before `end`
abbrev pub Finds : Option (Message × ℕ) → List ℕ → ℕ → Type 0
Finds None bs at = (message (drop at bs) ≡ None) × (messages_from bs at ≡ [])
Finds (Some (m, end)) bs at =
    (message (drop at bs) ≡ Some ((m.kind, m.payload.now), drop end bs))
    × (messages_from bs at ≡ handed_out m ∷ messages_from bs end)
    × (at < end) × (end ≤ length bs)

-- the messages that a reader has still to hand out, with their places
abbrev pub coming : Messages → List (ℕ × Framed)
coming r = messages_from r.body.now r.at

-- a reader hands out the first message that is to come; with none to come, none does
abbrev pub HandsOut : Messages → Option Message → Messages → Type 0
HandsOut s r t = MatchOption r ((coming s ≡ []) × (coming t ≡ [])) (λ m. coming s ≡ handed_out m ∷ coming t)
