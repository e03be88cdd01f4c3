-- What a kind is, without its code, and what it has to show.
use Rattle.std.specs.Prelude.{◌≡◌, ℕ, ◌<◌, ◌≤◌, Bool, true, List, [], ◌∷◌, length}
use Rattle.layouts.specs.Frames.{frames, under}
use Rattle.kinds.specs.Outcome.{Outcome, granted}

pub record Model : Type 1 where
  -- its type number
  pub number : ℕ
  -- its part, framed, is never longer
  pub greatest : ℕ
  -- what can be in force of it
  pub Meaning : Type 0
  -- nothing in force
  pub none : Meaning
  -- the meanings that it can come to
  pub Sound : Meaning → Type 0
  -- what is in force after a picture, marked as a new sequence or not
  pub turned : Meaning → Bool → Meaning
  -- what an offer of a payload comes to
  pub offered : Meaning → List ℕ → Outcome Meaning
  -- the payloads that bring what is in force back
  pub part : Meaning → List (List ℕ)

-- every number of the list is a byte
abbrev pub Bytes : List ℕ → Type 0
Bytes [] = Unit {0}
Bytes (b ∷ bs) = (b < 256) × Bytes bs

-- the payloads, offered in order, are all granted and lead from m to n
abbrev pub Replay : (k : Model) → k.Meaning → List (List ℕ) → k.Meaning → Type 0
Replay k m [] n = m ≡ n
Replay k m (p ∷ ps) n = (x : k.Meaning) × ((k.offered m p ≡ granted x) × Replay k x ps n)

-- what every kind shows
pub record Lawful (k : Model) : Type 0 where
  -- it comes to sound meanings alone
  pub sound_none : k.Sound k.none
  pub sound_turned : (m : k.Meaning) (mark : Bool) → k.Sound m → k.Sound (k.turned m mark)
  pub sound_offered : (m n : k.Meaning) (p : List ℕ) → k.Sound m → Bytes p → k.offered m p ≡ granted n → k.Sound n
  -- a marked picture ends everything
  pub marked : (m : k.Meaning) → k.turned m true ≡ k.none
  -- a picture brings nothing into force
  pub idle : (mark : Bool) → k.turned k.none mark ≡ k.none
  -- nothing in force has an empty part
  pub bare : k.part k.none ≡ []
  -- the framed part fits its greatest length
  pub fits : (m : k.Meaning) → k.Sound m → length (frames (under k.number (k.part m))) ≤ k.greatest
  -- the part, offered in order to the empty kind, is all granted and ends in the same meaning
  pub replay : (m : k.Meaning) → k.Sound m → Replay k k.none (k.part m) m
