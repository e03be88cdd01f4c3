-- Lists of kinds, without their code: what is in force of each, and what is done to all of them.
use Rattle.std.specs.Prelude.{ℕ, ◌+◌, ◌≤◌, Bool, true, false, cond, List, [], ◌∷◌, ◌++◌, length, ◌==◌, ◌≢◌}
use Rattle.layouts.specs.Frames.{Message, under}
use Rattle.kinds.specs.Outcome.{Outcome, passed, lift}
use Rattle.kinds.specs.Model.{Model, Lawful}

-- a list of kinds: none, one kind before others, or one list before another
pub data Models : Type 1 where
  empty : Models
  first : Model → Models → Models
  both : Models → Models → Models

-- what is in force of each kind of a list
abbrev pub Meanings : Models → Type 0
Meanings empty = Unit {0}
Meanings (first k ks) = k.Meaning × Meanings ks
Meanings (both ks js) = Meanings ks × Meanings js

-- each kind has come to what it can come to
abbrev pub Sounds : (ks : Models) → Meanings ks → Type 0
Sounds empty m = Unit {0}
Sounds (first k ks) m = k.Sound m.0 × Sounds ks m.1
Sounds (both ks js) m = Sounds ks m.0 × Sounds js m.1

-- each kind shows what every kind shows
abbrev pub Lawfuls : Models → Type 0
Lawfuls empty = Unit {0}
Lawfuls (first k ks) = Lawful k × Lawfuls ks
Lawfuls (both ks js) = Lawfuls ks × Lawfuls js

-- nothing in force of any kind
abbrev pub nothing : (ks : Models) → Meanings ks
nothing empty = tt
nothing (first k ks) = (k.none, nothing ks)
nothing (both ks js) = (nothing ks, nothing js)

-- what is in force after a picture, marked as a new sequence or not
abbrev pub turns : (ks : Models) → Meanings ks → Bool → Meanings ks
turns empty m mark = tt
turns (first k ks) m mark = (k.turned m.0 mark, turns ks m.1 mark)
turns (both ks js) m mark = (turns ks m.0 mark, turns js m.1 mark)

-- whether a kind of the list has the type
abbrev pub has : Models → ℕ → Bool
has empty t = false
has (first k ks) t = cond (t == k.number) true (has ks t)
has (both ks js) t = cond (has ks t) true (has js t)

-- what an offer of a payload to the kind of its type comes to
abbrev pub offers : (ks : Models) → Meanings ks → ℕ → List ℕ → Outcome (Meanings ks)
offers empty m t p = passed
offers (first k ks) m t p = cond (t == k.number) (lift (λ n. (n, m.1)) (k.offered m.0 p)) (lift (λ n. (m.0, n)) (offers ks m.1 t p))
offers (both ks js) m t p = cond (has ks t) (lift (λ n. (n, m.1)) (offers ks m.0 t p)) (lift (λ n. (m.0, n)) (offers js m.1 t p))

-- the payloads of the kind of a type
abbrev pub part_of : (ks : Models) → Meanings ks → ℕ → List (List ℕ)
part_of empty m t = []
part_of (first k ks) m t = cond (t == k.number) (k.part m.0) (part_of ks m.1 t)
part_of (both ks js) m t = cond (has ks t) (part_of ks m.0 t) (part_of js m.1 t)

-- every kind's part as messages, in order
abbrev pub messages : (ks : Models) → Meanings ks → List Message
messages empty m = []
messages (first k ks) m = under k.number (k.part m.0) ++ messages ks m.1
messages (both ks js) m = messages ks m.0 ++ messages js m.1

-- the kinds, in order
abbrev pub listed : Models → List Model
listed empty = []
listed (first k ks) = k ∷ listed ks
listed (both ks js) = listed ks ++ listed js

-- every type number is at most 65,535
abbrev pub Numbered : List Model → Type 0
Numbered [] = Unit {0}
Numbered (k ∷ ks) = (k.number ≤ 65535) × Numbered ks

-- no kind of the list has the type
abbrev pub Apart : ℕ → List Model → Type 0
Apart t [] = Unit {0}
Apart t (k ∷ ks) = (t ≢ k.number) × Apart t ks

-- no two kinds of the list have one type
abbrev pub Distinct : List Model → Type 0
Distinct [] = Unit {0}
Distinct (k ∷ ks) = Apart k.number ks × Distinct ks

-- the greatest lengths, added up
abbrev pub total : List Model → ℕ
total [] = 0
total (k ∷ ks) = k.greatest + total ks

-- what a list of kinds has to be to make a set
pub record Proper (ks : List Model) : Type 0 where
  -- 1 to 16 kinds
  pub some : 1 ≤ length ks
  pub few : length ks ≤ 16
  -- of different types up to 65,535
  pub numbered : Numbered ks
  pub distinct : Distinct ks
  -- whose parts together have at most 65,535 bytes
  pub short : total ks ≤ 65535
