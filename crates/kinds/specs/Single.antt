-- A kind that holds one thing: what its messages mean, and the model that follows.
use Rattle.std.specs.Prelude.{◌≡◌, ℕ, ◌≤◌, Bool, true, false, cond, List, [], ◌∷◌, length, Some, None, Ok, Err, Option, Result}
use Rattle.layouts.specs.Frames.{framed}
use Rattle.records.specs.declared.fault.PayloadFault.{PayloadFault}
use Rattle.kinds.specs.declared.fault.OfferFault.TheVariants.{Payload, Disagrees}
use Rattle.kinds.specs.declared.in_force.InForce.{InForce}
use Rattle.kinds.specs.declared.in_force.Stay.{Stay}
use Rattle.kinds.specs.declared.in_force.Stay.TheVariants.{Once, Stays}
use Rattle.kinds.specs.Outcome.{Outcome, granted, refused}
use Rattle.kinds.specs.Model.{Model}

-- What is particular to such a kind. A content goes by its numbers, field after field.
pub record Rules : Type 1 where
  pub number : ℕ
  pub greatest : ℕ
  -- what a payload says: a content, or none where it cancels
  pub reads : List ℕ → Result (Option (List ℕ)) PayloadFault
  -- the payload that says a content
  pub payload : List ℕ → List ℕ
  -- the contents that a payload can say
  pub Proper : List ℕ → Type 0
  -- how long a content stays
  pub stay : List ℕ → Stay
  -- whether the first, in force, lets the second come
  pub agrees : List ℕ → List ℕ → Bool

-- what the rules have to show
pub record Ruled (r : Rules) : Type 0 where
  pub says_proper : (p vs : List ℕ) → r.reads p ≡ Ok (Some vs) → r.Proper vs
  pub says_back : (vs : List ℕ) → r.Proper vs → r.reads (r.payload vs) ≡ Ok (Some vs)
  pub fits : (vs : List ℕ) → r.Proper vs → length (framed (r.number, r.payload vs)) ≤ r.greatest

-- what is in force: one thing, or nothing
abbrev pub Held : Type 0
Held = Option (InForce (List ℕ))

-- a content in force
abbrev pub thing : Rules → List ℕ → InForce (List ℕ)
thing r vs = record { content = vs; stay = r.stay vs }

-- a thing that a payload can have said
abbrev pub Sound : Rules → Held → Type 0
Sound r None = Unit {0}
Sound r (Some x) = r.Proper x.content × (x.stay ≡ r.stay x.content)

abbrev pub outlasting : Stay → Bool
outlasting Once = false
outlasting Stays = true

-- what outlasts a picture
abbrev pub outlasts : Held → Held
outlasts None = None
outlasts (Some x) = cond (outlasting x.stay) (Some x) None

-- whether what is in force lets a content come
abbrev pub lets : Rules → Held → List ℕ → Bool
lets r None vs = true
lets r (Some x) vs = r.agrees x.content vs

-- what a payload does that says this
abbrev pub says : Rules → Held → Result (Option (List ℕ)) PayloadFault → Outcome Held
says r m (Err e) = refused (Payload e)
says r m (Ok None) = granted None
says r m (Ok (Some vs)) = cond (lets r m vs) (granted (Some (thing r vs))) (refused Disagrees)

abbrev pub part_of : Rules → Held → List (List ℕ)
part_of r None = []
part_of r (Some x) = r.payload x.content ∷ []

-- the model of a kind that holds one thing
abbrev pub single : Rules → Model
single r = record {
  number = r.number;
  greatest = r.greatest;
  Meaning = Held;
  none = None;
  Sound = Sound r;
  turned = λ m mark. cond mark None (outlasts m);
  offered = λ m p. says r m (r.reads p);
  part = part_of r;
}

-- a kind's content, in force
abbrev pub held_of : {C : Type 0} → Rules → (C → List ℕ) → Option C → Held
held_of r numbers None = None
held_of r numbers (Some c) = Some (thing r (numbers c))

-- the same, as the code hands it out
abbrev pub in_force_of : {C : Type 0} → Rules → (C → List ℕ) → Option C → Option (InForce C)
in_force_of r numbers None = None
in_force_of r numbers (Some c) = Some (record { content = c; stay = r.stay (numbers c) })

-- how long it stays
abbrev pub stay_of : {C : Type 0} → Rules → (C → List ℕ) → Option C → Option Stay
stay_of r numbers None = None
stay_of r numbers (Some c) = Some (r.stay (numbers c))

-- what was read, by its content's numbers
abbrev pub said_of : {C : Type 0} → (C → List ℕ) → Result (Option C) PayloadFault → Result (Option (List ℕ)) PayloadFault
said_of numbers (Err e) = Err e
said_of numbers (Ok None) = Ok None
said_of numbers (Ok (Some c)) = Ok (Some (numbers c))
