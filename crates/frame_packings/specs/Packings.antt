-- Type 45, frame packing: what is in force of it, and what its messages do.
use Rattle.std.specs.Prelude.{◌≡◌, ℕ, ◌+◌, ◌<◌, ◌≤◌, Bool, cond, List, [], ◌∷◌, ◌++◌, map, length, Ok, Err, filter, Result, ◌==◌, nat_le, nat_lt}
use Rattle.std.specs.List.{AllByRecursion}
use Rattle.layouts.specs.Layout.{Inside, Holds}
use Rattle.layouts.specs.Payloads.{payload}
use Rattle.records.specs.declared.fault.PayloadFault.{PayloadFault}
use Rattle.frame_packing.specs.FramePacking.{identity, content, layout, id_as}
use Rattle.frame_packing.specs.PackingIds.{reserved_id}
use Rattle.records.specs.Record.{reads_as}
use Rattle.kinds.specs.declared.fault.OfferFault.TheVariants.{Payload, Full}
use Rattle.kinds.specs.declared.in_force.InForce.{InForce}
use Rattle.kinds.specs.declared.in_force.Stay.{Stay}
use Rattle.kinds.specs.declared.in_force.Stay.TheVariants.{Once, Stays}
use Rattle.kinds.specs.Model.{Model}
use Rattle.kinds.specs.Outcome.{Outcome, granted, passed, refused}
use Rattle.kinds.specs.Single.{outlasting}

-- a packing in force: its id, and its content by its numbers with its stay
pub record Packed : Type 0 where
  pub id : ℕ
  pub thing : InForce (List ℕ)

abbrev pub last : List ℕ → ℕ
last [] = 0
last (x ∷ []) = x
last (x ∷ y ∷ ys) = last (y ∷ ys)

-- its period is the last number: once where that is 0
abbrev pub packing_stay : List ℕ → Stay
packing_stay vs = cond (last vs == 0) Once Stays

-- what a message of this id and content brings into force
abbrev pub packed : ℕ → List ℕ → Packed
packed id vs = record { id = id; thing = record { content = vs; stay = packing_stay vs } }

-- ---- which can be in force

-- ids go upward, none twice
abbrev pub Rising : List Packed → Type 0
Rising [] = Unit {0}
Rising (x ∷ xs) = AllByRecursion (λ y. x.id < y.id) xs × Rising xs

-- one that a message can have brought
abbrev pub Proper : Packed → Type 0
Proper x = Inside identity x.id × (Holds content x.thing.content × (x.thing.stay ≡ packing_stay x.thing.content))

-- at most four, upward by id
pub record Sound (m : List Packed) : Type 0 where
  pub rising : Rising m
  pub few : length m ≤ 4
  pub propers : AllByRecursion Proper m

-- ---- what changes it

abbrev pub outlasts : Packed → Bool
outlasts x = outlasting x.thing.stay

-- those of lower ids
abbrev pub lower : ℕ → List Packed → List Packed
lower id m = filter (λ x. nat_lt x.id id) m

-- those of higher ids
abbrev pub higher : ℕ → List Packed → List Packed
higher id m = filter (λ x. nat_lt id x.id) m

-- x among the others, in place of one of its id
abbrev pub joined : Packed → List Packed → List Packed
joined x m = lower x.id m ++ x ∷ higher x.id m

-- whether four others are in force
abbrev pub full : ℕ → List Packed → Bool
full id m = nat_le 4 (length (lower id m) + length (higher id m))

-- what a message of these numbers does; each has an id and a cancel bit
abbrev pub does : List Packed → List ℕ → Outcome (List Packed)
does m [] = passed
does m (id ∷ []) = passed
does m (id ∷ cancel ∷ vs) = cond (cancel == 1) (granted []) (cond (full id m) (refused Full) (granted (joined (packed id vs) m)))

abbrev pub says : List Packed → Result (List ℕ) PayloadFault → Outcome (List Packed)
says m (Ok vs) = does m vs
says m (Err e) = refused (Payload e)

-- a message with a reserved id is passed over, whatever else is read of it
abbrev pub decided : List Packed → ℕ → Result (List ℕ) PayloadFault → Outcome (List Packed)
decided m id r = cond (reserved_id id) passed (says m r)

-- the id is read first
abbrev pub begins : List Packed → List ℕ → Result ℕ PayloadFault → Outcome (List Packed)
begins m p (Ok id) = decided m id (reads_as layout p)
begins m p (Err e) = refused (Payload e)

-- the payload that brings a packing into force
abbrev pub payload_of : Packed → List ℕ
payload_of x = payload layout (x.id ∷ 0 ∷ x.thing.content)

abbrev pub packing_model : Model
packing_model = record {
  number = 45;
  greatest = 77;
  Meaning = List Packed;
  none = [];
  Sound = Sound;
  turned = λ m mark. cond mark [] (filter outlasts m);
  offered = λ m p. begins m p (id_as p);
  part = map payload_of;
}
