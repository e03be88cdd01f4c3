-- What concerns one kind of all that is called, and what that leads it to.
use Rattle.std.specs.Prelude.{◌≡◌, ℕ, Bool, true, false, cond, List, [], ◌∷◌, ◌++◌, length, Ok, Err, Result, ◌==◌, nat_le}
use Rattle.layouts.specs.Frames.{Message}
use Rattle.kinds.specs.Outcome.{after}
use Rattle.kinds.specs.Model.{Model}
use Rattle.units.specs.declared.fault.UnitFault.{UnitFault}
use Rattle.book.specs.Models.{Models, empty, first, both, Meanings}
use Rattle.book.specs.Units.{brought}
use Rattle.book.specs.Book.{Asked, picture, clear, message, unit, look, catch_up}

-- a picture with its mark, a clear, or a message of the kind by its payload
pub data Event : Type 0 where
  turned : Bool → Event
  cleared : Event
  given : List ℕ → Event

-- a message, to the kind of type t; one of more than 65,535 bytes reaches no kind
abbrev pub of_message : ℕ → Message → List Event
of_message t m = cond (m.0 == t) (cond (nat_le (length m.1) 65535) (given m.1 ∷ []) []) []

abbrev pub of_messages : ℕ → List (ℕ × Message) → List Event
of_messages t [] = []
of_messages t (x ∷ xs) = of_message t x.1 ++ of_messages t xs

-- a unit counts as its messages, and a refused one as none
abbrev pub of_unit : ℕ → Result (List (ℕ × Message)) UnitFault → List Event
of_unit t (Ok xs) = of_messages t xs
of_unit t (Err f) = []

-- a call, to the kind of type t, by whether a picture has begun
abbrev pub of_call : ℕ → Bool → Asked → List Event
of_call t begun (picture mark) = turned mark ∷ []
of_call t begun clear = cleared ∷ []
of_call t begun (message u p) = cond begun (of_message t (u, p)) []
of_call t begun (unit bs fault scratch) = cond begun (of_unit t (brought bs fault scratch)) []
of_call t begun (look u n buffer) = []
of_call t begun (catch_up buffer) = []

-- whether a picture has begun after a call
abbrev pub begins : Bool → Asked → Bool
begins begun (picture mark) = true
begins begun clear = false
begins begun (message u p) = begun
begins begun (unit bs fault scratch) = begun
begins begun (look u n buffer) = begun
begins begun (catch_up buffer) = begun

-- the events of the kind of type t in a list of calls
abbrev pub events : ℕ → Bool → List Asked → List Event
events t begun [] = []
events t begun (c ∷ cs) = of_call t begun c ++ events t (begins begun c) cs

-- what events lead a kind to
abbrev pub led : (k : Model) → k.Meaning → List Event → k.Meaning
led k m [] = m
led k m (turned mark ∷ es) = led k (k.turned m mark) es
led k m (cleared ∷ es) = led k k.none es
led k m (given p ∷ es) = led k (after m (k.offered m p)) es

-- each kind is led from m to n by the events of its own type
abbrev pub Led : (ks : Models) → Meanings ks → (ℕ → List Event) → Meanings ks → Type 0
Led empty m es n = Unit {0}
Led (first k ks) m es n = (n.0 ≡ led k m.0 (es k.number)) × Led ks m.1 es n.1
Led (both ks js) m es n = Led ks m.0 es n.0 × Led js m.1 es n.1

-- of the kind of type t the same is in force
abbrev pub SameOf : (ks : Models) → ℕ → Meanings ks → Meanings ks → Type 0
SameOf empty t m n = Unit {0}
SameOf (first k ks) t m n = (t ≡ k.number → m.0 ≡ n.0) × SameOf ks t m.1 n.1
SameOf (both ks js) t m n = SameOf ks t m.0 n.0 × SameOf js t m.1 n.1
