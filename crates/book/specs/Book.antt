-- The call book: what is in force after every call of a visit, and what the call answers.
use Rattle.std.specs.Prelude.{ℕ, Bool, true, false, cond, List, [], ◌∷◌, length, Ok, Err, Result, nat_le}
use Rattle.std.specs.Result.{result_map_both}
use Rattle.layouts.specs.Frames.{Message, fronted}
use Rattle.kinds.specs.declared.fault.Offered.{Offered}
use Rattle.kinds.specs.declared.fault.LookFault.{LookFault}
use Rattle.kinds.specs.Outcome.{after, told, looked}
use Rattle.units.specs.Fills.{filled, unfilled}
use Rattle.units.specs.Units.{unit_bytes}
use Rattle.book.specs.declared.answer.Answer.{Answer}
use Rattle.book.specs.declared.answer.Answer.TheVariants.{Done, Message as ToMessage, Unit as ToUnit, Look as ToLook, CatchUp as ToCatchUp}
use Rattle.book.specs.declared.answer.Saved.{Saved}
use Rattle.book.specs.declared.answer.Tally.{Tally}
use Rattle.book.specs.declared.fault.Refusal.{Refusal}
use Rattle.book.specs.declared.fault.Refusal.TheVariants.{NoPicture, Unit, Offer, ShortBuffer}
use Rattle.book.specs.Faults.{look_refusal}
use Rattle.book.specs.Models.{Models, Meanings, nothing, turns, part_of, messages}
use Rattle.book.specs.Units.{judged, brought, offered_from, untold, tallied}

-- a call, by its arguments alone: a payload by its bytes, a scratch or a buffer by what it holds, and a source by the
-- bytes to come and whether a fault follows them
pub data Asked : Type 0 where
  picture : Bool → Asked
  clear : Asked
  message : ℕ → List ℕ → Asked
  unit : List ℕ → Bool → List ℕ → Asked
  look : ℕ → ℕ → List ℕ → Asked
  catch_up : List ℕ → Asked

-- whether a picture has begun, and what is in force of each kind
abbrev pub Book : Models → Type 0
Book ks = Bool × Meanings ks

-- the book of a new visit: no picture has begun, and nothing is in force
abbrev pub fresh : (ks : Models) → Book ks
fresh ks = (false, nothing ks)

-- ---- what is in force

-- the book after a call
abbrev pub step : (ks : Models) → Book ks → Asked → Book ks
step ks b (picture mark) = (true, turns ks b.1 mark)
step ks b clear = fresh ks
step ks b (message t p) = (b.0, cond b.0 (after b.1 (judged ks b.1 t p)) b.1)
step ks b (unit bs fault scratch) = (b.0, cond b.0 (offered_from ks b.1 (brought bs fault scratch)) b.1)
step ks b (look t n buffer) = b
step ks b (catch_up buffer) = b

-- the book after a list of calls
abbrev pub run : (ks : Models) → Book ks → List Asked → Book ks
run ks b [] = b
run ks b (c ∷ cs) = run ks (step ks b c) cs

-- ---- what is answered, and written

-- what a message answers
abbrev pub told_message : (ks : Models) → Book ks → ℕ → List ℕ → Result Offered Refusal
told_message ks b t p = cond b.0 (result_map_both (λ x. x) Offer (told (judged ks b.1 t p))) (Err NoPicture)

-- what a unit answers
abbrev pub told_unit : (ks : Models) → Book ks → List ℕ → Bool → List ℕ → Result Tally Refusal
told_unit ks b bs fault scratch = cond b.0 (result_map_both (tallied ks b.1 untold) Unit (brought bs fault scratch)) (Err NoPicture)

-- a kind's answer to a look, with the visit's refusals in place of the kind's
abbrev pub handed : Result ℕ LookFault × List ℕ → Result ℕ Refusal × List ℕ
handed r = (result_map_both (λ n. n) look_refusal r.0, r.1)

-- what a look answers, and what its buffer holds then
abbrev pub told_look : (ks : Models) → Book ks → ℕ → ℕ → List ℕ → Result ℕ Refusal × List ℕ
told_look ks b t n buffer = cond b.0 (handed (looked (part_of ks b.1 t) n buffer)) (Err NoPicture, buffer)

-- messages saved to a buffer's front as a unit: its length and their number, and what the buffer holds then
abbrev pub saved : List Message → List ℕ → Result Saved Refusal × List ℕ
saved ms buffer = cond (nat_le (length (unit_bytes ms)) (length buffer)) (Ok (record { len = length (unit_bytes ms); messages = length ms }), fronted (unit_bytes ms) buffer) (Err ShortBuffer, buffer)

-- what a catch-up answers, and what its buffer holds then: every kind's part, in the set's order
abbrev pub told_catch_up : (ks : Models) → Book ks → List ℕ → Result Saved Refusal × List ℕ
told_catch_up ks b buffer = cond b.0 (saved (messages ks b.1) buffer) (Err NoPicture, buffer)

-- what any call answers
abbrev pub answer : (ks : Models) → Book ks → Asked → Answer
answer ks b (picture mark) = Done
answer ks b clear = Done
answer ks b (message t p) = ToMessage (told_message ks b t p)
answer ks b (unit bs fault scratch) = ToUnit (told_unit ks b bs fault scratch)
answer ks b (look t n buffer) = ToLook (told_look ks b t n buffer).0
answer ks b (catch_up buffer) = ToCatchUp (told_catch_up ks b buffer).0

-- the arguments of any call as it leaves them: a scratch or a buffer written to, a source drawn from, all else as it was
abbrev pub leaves : (ks : Models) → Book ks → Asked → Asked
leaves ks b (picture mark) = picture mark
leaves ks b clear = clear
leaves ks b (message t p) = message t p
leaves ks b (unit bs fault scratch) = unit (cond b.0 (unfilled bs scratch) bs) fault (cond b.0 (filled bs scratch) scratch)
leaves ks b (look t n buffer) = look t n (told_look ks b t n buffer).1
leaves ks b (catch_up buffer) = catch_up (told_catch_up ks b buffer).1

-- what the book replies to a call: its answer, and its arguments as it leaves them
abbrev pub reply : (ks : Models) → Book ks → Asked → Answer × Asked
reply ks b c = (answer ks b c, leaves ks b c)

-- the same of a list of calls
abbrev pub replies : (ks : Models) → Book ks → List Asked → List (Answer × Asked)
replies ks b [] = []
replies ks b (c ∷ cs) = reply ks b c ∷ replies ks (step ks b c) cs
