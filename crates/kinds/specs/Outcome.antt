-- What an offer comes to, and what a look at a kind's part gives.
use Rattle.std.specs.Prelude.{ℕ, cond, List, [], length, Some, None, Ok, Err, Option, Result, nat_le, nat_lt, slice_index_or}
use Rattle.layouts.specs.Frames.{fronted}
use Rattle.kinds.specs.declared.fault.Offered.{Offered}
use Rattle.kinds.specs.declared.fault.Offered.TheVariants.{Granted, Passed}
use Rattle.kinds.specs.declared.fault.OfferFault.{OfferFault}
use Rattle.kinds.specs.declared.fault.LookFault.{LookFault}
use Rattle.kinds.specs.declared.fault.LookFault.TheVariants.{Missing, ShortBuffer}

-- only a granted offer leads to a new meaning
pub data Outcome (M : Type 0) : Type 0 where
  granted : M → Outcome M
  passed : Outcome M
  refused : OfferFault → Outcome M

-- what is in force after an offer to m
abbrev pub after : {M : Type 0} → M → Outcome M → M
after m (granted n) = n
after m passed = m
after m (refused f) = m

-- what an offer answers
abbrev pub told : {M : Type 0} → Outcome M → Result Offered OfferFault
told (granted n) = Ok Granted
told passed = Ok Passed
told (refused f) = Err f

-- an offer to a part of a whole
abbrev pub lift : {M N : Type 0} → (M → N) → Outcome M → Outcome N
lift f (granted n) = granted (f n)
lift f passed = passed
lift f (refused e) = refused e

-- the length of payload n of a part
abbrev pub length_of : List (List ℕ) → ℕ → Option ℕ
length_of ps n = cond (nat_lt n (length ps)) (Some (length (slice_index_or ps n []))) None

-- a payload that is copied to a buffer's front: the answer, and what the buffer holds then
abbrev pub copied : List ℕ → List ℕ → Result ℕ LookFault × List ℕ
copied p buffer = cond (nat_le (length p) (length buffer)) (Ok (length p), fronted p buffer) (Err ShortBuffer, buffer)

-- the same of payload n of a part
abbrev pub looked : List (List ℕ) → ℕ → List ℕ → Result ℕ LookFault × List ℕ
looked ps n buffer = cond (nat_lt n (length ps)) (copied (slice_index_or ps n []) buffer) (Err Missing, buffer)
