-- What a unit comes to: the messages that it brings, and what is told of each in turn.
use Rattle.std.specs.Prelude.{ℕ, ◌+◌, Bool, cond, List, [], ◌∷◌, length, Some, None, Ok, Err, Option, Result, nat_le}
use Rattle.layouts.specs.Frames.{Message}
use Rattle.records.specs.declared.fault.PayloadFault.TheVariants.{TooLong}
use Rattle.kinds.specs.declared.fault.Offered.{Offered}
use Rattle.kinds.specs.declared.fault.Offered.TheVariants.{Granted, Passed}
use Rattle.kinds.specs.declared.fault.OfferFault.{OfferFault}
use Rattle.kinds.specs.declared.fault.OfferFault.TheVariants.{Payload}
use Rattle.kinds.specs.Outcome.{Outcome, passed, refused, after, told}
use Rattle.units.specs.declared.fault.UnitFault.{UnitFault}
use Rattle.units.specs.Fills.{filling}
use Rattle.units.specs.Units.{judged as framing}
use Rattle.book.specs.declared.answer.Tally.{Tally}
use Rattle.book.specs.declared.fault.MessageFault.{MessageFault}
use Rattle.book.specs.Models.{Models, Meanings, has, offers}

-- what a message comes to once a picture has begun: a type outside the set is passed, then a payload of more than
-- 65,535 bytes is refused, and any other is an offer to the kind of its type
abbrev pub judged : (ks : Models) → Meanings ks → ℕ → List ℕ → Outcome (Meanings ks)
judged ks m t p = cond (has ks t) (cond (nat_le (length p) 65535) (offers ks m t p) (refused (Payload TooLong))) passed

-- the frame of a unit that has filled its scratch
abbrev pub framed : Result ℕ UnitFault → List ℕ → Result (List (ℕ × Message)) UnitFault
framed (Ok n) bs = framing bs
framed (Err f) bs = Err f

-- the messages that a unit brings, with their places; or why it is refused
abbrev pub brought : List ℕ → Bool → List ℕ → Result (List (ℕ × Message)) UnitFault
brought bs fault scratch = framed (filling bs fault scratch) bs

-- what is in force after messages, each judged in turn
abbrev pub offered_all : (ks : Models) → Meanings ks → List (ℕ × Message) → Meanings ks
offered_all ks m [] = m
offered_all ks m (x ∷ xs) = offered_all ks (after m (judged ks m x.1.0 x.1.1)) xs

-- what is in force after a unit: a refused one changes nothing
abbrev pub offered_from : (ks : Models) → Meanings ks → Result (List (ℕ × Message)) UnitFault → Meanings ks
offered_from ks m (Ok xs) = offered_all ks m xs
offered_from ks m (Err f) = m

-- nothing told yet
abbrev pub untold : Tally
untold = record { granted = 0; refused = 0; passed = 0; refusal = None }

-- the refusal that came first
abbrev pub earlier : Option MessageFault → MessageFault → Option MessageFault
earlier None f = Some f
earlier (Some e) f = Some e

-- a tally with what a message at a place was told: one more granted, refused or passed
abbrev pub noted : Tally → ℕ → Result Offered OfferFault → Tally
noted a at (Ok Granted) = record { granted = a.granted + 1; refused = a.refused; passed = a.passed; refusal = a.refusal }
noted a at (Err f) = record { granted = a.granted; refused = a.refused + 1; passed = a.passed; refusal = earlier a.refusal (record { place = at; fault = f }) }
noted a at (Ok Passed) = record { granted = a.granted; refused = a.refused; passed = a.passed + 1; refusal = a.refusal }

-- a tally with what messages were told, each judged in turn
abbrev pub tallied : (ks : Models) → Meanings ks → Tally → List (ℕ × Message) → Tally
tallied ks m a [] = a
tallied ks m a (x ∷ xs) = tallied ks (after m (judged ks m x.1.0 x.1.1)) (noted a x.0 (told (judged ks m x.1.0 x.1.1))) xs
