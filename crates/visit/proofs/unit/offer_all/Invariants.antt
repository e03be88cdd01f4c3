use Rattle.std.proofs.Common.{◌≡◌, ◌+◌, ◌≤◌, length}
use Rattle.units.specs.Readings.{coming}
use Rattle.book.specs.Units.{offered_all, untold, tallied}
use Rattle.visit.proofs.unit.offer_all.Given as goal

-- what is left to offer gives what is to be told and to be in force; each message counts once
abbrev pub invariant-loop-message : goal.invariant-loop-message
invariant-loop-message g l =
    let ks = g.R.Kinds.models in
    let m0 = g.R.Kinds.meanings l.initial.kinds in
    (goal.iterator-loop-message g).can_next l.message-iterator
    × (goal.iterator-loop-message g).is_finite l.message-iterator
    × (l.tally.granted + l.tally.refused + l.tally.passed + length (coming l.message-iterator) ≤ length (coming l.messages))
    × (tallied ks (g.R.Kinds.meanings l.kinds) l.tally (coming l.message-iterator) ≡ tallied ks m0 untold (coming l.messages))
    × (offered_all ks (g.R.Kinds.meanings l.kinds) (coming l.message-iterator) ≡ offered_all ks m0 (coming l.messages))
