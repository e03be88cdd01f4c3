-- A picture changes nothing where nothing is in force.
use Rattle.book.proofs.Trusts.{turns-nothing}

pub ruleset idle = (turns-nothing)
