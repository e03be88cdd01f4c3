-- What examples are made of: a thing in force, and an offer to it.
use Rattle.std.specs.Prelude.{ℕ, List, Some}
use Rattle.kinds.specs.declared.in_force.Stay.{Stay}
use Rattle.kinds.specs.Outcome.{Outcome}
use Rattle.kinds.specs.Single.{Rules, Held, single}

-- a content in force
abbrev pub held : Stay → List ℕ → Held
held stay vs = Some (record { content = vs; stay = stay })

-- an offer to what is in force
abbrev pub offer : Rules → Held → List ℕ → Outcome Held
offer r m p = (single r).offered m p
