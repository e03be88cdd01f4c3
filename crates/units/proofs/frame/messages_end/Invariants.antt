use Rattle.std.proofs.Common.{◌≡◌, ◌-◌, ◌≤◌, length, drop}
use Rattle.units.specs.Units.{unheard}
use Rattle.units.proofs.frame.messages_end.Given as goal

-- from here on the same is left
abbrev pub invariant-loop-next : goal.invariant-loop-next
invariant-loop-next l = (l.at ≤ length l.body) × (unheard (drop l.at l.body) ≡ unheard l.body)

abbrev pub decreases-loop-next : goal.decreases-loop-next
decreases-loop-next l = length l.body - l.at
