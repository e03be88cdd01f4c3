-- Not found alone, nor by a rule: that at the end of the loop all values were gone over.
use Rattle.std.proofs.Common.{◌++◌, take, ap, ◌∙◌}
use Rattle.bounded.specs.Bounded.{items}
use Rattle.bounded.proofs.Going.{gone-all}
use Rattle.bounded.proofs.Bounded.append.Goals as goal

pub returns : goal.returns
returns g c =
    c.loop-value.invariant
    ∙ ap (λ l. take g.row.N (items c.args.self.now ++ l))
    (gone-all c.args.other.now.places _ _ _ (cc) (cc) (cc) (cc) c.loop-value.yielded c.loop-value.yielded_by _ c.in-None.is c.next.ensures.steps)
