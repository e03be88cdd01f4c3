-- Not found alone: the three facts of the invariant at a turn, and that at the end all values were gone over.
use Rattle.std.proofs.Common.{[], ◌∷◌, length, ap, subst, arith, of_calls, length-append}
use Rattle.std.specs.Fn.{CalledAt}
use Rattle.std.specs.List.Retain.{IsFiltered}
use Rattle.std.proofs.lemmas.Fn.{called_at, filter_same}
use Rattle.bounded.specs.Bounded.{items}
use Rattle.bounded.proofs.Cells.{items-few, pushed}
use Rattle.bounded.proofs.Filtering.{kept-more, kept-not, kept-all}
use Rattle.bounded.proofs.Going.{gone-before, gone-all}
use Rattle.bounded.proofs.Bounded.kept.Goals as goal

pub loop-value-preserved-then-keep : goal.loop-value-preserved-then-keep
loop-value-preserved-then-keep g c =
    let at = c.loop-value in
    let before = gone-before c.args.self.now.places _ _ _ (cc) (cc) (cc) (cc) at.yielded at.yielded_by _ c.in-Some.value c.in-Some.is c.next.ensures.steps in
    let more = pushed g.row.N _ (items at.kept) (items c.push.new.self) _ (omega (arith, at.invariant.room, before, items-few c.args.self.now)) c.push.ensures.answer c.push.ensures.items in
    record {
      callable = search of_calls;
      room = omega (arith, at.invariant.room, ap length more, length-append (items at.kept) (c.in-Some.value.now ∷ []), length-append at.yielded (c.in-Some.value ∷ []));
      keeps = kept-more (CalledAt g.F.FnMut) c.args.keep at.yielded at.keep (items at.kept) at.invariant.keeps c.in-Some.value _ _ (called_at g.F.FnMut c.keep.ensures c.if-keep.true) more;
    }

pub loop-value-preserved : goal.loop-value-preserved
loop-value-preserved g c =
    let at = c.loop-value in
    record {
      callable = search of_calls;
      room = omega (arith, at.invariant.room, length-append at.yielded (c.in-Some.value ∷ []));
      keeps = kept-not (CalledAt g.F.FnMut) c.args.keep at.yielded at.keep (items at.kept) at.invariant.keeps c.in-Some.value _ (called_at g.F.FnMut c.keep.ensures c.if-keep.false);
    }

pub returns : goal.returns
returns g c =
    let at = c.loop-value in
    let R = CalledAt g.F.FnMut in
    let all = gone-all c.args.self.now.places _ _ _ (cc) (cc) (cc) (cc) at.yielded at.yielded_by _ c.in-None.is c.next.ensures.steps in
    let done = subst (λ l. IsFiltered R c.args.keep l (items at.kept)) all (kept-all R c.args.keep _ at.keep (items at.kept) at.invariant.keeps) in
    record { filtered = done; tested = λ test says. filter_same R test c.args.keep says (items c.args.self.now) (items at.kept) done }
