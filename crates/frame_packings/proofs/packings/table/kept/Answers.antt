-- Not found alone: the facts of the invariant at a turn, and that at the end all values were gone over.
use Rattle.std.proofs.Common.{[], ◌∷◌, length, ap, arith, of_calls, length-append}
use Rattle.std.specs.Fn.{CalledAt}
use Rattle.std.proofs.lemmas.Fn.{called_at, filter_same}
use Rattle.bounded.specs.Bounded.{items}
use Rattle.bounded.proofs.Cells.{items-few, pushed}
use Rattle.frame_packings.proofs.Filtering.{kept-more, kept-not, kept-all}
use Rattle.frame_packings.proofs.packings.table.kept.Goals as goal

pub loop-packing-preserved-then-keep : goal.loop-packing-preserved-then-keep
loop-packing-preserved-then-keep g c =
    let at = c.loop-packing in
    let next = c.in-Some.ensures.steps in
    let short = ap length next in
    let more = pushed 4 _ (items at.kept) (items c.push.new.self) _ (omega (arith, at.invariant.room, short, items-few c.args.table.now)) c.push.ensures.answer c.push.ensures.items in
    record {
      callable = search of_calls;
      room = omega (arith, at.invariant.room, short, ap length more, length-append (items at.kept) (c.in-Some.packing ∷ []));
      keeps = kept-more (CalledAt g.F.FnMut) c.args.keep (items c.args.table.now) at.keep (items at.kept) _ at.invariant.keeps c.in-Some.packing _ next _ _ (called_at g.F.FnMut c.keep.ensures c.if-keep.true) more;
    }

pub loop-packing-preserved : goal.loop-packing-preserved
loop-packing-preserved g c =
    let at = c.loop-packing in
    let next = c.in-Some.ensures.steps in
    record {
      callable = search of_calls;
      room = omega (arith, at.invariant.room, ap length next);
      keeps = kept-not (CalledAt g.F.FnMut) c.args.keep (items c.args.table.now) at.keep (items at.kept) _ at.invariant.keeps c.in-Some.packing _ next _ (called_at g.F.FnMut c.keep.ensures c.if-keep.false);
    }

pub returns-clause-filtered : goal.returns-clause-filtered
returns-clause-filtered g c =
    let at = c.loop-packing in
    kept-all (CalledAt g.F.FnMut) c.args.keep (items c.args.table.now) at.keep (items at.kept) _ at.invariant.keeps c.in-None.ensures.steps.0

pub returns-clause-tested : goal.returns-clause-tested
returns-clause-tested g c =
    let at = c.loop-packing in
    λ test says. filter_same (CalledAt g.F.FnMut) test c.args.keep says (items c.args.table.now) (items at.kept) (returns-clause-filtered g c)
