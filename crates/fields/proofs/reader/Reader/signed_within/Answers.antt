-- Not found alone within the margin of the check: the first of the three facts.
use Rattle.std.proofs.Common.{refl, rules}
use Rattle.layouts.specs.Layout.{between}
use Rattle.fields.proofs.reader.Reader.signed_within.Goals as goal

pub returns-then-not-contains-clause-reads : goal.returns-then-not-contains-clause-reads
unfolding between
returns-then-not-contains-clause-reads c = (search rules, (refl, refl))
