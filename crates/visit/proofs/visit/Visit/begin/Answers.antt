use Rattle.std.proofs.Common.{◌≡◌, ℕ, Bool, List, Result, rules}
use Rattle.book.specs.declared.fault.Refusal.{Refusal}
use Rattle.book.specs.Book.{Book}
use Rattle.visit.specs.Resumes.{resumed, Resumes}
use Rattle.visit.proofs.Resumed.{resumes}
use Rattle.visit.proofs.visit.Visit.begin.Given.{Over}
use Rattle.visit.proofs.visit.Visit.begin.Goals as goal

-- on both ways out
back : (g : Over) (saved : List ℕ) (mark : Bool) (scratch : List ℕ) (r : Result (Book g.S.List.Kinds.models) Refusal) → r ≡ resumed g.S.List.Kinds.models saved mark scratch → Resumes g.S.List.Kinds.models saved scratch r
back g = resumes g.S.List.Kinds.models g.met.S.List.Kinds.lawful g.met.S.Set.proper

pub returns-in_err-load-clause-back : goal.returns-in_err-load-clause-back
returns-in_err-load-clause-back g c = back g c.args.saved.now c.args.new_sequence c.args.scratch.now _ (search rules)

pub returns-clause-back : goal.returns-clause-back
returns-clause-back g c = back g c.args.saved.now c.args.new_sequence c.args.scratch.now _ (search rules)
