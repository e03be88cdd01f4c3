-- A visit that is made from what another saved is where that one was.
use Rattle.std.proofs.Common.{◌≡◌, ℕ, Bool, List, Ok, Result, ap, ◌∙◌}
use Rattle.book.specs.declared.fault.Refusal.{Refusal}
use Rattle.book.specs.Models.{Models, Lawfuls, listed, Proper}
use Rattle.book.specs.Book.{Book}
use Rattle.book.specs.Trust.{after, loading, all_granted}
use Rattle.book.proofs.Trusts.{trusted}
use Rattle.visit.specs.Resumes.{if_loaded, resumed, Resumes}

pub resumes : (ks : Models) → Lawfuls ks → Proper (listed ks) → (bytes : List ℕ) (mark : Bool) (scratch : List ℕ) (r : Result (Book ks) Refusal) → r ≡ resumed ks bytes mark scratch → Resumes ks bytes scratch r
resumes ks l p bytes mark scratch r e cs n count fit saves long =
    let t = trusted ks l p in
    e
    ∙ (ap (if_loaded (after ks (loading mark bytes scratch))) (t.granted cs n count bytes scratch mark fit saves long)
    ∙ ap (λ (b : Book ks). if_loaded b (Ok (all_granted count))) (t.back cs n count bytes scratch mark fit saves long))
