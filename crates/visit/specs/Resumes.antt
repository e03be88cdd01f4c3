-- A visit made from a saved catch-up.
use Rattle.std.specs.Prelude.{◌≡◌, ℕ, ◌≤◌, Bool, false, List, [], ◌∷◌, length, Some, None, Ok, Err, Option, Result}
use Rattle.book.specs.declared.answer.Tally.{Tally}
use Rattle.book.specs.declared.fault.MessageFault.{MessageFault}
use Rattle.book.specs.declared.fault.Refusal.{Refusal}
use Rattle.book.specs.declared.fault.Refusal.TheVariants.{Offer}
use Rattle.book.specs.Models.{Models}
use Rattle.book.specs.Book.{Asked, picture, Book, told_unit}
use Rattle.book.specs.Trust.{Fits, after, Saves, loading}

-- a visit none of whose messages was refused
abbrev pub unrefused : {B : Type 0} → B → Option MessageFault → Result B Refusal
unrefused b None = Ok b
unrefused b (Some f) = Err (Offer f.fault)

abbrev pub if_loaded : {B : Type 0} → B → Result Tally Refusal → Result B Refusal
if_loaded b (Ok t) = unrefused b t.refusal
if_loaded b (Err f) = Err f

-- a new visit that begins one picture, marked or not, and loads bytes; or why they are refused
abbrev pub resumed : (ks : Models) → List ℕ → Bool → List ℕ → Result (Book ks) Refusal
resumed ks bytes mark scratch = if_loaded (after ks (loading mark bytes scratch)) (told_unit ks (after ks (picture mark ∷ [])) bytes false scratch)

-- where the bytes were saved by a visit of the set, and the scratch is long enough, it is where that visit was
abbrev pub Resumes : (ks : Models) → List ℕ → List ℕ → Result (Book ks) Refusal → Type 0
Resumes ks bytes scratch r = (cs : List Asked) (n count : ℕ) → Fits cs → Saves ks (after ks cs) n count bytes → n ≤ length scratch → r ≡ Ok (after ks cs)
