-- What holds of every list of calls of a visit: the way to a cue leaves no trace.
use Rattle.std.specs.Prelude.{◌≡◌, ℕ, ◌≤◌, Bool, false, ◌↔◌, List, [], ◌∷◌, length, take, None, Ok}
use Rattle.kinds.specs.Model.{Bytes}
use Rattle.book.specs.declared.answer.Tally.{Tally}
use Rattle.book.specs.Models.{Models, nothing}
use Rattle.book.specs.Book.{Asked, picture, clear, message, unit, look, catch_up, Book, fresh, run, told_unit, told_look, told_catch_up, replies}
use Rattle.book.specs.Events.{events, Led, SameOf}

-- the bytes that a call is handed are bytes
abbrev pub Fit : Asked → Type 0
Fit (picture mark) = Unit {0}
Fit clear = Unit {0}
Fit (message t p) = Bytes p
Fit (unit bs fault scratch) = Bytes bs
Fit (look t n buffer) = Unit {0}
Fit (catch_up buffer) = Unit {0}

abbrev pub Fits : List Asked → Type 0
Fits [] = Unit {0}
Fits (c ∷ cs) = Fit c × Fits cs

-- a new visit after a list of calls
abbrev pub after : (ks : Models) → List Asked → Book ks
after ks cs = run ks (fresh ks) cs

-- a visit saves n bytes, of so many messages: they are `bytes`
abbrev pub Saves : (ks : Models) → Book ks → ℕ → ℕ → List ℕ → Type 0
Saves ks b n count bytes = (buffer : List ℕ) × (out : List ℕ) × (told_catch_up ks b buffer ≡ (Ok (record { len = n; messages = count }), out)) × (take n out ≡ bytes)

-- the calls that load bytes: one picture, marked or not, and a unit of clean bytes
abbrev pub loading : Bool → List ℕ → List ℕ → List Asked
loading mark bytes scratch = picture mark ∷ (unit bytes false scratch ∷ [])

-- n messages, all of them granted
abbrev pub all_granted : ℕ → Tally
all_granted n = record { granted = n; refused = 0; passed = 0; refusal = None }

pub record Trusted (ks : Models) : Type 0 where
  -- what is in force of each kind is what its own events lead it to, from nothing in force
  pub led : (cs : List Asked) → Led ks (nothing ks) (λ t. events t false cs) (after ks cs).1
  -- so after two lists that agree on the events of a type, the same is in force of it
  pub same : (t : ℕ) (cs ds : List Asked) → events t false cs ≡ events t false ds → SameOf ks t (after ks cs).1 (after ks ds).1
  -- and every look at it answers and writes the same
  pub looks : (t : ℕ) (cs ds : List Asked) → events t false cs ≡ events t false ds →
      (n : ℕ) (buffer : List ℕ) → told_look ks (after ks cs) t n buffer ≡ told_look ks (after ks ds) t n buffer
  -- two granted catch-ups are equal byte for byte exactly when the same is in force
  pub apart : (cs ds : List Asked) (n m count number : ℕ) (xs ys : List ℕ) → Fits cs → Fits ds →
      Saves ks (after ks cs) n count xs → Saves ks (after ks ds) m number ys → (xs ≡ ys) ↔ ((after ks cs).1 ≡ (after ks ds).1)
  -- a new visit that loads a granted catch-up with room enough is granted every message
  pub granted : (cs : List Asked) (n count : ℕ) (bytes scratch : List ℕ) (mark : Bool) → Fits cs → Saves ks (after ks cs) n count bytes → n ≤ length scratch →
      told_unit ks (after ks (picture mark ∷ [])) bytes false scratch ≡ Ok (all_granted count)
  -- and is where the saved one was, so that its catch-up is the same bytes
  pub back : (cs : List Asked) (n count : ℕ) (bytes scratch : List ℕ) (mark : Bool) → Fits cs → Saves ks (after ks cs) n count bytes → n ≤ length scratch →
      after ks (loading mark bytes scratch) ≡ after ks cs
  -- from then on both answer and write the same to every further list of calls
  pub onward : (cs : List Asked) (n count : ℕ) (bytes scratch : List ℕ) (mark : Bool) → Fits cs → Saves ks (after ks cs) n count bytes → n ≤ length scratch →
      (more : List Asked) → replies ks (after ks (loading mark bytes scratch)) more ≡ replies ks (after ks cs) more
