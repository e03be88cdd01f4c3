-- The rules of a kind that holds one thing, from the layout of its messages.
use Rattle.std.specs.Prelude.{ℕ, Bool, true, false, cond, ◌&&◌, List, [], ◌∷◌, Some, None, Ok, Err, Option, Result, ◌==◌}
use Rattle.layouts.specs.Layout.{Layout, cancelable, Holds}
use Rattle.layouts.specs.Payloads.{payload}
use Rattle.records.specs.declared.fault.PayloadFault.{PayloadFault}
use Rattle.records.specs.Record.{reads_as}
use Rattle.kinds.specs.declared.in_force.Stay.{Stay}
use Rattle.kinds.specs.declared.in_force.Stay.TheVariants.{Once, Stays}
use Rattle.kinds.specs.Single.{Rules}

-- a cancel bit of 1 cancels, and after a 0 comes the content
abbrev pub uncanceled : Result (List ℕ) PayloadFault → Result (Option (List ℕ)) PayloadFault
uncanceled (Err e) = Err e
uncanceled (Ok []) = Ok None
uncanceled (Ok (cancel ∷ vs)) = cond (cancel == 1) (Ok None) (Ok (Some vs))

-- every payload says a content
abbrev pub always : Result (List ℕ) PayloadFault → Result (Option (List ℕ)) PayloadFault
always (Err e) = Err e
always (Ok vs) = Ok (Some vs)

abbrev pub equal : List ℕ → List ℕ → Bool
equal [] [] = true
equal [] (y ∷ ys) = false
equal (x ∷ xs) [] = false
equal (x ∷ xs) (y ∷ ys) = x == y && equal xs ys

-- Messages that begin with a cancel bit; a content replaces any other.
abbrev pub canceling : ℕ → ℕ → Layout → (List ℕ → Stay) → Rules
canceling number greatest content stay = record {
  number = number;
  greatest = greatest;
  reads = λ p. uncanceled (reads_as (cancelable content) p);
  payload = λ vs. payload (cancelable content) (0 ∷ vs);
  Proper = λ vs. Holds content vs;
  stay = stay;
  agrees = λ _ _. true;
}

-- Messages that cannot cancel, all of one content, which stays.
abbrev pub constant : ℕ → ℕ → Layout → Rules
constant number greatest content = record {
  number = number;
  greatest = greatest;
  reads = λ p. always (reads_as content p);
  payload = λ vs. payload content vs;
  Proper = λ vs. Holds content vs;
  stay = λ _. Stays;
  agrees = equal;
}

-- once where a period or persistence is 0
abbrev pub lasting : ℕ → Stay
lasting n = cond (n == 0) Once Stays
