-- Groups of fields that are read and written as one, whatever follows them.
use Rattle.std.specs.Prelude.{◌≡◌, ℕ, List, ◌++◌, Ok, Err, Result}
use Rattle.layouts.specs.declared.fault.FieldFault.{FieldFault}
use Rattle.fields.specs.declared.reader.Reader.{Reader}
use Rattle.layouts.specs.Layout.{and_then, Layout, reads}
use Rattle.fields.specs.Reading.{left}
use Rattle.fields.specs.Writing.{Sheet, lays}

-- numbers in front of those that are read behind them
abbrev pub before : List ℕ → Result (List ℕ) FieldFault → Result (List ℕ) FieldFault
before vs r = and_then r (λ ws. Ok (vs ++ ws))

-- a reader r that is asked for a group answers it and is after it: whatever follows, the group's numbers come before it
abbrev pub ReadsGroup : {A : Type 0} → (Layout → Layout) → (A → List ℕ) → Reader → Result A FieldFault → Reader → Type 0
ReadsGroup group numbers r (Ok a) q = (l : Layout) → reads (group l) (left r) ≡ before (numbers a) (reads l (left q))
ReadsGroup group numbers r (Err e) q = (l : Layout) → reads (group l) (left r) ≡ Err e

-- a group of these numbers leads from one sheet to another: whatever follows, it is written there
abbrev pub WritesGroup : (Layout → Layout) → List ℕ → Sheet → Sheet → Type 0
WritesGroup group numbers s t = (l : Layout) (vs : List ℕ) → lays (group l) (numbers ++ vs) s ≡ lays l vs t
