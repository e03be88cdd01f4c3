-- Where a reading is refused at a `?`.
use Rattle.std.proofs.Common.{◌≡◌, Ok, Err, Result, ap}
use Rattle.std.specs.Result.{IsErrAnd}
use Rattle.layouts.specs.declared.fault.FieldFault.{FieldFault}

-- what goes out at a `?` is the refusal that came
pub goes_out : {A : Type 0} → {e : FieldFault} (r : Result A FieldFault) → IsErrAnd r (λ d. d ≡ e) → r ≡ Err e
goes_out (Ok a) h = absurd h
goes_out (Err d) h = ap Err h
