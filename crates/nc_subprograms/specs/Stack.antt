-- Meaning. The places to which subprograms return, the latest first.
use Rattle.std.specs.Prelude.{◌≡◌, ℕ, ◌==◌, List, [], ◌∷◌, length, Option, Some, None, Result, Ok, Err, if◌then◌else◌}
use Rattle.nc_subprograms.specs.declared.Place.{Place}
use Rattle.fault_codes.specs.declared.alarms.TheConstants.{TOO_MANY_LEVELS}
use Rattle.nc_subprograms.specs.declared.limits.TheConstants.{CALL_LIMIT}

-- the main program has the first level, and each call one more; one level too many is an alarm
abbrev pub stack_after_call : List Place → Place → Result (List Place) ℕ
stack_after_call stack place = if length stack == CALL_LIMIT then Err TOO_MANY_LEVELS else Ok (place ∷ stack)

-- after a fault the stack is unchanged
abbrev pub Calls : Result (List Place) ℕ → Result Unit ℕ → List Place → List Place → Type 0
Calls (Ok stack) result old new = (result ≡ Ok tt) × (new ≡ stack)
Calls (Err code) result old new = (result ≡ Err code) × (new ≡ old)

-- the latest place is the one that is returned to; the main level returns to none
abbrev pub Returns : List Place → Option Place → List Place → Type 0
Returns [] result new = (result ≡ None) × (new ≡ [])
Returns (place ∷ stack) result new = (result ≡ Some place) × (new ≡ stack)
