-- Law. An input calls for one output.
use Rattle.std.specs.Prelude.{◌≡◌, ℕ, List}
use Rattle.exit_statuses.specs.declared.Status.{Status}
use Rattle.turnmill.specs.Output.{InputCallsFor}

-- how the call ends and the bytes that it writes are one
abbrev pub CallsForOneOutput : List ℕ → Type 0
CallsForOneOutput input = (status other : Status) (bytes others : List ℕ)
    → InputCallsFor input status bytes → InputCallsFor input other others → (status ≡ other) × (bytes ≡ others)
