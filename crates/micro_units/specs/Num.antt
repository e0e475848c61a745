-- Meaning. Numbers and lengths, and where they are in range.
use Rattle.std.specs.Prelude.{◌≡◌, ◌≢◌, ◌<◌, ◌≤◌, ℤ, pos, ◌<ℤ◌, ◌≤ℤ◌, Result, Ok, Err, MatchResult}
use Rattle.std.specs.Int.RustNames.{unsigned_abs}
use Rattle.micro_units.specs.declared.Num.{Num}
use Rattle.micro_units.specs.declared.Um.{Um}
use Rattle.micro_units.specs.declared.limits.TheConstants.{NUMBER_LIMIT, CHANGE_LIMIT}
use Rattle.micro_units.specs.declared.NumFault.{NumFault}
use Rattle.micro_units.specs.declared.NumFault.TheVariants.{NotANumber, TooLarge, DivideByZero, NegativeRoot}

-- a count of millionths that a number can have, and of micrometres that it can be turned into
abbrev pub FitsNum : ℤ → Type 0
FitsNum millionths = unsigned_abs millionths < NUMBER_LIMIT

abbrev pub FitsUm : ℤ → Type 0
FitsUm micrometres = unsigned_abs micrometres ≤ CHANGE_LIMIT

-- the answer has this value, or is TooLarge exactly where the value is out of range
abbrev pub GivesNum : ℤ → Result Num NumFault → Type 0
GivesNum value answer =
    MatchResult answer (λ n. (n ≡ value) × FitsNum value) (λ e. (e ≡ TooLarge) × ¬ (FitsNum value))

abbrev pub GivesUm : ℤ → Result Um NumFault → Type 0
GivesUm value answer =
    MatchResult answer (λ n. (n ≡ value) × FitsUm value) (λ e. (e ≡ TooLarge) × ¬ (FitsUm value))

-- the answer of a division: DivideByZero exactly where the divisor is 0
abbrev pub GivesQuotient : ℤ → ℤ → Result Num NumFault → Type 0
GivesQuotient divisor value (Ok n) = (divisor ≢ pos 0) × (n ≡ value)
GivesQuotient divisor value (Err DivideByZero) = divisor ≡ pos 0
GivesQuotient divisor value (Err TooLarge) = (divisor ≢ pos 0) × ¬ (FitsNum value)
GivesQuotient divisor value (Err NotANumber) = ⊥
GivesQuotient divisor value (Err NegativeRoot) = ⊥

-- a remainder is never out of range
abbrev pub GivesRemainder : ℤ → ℤ → Result Num NumFault → Type 0
GivesRemainder divisor value answer =
    MatchResult answer (λ n. (divisor ≢ pos 0) × (n ≡ value)) (λ e. (e ≡ DivideByZero) × (divisor ≡ pos 0))

-- the answer of a root: NegativeRoot exactly where the number is below 0
abbrev pub GivesRoot : ℤ → ℤ → Result Num NumFault → Type 0
GivesRoot number value answer =
    MatchResult answer (λ r. (pos 0 ≤ℤ number) × (r ≡ value)) (λ e. (e ≡ NegativeRoot) × (number <ℤ pos 0))
