-- Meaning. The codes of refusals.
use Rattle.std.specs.Prelude.{ℕ, Result, Ok, Err, Option, Some, None}
use Rattle.job_lines.specs.declared.code.Code.{Code}
use Rattle.job_lines.specs.declared.code.Code.TheVariants.{NoJobLine, LineTooLong, BadByte, UnknownJobLine, OutOfRange, DeclaredTwice, NotDeclared, OwnerDiffers, NameRepeated, BadHeader, TooMany, NotInLibrary, OpenText}

-- what a refusal shows of a rule
unfoldable pub refusal_code : Code → ℕ
refusal_code NoJobLine = 1
refusal_code LineTooLong = 2
refusal_code BadByte = 3
refusal_code UnknownJobLine = 4
refusal_code OutOfRange = 5
refusal_code DeclaredTwice = 6
refusal_code NotDeclared = 7
refusal_code OwnerDiffers = 8
refusal_code NameRepeated = 9
refusal_code BadHeader = 10
refusal_code TooMany = 11
refusal_code NotInLibrary = 12
refusal_code OpenText = 20

-- one reading after the other: the first rule that is broken counts
infixl 10 ◌>>=◌
abbrev pub ◌>>=◌ : {A B : Type 0} → Result A Code → (A → Result B Code) → Result B Code
Ok a >>= next = next a
Err code >>= next = Err code

-- the value, or else the rule is broken
abbrev pub or_code : {A : Type 0} → Code → Option A → Result A Code
or_code code None = Err code
or_code code (Some a) = Ok a
