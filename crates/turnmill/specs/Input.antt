-- Meaning. The words of a call, and the input that is read from its source.
use Rattle.std.specs.Prelude.{◌≡◌, ℕ, ◌+◌, ◌<◌, ◌≤◌, Bool, false, List, [], ◌∷◌, length, drop, codes, Option, None, Some, Result, Ok, Err, ⊤}
use Rattle.std.specs.Str.{bytes_eq}
use Rattle.job_types.specs.Job.{JobView}
use Rattle.job_types.specs.declared.job.Job.{Job}
use Rattle.fault_codes.specs.declared.Refusal.{Refusal}
use Rattle.tape_job.specs.Read.{read_of}
use Rattle.turnmill.specs.declared.check.InputFault.{InputFault}
use Rattle.turnmill.specs.declared.check.InputFault.TheVariants.{Failed, TooLong, NoMemory}
use Rattle.job_lines.specs.declared.limits.TheConstants.{INPUT_LIMIT}

-- the words are `check` alone
abbrev pub is_check : List (List ℕ) → Bool
is_check (word ∷ []) = bytes_eq word (codes "check")
is_check words = false

-- these are all the bytes that were left, and none is left
abbrev pub ReadsAll : Option (List ℕ) → Option (List ℕ) → List ℕ → Type 0
ReadsAll None new bytes = ⊤
ReadsAll (Some xs) new bytes = (xs ≡ bytes) × (new ≡ Some [])

-- more bytes were left than an input may have, and so many and one more of them were taken
abbrev pub TakesTooMany : Option (List ℕ) → Option (List ℕ) → Type 0
TakesTooMany None new = ⊤
TakesTooMany (Some xs) new = (INPUT_LIMIT < length xs) × (new ≡ Some (drop (INPUT_LIMIT + 1) xs))

-- an input that is not too long was read whole, and it is this job, or refused so
pub record IsReadFrom (read : Result JobView Refusal) (old new : Option (List ℕ)) : Type 0 where
  pub bytes : List ℕ
  pub all : ReadsAll old new bytes
  pub short : length bytes ≤ INPUT_LIMIT
  pub is : read_of bytes ≡ read

-- the whole input was read, or a read failed, or the input is too long, or memory was wanted and not found
abbrev pub ReadsJob : Result (Result Job Refusal) InputFault → Option (List ℕ) → Option (List ℕ) → ℕ → ℕ → Type 0
ReadsJob (Ok read) old new before now = (now ≡ before) × IsReadFrom read old new
ReadsJob (Err Failed) old new before now = before < now
ReadsJob (Err TooLong) old new before now = (now ≡ before) × TakesTooMany old new
ReadsJob (Err NoMemory) old new before now = now ≡ before
