-- Meaning. The words that the program is called with.
use Rattle.std.specs.Prelude.{◌≡◌, ◌≢◌, ℕ, List, map, drop, string_bytes, Option, None, Result, Ok, Err, IsErrAnd}
use Rattle.std.specs.Global.{Global, Vec}
use Rattle.std.specs.IoError.{error_kind}
use Rattle.std.specs.Vec.Iter.{into_iter_items}
use Rattle.std.specs.declared.io.Error.{Error}
use Rattle.std.specs.declared.io.ErrorKind.TheVariants.{OutOfMemory}
use Rattle.std.specs.declared.string.String.{String}
use Rattle.std.specs.declared.vec.IntoIter.{IntoIter}
use Rattle.exit_statuses.specs.declared.Status.{Status}
use Rattle.exit_statuses.specs.declared.Status.TheVariants.{Usage, NoMemory}
use Rattle.turnmill.specs.Words.{call_of}
use Rattle.turnmill.specs.declared.words.Request.{Request}

-- the arguments of a program, of which the first is its own name
abbrev pub Arguments : Type 0
Arguments = IntoIter (String Global) Global

-- the texts after the program's own name
abbrev pub words_in : Arguments → List (List ℕ)
words_in arguments = map string_bytes (drop 1 (into_iter_items arguments))

-- what the words call for; arguments of which one is no text have no words
abbrev pub call_in : Result Arguments Error → Option Request
call_in (Ok arguments) = call_of (words_in arguments)
call_in (Err error) = None

-- an argument is no text: the arguments could not be had, and not for want of memory
abbrev pub HasNoText : Result Arguments Error → Type 0
HasNoText arguments = IsErrAnd arguments (λ error. error_kind error ≢ OutOfMemory)

-- the words of the arguments; or memory was wanted and not found; or an argument is no text
abbrev pub GivesWords : Result Arguments Error → Result (Vec (String Global)) Status → Type 0
GivesWords (Ok arguments) (Ok words) = map string_bytes words.items ≡ words_in arguments
GivesWords (Ok arguments) (Err status) = status ≡ NoMemory
GivesWords (Err error) (Ok words) = ⊥
GivesWords (Err error) (Err status) =
    (error_kind error ≡ OutOfMemory → status ≡ NoMemory) × (error_kind error ≢ OutOfMemory → status ≡ Usage)
