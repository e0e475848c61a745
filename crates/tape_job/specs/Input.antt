-- Meaning. Which bytes a reader has taken that gets an input in pieces.
use Rattle.std.specs.Prelude.{◌≡◌, ℕ, ◌≤◌, List, ◌++◌, length, Result, Ok, Err}
use Rattle.fault_codes.specs.declared.Refusal.{Refusal}
use Rattle.tape_job.specs.declared.fault.JobFault.{JobFault}
use Rattle.tape_job.specs.declared.fault.JobFault.TheVariants.{Refused, NoMemory}
use Rattle.tape_job.specs.declared.piece_reader.PieceReader.{PieceReader}
use Rattle.tape_job.specs.Pieces.{IsReady, outcome, TakesPiece}
use Rattle.tape_job.specs.Read.{read_of, IsListed}

-- how many bytes a reader was given, and how far it has read them: what it goes on from, or why it has stopped
pub record ReaderView : Type 0 where
  pub given : ℕ
  pub progress : Result PieceReader JobFault

-- whatever follows these bytes, the input is what comes of the reader, or is refused as the reader says
abbrev pub LeadsOn : Result PieceReader JobFault → List ℕ → Type 0
LeadsOn (Ok pieces) bytes = (more : List ℕ) → outcome pieces more ≡ read_of (bytes ++ more)
LeadsOn (Err (Refused refused)) bytes = (more : List ℕ) → read_of (bytes ++ more) ≡ Err refused
LeadsOn (Err NoMemory) bytes = Unit {0}

-- the reader was given these bytes, in whatever pieces
pub record HasTaken (reader : ReaderView) (bytes : List ℕ) : Type 0 where
  pub number : reader.given ≡ length bytes
  pub leads : LeadsOn reader.progress bytes

-- memory ran out
abbrev pub IsSpent : ReaderView → Type 0
IsSpent reader = reader.progress ≡ Err NoMemory

-- the reader has met this refusal
abbrev pub HasRefused : ReaderView → Refusal → Type 0
HasRefused reader refusal = reader.progress ≡ Err (Refused refusal)

-- the lines are no more than the bytes
abbrev pub CanGoOn : Result PieceReader JobFault → ℕ → Type 0
CanGoOn (Ok pieces) given = IsReady pieces × (pieces.lines.number ≤ given)
CanGoOn (Err fault) given = IsListed fault

-- a piece is taken, or the reader has stopped and stays so
abbrev pub GoesOn : Result PieceReader JobFault → List ℕ → Result (Unit {0}) JobFault → Result PieceReader JobFault → Type 0
GoesOn (Ok old) piece result (Ok new) = TakesPiece old piece result new
GoesOn (Ok old) piece result (Err fault) = ⊥
GoesOn (Err fault) piece result new = result ≡ Err fault
