-- Steps. How an input that comes in pieces is read: its lines one after the other, and the one that was begun.
use Rattle.std.specs.Prelude.{◌≡◌, ◌⊎◌, ℕ, ◌+◌, ◌<◌, ◌≤◌, Bool, true, false, not, List, [], ◌∷◌, ◌++◌, if◌then◌else◌, length, drop, Result, Ok, Err}
use Rattle.std.specs.List.{list_all, enumerate_from}
use Rattle.block_scanner.specs.LineParts.{LinePart, part_of}
use Rattle.job_types.specs.Job.{JobView}
use Rattle.job_types.specs.SoundJob.{BlocksFit}
use Rattle.fault_codes.specs.declared.Refusal.{Refusal}
use Rattle.tape_job.specs.declared.fault.JobFault.{JobFault}
use Rattle.tape_job.specs.declared.fault.JobFault.TheVariants.{Refused, NoMemory}
use Rattle.tape_job.specs.declared.numbered_reader.NumberedReader.{NumberedReader}
use Rattle.tape_job.specs.declared.piece_reader.PieceReader.{PieceReader}
use Rattle.tape_job.specs.Lines.{is_feed, raw_lines}
use Rattle.tape_job.specs.Read.{trial}
use Rattle.tape_job.specs.Rules.{last_count}
use Rattle.tape_job.specs.Told.{Told, facts_of}
use Rattle.tape_job.specs.Steps.{tell, run, finish}

-- ---- whole lines

-- no line was taken
abbrev pub nothing_taken : NumberedReader
nothing_taken = record { reader = facts_of []; number = 0 }

-- the parameter numbers of the blocks fit, and the last program has no more blocks than there were lines
pub record IsInOrder (lines : NumberedReader) : Type 0 where
  pub fits : BlocksFit lines.reader.job
  pub few : last_count lines.reader.job.programs ≤ lines.number

-- whatever lines stand before them, the two say the same
abbrev pub AreAlike : List ℕ → List ℕ → Type 0
AreAlike line other = (told : Told) (number : ℕ) → (trial told (number, line) ≡ trial told (number, other)) × (tell told (number, line) ≡ tell told (number, other))

-- what is told when these lines follow
abbrev pub run_on : NumberedReader → List (List ℕ) → Result Told Refusal
run_on lines more = run lines.reader (enumerate_from (lines.number + 1) more)

-- the line is taken, or is refused whatever follows
abbrev pub TakesLine : NumberedReader → List ℕ → Result (Unit {0}) JobFault → NumberedReader → Type 0
TakesLine old line (Ok done) new = IsInOrder new × (new.number ≡ old.number + 1) × ((more : List (List ℕ)) → run_on old (line ∷ more) ≡ run_on new more)
TakesLine old line (Err (Refused refused)) new = (more : List (List ℕ)) → run_on old (line ∷ more) ≡ Err refused
TakesLine old line (Err NoMemory) new = Unit {0}

-- ---- parts of lines

-- no byte is a line feed
abbrev pub lacks_feed : List ℕ → Bool
lacks_feed bytes = list_all (λ byte. not (is_feed byte)) bytes

-- the bytes of the line that was begun
abbrev pub begun_line : PieceReader → List ℕ
begun_line pieces = if pieces.begun then pieces.cutter.front else []

-- the cutter holds the line that was begun, which has no line feed yet; where none was, it begins a new one
abbrev pub HoldsLine : Bool → LinePart → Type 0
HoldsLine true part = (part ≡ part_of part.front false) × (lacks_feed part.front ≡ true) × (0 < length part.front)
HoldsLine false part = (part ≡ part_of [] false) ⊎ ((line : List ℕ) × (part ≡ part_of line true))

pub record IsReady (pieces : PieceReader) : Type 0 where
  pub in_order : IsInOrder pieces.lines
  pub holds : HoldsLine pieces.begun pieces.cutter

-- what the input is when these bytes follow
unfoldable pub outcome : PieceReader → List ℕ → Result JobView Refusal
outcome pieces more = finish (run_on pieces.lines (raw_lines (begun_line pieces ++ more)))

-- a front of the piece is taken, or its line is refused whatever follows
abbrev pub TakesFront : PieceReader → List ℕ → Result ℕ JobFault → PieceReader → Type 0
TakesFront old piece (Ok taken) new = IsReady new × (0 < taken) × (taken ≤ length piece) × (new.lines.number ≤ old.lines.number + taken)
    × ((more : List ℕ) → outcome new (drop taken piece ++ more) ≡ outcome old (piece ++ more))
TakesFront old piece (Err (Refused refused)) new = (more : List ℕ) → outcome old (piece ++ more) ≡ Err refused
TakesFront old piece (Err NoMemory) new = Unit {0}

-- the piece is taken, or a line is refused whatever follows
abbrev pub TakesPiece : PieceReader → List ℕ → Result (Unit {0}) JobFault → PieceReader → Type 0
TakesPiece old piece (Ok done) new = IsReady new × (new.lines.number ≤ old.lines.number + length piece) × ((more : List ℕ) → outcome new more ≡ outcome old (piece ++ more))
TakesPiece old piece (Err (Refused refused)) new = (more : List ℕ) → outcome old (piece ++ more) ≡ Err refused
TakesPiece old piece (Err NoMemory) new = Unit {0}
