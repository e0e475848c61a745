-- Meaning. What an input calls for: how the call ends, and the bytes that it writes.
use Rattle.std.specs.Prelude.{◌≡◌, ◌⊎◌, ℕ, ◌<◌, ◌≤◌, List, [], length, Option, Result, Ok, Err, ⊤}
use Rattle.edge_io.specs.Moves.{Grows, GrowsByFront}
use Rattle.exit_statuses.specs.Statuses.{status_of}
use Rattle.exit_statuses.specs.declared.Status.{Status}
use Rattle.exit_statuses.specs.declared.Status.TheVariants as ends
use Rattle.fault_codes.specs.declared.Refusal.{Refusal}
use Rattle.job_lines.specs.declared.limits.TheConstants.{INPUT_LIMIT}
use Rattle.job_report.specs.Report.{report_bytes, refusal_bytes}
use Rattle.job_types.specs.Job.{JobView}
use Rattle.sync_types.specs.Views.{RunView}
use Rattle.sync_types.specs.declared.verdicts.Verdict.{Verdict}
use Rattle.tape_job.specs.Read.{read_of}
use Rattle.turnmill.specs.Judged.{IsJudgedInOrder}

-- a job calls for the report of its run in order, and for the status of the verdict on it
pub record JobCallsFor (job : JobView) (status : Status) (bytes : List ℕ) : Type 0 where
  pub run : RunView
  pub verdict : Verdict
  pub judged : IsJudgedInOrder job run verdict
  pub status_is : status ≡ status_of verdict
  pub bytes_are : bytes ≡ report_bytes job run verdict

-- a job calls for the report of this run with this verdict, and for the status of the verdict
abbrev pub CallsForReport : JobView → RunView → Verdict → Type 0
CallsForReport job run verdict = JobCallsFor job (status_of verdict) (report_bytes job run verdict)

-- a refusal calls for its line
pub record IsLineOf (refusal : Refusal) (status : Status) (bytes : List ℕ) : Type 0 where
  pub status_is : status ≡ ends.Refused
  pub bytes_are : bytes ≡ refusal_bytes refusal

abbrev pub ReadingCallsFor : Result JobView Refusal → Status → List ℕ → Type 0
ReadingCallsFor (Ok job) status bytes = JobCallsFor job status bytes
ReadingCallsFor (Err refusal) status bytes = IsLineOf refusal status bytes

-- What an input calls for: how the call ends, and the bytes that it writes. An input of more bytes than it may have calls for
-- no bytes, whatever it says.
pub record InputCallsFor (input : List ℕ) (status : Status) (bytes : List ℕ) : Type 0 where
  pub long : INPUT_LIMIT < length input → (status ≡ ends.TooLong) × (bytes ≡ [])
  pub short : length input ≤ INPUT_LIMIT → ReadingCallsFor (read_of input) status bytes

-- the call ends as is called for, and what is written has grown by the bytes that are called for
pub record Writes (calls_for : Status → List ℕ → Type 0) (status : Status) (old new : Option (List ℕ)) : Type 0 where
  pub bytes : List ℕ
  pub called_for : calls_for status bytes
  pub grows : Grows old new bytes

-- a front of the bytes that are called for is written
pub record WritesFront (calls_for : Status → List ℕ → Type 0) (old new : Option (List ℕ)) : Type 0 where
  pub status : Status
  pub bytes : List ℕ
  pub called_for : calls_for status bytes
  pub grows : GrowsByFront old new bytes

-- the status is that of a verdict
abbrev pub IsVerdict : Status → Type 0
IsVerdict ends.Yes = ⊤
IsVerdict ends.No = ⊤
IsVerdict ends.Race = ⊤
IsVerdict ends.Stuck = ⊤
IsVerdict ends.Alarm = ⊤
IsVerdict ends.Undecided = ⊤
IsVerdict status = ⊥

-- the status is that of an input which was read whole: it has a verdict, or it is refused
abbrev pub IsReadWhole : Status → Type 0
IsReadWhole ends.Yes = ⊤
IsReadWhole ends.No = ⊤
IsReadWhole ends.Race = ⊤
IsReadWhole ends.Stuck = ⊤
IsReadWhole ends.Alarm = ⊤
IsReadWhole ends.Undecided = ⊤
IsReadWhole ends.Refused = ⊤
IsReadWhole status = ⊥

-- a call that has read its whole input ends so, or a write fails, or memory is wanted and not found
abbrev pub IsAnswer : Status → Type 0
IsAnswer status = IsReadWhole status ⊎ ((status ≡ ends.WriteFault) ⊎ (status ≡ ends.NoMemory))
