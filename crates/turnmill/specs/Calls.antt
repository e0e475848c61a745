-- Meaning. What every call promises: how it ends, what it writes and what it leaves unread.
use Rattle.std.specs.Prelude.{◌≡◌, ◌≢◌, ◌↔◌, ◌⊎◌, ℕ, ◌<◌, ◌≤◌, List, [], ◌++◌, length, Option, None, Some, IfSome, IfOk, IsOkAnd, IsErr, IsErrAnd}
use Rattle.edge_io.specs.Moves.{Grows}
use Rattle.exit_statuses.specs.declared.Status.{Status}
use Rattle.exit_statuses.specs.declared.Status.TheVariants as ends
use Rattle.job_lines.specs.declared.limits.TheConstants.{INPUT_LIMIT}
use Rattle.job_report.specs.Report.{refusal_bytes}
use Rattle.job_report.specs.Verdicts.{verdict_line}
use Rattle.job_types.specs.Job.{JobView}
use Rattle.speed_laws.specs.Safety.{IsSafeAlways}
use Rattle.sync_types.specs.declared.verdicts.PlaceName.{PlaceName}
use Rattle.sync_types.specs.declared.verdicts.Verdict.TheVariants as verdicts
use Rattle.tape_job.specs.Read.{read_of}
use Rattle.turnmill.specs.Input.{TakesTooMany}
use Rattle.turnmill.specs.JobDoings.{doings_of}
use Rattle.turnmill.specs.Judged.{HasFirstMeeting, IsClear}
use Rattle.turnmill.specs.OneResult.{HasOneResult, OneQuietRunSpeaksForAll}
use Rattle.turnmill.specs.Output.{IsVerdict, Writes, WritesFront}
use Rattle.turnmill.specs.Summary.{WordsCallFor}
use Rattle.turnmill.specs.Words.{input_for}
use Rattle.turnmill.specs.declared.words.Request.{Request}
use Rattle.turnmill.specs.declared.words.Request.TheVariants.{Check}

-- ---- the source and the sink

-- a source: itself, the bytes that are left, where it tells them, and how many reads failed
pub record SourceState (S : Type 0) : Type 0 where
  pub itself : S
  pub left : Option (List ℕ)
  pub faults : ℕ

-- a sink: itself, the bytes written, where it tells them, and how many writes failed
pub record SinkState (K : Type 0) : Type 0 where
  pub itself : K
  pub written : Option (List ℕ)
  pub faults : ℕ

-- as it was before the call, and as it is after it
pub record Change (X : Type 0) : Type 0 where
  pub old : X
  pub new : X

abbrev pub source_change : {S : Type 0} → (S → Option (List ℕ)) → (S → ℕ) → S → S → Change (SourceState S)
source_change left faults old new = record {
  old = record { itself = old; left = left old; faults = faults old };
  new = record { itself = new; left = left new; faults = faults new };
}

abbrev pub sink_change : {K : Type 0} → (K → Option (List ℕ)) → (K → ℕ) → K → K → Change (SinkState K)
sink_change written faults old new = record {
  old = record { itself = old; written = written old; faults = faults old };
  new = record { itself = new; written = written new; faults = faults new };
}

-- no read and no write of the call failed
abbrev pub HadNoFault : {S K : Type 0} → Change (SourceState S) → Change (SinkState K) → Type 0
HadNoFault source sink = (source.new.faults ≡ source.old.faults) × (sink.new.faults ≡ sink.old.faults)

-- ---- what is promised

-- NO of a job: what is written ends with the verdict line that names the first two boxes that meet.
pub record NamesFirstMeeting (job : JobView) (old new : Option (List ℕ)) : Type 0 where
  pub first : PlaceName
  pub second : PlaceName
  pub meeting : HasFirstMeeting job first second
  pub head : List ℕ
  pub named : Grows old new (head ++ verdict_line (verdicts.No first second))

-- What a call that ends so promises of its input, where that is known: the input of the source, or the job of the
-- number.
pub record AnswersInput {S K : Type 0} (request : Option Request) (input : List ℕ) (result : Status)
    (source : Change (SourceState S)) (sink : Change (SinkState K)) : Type 0 where
  -- Where no read and no write fails, the call ends as its words call for with their input and writes these very bytes,
  -- unless memory is wanted and not found.
  pub exact : HadNoFault source sink
      → (result ≡ ends.NoMemory) ⊎ Writes (WordsCallFor request input) result sink.old.written sink.new.written
  -- A verdict comes with its whole output. Of an input that was to be read no byte is left.
  pub verdict : IsVerdict result → Writes (WordsCallFor request input) result sink.old.written sink.new.written
      × (request ≡ Some Check → source.new.left ≡ Some [])
  -- At YES the input is a job whose run in order has no race and leaves no channel alarmed or waiting, and of which no
  -- two boxes that are compared meet.
  pub yes : result ≡ ends.Yes → IsOkAnd (read_of input) IsClear
  -- And YES comes at each such job, unless a read or a write fails or memory is wanted and not found.
  pub yes_comes : HadNoFault source sink → length input ≤ INPUT_LIMIT → IsOkAnd (read_of input) IsClear
      → (result ≡ ends.NoMemory) ⊎ (result ≡ ends.Yes)
  -- At NO the input is a job whose run in order is as at YES, but that two boxes that are compared meet. The first two
  -- that do are named.
  pub no : result ≡ ends.No
      → IsOkAnd (read_of input) (λ job. NamesFirstMeeting job sink.old.written sink.new.written)
  -- Where the verdict is not RACE, the job has one result, however its channels take turns: there is no race in any
  -- run, each run goes on until no channel runs, and all of these come to the same.
  pub schedules : IsVerdict result → result ≢ ends.Race → IsOkAnd (read_of input) HasOneResult
  -- However the call ends: where any one order of turns has no race until no channel runs, the job has one result. So
  -- at RACE there is a race in each.
  pub quiet_runs : IfOk (read_of input) OneQuietRunSpeaksForAll
  -- At YES the job is safe in every order of its channels and whatever the feed overrides: in each state that they pass
  -- through no axis has two owners, and no two zones of different groups that are on meet.
  pub speeds : result ≡ ends.Yes → IsOkAnd (read_of input) (λ job. IsSafeAlways job (doings_of job))
  -- A refusal comes with its whole line. Of an input that was to be read no byte is left.
  pub refused : result ≡ ends.Refused
      → IsErrAnd (read_of input) (λ refusal. Grows sink.old.written sink.new.written (refusal_bytes refusal))
      × (request ≡ Some Check → source.new.left ≡ Some [])
  -- An input that was to be read and is no job is refused, unless a read or a write fails or memory is wanted and not
  -- found.
  pub refused_comes : request ≡ Some Check → HadNoFault source sink → length input ≤ INPUT_LIMIT → IsErr (read_of input)
      → (result ≡ ends.NoMemory) ⊎ (result ≡ ends.Refused)
  -- Where a write fails, a front of the output is written.
  pub written_front : result ≡ ends.WriteFault
      → WritesFront (WordsCallFor request input) sink.old.written sink.new.written
  -- An input that was to be read and has too many bytes is too long, unless a read fails or memory is wanted and not
  -- found.
  pub too_long_comes : request ≡ Some Check → source.new.faults ≡ source.old.faults → INPUT_LIMIT < length input
      → (result ≡ ends.NoMemory) ⊎ (result ≡ ends.TooLong)

-- What a call promises that is asked for this, None where its words have no accepted form, and ends so.
pub record AnswersCall {S K : Type 0} (request : Option Request) (result : Status)
    (source : Change (SourceState S)) (sink : Change (SinkState K)) : Type 0 where
  -- where its input is known
  pub known : IfSome (input_for request source.old.left) (λ input. AnswersInput request input result source sink)
  -- USAGE comes where the words have no accepted form, and there alone. Only where memory is wanted for the words comes
  -- NO MEMORY instead. Nothing is written for such words.
  pub usage : result ≡ ends.Usage → request ≡ None
  pub usage_comes : request ≡ None → (result ≡ ends.NoMemory) ⊎ (result ≡ ends.Usage)
  pub usage_writes_nothing : request ≡ None → sink.new ≡ sink.old
  -- Nothing is read but an input that is asked for.
  pub only_asked_reads : request ≢ Some Check → source.new ≡ source.old
  -- The call ends with a fault exactly where a read or a write failed. No count of faults falls.
  pub read_fault : (result ≡ ends.ReadFault) ↔ (source.old.faults < source.new.faults)
  pub write_fault : (result ≡ ends.WriteFault) ↔ (sink.old.faults < sink.new.faults)
  pub read_faults_never_fall : source.old.faults ≤ source.new.faults
  pub write_faults_never_fall : sink.old.faults ≤ sink.new.faults
  -- An input that is too long had too many bytes, and so many of them were taken.
  pub too_long : result ≡ ends.TooLong → TakesTooMany source.old.left source.new.left
  -- Nothing is written where the call ends before its output is made.
  pub silent : (result ≡ ends.Usage) ⊎ (result ≡ ends.ReadFault) ⊎ (result ≡ ends.TooLong) ⊎ (result ≡ ends.NoMemory)
      → sink.new ≡ sink.old
