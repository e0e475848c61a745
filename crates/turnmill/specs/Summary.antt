-- Meaning. What the words and their input call for: the two lines of a sample, and the output of an input that is checked.
use Rattle.std.specs.Prelude.{◌≡◌, ℕ, List, [], length, Option, None, Some, Result, IsOkAnd}
use Rattle.std.specs.List.{count_by, sum_by}
use Rattle.clash_check.specs.Counts.{count_of}
use Rattle.exit_statuses.specs.Statuses.{status_of}
use Rattle.exit_statuses.specs.declared.Status.{Status}
use Rattle.exit_statuses.specs.declared.Status.TheVariants as ends
use Rattle.job_report.specs.Report.{report_bytes}
use Rattle.job_report.specs.Summary.{summary_bytes}
use Rattle.job_report.specs.declared.summaries.Figures.{Figures}
use Rattle.job_types.specs.Job.{JobView}
use Rattle.fault_codes.specs.declared.Refusal.{Refusal}
use Rattle.zone_stretches.specs.Overlaps.{Order}
use Rattle.sync_types.specs.Items.{is_motion}
use Rattle.sync_types.specs.Views.{RunView}
use Rattle.sync_types.specs.declared.Item.{Item}
use Rattle.sync_types.specs.declared.verdicts.Verdict.{Verdict}
use Rattle.tape_job.specs.Read.{read_of}
use Rattle.turnmill.specs.Judged.{IsJudgedInOrder, zone_time_in}
use Rattle.turnmill.specs.Output.{InputCallsFor}
use Rattle.turnmill.specs.declared.words.Request.{Request}
use Rattle.turnmill.specs.declared.words.Request.TheVariants.{Check, Sample}

-- how many motions the channels make
abbrev pub moves_of : List Item → ℕ
moves_of items = count_by is_motion items

abbrev pub move_count : RunView → ℕ
move_count run = sum_by moves_of run.items

-- the figures of a sample: its number, and of its job the motions, the steps on the board, the pairs of boxes that are compared, and
-- the bytes of the report
abbrev pub figures_of : ℕ → JobView → RunView → Verdict → Order → Figures
figures_of number job run verdict before = record {
  number = number;
  moves = move_count run;
  steps = length run.entries;
  count = count_of before job (zone_time_in job run);
  bytes = length (report_bytes job run verdict);
}

-- a job calls for two lines, the figures of its run in order and the verdict on it, and for the status of this verdict
pub record IsSummaryOf (number : ℕ) (job : JobView) (status : Status) (bytes : List ℕ) : Type 0 where
  pub run : RunView
  pub verdict : Verdict
  pub judged : IsJudgedInOrder job run verdict
  pub status_is : status ≡ status_of verdict
  pub bytes_are : bytes ≡ summary_bytes (figures_of number job run verdict judged.on.before) verdict

-- the sample is read as a job, and calls for the two lines of this job
abbrev pub IsSummaryBy : ℕ → Result JobView Refusal → Status → List ℕ → Type 0
IsSummaryBy number read status bytes = IsOkAnd read (λ job. IsSummaryOf number job status bytes)

-- What the words call for with their input: how the call ends, and the bytes that it writes. Words without an accepted form call for no bytes.
abbrev pub WordsCallFor : Option Request → List ℕ → Status → List ℕ → Type 0
WordsCallFor (Some Check) input status bytes = InputCallsFor input status bytes
WordsCallFor (Some (Sample number)) input status bytes = IsSummaryBy number (read_of input) status bytes
WordsCallFor None input status bytes = (status ≡ ends.Usage) × (bytes ≡ [])
