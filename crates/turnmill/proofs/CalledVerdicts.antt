-- What an input is that calls for YES, for NO or for REFUSED.
use Rattle.std.proofs.Common.{◌≡◌, ℕ, ◌≤◌, List, ◌++◌, length, Option, None, Some, Result, Ok, Err, IfOk, IsErr, IsErrAnd, IsOkAnd, refl, ap, sym, subst, ◌∙◌, append_assoc}
use Rattle.edge_io.specs.Moves.{Grows}
use Rattle.exit_statuses.specs.Statuses.{status_of}
use Rattle.exit_statuses.specs.declared.Status.{Status}
use Rattle.exit_statuses.specs.declared.Status.TheVariants as ends
use Rattle.job_report.specs.Report.{all_lines, head_lines, refusal_bytes, report_bytes}
use Rattle.job_report.specs.Summary.{figures_line, summary_bytes}
use Rattle.job_report.specs.Verdicts.{verdict_line}
use Rattle.job_report.specs.declared.summaries.Figures.{Figures}
use Rattle.job_types.specs.Job.{JobView}
use Rattle.job_types.specs.SoundJob.{IsSoundJob}
use Rattle.fault_codes.specs.declared.Refusal.{Refusal}
use Rattle.speed_laws.proofs.AllSpeeds.{always_safe}
use Rattle.speed_laws.specs.Safety.{IsSafeAlways}
use Rattle.sync_types.specs.Views.{RunView}
use Rattle.sync_types.specs.declared.verdicts.Verdict.{Verdict}
use Rattle.sync_types.specs.declared.verdicts.Verdict.TheVariants as verdicts
use Rattle.tape_job.specs.Read.{read_of}
use Rattle.turnmill.proofs.ClearLemmas.{clear_by, clear_is_judged, meeting_by}
use Rattle.turnmill.proofs.JobDoings.{sound_doings}
use Rattle.turnmill.proofs.JobItems.{made_by}
use Rattle.turnmill.proofs.OneOutput.{judged_once}
use Rattle.turnmill.proofs.QuietRuns.{quiet_in_order}
use Rattle.turnmill.proofs.SampleLemmas.{called_alike}
use Rattle.turnmill.specs.Calls.{NamesFirstMeeting}
use Rattle.turnmill.specs.JobDoings.{doings_of}
use Rattle.turnmill.specs.Judged.{IsClear, IsJudgedInOrder}
use Rattle.turnmill.specs.Output.{IsReadWhole, ReadingCallsFor, Writes}
use Rattle.turnmill.specs.Summary.{IsSummaryBy, WordsCallFor, figures_of}
use Rattle.turnmill.specs.declared.words.Request.{Request}
use Rattle.turnmill.specs.declared.words.Request.TheVariants.{Check, Sample}

-- ---- YES

-- an input that calls for YES is a job of which the verdict is YES
yes_by : (read : Result JobView Refusal) (bytes : List ℕ) → ReadingCallsFor read ends.Yes bytes → IsOkAnd read (λ job. (run : RunView) × IsJudgedInOrder job run verdicts.Yes)
yes_by (Ok job) bytes is = (is.run, subst (λ verdict. IsJudgedInOrder job is.run verdict) (by_verdict is.verdict (sym is.status_is)) is.judged)
  where
    by_verdict : (verdict : Verdict) → status_of verdict ≡ ends.Yes → verdict ≡ verdicts.Yes
    by_verdict verdicts.Yes same = refl
    by_verdict (verdicts.No first second) same = absurd cc
    by_verdict (verdicts.Undecided count budget) same = absurd cc
    by_verdict (verdicts.Alarm channel alarm) same = absurd cc
    by_verdict (verdicts.Race race) same = absurd cc
    by_verdict (verdicts.Stuck channel line) same = absurd cc
yes_by (Err refusal) bytes is = let no : ends.Yes ≡ ends.Refused = is.status_is in absurd cc

-- the job is clear
clear_where : (read : Result JobView Refusal) → IsOkAnd read (λ job. (run : RunView) × IsJudgedInOrder job run verdicts.Yes) → IsOkAnd read IsClear
clear_where (Ok job) is = clear_by job is.0 is.1
clear_where (Err refusal) is = is

-- and safe at all speeds
safe_if_clear : (job : JobView) → IsSoundJob job → IsClear job → IsSafeAlways job (doings_of job)
safe_if_clear job sound clear =
    always_safe job (doings_of job) clear.in_order.channels clear.run clear.before sound (sound_doings job sound)
    (quiet_in_order job sound clear.run clear.in_order clear.no_race)
    (made_by job clear.run clear.in_order.channels clear.in_order.all)
    clear.ordered clear.apart

pub safe_where : (read : Result JobView Refusal) → IfOk read IsSoundJob → IsOkAnd read IsClear → IsOkAnd read (λ job. IsSafeAlways job (doings_of job))
safe_where (Ok job) sound clear = safe_if_clear job sound clear
safe_where (Err refusal) sound clear = clear

-- at YES the input is clear
pub clear_at_yes : (read : Result JobView Refusal) (status : Status) (bytes : List ℕ) → status ≡ ends.Yes → ReadingCallsFor read status bytes → IsOkAnd read IsClear
clear_at_yes read status bytes is called = clear_where read (yes_by read bytes (subst (λ (s : Status). ReadingCallsFor read s bytes) is called))

-- and an input that is clear calls for YES
pub yes_where_clear : (read : Result JobView Refusal) (status : Status) (bytes : List ℕ) → IsOkAnd read IsClear → ReadingCallsFor read status bytes → status ≡ ends.Yes
yes_where_clear (Ok job) status bytes clear called =
    called.status_is ∙ ap status_of (judged_once job called.run clear.run called.verdict verdicts.Yes called.judged (clear_is_judged job clear)).1
yes_where_clear (Err refusal) status bytes clear called = absurd clear

-- ---- REFUSED

-- no verdict is a refusal
pub no_refusal : (verdict : Verdict) → status_of verdict ≡ ends.Refused → ⊥
no_refusal verdicts.Yes same = cc
no_refusal (verdicts.No first second) same = cc
no_refusal (verdicts.Undecided count budget) same = cc
no_refusal (verdicts.Alarm channel alarm) same = cc
no_refusal (verdicts.Race race) same = cc
no_refusal (verdicts.Stuck channel line) same = cc

-- an input that calls for REFUSED is refused, and calls for the line of its refusal
refused_by : (read : Result JobView Refusal) (status : Status) (bytes : List ℕ) → status ≡ ends.Refused → ReadingCallsFor read status bytes → IsErrAnd read (λ refusal. bytes ≡ refusal_bytes refusal)
refused_by (Ok job) status bytes is called = absurd (no_refusal called.verdict (sym called.status_is ∙ is))
refused_by (Err refusal) status bytes is called = called.bytes_are

refused_sample : (number : ℕ) (read : Result JobView Refusal) (status : Status) (bytes : List ℕ) → status ≡ ends.Refused → IsSummaryBy number read status bytes
    → IsErrAnd read (λ refusal. bytes ≡ refusal_bytes refusal)
refused_sample number (Ok job) status bytes is called = absurd (no_refusal called.verdict (sym called.status_is ∙ is))
refused_sample number (Err refusal) status bytes is called = absurd called

wrote_line : (read : Result JobView Refusal) (old new : Option (List ℕ)) (bytes : List ℕ) → Grows old new bytes
    → IsErrAnd read (λ refusal. bytes ≡ refusal_bytes refusal) → IsErrAnd read (λ refusal. Grows old new (refusal_bytes refusal))
wrote_line (Ok job) old new bytes grows is = is
wrote_line (Err refusal) old new bytes grows is = rw is at grows

-- so at REFUSED the line of the refusal is written
pub refused_wrote : (request : Option Request) (input : List ℕ) (status : Status) (old new : Option (List ℕ)) → status ≡ ends.Refused → length input ≤ 8388608
    → Writes (WordsCallFor request input) status old new → IsErrAnd (read_of input) (λ refusal. Grows old new (refusal_bytes refusal))
refused_wrote (Some Check) input status old new is short writes =
    wrote_line (read_of input) old new writes.bytes writes.grows (refused_by (read_of input) status writes.bytes is (writes.called_for.short short))
refused_wrote (Some (Sample number)) input status old new is short writes =
    wrote_line (read_of input) old new writes.bytes writes.grows (refused_sample number (read_of input) status writes.bytes is writes.called_for)
refused_wrote None input status old new is short writes = let usage : status ≡ ends.Usage = writes.called_for.0 in absurd cc

-- an input that is refused calls for REFUSED
pub refused_calls : (read : Result JobView Refusal) (status : Status) (bytes : List ℕ) → IsErr read → ReadingCallsFor read status bytes → status ≡ ends.Refused
refused_calls (Ok job) status bytes refused is = absurd cc
refused_calls (Err refusal) status bytes refused is = is.status_is

-- ---- NO

-- a report and the lines of a sample end with the line of the verdict
report_parts : (job : JobView) (run : RunView) (verdict : Verdict)
    → report_bytes job run verdict ≡ (head_lines job.compensation ++ all_lines job run) ++ verdict_line verdict
unfolding report_bytes
report_parts job run verdict = sym (append_assoc (head_lines job.compensation) (all_lines job run) (verdict_line verdict))

summary_parts : (figures : Figures) (verdict : Verdict) → summary_bytes figures verdict ≡ figures_line figures ++ verdict_line verdict
unfolding summary_bytes
summary_parts figures verdict = refl

named_by : (job : JobView) (run : RunView) (verdict : Verdict) (head bytes : List ℕ) (old new : Option (List ℕ)) → IsJudgedInOrder job run verdict → status_of verdict ≡ ends.No
    → bytes ≡ head ++ verdict_line verdict → Grows old new bytes → NamesFirstMeeting job old new
named_by job run (verdicts.No first second) head bytes old new judged is parts grows = record {
  first = first;
  second = second;
  meeting = meeting_by job run first second judged;
  head = head;
  named = subst (λ (bs : List ℕ). Grows old new bs) parts grows;
}
named_by job run verdicts.Yes head bytes old new judged is parts grows = absurd cc
named_by job run (verdicts.Undecided count budget) head bytes old new judged is parts grows = absurd cc
named_by job run (verdicts.Alarm channel alarm) head bytes old new judged is parts grows = absurd cc
named_by job run (verdicts.Race race) head bytes old new judged is parts grows = absurd cc
named_by job run (verdicts.Stuck channel line) head bytes old new judged is parts grows = absurd cc

named_report : (read : Result JobView Refusal) (status : Status) (bytes : List ℕ) (old new : Option (List ℕ)) → status ≡ ends.No → ReadingCallsFor read status bytes
    → Grows old new bytes → IsOkAnd read (λ job. NamesFirstMeeting job old new)
named_report (Ok job) status bytes old new is called grows =
    named_by job called.run called.verdict (head_lines job.compensation ++ all_lines job called.run) bytes old new called.judged (sym called.status_is ∙ is)
    (called.bytes_are ∙ report_parts job called.run called.verdict) grows
named_report (Err refusal) status bytes old new is called grows = let refused : status ≡ ends.Refused = called.status_is in absurd cc

named_summary : (number : ℕ) (read : Result JobView Refusal) (status : Status) (bytes : List ℕ) (old new : Option (List ℕ)) → status ≡ ends.No → IsSummaryBy number read status bytes
    → Grows old new bytes → IsOkAnd read (λ job. NamesFirstMeeting job old new)
named_summary number (Ok job) status bytes old new is called grows =
    let figures = figures_of number job called.run called.verdict called.judged.on.before in
    named_by job called.run called.verdict (figures_line figures) bytes old new called.judged (sym called.status_is ∙ is)
    (called.bytes_are ∙ summary_parts figures called.verdict) grows
named_summary number (Err refusal) status bytes old new is called grows = absurd called

-- so at NO the first pair that meets is named
pub named_at_no : (request : Option Request) (input : List ℕ) (status : Status) (old new : Option (List ℕ)) → status ≡ ends.No → length input ≤ 8388608
    → Writes (WordsCallFor request input) status old new → IsOkAnd (read_of input) (λ job. NamesFirstMeeting job old new)
named_at_no (Some Check) input status old new is short writes =
    named_report (read_of input) status writes.bytes old new is (writes.called_for.short short) writes.grows
named_at_no (Some (Sample number)) input status old new is short writes =
    named_summary number (read_of input) status writes.bytes old new is writes.called_for writes.grows
named_at_no None input status old new is short writes = let usage : status ≡ ends.Usage = writes.called_for.0 in absurd cc

-- ---- what the words call for is what their input is read as

pub read_as : (request : Option Request) (input : List ℕ) (status : Status) (bytes : List ℕ) → IsReadWhole status → length input ≤ 8388608
    → WordsCallFor request input status bytes → (report : List ℕ) × ReadingCallsFor (read_of input) status report
read_as (Some Check) input status bytes whole short called = (bytes, called.short short)
read_as (Some (Sample number)) input status bytes whole short called = called_alike number (read_of input) status bytes called
read_as None input status bytes whole short called = absurd (subst IsReadWhole called.0 whole)
