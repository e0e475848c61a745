-- What an input calls for, by how it was read, and how a call ends that has read it.
use Rattle.std.proofs.Common.{◌≡◌, ℕ, ◌+◌, ◌<◌, ◌≤◌, List, [], length, drop, Option, None, Some, Result, Ok, refl, ap, sym, ◌∙◌, ◌⊎◌, inl, inr, arith, length-append}
use Rattle.std.proofs.Math.Seq.{drop-append_seam}
use Rattle.std.proofs.lemmas.List.{append-nil}
use Rattle.edge_io.specs.Moves.{Loses, Grows, GrowsByFront}
use Rattle.exit_statuses.specs.Statuses.{status_of}
use Rattle.exit_statuses.specs.declared.Status.{Status}
use Rattle.exit_statuses.specs.declared.Status.TheVariants as ends
use Rattle.job_report.specs.Report.{report_bytes}
use Rattle.job_types.specs.Job.{JobView}
use Rattle.fault_codes.specs.declared.Refusal.{Refusal}
use Rattle.sync_types.specs.Views.{RunView}
use Rattle.sync_types.specs.declared.verdicts.Verdict.{Verdict}
use Rattle.tape_job.specs.Read.{read_of}
use Rattle.turnmill.specs.Input.{TakesTooMany}
use Rattle.turnmill.specs.Output.{CallsForReport, InputCallsFor, IsAnswer, IsReadWhole, IsVerdict, ReadingCallsFor, Writes, WritesFront}

-- a source that lost as many bytes as are too many had them
pub TakesTooMany-lost : (old new : Option (List ℕ)) (bytes : List ℕ) → length bytes ≡ 8388609 → Loses old new bytes → TakesTooMany old new
TakesTooMany-lost None new bytes many lost = tt
TakesTooMany-lost (Some xs) None bytes many lost = absurd lost
TakesTooMany-lost (Some xs) (Some ys) bytes many lost =
    let longer : length xs ≡ length bytes + length ys = ap length lost ∙ length-append bytes ys in
    let rest : drop 8388609 xs ≡ ys = rw (lost, ← many) (drop-append_seam bytes ys) in
    (omega arith, ap Some (sym rest))

pub Grows-none : (old : Option (List ℕ)) → Grows old old []
Grows-none None = tt
Grows-none (Some xs) = ap Some (sym (append-nil xs))

-- ---- an input that is too long

-- it calls for no bytes
pub long_output : (input : List ℕ) → 8388609 ≤ length input → InputCallsFor input ends.TooLong []
long_output input long = record { long = λ _. (refl, refl); short = λ short. absurd (omega arith) }

-- ---- an input that is not too long

-- it calls for what it is read as
pub short_output : (input : List ℕ) (read : Result JobView Refusal) (status : Status) (bytes : List ℕ) → length input ≤ 8388608 → read_of input ≡ read
    → ReadingCallsFor read status bytes → InputCallsFor input status bytes
short_output input read status bytes short is of_read = record { long = λ long. absurd (omega arith); short = λ _. rw is of_read }

pub writes-short : (input : List ℕ) (read : Result JobView Refusal) (status : Status) (old new : Option (List ℕ)) → length input ≤ 8388608 → read_of input ≡ read
    → Writes (ReadingCallsFor read) status old new → Writes (InputCallsFor input) status old new
writes-short input read status old new short is writes =
    record { bytes = writes.bytes; called_for = short_output input read status writes.bytes short is writes.called_for; grows = writes.grows }

pub front-short : (input : List ℕ) (read : Result JobView Refusal) (old new : Option (List ℕ)) → length input ≤ 8388608 → read_of input ≡ read
    → WritesFront (ReadingCallsFor read) old new → WritesFront (InputCallsFor input) old new
front-short input read old new short is writes = record {
  status = writes.status;
  bytes = writes.bytes;
  called_for = short_output input read writes.status writes.bytes short is writes.called_for;
  grows = writes.grows;
}

-- ---- the output of a job

-- a front of its report
pub front_of_report : (job : JobView) (run : RunView) (verdict : Verdict) (old new : Option (List ℕ)) → CallsForReport job run verdict
    → GrowsByFront old new (report_bytes job run verdict) → WritesFront (ReadingCallsFor (Ok job)) old new
front_of_report job run verdict old new reported grows =
    record { status = status_of verdict; bytes = report_bytes job run verdict; called_for = reported; grows = grows }

-- ---- how the call ends

pub whole_verdict : (status : Status) → IsVerdict status → IsReadWhole status
whole_verdict ends.Yes is = tt
whole_verdict ends.No is = tt
whole_verdict ends.Race is = tt
whole_verdict ends.Stuck is = tt
whole_verdict ends.Alarm is = tt
whole_verdict ends.Undecided is = tt
whole_verdict ends.Refused is = absurd is
whole_verdict ends.Usage is = absurd is
whole_verdict ends.ReadFault is = absurd is
whole_verdict ends.WriteFault is = absurd is
whole_verdict ends.TooLong is = absurd is
whole_verdict ends.NoMemory is = absurd is

-- a call that has read its whole input and in which no write fails ends as it calls for
pub answered : (W : Type 0) (status : Status) (before now : ℕ) → IsAnswer status → (IsReadWhole status → W) → (status ≡ ends.WriteFault → before < now)
    → now ≡ before → (status ≡ ends.NoMemory) ⊎ W
answered W status before now (inl whole) writes fault same = inr (writes whole)
answered W status before now (inr (inl is)) writes fault same = let less = fault is in absurd (omega (arith, same, less))
answered W status before now (inr (inr is)) writes fault same = inl is
