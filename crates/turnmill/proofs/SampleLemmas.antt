-- What a sample calls for.
use Rattle.std.proofs.Common.{◌≡◌, ◌∙◌, ℕ, List, Option, Result, Ok, Err, IsOk, refl, sym, ap, subst}
use Rattle.channel_machine.specs.StartStates.{start_of}
use Rattle.clash_check.specs.Counts.{count_of}
use Rattle.edge_io.specs.Moves.{GrowsByFront}
use Rattle.exit_statuses.specs.Statuses.{status_of}
use Rattle.exit_statuses.specs.declared.Status.{Status}
use Rattle.job_report.specs.Report.{report_bytes}
use Rattle.job_report.specs.Summary.{summary_bytes}
use Rattle.job_report.specs.declared.summaries.Figures.{Figures}
use Rattle.job_types.specs.Job.{JobView}
use Rattle.fault_codes.specs.declared.Refusal.{Refusal}
use Rattle.order_clocks.specs.Clocked.{ClocksView}
use Rattle.order_clocks.specs.Tells.{is_before_in}
use Rattle.channel_machine.specs.Scripts.{IsRunInOrder}
use Rattle.zone_stretches.specs.Overlaps.{Order}
use Rattle.zone_stretches.specs.Stretches.{StretchesView}
use Rattle.sample_jobs.specs.Samples.{sample_bytes}
use Rattle.sample_laws.proofs.Accepted.{sample_accepted}
use Rattle.sync_types.specs.Views.{RunView}
use Rattle.sync_types.specs.declared.verdicts.Verdict.{Verdict}
use Rattle.tape_job.specs.Read.{read_of}
use Rattle.turnmill.specs.Judgements.{IsJudgedByClocks}
use Rattle.turnmill.specs.Judged.{zone_time_in}
use Rattle.turnmill.specs.Output.{ReadingCallsFor, WritesFront}
use Rattle.turnmill.specs.Summary.{IsSummaryBy, IsSummaryOf, figures_of}

-- ---- the two lines of a job

module _ (number : ℕ) (job : JobView) (run : RunView) (clocks : ClocksView) (stretches : StretchesView) (verdict : Verdict)
    (is : IsJudgedByClocks job run clocks stretches verdict) (ordered : IsRunInOrder job (start_of job) run) where
  -- the pairs that are counted are those of the time of the zones
  pub pairs_counted : (count : ℕ) → count ≡ count_of (is_before_in clocks.rows) job stretches → count ≡ count_of (is_before_in clocks.rows) job (zone_time_in job run)
  pairs_counted count counted = counted ∙ ap (λ (s : StretchesView). count_of (is_before_in clocks.rows) job s) is.time_is

  -- the job calls for the lines of its figures
  pub summary_called : (figures : Figures) → figures ≡ figures_of number job run verdict (is_before_in clocks.rows)
      → IsSummaryOf number job (status_of verdict) (summary_bytes figures verdict)
  summary_called figures figures_are = record {
    run = run;
    verdict = verdict;
    judged = record { in_order = ordered; on = is.judged.on };
    status_is = refl;
    bytes_are =
        ap (λ (f : Figures). summary_bytes f verdict)
        (figures_are ∙ ap (λ (b : Order). figures_of number job run verdict b) (sym is.before_is));
  }

  pub front_of_summary : (figures : Figures) (old new : Option (List ℕ)) → figures ≡ figures_of number job run verdict (is_before_in clocks.rows)
      → GrowsByFront old new (summary_bytes figures verdict) → WritesFront (IsSummaryBy number (Ok job)) old new
  front_of_summary figures old new figures_are grows = record {
    status = status_of verdict;
    bytes = summary_bytes figures verdict;
    called_for = summary_called figures figures_are;
    grows = grows;
  }

-- a front of what a job calls for, where the sample is read as this job
pub front_of_read : (number : ℕ) (read other : Result JobView Refusal) (old new : Option (List ℕ)) → other ≡ read
    → WritesFront (IsSummaryBy number read) old new → WritesFront (IsSummaryBy number other) old new
front_of_read number read other old new same front = subst (λ (r : Result JobView Refusal). WritesFront (IsSummaryBy number r) old new) (sym same) front

-- ---- the job of a sample is judged as one that is checked

-- the call ends as a check of the sample would
pub called_alike : (number : ℕ) (read : Result JobView Refusal) (status : Status) (bytes : List ℕ) → IsSummaryBy number read status bytes
    → (report : List ℕ) × ReadingCallsFor read status report
called_alike number (Ok job) status bytes is =
    (report_bytes job is.run is.verdict, record { run = is.run; verdict = is.verdict; judged = is.judged; status_is = is.status_is; bytes_are = refl })
called_alike number (Err refusal) status bytes is = absurd is

-- ---- no sample is refused

pub not_refused : (number : ℕ) (refusal : Refusal) → read_of (sample_bytes number) ≡ Err refusal → ⊥
not_refused number refusal refused = let accepted = subst (λ (r : Result JobView Refusal). IsOk r) refused (sample_accepted number) in cc
