-- Whichever run of a job is judged, if it has no race, and times of zones alike with those of the run in order, the job calls for its
-- report and the status of the verdict on it.
use Rattle.std.proofs.Common.{◌≡◌, ◌∙◌, ℕ, List, length, Option, None, refl, sym, ap, subst}
use Rattle.channel_machine.proofs.StartLaws.{start_sound}
use Rattle.channel_machine.specs.StartStates.{start_of}
use Rattle.clash_check.specs.Verdicts.{verdict_by}
use Rattle.job_types.specs.Job.{JobView}
use Rattle.job_types.specs.SoundJob.{IsSoundJob}
use Rattle.order_clocks.specs.Clocked.{moves_in}
use Rattle.product_run.proofs.Motions.{runs_are_whole}
use Rattle.channel_machine.specs.Scripts.{IsRunInOrder, script_of}
use Rattle.zone_stretches.specs.Overlaps.{Order}
use Rattle.schedule_laws.proofs.RunLaws.{all_agree, speaks}
use Rattle.schedule_laws.specs.Schedules.{HaveSameResult, IsQuietRun}
use Rattle.speed_laws.specs.AlikeRuns.{HaveAlikeZoneTimes}
use Rattle.sync_types.proofs.Replays.{sequential_is_one}
use Rattle.sync_types.specs.Runs.{first_stage}
use Rattle.sync_types.specs.Views.{RunView}
use Rattle.sync_types.specs.declared.runs.Race.{Race}
use Rattle.sync_types.specs.declared.verdicts.Verdict.{Verdict}
use Rattle.turnmill.proofs.AlikeReports.{same_report}
use Rattle.turnmill.proofs.AlikeVerdicts.{same_verdict}
use Rattle.turnmill.proofs.InOrder.{in_order}
use Rattle.turnmill.proofs.QuietRuns.{HasNone, none_told, quiet_maximal}
use Rattle.turnmill.proofs.RowOrder.{comes_before, row_order}
use Rattle.turnmill.proofs.TurnLemmas.{deeds_in, same_deeds}
use Rattle.turnmill.specs.Judged.{IsFirstRaceIn, IsJudgedInAnyOrder, IsOrderIn, IsVerdictOn, board_of, zone_time_in}
use Rattle.turnmill.specs.OneResult.{TakeAllTurns}
use Rattle.turnmill.specs.Output.{CallsForReport}

-- the times of zones are alike in the run and in the run in order
abbrev pub AreAlikeInOrder : JobView → RunView → Order → Type 0
AreAlikeInOrder job run before = (other : RunView) → IsRunInOrder job (start_of job) other → (after : Order) → IsOrderIn job other after → HaveAlikeZoneTimes job before after run other

module _ (job : JobView) (sound : IsSoundJob job) (run : RunView) (verdict : Verdict) (judged : IsJudgedInAnyOrder job run verdict) (none : judged.on.race ≡ None)
    (alike : AreAlikeInOrder job run judged.on.before) where
  abbrev on : IsVerdictOn job run verdict
  on = judged.on

  abbrev cs : List ℕ
  cs = judged.maximal.channels

  no_race : IsFirstRaceIn job run None
  no_race = subst (λ (race : Option Race). IsFirstRaceIn job run race) none on.first

  quiet : IsQuietRun (script_of job) (start_of job) cs
  quiet = quiet_maximal job sound run judged.maximal no_race

  -- with the run in order
  module _ (other : RunView) (ordered : IsRunInOrder job (start_of job) other) where
    abbrev ds : List ℕ
    ds = ordered.channels

    abbrev after : Order
    after = comes_before (board_of job) (moves_in other.entries)

    all_turns : TakeAllTurns job ds
    all_turns = (sequential_is_one (script_of job) (first_stage (start_of job)) ds ds ordered.sequential).maximal

    same : HaveSameResult (script_of job) (start_of job) cs ds
    same = all_agree (script_of job) (start_of job) cs ds quiet all_turns

    no_race_in_order : IsFirstRaceIn job other None
    no_race_in_order = subst (HasNone job sound) (sym ordered.all) (none_told job sound ds (speaks (script_of job) (start_of job) cs ds quiet all_turns.run).quiet)

    same_ends : run.ends ≡ other.ends
    same_ends = ap (λ (r : RunView). r.ends) judged.maximal.all ∙ same.ends ∙ sym (ap (λ (r : RunView). r.ends) ordered.all)

    deeds_alike : (c : ℕ) → deeds_in run c ≡ deeds_in other c
    deeds_alike c =
        ap (λ (r : RunView). deeds_in r c) judged.maximal.all
        ∙ same_deeds job cs ds judged.maximal.maximal all_turns c (same.grants c)
        ∙ sym (ap (λ (r : RunView). deeds_in r c) ordered.all)

    -- the verdict is that on it
    verdict_in_order : verdict ≡ verdict_by after None job other (zone_time_in job other)
    verdict_in_order =
        on.verdict_is
        ∙ ap (λ (race : Option Race). verdict_by on.before race job run (zone_time_in job run)) none
        ∙ same_verdict job on.before after run other (alike other ordered after (row_order (board_of job) (moves_in other.entries))) same_ends

    rows : length run.entries ≡ length run.items
    rows = sym (runs_are_whole job (start_of job) run (start_sound job sound) judged.maximal).rows

    other_rows : length other.entries ≡ length other.items
    other_rows =
        sym (runs_are_whole job (start_of job) other (start_sound job sound) (record { channels = ds; maximal = all_turns; all = ordered.all })).rows

    reported : CallsForReport job run verdict
    reported = record {
      run = other;
      verdict = verdict;
      judged = record {
        in_order = ordered;
        on = record {
          before = after;
          ordered = row_order (board_of job) (moves_in other.entries);
          race = None;
          first = no_race_in_order;
          verdict_is = verdict_in_order;
        };
      };
      status_is = refl;
      bytes_are = same_report job run other rows other_rows deeds_alike same_ends verdict;
    }

  -- so the job calls for the report of the run
  pub quiet_report : CallsForReport job run verdict
  quiet_report = let found = in_order job in reported found.0 found.1
