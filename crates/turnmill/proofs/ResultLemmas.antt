-- A job has one result where its run in order has no race.
use Rattle.std.proofs.Common.{◌≡◌, ◌≢◌, ℕ, List, Option, None, Some, Result, Ok, Err, IfOk, IsOkAnd, refl, ap, subst, ◌∙◌}
use Rattle.channel_machine.specs.StartStates.{start_of}
use Rattle.clash_check.specs.Verdicts.{verdict_by}
use Rattle.exit_statuses.specs.Statuses.{status_of}
use Rattle.exit_statuses.specs.declared.Status.{Status}
use Rattle.exit_statuses.specs.declared.Status.TheVariants as ends
use Rattle.job_types.specs.Job.{JobView}
use Rattle.job_types.specs.SoundJob.{IsSoundJob}
use Rattle.fault_codes.specs.declared.Refusal.{Refusal}
use Rattle.channel_machine.specs.Scripts.{IsRunInOrder, script_of}
use Rattle.zone_stretches.specs.Overlaps.{Order}
use Rattle.zone_stretches.specs.Stretches.{StretchesView}
use Rattle.schedule_laws.proofs.RunLaws.{all_agree, speaks}
use Rattle.schedule_laws.specs.Schedules.{IsQuietRun}
use Rattle.sync_types.specs.Views.{RunView}
use Rattle.sync_types.specs.declared.runs.Race.{Race}
use Rattle.turnmill.proofs.QuietRuns.{quiet_in_order, quiet_run}
use Rattle.turnmill.proofs.TurnLemmas.{same_motions}
use Rattle.turnmill.specs.Judged.{IsFirstRaceIn, zone_time_in}
use Rattle.turnmill.specs.OneResult.{HasOneResult, LeadToTheSame, OneQuietRunSpeaksForAll, TakeAllTurns}
use Rattle.turnmill.specs.Output.{IsVerdict, ReadingCallsFor}

module _ (job : JobView) (sound : IsSoundJob job) where
  one_result_by : (cs : List ℕ) → IsQuietRun (script_of job) (start_of job) cs → HasOneResult job
  one_result_by cs quiet = record {
    no_race = λ turns taken. (speaks (script_of job) (start_of job) cs turns quiet taken).quiet;
    goes_on = λ turns taken. let on = speaks (script_of job) (start_of job) cs turns quiet taken in (on.rest, on.maximal);
    same = same;
  }
    where
      same : (turns others : List ℕ) → TakeAllTurns job turns → TakeAllTurns job others → LeadToTheSame job turns others
      same turns others whole other_whole =
          let quiet_too = quiet_run job sound turns whole (speaks (script_of job) (start_of job) cs turns quiet whole.run).quiet in
          let result = all_agree (script_of job) (start_of job) turns others quiet_too other_whole in
          record { result = result; motions = λ channel. same_motions job turns others whole other_whole channel (result.grants channel) }

  pub one_result : (run : RunView) → IsRunInOrder job (start_of job) run → IsFirstRaceIn job run None → HasOneResult job
  one_result run in_order none = one_result_by in_order.channels (quiet_in_order job sound run in_order none)

-- ---- a verdict that is not RACE

-- it is one on a run without a race
no_race : (before : Order) (race : Option Race) (job : JobView) (run : RunView) (stretches : StretchesView) → status_of (verdict_by before race job run stretches) ≢ ends.Race → race ≡ None
unfolding verdict_by
no_race before None job run stretches other = refl
no_race before (Some race) job run stretches other = absurd (other refl)

pub result_by : (read : Result JobView Refusal) (status : Status) (bytes : List ℕ) → IfOk read IsSoundJob → IsVerdict status → status ≢ ends.Race
    → ReadingCallsFor read status bytes → IsOkAnd read HasOneResult
result_by (Ok job) status bytes sound is other output =
    let told = output.judged.on in
    let not_race : status_of (verdict_by told.before told.race job output.run (zone_time_in job output.run)) ≢ ends.Race = λ same.
    other (output.status_is ∙ ap status_of told.verdict_is ∙ same) in
    let none : told.race ≡ None = no_race told.before told.race job output.run (zone_time_in job output.run) not_race in
    one_result job sound output.run output.judged.in_order (subst (λ (r : Option Race). IsFirstRaceIn job output.run r) none told.first)
result_by (Err refusal) status bytes sound is other output = absurd (subst IsVerdict output.status_is is)

-- ---- whatever the verdict is

-- one order of turns without a race speaks for all
pub all_spoken_for : (read : Result JobView Refusal) → IfOk read IsSoundJob → IfOk read OneQuietRunSpeaksForAll
all_spoken_for (Ok job) sound = λ turns whole quiet. one_result_by job sound turns (quiet_run job sound turns whole quiet)
all_spoken_for (Err refusal) sound = tt
