-- The times of zones are alike in the run in order and in each run without a race after which no channel runs.
use Rattle.std.proofs.Common.{◌≡◌, ◌∙◌, ℕ, List, Option, None, subst}
use Rattle.channel_machine.specs.Scripts.{IsMaximalRunOf, script_of}
use Rattle.channel_machine.specs.StartStates.{start_of}
use Rattle.job_types.specs.Job.{JobView}
use Rattle.job_types.specs.SoundJob.{IsSoundJob}
use Rattle.order_clocks.specs.Clocked.{ClocksView}
use Rattle.speed_laws.proofs.AlikeRuns.{quiet_runs_have_the_same_zone_times}
use Rattle.sync_types.proofs.Replays.{sequential_is_one}
use Rattle.sync_types.specs.Runs.{first_stage}
use Rattle.sync_types.specs.Views.{RunView}
use Rattle.sync_types.specs.declared.runs.Race.{Race}
use Rattle.sync_types.specs.declared.verdicts.Verdict.{Verdict}
use Rattle.turnmill.proofs.AnyRun.{AreAlikeInOrder, quiet_report}
use Rattle.turnmill.proofs.JobItems.{made_by}
use Rattle.turnmill.proofs.QuietRuns.{HasNone, quiet_maximal}
use Rattle.turnmill.specs.JobDoings.{doings_of}
use Rattle.turnmill.specs.Judged.{IsFirstRaceIn, IsJudgedInAnyOrder, IsOrderIn}
use Rattle.turnmill.specs.Judgements.{IsJudgedByClocks}
use Rattle.turnmill.specs.Output.{CallsForReport}
use Rattle.zone_stretches.specs.Overlaps.{Order}
use Rattle.zone_stretches.specs.Stretches.{StretchesView}

module _ (job : JobView) (sound : IsSoundJob job) where
  alike_in_order : (run : RunView) (one : IsMaximalRunOf job (start_of job) run) (before : Order) → IsOrderIn job run before → HasNone job sound run → AreAlikeInOrder job run before
  alike_in_order run one before order none other ordered after other_order =
      let cs : List ℕ = one.channels in
      let ds : List ℕ = ordered.channels in
      quiet_runs_have_the_same_zone_times job (doings_of job) cs ds run other before after sound (quiet_maximal job sound run one none)
      (sequential_is_one (script_of job) (first_stage (start_of job)) ds ds ordered.sequential).maximal
      (made_by job run cs one.all) (made_by job other ds ordered.all) order other_order

  -- so the job calls for the report of the run
  pub reported_any : (run : RunView) (verdict : Verdict) (judged : IsJudgedInAnyOrder job run verdict) → judged.on.race ≡ None → CallsForReport job run verdict
  reported_any run verdict judged none =
      quiet_report job sound run verdict judged none
      (alike_in_order run judged.maximal judged.on.before judged.on.ordered (subst (λ (race : Option Race). IsFirstRaceIn job run race) none judged.on.first))

  pub reported_quiet : (run : RunView) (clocks : ClocksView) (stretches : StretchesView) (verdict : Verdict) → IsJudgedByClocks job run clocks stretches verdict → clocks.race ≡ None
      → CallsForReport job run verdict
  reported_quiet run clocks stretches verdict is none = reported_any run verdict is.judged (is.race_is ∙ none)
