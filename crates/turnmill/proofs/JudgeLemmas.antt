-- What the parts of a verdict need of a run of an accepted job after which no channel runs.
use Rattle.std.proofs.Common.{◌≡◌, ◌≤◌, All, length, Result, Ok, Err, IfOk, refl, ap, ◌∙◌, arith}
use Rattle.std.proofs.lemmas.List.Elements.{All-weaker}
use Rattle.axis_sets.specs.declared.limits.TheConstants.{CHANNEL_LIMIT}
use Rattle.channel_machine.specs.StartStates.{start_of}
use Rattle.clash_check.specs.Verdicts.{verdict_by}
use Rattle.job_report.specs.Channels.{IsListedEnd}
use Rattle.job_types.specs.Job.{JobView}
use Rattle.job_types.specs.SoundJob.{IsSoundJob}
use Rattle.order_clocks.specs.Clocked.{ClocksView, IsOrderOf, moves_in}
use Rattle.order_clocks.specs.Races.{IsFirst}
use Rattle.order_clocks.specs.Tells.{is_before_in}
use Rattle.product_run.proofs.JudgedRuns.{comes, few, few_in_all, good}
use Rattle.product_run.specs.RunLaws.{MovesSoundly}
use Rattle.product_run.specs.RunLaws as law
use Rattle.channel_machine.specs.Scripts.{IsMaximalRunOf, IsRunInOrder}
use Rattle.zone_stretches.proofs.ToldRuns.{told_of}
use Rattle.zone_stretches.specs.SoundStretches.{IsOfSize}
use Rattle.zone_stretches.specs.Stretches.{StretchesView, all_stretches}
use Rattle.zone_stretches.specs.ZoneBoxes.{IsFit}
use Rattle.sync_types.specs.Boards.{first_board}
use Rattle.sync_types.specs.Runs.{ComesFrom}
use Rattle.sync_types.specs.Views.{RunView, StartView}
use Rattle.sync_types.specs.declared.ChannelEnd.{ChannelEnd}
use Rattle.sync_types.specs.declared.ChannelEnd.TheVariants.{Idle, Ended, Holding, Alarmed}
use Rattle.sync_types.specs.declared.Item.{Item}
use Rattle.sync_types.specs.declared.verdicts.Verdict.{Verdict}
use Rattle.turnmill.specs.Judged.{IsJudgedInAnyOrder}
use Rattle.turnmill.specs.Judgements.{IsJudgedByClocks}
use Rattle.turnmill.specs.Output.{CallsForReport}

-- how a channel has stopped
listed : (end : ChannelEnd) → law.IsListedEnd end → IsListedEnd end
listed Idle is = tt
listed (Ended line) is = tt
listed (Holding line) is = tt
listed (Alarmed alarm) is = is

module _ (job : JobView) (run : RunView) (sound : IsSoundJob job) (maximal : IsMaximalRunOf job (start_of job) run) where
  fits : (item : Item) → MovesSoundly item → IsFit item
  fits item moves = record { sound = moves.sound; within = moves.within }

  -- its items fit
  pub all_fit : All (All IsFit) run.items
  all_fit = All-weaker (All MovesSoundly) (All IsFit) (All-weaker MovesSoundly IsFit fits) run.items (good job run sound maximal).items

  -- its alarms are in the table
  pub listed_ends : All IsListedEnd run.ends
  listed_ends = All-weaker law.IsListedEnd IsListedEnd listed run.ends (good job run sound maximal).ends

  -- and so the verdict that rests on them is that on the run
  pub judged : (stretches : StretchesView) (clocks : ClocksView) (verdict : Verdict)
      → ((start : StartView) → ComesFrom start run → stretches ≡ all_stretches job (first_board start) run)
      → ((start : StartView) → ComesFrom start run → IsOrderOf (first_board start) (moves_in run.entries) (is_before_in clocks.rows))
      → ((start : StartView) → ComesFrom start run → IsFirst (first_board start) (moves_in run.entries) (length run.entries) clocks.race)
      → verdict ≡ verdict_by (is_before_in clocks.rows) clocks.race job run stretches
      → IsJudgedInAnyOrder job run verdict
  judged stretches clocks verdict time order race is = record {
    maximal = maximal;
    on = record {
      before = is_before_in clocks.rows;
      ordered = order (start_of job) (comes job run sound maximal);
      race = clocks.race;
      first = race (start_of job) (comes job run sound maximal);
      verdict_is = is ∙ ap (λ (s : StretchesView). verdict_by (is_before_in clocks.rows) clocks.race job run s) (time (start_of job) (comes job run sound maximal));
    };
  }

  pub judged_by : (stretches : StretchesView) (clocks : ClocksView) (verdict : Verdict)
      → ((start : StartView) → ComesFrom start run → stretches ≡ all_stretches job (first_board start) run)
      → ((start : StartView) → ComesFrom start run → IsOrderOf (first_board start) (moves_in run.entries) (is_before_in clocks.rows))
      → ((start : StartView) → ComesFrom start run → IsFirst (first_board start) (moves_in run.entries) (length run.entries) clocks.race)
      → verdict ≡ verdict_by (is_before_in clocks.rows) clocks.race job run stretches
      → IsJudgedByClocks job run clocks stretches verdict
  unfolding judged
  judged_by stretches clocks verdict time order race is = record {
    judged = judged stretches clocks verdict time order race is;
    before_is = refl;
    race_is = refl;
    time_is = time (start_of job) (comes job run sound maximal);
    told = told_of job run (start_of job) (comes job run sound maximal) stretches clocks time order;
  }

  pub of_size : All (λ e. length e.goes ≤ CHANNEL_LIMIT) run.entries → IsOfSize run
  of_size goes = let short = few job run sound maximal in record { entries = omega (arith, short); items = few_in_all job run sound maximal; goes = goes }

-- ---- a run that is reported

pub reported_in_order : (job : JobView) (run : RunView) (clocks : ClocksView) (stretches : StretchesView) (verdict : Verdict) → IsJudgedByClocks job run clocks stretches verdict
    → IsRunInOrder job (start_of job) run → CallsForReport job run verdict
reported_in_order job run clocks stretches verdict is ordered =
    record { run = run; verdict = verdict; judged = record { in_order = ordered; on = is.judged.on }; status_is = refl; bytes_are = refl }

-- what two clauses say of a value
pub both_ok : {X E : Type 0} (r : Result X E) (P Q R : X → Type 0) → ((x : X) → P x → Q x → R x) → IfOk r P → IfOk r Q → IfOk r R
both_ok (Ok x) P Q R follows p q = follows x p q
both_ok (Err e) P Q R follows p q = tt
