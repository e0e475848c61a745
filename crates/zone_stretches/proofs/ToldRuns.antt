-- What the stretches and the clocks of a run tell together.
use Rattle.std.proofs.Common.{◌≡◌}
use Rattle.job_types.specs.Job.{JobView}
use Rattle.order_clocks.specs.Clocked.{ClocksView, IsOrderOf, moves_in}
use Rattle.order_clocks.specs.Tells.{is_before_in}
use Rattle.sync_types.specs.Boards.{first_board}
use Rattle.sync_types.specs.Runs.{ComesFrom}
use Rattle.sync_types.specs.Views.{RunView, StartView}
use Rattle.zone_stretches.specs.Stretches.{StretchesView, all_stretches}
use Rattle.zone_stretches.specs.Told.{IsTold}

pub told_of : (job : JobView) (run : RunView) (start : StartView) → ComesFrom start run → (stretches : StretchesView) (clocks : ClocksView)
    → ((start : StartView) → ComesFrom start run → stretches ≡ all_stretches job (first_board start) run)
    → ((start : StartView) → ComesFrom start run → IsOrderOf (first_board start) (moves_in run.entries) (is_before_in clocks.rows))
    → IsTold job run stretches clocks
told_of job run start comes stretches clocks time order = record {
  start = start;
  whole = comes;
  told = time start comes;
  order = order start comes;
}
