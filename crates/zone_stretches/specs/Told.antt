-- Meaning. What a run is judged by.
use Rattle.std.specs.Prelude.{◌≡◌}
use Rattle.job_types.specs.Job.{JobView}
use Rattle.order_clocks.specs.Clocked.{ClocksView, IsOrderOf, moves_in}
use Rattle.order_clocks.specs.Tells.{is_before_in}
use Rattle.sync_types.specs.Boards.{first_board}
use Rattle.sync_types.specs.Runs.{ComesFrom}
use Rattle.sync_types.specs.Views.{RunView, StartView}
use Rattle.zone_stretches.specs.Stretches.{StretchesView, all_stretches}

-- the run is a whole run of the job from a start; these are all stretches of its zones, and the clocks tell the order of its events
pub record IsTold (job : JobView) (run : RunView) (stretches : StretchesView) (clocks : ClocksView) : Type 0 where
  pub start : StartView
  pub whole : ComesFrom start run
  pub told : stretches ≡ all_stretches job (first_board start) run
  pub order : IsOrderOf (first_board start) (moves_in run.entries) (is_before_in clocks.rows)
