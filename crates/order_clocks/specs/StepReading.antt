-- Steps. How far the code has read a run, and what it has read.
use Rattle.std.specs.Prelude.{◌≡◌, ℕ, List}
use Rattle.order_clocks.specs.Clocked.{moves_in}
use Rattle.order_clocks.specs.Happenings.{board_at, happening_at}
use Rattle.order_clocks.specs.Stops.{TellsAlarms, alarm_at}
use Rattle.order_clocks.specs.Watching.{IsRead, Keeps, WatchIsSound}
use Rattle.order_clocks.specs.declared.step_reader.ReadStep.{ReadStep}
use Rattle.order_clocks.specs.declared.step_reader.StepReader.{StepReader}
use Rattle.sync_types.specs.Boards.{Board}
use Rattle.sync_types.specs.Turns.{Move, AreEntries}
use Rattle.sync_types.specs.Views.{EntryView}

-- the entries before this place have been read
pub record IsAtStep (b : Board) (es : List EntryView) (i : ℕ) (r : StepReader) : Type 0 where
  pub entries : AreEntries b es
  pub sound : WatchIsSound r.watch
  pub alarms : TellsAlarms b (moves_in es) r.stops
  pub keeps : Keeps r.watch (board_at b (moves_in es) i)

-- this is the step of the place
pub record IsReadStep (b : Board) (moves : List Move) (i : ℕ) (read : ReadStep) : Type 0 where
  pub deed : IsRead read.deed (happening_at b moves i)
  pub alarms : read.alarms ≡ alarm_at b moves i
