-- Steps. How far the code has read a run, and the races that it has found.
use Rattle.std.specs.Prelude.{◌≡◌, ℕ, true, List, Option, Some, None, slice_index_or}
use Rattle.order_clocks.specs.Chains.{IsIn}
use Rattle.order_clocks.specs.Clocked.{moves_in}
use Rattle.order_clocks.specs.Counters.{last_rows}
use Rattle.order_clocks.specs.CourseOf.{course_of}
use Rattle.order_clocks.specs.Happenings.{board_at, going_of, happening_at}
use Rattle.order_clocks.specs.LastPlaces.{AreLast}
use Rattle.order_clocks.specs.Pairs.{IsKnownStep}
use Rattle.order_clocks.specs.Races.{IsFirst}
use Rattle.order_clocks.specs.Steps.{Shows}
use Rattle.order_clocks.specs.Stops.{TellsAlarms}
use Rattle.order_clocks.specs.Tracks.{tracks_of}
use Rattle.order_clocks.specs.Watching.{IsRead, Keeps, WatchIsSound, wait_in, wait_shown}
use Rattle.step_deeds.specs.declared.deed.WaitAt.{WaitAt}
use Rattle.order_clocks.specs.declared.reader.ClockReader.{ClockReader}
use Rattle.order_clocks.specs.declared.reader.ClockedStep.{ClockedStep}
use Rattle.order_clocks.specs.declared.search.RaceSearch.{RaceSearch}
use Rattle.order_clocks.specs.declared.watch.BoardReplay.{BoardReplay}
use Rattle.sync_types.specs.Boards.{Board, among}
use Rattle.sync_types.specs.GoingOn.{Going}
use Rattle.sync_types.specs.Turns.{Move, AreEntries}
use Rattle.sync_types.specs.Views.{EntryView}

-- the entries before this place have been read
pub record IsReaderAt (b : Board) (es : List EntryView) (i : ℕ) (r : ClockReader) : Type 0 where
  pub entries : AreEntries b es
  pub sound : WatchIsSound r.watch
  pub alarms : TellsAlarms b (moves_in es) r.stops
  pub keeps : Keeps r.watch (board_at b (moves_in es) i)
  pub shows : Shows r.times (last_rows (course_of b (moves_in es)) i)

-- for what each channel waits when the step is over
pub record AreHolds (b : Board) (moves : List Move) (i : ℕ) (holds : List (Option WaitAt)) : Type 0 where
  pub hold : (c : ℕ) → wait_shown (slice_index_or holds c None) ≡ wait_in ((happening_at b moves i).after c)
  pub none : slice_index_or holds 0 None ≡ None

-- of those that go on the one of this channel is the same, as far as waits and axes go
pub record IsOnlyOne (goings : List Going) (g : Going) : Type 0 where
  pub other : Going
  pub found : going_of goings g.channel ≡ Some other
  pub from : wait_in other.from ≡ wait_in g.from
  pub took : (x : ℕ) → among g.took x ≡ true → among other.took x ≡ true

-- what was read is the step of the run, and what is kept says for what channels wait when it is over
pub record IsReadAt (b : Board) (moves : List Move) (i : ℕ) (read : ClockedStep) (watch : BoardReplay) : Type 0 where
  pub deed : IsRead read.deed (happening_at b moves i)
  pub alone : (g : Going) → IsIn g (happening_at b moves i).goings → IsOnlyOne (happening_at b moves i).goings g
  pub known : IsKnownStep (course_of b moves) (tracks_of b moves) i read.deed read.rows
  pub holds : AreHolds b moves i watch.holds

-- the first race of the first steps is known; where there is none, the last places are
pub record IsSearched (b : Board) (moves : List Move) (i : ℕ) (search : RaceSearch) : Type 0 where
  pub first : IsFirst b moves i search.race
  pub last : search.race ≡ None → AreLast (course_of b moves) (tracks_of b moves) i search.places
