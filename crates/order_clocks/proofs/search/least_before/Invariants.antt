use Rattle.order_clocks.specs.Clocked.{moves_in}
use Rattle.order_clocks.specs.CourseOf.{course_of}
use Rattle.order_clocks.specs.Pairs.{AreEvents, IsKnownStep, IsLeastWith}
use Rattle.order_clocks.specs.Reading.{IsReaderAt}
use Rattle.order_clocks.specs.Tracks.{IsEarlierRace, tracks_of}
use Rattle.step_deeds.specs.declared.deed.StepEvents.{StepEvents}
use Rattle.counter_rows.specs.declared.table.StepClocks.{StepClocks}
use Rattle.order_clocks.proofs.search.least_before.Given as goal
use Rattle.sync_types.specs.Boards.{Board}

abbrev pub invariant-loop-j : goal.invariant-loop-j
invariant-loop-j l = record {
  reader : (b : Board) → IsReaderAt b l.replay.entries.now 0 l.replay.first.now → IsReaderAt b l.replay.entries.now l.j l.reader;
  least : (b : Board) (late : StepEvents) (rows : StepClocks) → IsReaderAt b l.replay.entries.now 0 l.replay.first.now → IsKnownStep (course_of b (moves_in l.replay.entries.now)) (tracks_of b (moves_in l.replay.entries.now)) l.place late rows → AreEvents late rows l.lates
      → IsLeastWith (IsEarlierRace (course_of b (moves_in l.replay.entries.now)) (tracks_of b (moves_in l.replay.entries.now)) l.j l.place) l.fn.start l.least;
}
