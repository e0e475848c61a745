use Rattle.std.proofs.Common.{◌≡◌, length}
use Rattle.order_clocks.specs.Clocked.{moves_in}
use Rattle.order_clocks.specs.CourseOf.{course_of}
use Rattle.order_clocks.specs.Reading.{IsReaderAt, IsSearched}
use Rattle.order_clocks.specs.Stops.{IsWhole}
use Rattle.order_clocks.specs.Tells.{Tells}
use Rattle.order_clocks.proofs.counting.read_run.Given as goal
use Rattle.sync_types.specs.Boards.{Board}

abbrev pub invariant-loop-place : goal.invariant-loop-place
invariant-loop-place l = record {
  size : length l.table.steps ≡ l.place;
  first : (b : Board) → IsWhole b l.entries l.ends → IsReaderAt b l.entries 0 l.replay.first.now;
  reader : (b : Board) → IsWhole b l.entries l.ends → IsReaderAt b l.entries l.place l.reader;
  searched : (b : Board) → IsWhole b l.entries l.ends → IsSearched b (moves_in l.entries) l.place l.search;
  tells : (b : Board) → IsWhole b l.entries l.ends → Tells (course_of b (moves_in l.entries)) l.table;
}
