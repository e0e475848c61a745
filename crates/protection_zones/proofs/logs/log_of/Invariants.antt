use Rattle.std.proofs.Common.{◌≡◌, ◌++◌, List, drop}
use Rattle.order_clocks.specs.Clocked.{moves_in}
use Rattle.order_clocks.specs.Happenings.{board_at}
use Rattle.order_clocks.specs.StepReading.{IsAtStep}
use Rattle.order_clocks.specs.Stops.{IsWhole}
use Rattle.protection_zones.specs.Logs.{IsLog}
use Rattle.sync_types.specs.Boards.{Board}
use Rattle.zone_stretches.specs.Occurrences.{OccurrenceView, occurrences_from, occurrences_of}
use Rattle.protection_zones.proofs.logs.log_of.Given as goal

abbrev pub invariant-loop-place : goal.invariant-loop-place
invariant-loop-place l = record {
  reader : (b : Board) → IsWhole b l.entries l.ends → IsAtStep b l.entries l.place l.reader;
  log : (b : Board) → IsWhole b l.entries l.ends
      → (os : List OccurrenceView) × (os ++ occurrences_from (board_at b (moves_in l.entries) l.place) l.place (drop l.place (moves_in l.entries)) ≡ occurrences_of b (moves_in l.entries)) × IsLog l.job os l.log;
}
