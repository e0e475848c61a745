-- The mark numbers so far are said.
use Rattle.std.proofs.Common.{◌≡◌, ◌++◌, take}
use Rattle.std.specs.List.{flat_map}
use Rattle.explain_ends.specs.LastBoards.{IsTold}
use Rattle.explain_stops.specs.MarkTables.{mark_table}
use Rattle.sync_types.specs.Boards.{Board}
use Rattle.explain_stops.proofs.mark_tables.say_marks.Given as goal

abbrev pub invariant-loop-mark : goal.invariant-loop-mark
invariant-loop-mark l = (b : Board) → IsTold l.board b → l.text ≡ l.initial.text ++ flat_map (mark_table l.told.lines.now l.told.job.now l.told.run.now b) (take l.mark-index l.mark-items)
