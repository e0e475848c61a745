-- Those so far are in the list.
use Rattle.std.proofs.Common.{◌≡◌, ◌++◌, take}
use Rattle.std.specs.List.{flat_map}
use Rattle.explain_ends.specs.LastBoards.{IsTold}
use Rattle.explain_stops.specs.Rows.{rows_of_mark}
use Rattle.sync_types.specs.Boards.{Board}
use Rattle.explain_stops.proofs.rows.push_all_marks.Given as goal

abbrev pub invariant-loop-mark : goal.invariant-loop-mark
invariant-loop-mark l = (b : Board) → IsTold l.board b → l.list.items ≡ l.initial.list.items ++ flat_map (rows_of_mark l.told.job.now l.told.run.now b) (take l.mark-index l.mark-items)
