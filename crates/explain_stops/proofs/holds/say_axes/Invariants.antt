-- The axes so far are said.
use Rattle.std.proofs.Common.{◌≡◌, ◌++◌, take}
use Rattle.std.specs.List.{flat_map}
use Rattle.axis_sets.specs.Sets.{members_of}
use Rattle.explain_ends.specs.LastBoards.{IsTold}
use Rattle.explain_stops.specs.Lacks.{lacked_axis}
use Rattle.explain_stops.specs.Waits.{some_lack_text}
use Rattle.sync_types.specs.Boards.{Board}
use Rattle.explain_stops.proofs.holds.say_axes.Given as goal

abbrev pub invariant-loop-axis : goal.invariant-loop-axis
invariant-loop-axis l = (b : Board) → IsTold l.board b → l.text ≡ l.initial.text
    ++ flat_map (λ axis. some_lack_text l.told.lines.now l.told.job.now l.told.run.now (lacked_axis b l.asked.own (members_of l.asked.axes) axis)) (take l.axis-index l.axis-items)
