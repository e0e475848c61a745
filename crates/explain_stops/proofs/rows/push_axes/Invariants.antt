-- Those so far are in the list.
use Rattle.std.proofs.Common.{◌≡◌, ◌++◌, take}
use Rattle.std.specs.List.{flat_map}
use Rattle.std.specs.Option.{option_to_list}
use Rattle.axis_sets.specs.Sets.{members_of}
use Rattle.explain_ends.specs.LastBoards.{IsTold}
use Rattle.explain_stops.specs.Lacks.{lacked_axis}
use Rattle.sync_types.specs.Boards.{Board}
use Rattle.explain_stops.proofs.rows.push_axes.Given as goal

abbrev pub invariant-loop-axis : goal.invariant-loop-axis
invariant-loop-axis l = (b : Board) → IsTold l.board b → l.list.items ≡ l.initial.list.items ++ flat_map (λ axis. option_to_list (lacked_axis b l.asked.own (members_of l.asked.axes) axis)) (take l.axis-index l.axis-items)
