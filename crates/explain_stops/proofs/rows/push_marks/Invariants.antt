-- Those so far are in the list.
use Rattle.std.proofs.Common.{◌≡◌, ◌++◌, take}
use Rattle.std.specs.List.{flat_map}
use Rattle.std.specs.Option.{option_to_list}
use Rattle.axis_sets.specs.Sets.{members_of}
use Rattle.explain_ends.specs.LastBoards.{IsTold}
use Rattle.explain_stops.specs.Lacks.{lacked_mark}
use Rattle.sync_types.specs.Boards.{Board}
use Rattle.explain_stops.proofs.rows.push_marks.Given as goal

abbrev pub invariant-loop-channel : goal.invariant-loop-channel
invariant-loop-channel l = (b : Board) → IsTold l.board b → l.list.items ≡ l.initial.list.items ++ flat_map (λ channel. option_to_list (lacked_mark b l.marks.number (members_of l.marks.named) channel)) (take l.channel-index l.channel-items)
