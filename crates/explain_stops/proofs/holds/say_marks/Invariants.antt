-- The channels so far are said.
use Rattle.std.proofs.Common.{◌≡◌, ◌++◌, take}
use Rattle.std.specs.List.{flat_map}
use Rattle.axis_sets.specs.Sets.{members_of}
use Rattle.explain_ends.specs.LastBoards.{IsTold}
use Rattle.explain_stops.specs.Lacks.{lacked_mark}
use Rattle.explain_stops.specs.Waits.{some_lack_text}
use Rattle.sync_types.specs.Boards.{Board}
use Rattle.explain_stops.proofs.holds.say_marks.Given as goal

abbrev pub invariant-loop-channel : goal.invariant-loop-channel
invariant-loop-channel l = (b : Board) → IsTold l.board b → l.text ≡ l.initial.text
    ++ flat_map (λ channel. some_lack_text l.told.lines.now l.told.job.now l.told.run.now (lacked_mark b l.marks.number (members_of l.marks.named) channel)) (take l.channel-index l.channel-items)
