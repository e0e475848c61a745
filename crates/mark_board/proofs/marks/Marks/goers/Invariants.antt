use Rattle.std.proofs.Common.{◌≡◌, ℕ, ◌==◌, ◌&&◌, take, length}
use Rattle.std.specs.List.{list_any}
use Rattle.axis_sets.specs.Sets.{has}
use Rattle.axis_sets.specs.declared.limits.TheConstants.{CHANNEL_PLACES}
use Rattle.mark_board.specs.Marks.{others_have_mark}
use Rattle.mark_board.proofs.marks.Marks.goers.Given as goal

-- those of the waits so far that go on
abbrev pub invariant-loop-channel : goal.invariant-loop-channel
invariant-loop-channel l =
    ((c : ℕ) → has l.goers c ≡ list_any (λ wait. (wait.0 == c) && others_have_mark l.self wait.0 wait.1 wait.2) (take l.channel-index l.waits))
    × (length l.goers ≡ CHANNEL_PLACES)
