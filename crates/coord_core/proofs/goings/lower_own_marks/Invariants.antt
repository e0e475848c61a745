use Rattle.std.proofs.Common.{◌≡◌, ℕ, ◌<◌, ◌≤◌, ◌&&◌, not}
use Rattle.axis_sets.specs.Sets.{has}
use Rattle.coord_core.specs.Tables.{activity_at, state_in}
use Rattle.mark_board.specs.Marks.{has_mark}
use Rattle.sync_types.specs.GoingOn.{lowers}
use Rattle.coord_core.proofs.goings.lower_own_marks.Given as goal

abbrev pub invariant-loop-number : goal.invariant-loop-number
invariant-loop-number l =
    ((c m : ℕ) → c < l.number → has_mark l.marks c m ≡ (has_mark l.initial.marks c m && not (has l.goers c && lowers (state_in c (activity_at l.channels c)) m)))
    × ((c m : ℕ) → l.number ≤ c → has_mark l.marks c m ≡ has_mark l.initial.marks c m)
