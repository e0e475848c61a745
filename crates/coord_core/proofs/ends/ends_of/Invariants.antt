use Rattle.std.proofs.Common.{◌≡◌, ◌-◌, ◌<◌, ◌++◌}
use Rattle.std.specs.List.{range_with_len}
use Rattle.arrayvec.specs.ArrayVec.{array_vec_len}
use Rattle.axis_sets.specs.declared.limits.TheConstants.{CHANNEL_PLACES}
use Rattle.coord_core.specs.Boards.{replayed}
use Rattle.sync_types.specs.BoardEnds.{ends_among, ends_of}
use Rattle.coord_core.proofs.ends.ends_of.Given as goal

abbrev pub invariant-loop-number : goal.invariant-loop-number
invariant-loop-number l =
    (l.ends.items ++ ends_among (replayed l.board) (range_with_len l.number (CHANNEL_PLACES - l.number)) ≡ ends_of (replayed l.board))
    × (array_vec_len l.ends < l.number)
