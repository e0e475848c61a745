use Rattle.axis_sets.specs.declared.limits.TheConstants.{CHANNEL_LIMIT}
use Rattle.std.proofs.Common.{◌≡◌, ◌+◌, ◌-◌, ◌≤◌, length, map, ◌++◌}
use Rattle.coord_core.specs.Tables.{board_in}
use Rattle.coord_core.specs.Tables.{IsTable}
use Rattle.sync_types.specs.GoingOn.{go_of, takings}
use Rattle.coord_core.proofs.state.State.hand_out_axes.Given as goal

abbrev pub invariant-loop-turn : goal.invariant-loop-turn
invariant-loop-turn l =
    IsTable l.self.table
    × (l.initial.goes.items ++ map go_of (takings CHANNEL_LIMIT (board_in l.initial.self.table l.initial.self.channels)).goings
    ≡ l.goes.items ++ map go_of (takings (CHANNEL_LIMIT - l._turn) (board_in l.self.table l.self.channels)).goings)
    × ((takings CHANNEL_LIMIT (board_in l.initial.self.table l.initial.self.channels)).board ≡ (takings (CHANNEL_LIMIT - l._turn) (board_in l.self.table l.self.channels)).board)
    × (length l.goes.items + length (takings (CHANNEL_LIMIT - l._turn) (board_in l.self.table l.self.channels)).goings ≤ CHANNEL_LIMIT)
