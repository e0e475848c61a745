use Rattle.std.proofs.Common.{◌≡◌, ◌-◌}
use Rattle.std.specs.List.{flat_map, range_with_len}
use Rattle.channel_machine.specs.StartStates.{start_of}
use Rattle.sync_types.specs.Boards.{first_board}
use Rattle.sync_types.specs.Turns.{AreEntries}
use Rattle.explain_assumptions.specs.Assumptions.{channel_assumptions}
use Rattle.explain_assumptions.proofs.assumptions.assumptions_of.Given as goal

abbrev pub invariant-loop-number : goal.invariant-loop-number
invariant-loop-number l = AreEntries (first_board (start_of l.job)) l.run.entries → l.rows.items ≡ flat_map (channel_assumptions l.job l.run) (range_with_len 1 (l.number - 1))
