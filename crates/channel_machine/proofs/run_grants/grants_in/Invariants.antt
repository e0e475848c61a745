use Rattle.std.proofs.Common.{◌≡◌}
use Rattle.coord_core.specs.Boards.{replayed}
use Rattle.channel_machine.specs.RunGrants.{board_before, grants_before}
use Rattle.channel_machine.proofs.run_grants.grants_in.Given as goal

abbrev pub invariant-loop-entry : goal.invariant-loop-entry
invariant-loop-entry l = record {
  board : replayed l.board ≡ board_before l.start l.entries l.entry-index;
  grants : l.grants.items ≡ grants_before l.start l.entries l.channel l.entry-index;
}
