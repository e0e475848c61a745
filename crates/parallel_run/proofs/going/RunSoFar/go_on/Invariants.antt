use Rattle.std.proofs.Common.{◌≡◌, map}
use Rattle.channel_machine.proofs.RunsSoFar.{IsRunSoFar}
use Rattle.parallel_run.proofs.going.RunSoFar.go_on.Given as goal
use Rattle.parallel_run.specs.Joining.{AreReady}
use Rattle.parallel_run.specs.ThreadRuns.{GoOnWith}

abbrev pub invariant-turns : goal.invariant-turns
invariant-turns g l = record {
  ready : AreReady l.job l.run.locals.items;
  start : l.run.board.start ≡ l.start;
  goes_on : GoOnWith l.start l.initial.run.board.entries l.run.board.entries;
  run : IsRunSoFar l.job l.start l.run.board.entries (map (λ items. items.items) l.run.items.items) l.run.locals.items;
}
