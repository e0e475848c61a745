use Rattle.std.proofs.Common.{◌≡◌}
use Rattle.parallel_run.proofs.Tellings.{TellsAtTurn}
use Rattle.parallel_run.proofs.worker.work.Given as goal
use Rattle.parallel_run.specs.Workers.{CanGoOn}

abbrev pub invariant-turns : goal.invariant-turns
invariant-turns g l = record {
  fits : g.D.Desk.fits l.desk l.pass;
  channel : l.worked.channel ≡ l.fn.own.channel;
  ready : CanGoOn l.fn.own.job.now l.worked;
  turn : TellsAtTurn l.fn.own.job.now l.fn.own.channel l.worked l.outcome (g.D.Desk.tells l.fn.pass) (g.D.Desk.tells l.pass);
}
