use Rattle.std.proofs.Common.{take, IfSome}
use Rattle.channel_machine.specs.Locals.{IsReady}
use Rattle.explain_alarms.specs.KeptChannels.{IsKept}
use Rattle.explain_alarms.proofs.kept.kept_by.Given as goal

abbrev pub invariant-loop-grant : goal.invariant-loop-grant
invariant-loop-grant l = record {
  kept : IsKept l.job l.channel (take l.grant-index l.grants) l.kept;
  ready : IfSome l.kept.local (IsReady l.job l.channel);
}
