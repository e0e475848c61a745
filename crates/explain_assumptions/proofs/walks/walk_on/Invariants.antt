use Rattle.std.proofs.Common.{◌∷◌, take}
use Rattle.channel_machine.specs.Kept.{IsSettingIn}
use Rattle.channel_machine.specs.Locals.{IsReady}
use Rattle.channel_machine.specs.Run.{surroundings_of}
use Rattle.channel_machine.specs.Scripts.{segment_after}
use Rattle.explain_assumptions.specs.Walks.{IsWalked}
use Rattle.explain_assumptions.proofs.walks.walk_on.Given as goal

abbrev pub invariant-loop-grant : goal.invariant-loop-grant
invariant-loop-grant l = record {
  ready : IsReady l.job l.fn.channel l.local;
  setting : IsSettingIn l.job (surroundings_of l.job l.fn.channel l.first) l.local;
  walked : IsWalked (surroundings_of l.job l.fn.channel l.first) (segment_after l.job l.fn.channel (l.first ∷ take l.grant-index l.rest)).after l.local l.remarks.items;
}
