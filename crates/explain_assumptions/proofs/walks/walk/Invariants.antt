use Rattle.std.proofs.Common.{◌≡◌, ◌≤◌, ◌-◌, IfSome}
use Rattle.channel_machine.specs.Kept.{IsSettingIn}
use Rattle.channel_machine.specs.Levels.{LevelsFit}
use Rattle.channel_machine.specs.Run.{SurroundingsView, Channel}
use Rattle.explain_assumptions.specs.Walks.{IsAlong, IsWalked}
use Rattle.explain_assumptions.proofs.walks.walk.Given as goal

abbrev pub invariant-loop-ends : goal.invariant-loop-ends
invariant-loop-ends l = record {
  fit : IfSome l.local.levels (LevelsFit l.job.skip l.job.programs);
  few : l.local.count ≤ 100000;
  channel : l.local.channel ≡ l.initial.local.channel;
  told : (s : SurroundingsView) (c : Channel) → IsSettingIn l.job s l.initial.local → IsWalked s c l.initial.local l.initial.remarks.items → IsAlong s c l.local l.remarks.items;
}

abbrev pub decreases-loop-ends : goal.decreases-loop-ends
decreases-loop-ends l = 100000 - l.local.count
