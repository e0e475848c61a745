-- What is kept is of a channel from which the rest of the segment is the same.
use Rattle.std.proofs.Common.{◌≡◌, ◌≤◌, ◌-◌, [], IfSome, None}
use Rattle.channel_machine.specs.Kept.{GoesOn, IsSettingIn, Keeps, state_view}
use Rattle.channel_machine.specs.Levels.{LevelsFit}
use Rattle.channel_machine.specs.Run.{SurroundingsView, Channel}
use Rattle.channel_machine.proofs.traces.trace_state.Given as goal

abbrev pub invariant-loop-items : goal.invariant-loop-items
invariant-loop-items l = record {
  fit : IfSome l.state.value.levels (LevelsFit l.job.skip l.job.programs);
  few : l.state.value.count ≤ 100000;
  goes : l.halt ≡ None;
  channel : l.state.value.channel ≡ l.fn.start.value.channel;
  told : (s : SurroundingsView) (c : Channel) → IsSettingIn l.job s (state_view l.fn.start.value) → Keeps s c (state_view l.fn.start.value) → GoesOn s c [] l.items.items (state_view l.state.value);
}

abbrev pub decreases-loop-items : goal.decreases-loop-items
decreases-loop-items l = 100000 - l.state.value.count
