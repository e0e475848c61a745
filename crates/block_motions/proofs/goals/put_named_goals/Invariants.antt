use Rattle.axis_sets.specs.declared.limits.TheConstants.{AXIS_LIMIT}
use Rattle.std.proofs.Common.{◌≡◌, ℕ, ◌<◌, ◌≤◌, length, get_or, None, option_map}
use Rattle.block_motions.specs.Goals.{ConditionsView, AreInForce, goal_by_name}
use Rattle.block_motions.proofs.goals.put_named_goals.Given as goal

abbrev pub invariant-loop-index : goal.invariant-loop-index
invariant-loop-index l = record {
  long : length l.goals ≡ AXIS_LIMIT;
  rest : (k : ℕ) → l.index ≤ k → get_or l.goals k None ≡ None;
  named : (h : ConditionsView) → AreInForce h l.conditions → (k : ℕ) → k < l.index → get_or l.goals k None ≡ option_map (goal_by_name h) (get_or l.axes k None);
}
