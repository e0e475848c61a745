use Rattle.axis_sets.specs.declared.limits.TheConstants.{CHANNEL_LIMIT}
use Rattle.coord_core.specs.declared.activities.Activity.{Activity}
use Rattle.std.proofs.Common.{sym, ap, ◌∙◌, arith}
use Rattle.coord_core.specs.Tables.{activity_at, state_in}
use Rattle.coord_core.proofs.Members.{first_found, none_found}
use Rattle.sync_types.specs.Boards.{is_running}
use Rattle.coord_core.proofs.state.State.lowest_running.Goals as goal

pub returns-then-is_running : goal.returns-then-is_running
returns-then-is_running c = sym (first_found (λ d. is_running (state_in d (activity_at c.args.self.now.channels d))) 1 CHANNEL_LIMIT c.loop-number.number c.loop-number.auto.number (omega arith) c.loop-number.invariant (sym (c.is_running.ensures ∙ ap (λ (a : Activity). is_running (state_in c.loop-number.number a)) c.activity_of.ensures) ∙ c.if-is_running.true))

pub returns : goal.returns
returns c = sym (none_found (λ d. is_running (state_in d (activity_at c.args.self.now.channels d))) 1 CHANNEL_LIMIT (λ d from upto. c.loop-number.invariant d from (omega arith)))
