use Rattle.axis_sets.specs.declared.limits.TheConstants.{CHANNEL_LIMIT}
use Rattle.std.proofs.Common.{sym, ◌∙◌, arith}
use Rattle.coord_core.specs.Tables.{board_in}
use Rattle.coord_core.proofs.Members.{first_found, none_found}
use Rattle.sync_types.specs.GoingOn.{can_take}
use Rattle.coord_core.proofs.state.State.next_taker.Goals as goal

pub returns-then-can_take : goal.returns-then-can_take
returns-then-can_take c = sym (first_found (can_take (board_in c.args.self.now.table c.args.self.now.channels)) 1 CHANNEL_LIMIT c.loop-number.number c.loop-number.auto.number (omega arith) c.loop-number.invariant (sym c.can_take.ensures ∙ c.if-can_take.true))

pub returns : goal.returns
returns c = sym (none_found (can_take (board_in c.args.self.now.table c.args.self.now.channels)) 1 CHANNEL_LIMIT (λ d from upto. c.loop-number.invariant d from (omega arith)))
