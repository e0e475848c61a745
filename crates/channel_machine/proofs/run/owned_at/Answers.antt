use Rattle.std.proofs.Common.{arith}
use Rattle.axis_sets.specs.Positions.{stands}
use Rattle.channel_machine.proofs.Rows.{owned_row}
use Rattle.channel_machine.proofs.run.owned_at.Goals as goal

pub returns : goal.returns
returns c = owned_row c.args.axes (stands c.args.at.now) c.loop-index.index c.loop-index.owned (omega arith) c.loop-index.invariant.size c.loop-index.invariant.each
