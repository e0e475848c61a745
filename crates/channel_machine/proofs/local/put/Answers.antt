use Rattle.std.proofs.Common.{arith}
use Rattle.channel_machine.proofs.Resuming.{put_all}
use Rattle.channel_machine.proofs.local.put.Goals as goal

pub returns : goal.returns
returns c = put_all c.args.granted.now c.loop-index.at c.args.at.now c.loop-index.index c.get-first.ensures.size (omega arith) c.loop-index.invariant.each
