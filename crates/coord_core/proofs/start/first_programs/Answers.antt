use Rattle.std.proofs.Common.{arith}
use Rattle.coord_core.proofs.Starting.{programs_at_first}
use Rattle.coord_core.proofs.start.first_programs.Goals as goal

pub returns : goal.returns
returns c = programs_at_first c.loop-number.programs c.args.lines.now c.channels_of-known.result c.loop-number.number (omega arith) c.loop-number.invariant.0 c.loop-number.invariant.1 c.loop-number.invariant.2
    c.channels_of-known.ensures.members c.channels_of-known.ensures.none c.channels_of-known.ensures.size
