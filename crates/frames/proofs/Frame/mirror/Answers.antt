use Rattle.std.proofs.Common.{[]}
use Rattle.frames.proofs.Frame.mirror.Goals as goal

pub returns-clause-adds : goal.returns-clause-adds
returns-clause-adds c = c.with_mirrors.ensures [] c.empty.ensures
