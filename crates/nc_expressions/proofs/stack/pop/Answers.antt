use Rattle.std.proofs.Common.{sym}
use Rattle.nc_expressions.proofs.Stacks.{pops}
use Rattle.nc_expressions.proofs.stack.pop.Goals as goal

pub returns-clause-stack : goal.returns-clause-stack
returns-clause-stack c =
    pops c.args.pending.now.items c.pop.new.self.items c.pop.result c.pop.ensures.items c.pop.ensures.cases (sym c.args.pending.now.ok.0) (sym c.pop.new.self.ok.0)
