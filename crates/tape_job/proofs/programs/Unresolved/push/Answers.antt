use Rattle.tape_job.proofs.NestLemmas.{step_breaks, step_taken, pushed_view}
use Rattle.tape_job.proofs.programs.Unresolved.push.Goals as goal

pub returns-in-Ok-clause-exact : goal.returns-in-Ok-clause-exact
returns-in-Ok-clause-exact c =
    rw (← c.self.view_is, c.push_reserved.ensures.items, c.in_ok-reserve.ensures.items)
    (step_taken _ _ _ _ c.self.invariant c.in-Ok.ensures, pushed_view c.self.inside.name c.self.inside.line c.self.inside.blocks.items (c.args.line, c.args.block))

pub returns-in-Err-clause-exact : goal.returns-in-Err-clause-exact
returns-in-Err-clause-exact c = rw (← c.self.view_is) (step_breaks _ _ _ _ _ c.self.invariant c.in-Err.ensures)
