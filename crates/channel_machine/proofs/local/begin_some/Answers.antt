use Rattle.std.proofs.Common.{◌∙◌, [], Option, IfSome, ap, subst, sym}
use Rattle.job_types.specs.Job.{JobView}
use Rattle.channel_machine.specs.declared.levels.Levels.{Levels}
use Rattle.channel_machine.specs.Levels.{levels_from, first_place, LevelsFit}
use Rattle.channel_machine.proofs.Fitting.{begin_fits}
use Rattle.channel_machine.proofs.local.begin_some.Goals as goal

pub returns-in-Some-clause-fit : goal.returns-in-Some-clause-fit
returns-in-Some-clause-fit c =
    let job = c.args.job.now in
    subst (λ (o : Option Levels). IfSome o (LevelsFit job.skip job.programs))
    (sym (c.begin.ensures ∙ ap (λ (v : JobView). levels_from v.skip job.programs (first_place v.skip job.programs c.in-Some.number 0) []) c.job.view_is)) (begin_fits job.skip job.programs c.in-Some.number)
