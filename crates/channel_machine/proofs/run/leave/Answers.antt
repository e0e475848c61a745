use Rattle.std.proofs.Common.{◌∙◌, IfSome, Option, ap, subst, sym}
use Rattle.block_effects.specs.Courses.{course_view}
use Rattle.job_types.specs.Job.{JobView}
use Rattle.channel_machine.specs.Levels.{LevelsFit, followed_from}
use Rattle.channel_machine.specs.declared.levels.Levels.{Levels}
use Rattle.channel_machine.specs.declared.local.State.{State}
use Rattle.channel_machine.proofs.Fitting.{followed_from_fits}
use Rattle.channel_machine.proofs.run.leave.Goals as goal

pub returns-in_ok-push_done-in-Ok-clause-fit : goal.returns-in_ok-push_done-in-Ok-clause-fit
returns-in_ok-push_done-in-Ok-clause-fit c =
    subst (λ (o : Option Levels). IfSome o (LevelsFit c.args.job.now.skip c.args.job.now.programs)) (sym (ap (λ (state : State). state.levels) c.count_block-in-Ok.ensures))
    (followed_from_fits c.args.job.now.skip c.args.job.now.programs c.args.state.now.levels c.requires.fit (course_view c.args.course) c.follow_on.new.levels
    (ap (λ (v : JobView). followed_from v.skip c.args.job.now.programs c.args.state.now.levels (course_view c.args.course)) (sym c.job.view_is) ∙ c.in-Ok.ensures))
