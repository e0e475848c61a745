use Rattle.channel_machine.proofs.Going.{goes_after, never_alarms}
use Rattle.channel_machine.proofs.levels.go_after.Goals as goal

pub returns-in-Ok : goal.returns-in-Ok
returns-in-Ok c =
    goes_after c.args.skip c.args.job.now.programs c.args.here.now c.go_on.new.here c.in-Ok.comes c.in-Ok.ensures

pub returns-in-Err : goal.returns-in-Err
returns-in-Err c =
    absurd (never_alarms c.args.skip c.args.job.now.programs c.args.here.now c.go_on.new.here _ c.in-Err.ensures)
