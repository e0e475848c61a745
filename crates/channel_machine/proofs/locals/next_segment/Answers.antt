use Rattle.channel_machine.proofs.NextSegments.{first_told, next_told}
use Rattle.channel_machine.proofs.locals.next_segment.Goals as goal

pub returns-in-Some-clause-told : goal.returns-in-Some-clause-told
returns-in-Some-clause-told c =
    next_told c.args.job.now c.args.channel c.args.local c.args.grant.now c.in-Some.local c.run_on.result c.in-Some.is c.run_on.ensures.told c.run_on.ensures.channel

pub returns-in_ok-local-in-None-clause-told : goal.returns-in_ok-local-in-None-clause-told
returns-in_ok-local-in-None-clause-told c =
    let started = c.in_ok-local-in-None in
    first_told c.args.job.now c.args.channel c.args.local c.args.grant.now started.local c.run_segment.result c.in-None.is started.ensures.setting started.ensures.kept
    c.run_segment.ensures.told c.run_segment.ensures.channel
