use Rattle.channel_machine.proofs.TracedChannels.{first_traced, next_traced}
use Rattle.channel_machine.proofs.locals.traced_segment.Goals as goal

pub returns-in-Some-clause-told : goal.returns-in-Some-clause-told
returns-in-Some-clause-told c =
    next_traced c.args.job.now c.args.channel c.args.local c.args.grant.now c.in-Some.local c.trace_on.result c.in-Some.is c.trace_on.ensures.told c.trace_on.ensures.channel

pub returns-in_ok-local-in-None-clause-told : goal.returns-in_ok-local-in-None-clause-told
returns-in_ok-local-in-None-clause-told c =
    let started = c.in_ok-local-in-None in
    first_traced c.args.job.now c.args.channel c.args.local c.args.grant.now started.local c.trace_segment.result c.in-None.is started.ensures.setting started.ensures.kept
    c.trace_segment.ensures.told c.trace_segment.ensures.channel
