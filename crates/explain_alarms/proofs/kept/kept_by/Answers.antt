use Rattle.std.proofs.Common.{◌≡◌, length, take, arith}
use Rattle.channel_machine.proofs.KeptLocals.{none_ready}
use Rattle.explain_alarms.proofs.KeptLaws.{first_kept, last_kept, next_kept}
use Rattle.explain_alarms.proofs.kept.kept_by.Goals as goal

pub loop-grant-init : goal.loop-grant-init
loop-grant-init c = record {
  kept = first_kept c.args.job.now c.args.channel c.none-kept.result c.none-kept.ensures.local c.none-kept.ensures.levels;
  ready = none_ready c.args.job.now c.args.channel c.none-kept.result.local c.none-kept.ensures.local;
}

pub loop-grant-preserved : goal.loop-grant-preserved
loop-grant-preserved c = record {
  kept =
      next_kept c.args.job.now c.args.channel c.args.grants.now c.loop-grant.grant-index c.grant-item.result c.in_ok-next.next c.loop-grant-test.true c.grant-item.is
      (c.in_ok-next.ensures.kept (take c.loop-grant.grant-index c.args.grants.now) c.loop-grant.invariant.kept.local);
  ready = c.in_ok-next.ensures.ready;
}

pub returns : goal.returns
returns c =
    let all : c.loop-grant.grant-index ≡ length c.args.grants.now = omega arith in
    last_kept c.args.job.now c.args.channel c.args.grants.now c.loop-grant.grant-index c.loop-grant.kept all c.loop-grant.invariant.kept
