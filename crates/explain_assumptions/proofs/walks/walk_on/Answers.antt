use Rattle.std.proofs.Common.{◌≡◌, ◌∙◌, ℕ, ◌∷◌, length, take, arith}
use Rattle.channel_machine.proofs.Segments.{setting_kept}
use Rattle.channel_machine.specs.Run.{surroundings_of}
use Rattle.channel_machine.specs.Scripts.{segment_after}
use Rattle.explain_assumptions.proofs.WalkLaws.{next_walked, whole_walked}
use Rattle.explain_assumptions.proofs.walks.walk_on.Goals as goal

pub loop-grant-init : goal.loop-grant-init
loop-grant-init c = record {
  ready = c.in_ok-local.ensures.ready;
  setting = c.in_ok-local.ensures.setting;
  walked = c.in_ok-local.ensures.walked;
}

pub loop-grant-preserved : goal.loop-grant-preserved
loop-grant-preserved c =
    let s = surroundings_of c.args.job.now c.args.channel c.args.first.now in
    let i : ℕ = c.loop-grant.grant-index in
    let was = c.loop-grant.invariant in
    record {
      ready = record { channel = c.in_ok-go_on.ensures.channel ∙ was.ready.channel; fit = c.in_ok-go_on.ensures.fit; few = c.in_ok-go_on.ensures.few };
      setting = setting_kept c.args.job.now s c.loop-grant.local c.go_on.new.local was.setting c.in_ok-go_on.ensures.channel;
      walked =
          next_walked c.args.job.now c.args.channel c.args.first.now c.args.rest.now i c.grant-item.result c.go_on.new.local c.go_on.new.remarks.items c.loop-grant-test.true c.grant-item.is
          (c.in_ok-go_on.ensures.told s (segment_after c.args.job.now c.args.channel (c.args.first.now ∷ take i c.args.rest.now)).after was.setting was.walked);
    }

pub returns : goal.returns
returns c =
    let all : c.loop-grant.grant-index ≡ length c.args.rest.now = omega arith in
    whole_walked c.args.job.now c.args.channel c.args.first.now c.args.rest.now c.loop-grant.grant-index c.loop-grant.local c.loop-grant.remarks.items all c.loop-grant.invariant.walked
