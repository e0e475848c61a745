use Rattle.std.proofs.Common.{◌∙◌, sym}
use Rattle.channel_machine.proofs.Segments.{setting_kept}
use Rattle.channel_machine.specs.Run.{channel_at_start, surroundings_of}
use Rattle.explain_assumptions.proofs.WalkLaws.{first_walked, walked_start}
use Rattle.explain_assumptions.proofs.walks.start.Goals as goal

pub returns-clause-walked : goal.returns-clause-walked
returns-clause-walked c =
    let s = surroundings_of c.args.job.now c.args.channel c.args.first.now in
    first_walked c.args.job.now c.args.channel c.args.first.now c.walk.new.local c.walk.new.remarks.items
    (c.in_ok-walk.ensures.told s (channel_at_start s) c.in_ok-local.ensures.setting
    (walked_start s c.in_ok-local.local c.args.remarks.now.items c.in_ok-local.ensures.kept c.requires.none))

pub returns-clause-setting : goal.returns-clause-setting
returns-clause-setting c =
    let s = surroundings_of c.args.job.now c.args.channel c.args.first.now in
    setting_kept c.args.job.now s c.in_ok-local.local c.walk.new.local c.in_ok-local.ensures.setting c.in_ok-walk.ensures.channel

pub returns-clause-ready : goal.returns-clause-ready
returns-clause-ready c = record {
  channel = c.in_ok-walk.ensures.channel ∙ sym c.in_ok-local.ensures.setting.channel;
  fit = c.in_ok-walk.ensures.fit;
  few = c.in_ok-walk.ensures.few;
}
