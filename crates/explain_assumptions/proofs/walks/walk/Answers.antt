use Rattle.std.proofs.Common.{◌∙◌, refl, arith}
use Rattle.channel_machine.proofs.Segments.{setting_kept}
use Rattle.explain_assumptions.proofs.WalkLaws.{along_first, along_last, along_more}
use Rattle.explain_assumptions.proofs.walks.walk.Goals as goal

pub loop-ends-init : goal.loop-ends-init
loop-ends-init c = record {
  fit = c.requires.fit;
  few = c.requires.few;
  channel = refl;
  told = λ s c' set w. along_first s c' c.args.local.now c.args.remarks.now.items w;
}

pub returns-then-ends-clause-told : goal.returns-then-ends-clause-told
returns-then-ends-clause-told c s c' set w =
    let so = c.loop-ends.invariant.told s c' set w in
    along_last s c' c.loop-ends.local c.pass.new.local c.loop-ends.remarks.items c.pass.new.remarks.items c.in_ok-ends.ends so c.if-ends.true
    (c.in_ok-ends.ensures.told s so.next (setting_kept c.args.job.now s c.args.local.now c.loop-ends.local set c.loop-ends.invariant.channel) so.walked)

pub loop-ends-preserved : goal.loop-ends-preserved
loop-ends-preserved c = record {
  fit = c.in_ok-ends.ensures.fit;
  few = c.in_ok-ends.ensures.few;
  channel = c.in_ok-ends.ensures.channel ∙ c.loop-ends.invariant.channel;
  told = λ s c' set w.
      let so = c.loop-ends.invariant.told s c' set w in
      along_more s c' c.loop-ends.local c.pass.new.local c.loop-ends.remarks.items c.pass.new.remarks.items c.in_ok-ends.ends so c.if-ends.false
      (c.in_ok-ends.ensures.told s so.next (setting_kept c.args.job.now s c.args.local.now c.loop-ends.local set c.loop-ends.invariant.channel) so.walked);
}

pub loop-ends-smaller : goal.loop-ends-smaller
loop-ends-smaller c = let more = c.in_ok-ends.ensures.count c.if-ends.false in let few = c.in_ok-ends.ensures.few in omega (arith, more, few)
