use Rattle.std.proofs.Common.{option_copied, arith, sym, ◌∙◌}
use Rattle.axis_sets.specs.declared.limits.TheConstants.{AXIS_LIMIT}
use Rattle.channel_machine.specs.Grants.{is_axis_fit}
use Rattle.channel_machine.proofs.Ranges.{ended, fails, passes}
use Rattle.channel_machine.proofs.grants.axes_fit.Goals as goal

pub returns-then-not-is_axis_fit : goal.returns-then-not-is_axis_fit
returns-then-not-is_axis_fit c =
    fails (is_axis_fit c.args.job.now (option_copied c.args.local) c.args.grant.now) c.loop-index.index AXIS_LIMIT _ (omega arith) c.loop-index.invariant (sym c.is_axis_fit.ensures ∙ c.if-not-is_axis_fit.true)

pub loop-index-preserved : goal.loop-index-preserved
loop-index-preserved c =
    passes (is_axis_fit c.args.job.now (option_copied c.args.local) c.args.grant.now) c.loop-index.index AXIS_LIMIT _ (omega arith) c.loop-index.invariant (sym c.is_axis_fit.ensures ∙ c.if-not-is_axis_fit.false)

pub returns : goal.returns
returns c = ended (is_axis_fit c.args.job.now (option_copied c.args.local) c.args.grant.now) c.loop-index.index AXIS_LIMIT _ (omega arith) c.loop-index.invariant
