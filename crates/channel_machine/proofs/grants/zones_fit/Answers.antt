use Rattle.std.proofs.Common.{arith, sym, ◌∙◌}
use Rattle.axis_sets.specs.declared.limits.TheConstants.{ZONE_PLACES}
use Rattle.channel_machine.specs.Grants.{is_zone_fit}
use Rattle.channel_machine.proofs.Ranges.{fails, passes}
use Rattle.channel_machine.proofs.grants.zones_fit.Goals as goal

pub returns-then-not-is_zone_fit : goal.returns-then-not-is_zone_fit
returns-then-not-is_zone_fit c = fails (is_zone_fit c.args.job.now c.args.grant.now) c.loop-number.number ZONE_PLACES _ (omega arith) c.loop-number.invariant (sym c.is_zone_fit.ensures ∙ c.if-not-is_zone_fit.true)

pub loop-number-preserved : goal.loop-number-preserved
loop-number-preserved c = passes (is_zone_fit c.args.job.now c.args.grant.now) c.loop-number.number ZONE_PLACES _ (omega arith) c.loop-number.invariant (sym c.is_zone_fit.ensures ∙ c.if-not-is_zone_fit.false)
