use Rattle.axis_sets.specs.declared.limits.TheConstants.{CHANNEL_PLACES}
use Rattle.std.proofs.Common.{sym, ◌∙◌}
use Rattle.order_clocks.proofs.WholeLaws.{nobody_alarms, unset}
use Rattle.order_clocks.proofs.stops.stops_of.Goals as goal

pub returns-else-has_alarm : goal.returns-else-has_alarm
returns-else-has_alarm c = λ b whole. nobody_alarms b c.args.entries.now c.args.ends.now whole c.see_actors.ensures
    (sym c.has_alarm.ensures ∙ c.if-has_alarm.false) _ (unset CHANNEL_PLACES)
