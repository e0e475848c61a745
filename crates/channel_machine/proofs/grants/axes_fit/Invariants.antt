use Rattle.std.proofs.Common.{◌≡◌, ◌-◌, option_copied}
use Rattle.std.specs.List.{list_all, range_with_len}
use Rattle.axis_sets.specs.declared.limits.TheConstants.{AXIS_LIMIT}
use Rattle.channel_machine.specs.Grants.{is_axis_fit}
use Rattle.channel_machine.proofs.grants.axes_fit.Given as goal

abbrev pub invariant-loop-index : goal.invariant-loop-index
invariant-loop-index l =
    list_all (is_axis_fit l.job (option_copied l.local) l.grant) (range_with_len l.index (AXIS_LIMIT - l.index)) ≡ list_all (is_axis_fit l.job (option_copied l.local) l.grant) (range_with_len 0 AXIS_LIMIT)
