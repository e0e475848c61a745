use Rattle.std.proofs.Common.{◌≡◌, ◌-◌}
use Rattle.std.specs.List.{list_all, range_with_len}
use Rattle.axis_sets.specs.declared.limits.TheConstants.{ZONE_LIMIT, ZONE_PLACES}
use Rattle.channel_machine.specs.Grants.{is_zone_fit}
use Rattle.channel_machine.proofs.grants.zones_fit.Given as goal

abbrev pub invariant-loop-number : goal.invariant-loop-number
invariant-loop-number l =
    list_all (is_zone_fit l.job l.grant) (range_with_len l.number (ZONE_PLACES - l.number)) ≡ list_all (is_zone_fit l.job l.grant) (range_with_len 1 ZONE_LIMIT)
