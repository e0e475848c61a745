use Rattle.std.proofs.Common.{◌≡◌, ◌++◌, All}
use Rattle.std.specs.List.{flat_map}
use Rattle.order_clocks.specs.Tells.{is_before_in}
use Rattle.clash_check.specs.NumberSteps.{row_with}
use Rattle.zone_stretches.specs.TimedZones.{AreTimed, each_two}
use Rattle.clash_check.proofs.numbers.numbers_in.Given as goal

abbrev pub invariant-loop-pair : goal.invariant-loop-pair
invariant-loop-pair l =
    All (AreTimed (is_before_in l.clocks.rows)) l.pair-iterator
    × (l.rows.items ++ flat_map (row_with (is_before_in l.clocks.rows)) l.pair-iterator ≡ flat_map (row_with (is_before_in l.clocks.rows)) (each_two l.fn.zones))
