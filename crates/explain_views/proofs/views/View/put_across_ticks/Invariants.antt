use Rattle.std.proofs.Common.{◌≡◌, ◌++◌}
use Rattle.std.specs.List.{flat_map, range_with_len}
use Rattle.explain_views.specs.Ticks.{across_part}
use Rattle.explain_views.proofs.views.View.put_across_ticks.Given as goal

abbrev pub invariant-loop-number : goal.invariant-loop-number
invariant-loop-number l = l.text ≡ l.initial.text ++ flat_map (across_part l.self) (range_with_len 0 l.number)
