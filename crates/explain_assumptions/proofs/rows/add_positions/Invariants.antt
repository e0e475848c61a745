use Rattle.std.proofs.Common.{◌≡◌, ◌++◌, slice_index_or, None}
use Rattle.std.specs.List.{flat_map, range_with_len}
use Rattle.explain_assumptions.specs.Rows.{standing_rows}
use Rattle.explain_assumptions.proofs.rows.add_positions.Given as goal

abbrev pub invariant-loop-index : goal.invariant-loop-index
invariant-loop-index l = l.rows.items ≡ l.initial.rows.items ++ flat_map (λ axis. standing_rows l.fn.channel axis (slice_index_or l.firsts axis None)) (range_with_len 0 l.index)
