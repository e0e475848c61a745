use Rattle.std.proofs.Common.{◌≡◌, ℕ, ◌-◌, max, filter, [], get_or}
use Rattle.std.specs.List.{range_with_len}
use Rattle.axis_sets.specs.Sets.{has}
use Rattle.counter_rows.specs.Rows.{top, count_of}
use Rattle.counter_rows.proofs.gather.most_chosen.Given as goal

abbrev pub invariant-loop-m : goal.invariant-loop-m
invariant-loop-m g l = (c : ℕ) → max (count_of l.row c) (top (λ m. count_of (get_or l.rows m []) c) (filter (has l.chosen) (range_with_len l.m (g.row.N - l.m))))
    ≡ max (count_of l.fn.start c) (top (λ m. count_of (get_or l.rows m []) c) (filter (has l.chosen) (range_with_len 0 g.row.N)))
