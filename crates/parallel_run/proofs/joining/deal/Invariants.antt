use Rattle.std.proofs.Common.{◌≡◌, ◌++◌, drop, map}
use Rattle.parallel_run.specs.Joining.{dealt, rows_at}
use Rattle.parallel_run.proofs.joining.deal.Given as goal

abbrev pub invariant-loop-entry : goal.invariant-loop-entry
invariant-loop-entry l =
    map (λ items. items.items) l.items.items ++ dealt (rows_at (map (λ rows. map (λ items. items.items) rows.items) l.rows.items)) (drop l.entry-index l.entries)
    ≡ dealt (rows_at (map (λ rows. map (λ items. items.items) rows.items) l.initial.rows.items)) l.entries
