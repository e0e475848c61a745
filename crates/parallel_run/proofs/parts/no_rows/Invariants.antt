use Rattle.std.proofs.Common.{◌≡◌, ℕ, [], get_or, length, map}
use Rattle.parallel_run.proofs.parts.no_rows.Given as goal

abbrev pub invariant-loop : goal.invariant-loop
invariant-loop l = (length l.rows.items ≡ l.counter) × ((c : ℕ) → get_or (map (λ rows. map (λ items. items.items) rows.items) l.rows.items) c [] ≡ [])
