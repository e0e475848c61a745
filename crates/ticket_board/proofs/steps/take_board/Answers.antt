use Rattle.atomic_table.specs.Table.{rest}
use Rattle.coord_core.specs.declared.locked.Locked.{Locked}
use Rattle.std.proofs.Common.{List, None, Option, Some, ap, sym, ℕ, [], ◌∷◌, ◌∙◌}
use Rattle.std.proofs.lemmas.Option.{none-some}
use Rattle.ticket_board.proofs.steps.take_board.Goals as goal

abbrev held_value : List (ℕ × Option Locked) → Option Locked
held_value [] = None
held_value (x ∷ xs) = x.1

pub unreachable-requires : goal.unreachable-requires
unreachable-requires c = none-some c.requires.holds.0 (sym c.in-None.is ∙ (sym (ap held_value c.exchange.ensures.2) ∙ ap held_value c.requires.holds.1))

pub exchange-requires : goal.exchange-requires
exchange-requires c = (c.requires.table, (Some c.requires.holds.0, c.requires.holds.1 ∙ ap (λ (xs : List (ℕ × Option Locked)). (0, Some c.requires.holds.0) ∷ rest xs) (sym c.requires.holds.1)))
