use Rattle.atomic_table.specs.Table.{opening}
use Rattle.coord_core.specs.declared.locked.Locked.{Locked}
use Rattle.std.proofs.Common.{List, Option, Some, rules, subst, sym, ◌≡◌, [], ◌∷◌}
use Rattle.ticket_board.proofs.Framing.{opens}
use Rattle.ticket_board.specs.Rule.{IsKept, first_view}
use Rattle.ticket_board.proofs.ends.make_table.Goals as goal

pub new-requires-2 : goal.new-requires-2
new-requires-2 c = let l : Locked = c.in_ok-held.held in let items : c.push.new.self.items ≡ Some l ∷ [] = search rules in
    let made = c.in_ok-held.ensures in
    subst (λ (xs : List (Option Locked)). IsKept c.args.start.now (opening (0 ∷ 0 ∷ 0 ∷ []) xs (first_view c.args.start.now))) (sym items) (opens c.args.start.now l made.0 made.1 made.2)
