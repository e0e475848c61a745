use Rattle.std.proofs.Common.{◌≡◌, true≢false, ap, sym, ◌∙◌}
use Rattle.coord_core.specs.Boards.{BoardView}
use Rattle.coord_core.specs.declared.locked.Locked.{Locked}
use Rattle.shared_board.proofs.SameStarts.{starts_decide}
use Rattle.shared_board.proofs.held.Held.into_board_of.Goals as goal

pub returns-then-eq-clause-start : goal.returns-then-eq-clause-start
returns-then-eq-clause-start c =
    ap (λ (b : BoardView). b.start) c.into_board.ensures.board
    ∙ sym (ap (λ (l : Locked). l.board.start) c.self.view_is) ∙ c.self.invariant
    ∙ (starts_decide c.self.inside.start c.first.inside.start).0 (sym c.eq.ensures ∙ c.if-eq.true)
    ∙ sym c.first.invariant ∙ ap (λ (l : Locked). l.board.start) c.first.view_is

pub returns-else-eq-clause-same : goal.returns-else-eq-clause-same
returns-else-eq-clause-same c = λ same.
    let here : c.self.inside.start ≡ c.first.inside.start =
    sym c.self.invariant ∙ ap (λ (l : Locked). l.board.start) c.self.view_is ∙ same ∙ sym (ap (λ (l : Locked). l.board.start) c.first.view_is) ∙ c.first.invariant in
    absurd (true≢false (sym ((starts_decide c.self.inside.start c.first.inside.start).1 here) ∙ (sym c.eq.ensures ∙ c.if-eq.false)))
