use Rattle.std.proofs.Common.{List, [], ◌∷◌, ◌++◌, ap, ◌∙◌}
use Rattle.std.proofs.Common.{ap₂}
use Rattle.coord_core.specs.Boards.{BoardView}
use Rattle.sync_types.specs.Boards.{first_board}
use Rattle.sync_types.specs.Turns.{after_entries, entry_of}
use Rattle.sync_types.specs.Views.{StartView, EntryView}
use Rattle.coord_core.proofs.board.Board.act.Goals as goal

pub returns-clause-ok : goal.returns-clause-ok
returns-clause-ok c = record {
  start = ap (λ (v : BoardView). v.start) c.act_reserved.ensures.step ∙ c.in_ok-reserve.ensures.same.start;
  entries = ap (λ (v : BoardView). v.entries) c.act_reserved.ensures.step
      ∙ ap₂ (λ (s : StartView) (es : List EntryView). es ++ entry_of (after_entries (first_board s) es) c.args.channel c.args.step ∷ []) c.in_ok-reserve.ensures.same.start c.in_ok-reserve.ensures.same.entries;
}
