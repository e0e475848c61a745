-- A turn that adds an entry is a turn of a run.
use Rattle.std.proofs.Common.{ℕ, sym, ap, ap₂, ◌∙◌}
use Rattle.coord_core.specs.BoardTurns.{IsTurnOfRun}
use Rattle.coord_core.specs.Histories.{History, board_of}
use Rattle.sync_types.proofs.EntryLaws.{after_one_more}
use Rattle.sync_types.specs.Boards.{Board, first_board, is_running}
use Rattle.sync_types.specs.Turns.{after_step, after_entries, entry_of}
use Rattle.sync_types.specs.Views.{StartView}
use Rattle.sync_types.specs.declared.Step.{Step}

pub is_turn_of_run : (start : StartView) (c : ℕ) (step : Step) (before after : History) → IsTurnOfRun start c step before after
is_turn_of_run start c step before after script stage at is on made = (
  (ap (λ (b : Board). is_running (b.state c)) at ∙ on, tt),
  ap₂ (λ (b : Board) (s : Step). after_step b c s) at (sym is)
      ∙ sym (after_one_more (first_board start) before.entries (entry_of (board_of start before) c step))
      ∙ ap (λ (h : History). after_entries (first_board start) h.entries) (sym made),
)
