-- One turn of a run, by what the calls answer that make it.
use Rattle.std.proofs.Common.{◌≡◌, ℕ, List, [], ◌∷◌, ◌++◌, get_or, Option, Some, None, sym, ap, subst, ◌∙◌}
use Rattle.channel_machine.proofs.KeptLocals.{IsPut}
use Rattle.channel_machine.proofs.RunsSoFar.{IsRunSoFar, board_after, channels_of, run_more, used_in}
use Rattle.channel_machine.specs.Kept.{KeptSegment, StateView}
use Rattle.channel_machine.specs.Locals.{IsKeptOf, IsReady, IsSegmentOf}
use Rattle.coord_core.specs.Boards.{BoardView, HaveSameEntries, replayed, with_step}
use Rattle.job_types.specs.Job.{JobView}
use Rattle.sync_types.specs.Boards.{Board, first_board, grant_in}
use Rattle.sync_types.specs.Turns.{after_entries, entry_of}
use Rattle.sync_types.specs.Views.{StartView, EntryView}
use Rattle.sync_types.specs.declared.Grant.{Grant}
use Rattle.sync_types.specs.declared.Item.{Item}

module _ (job : JobView) (start : StartView) (board : BoardView) (rows : List (List Item)) (locals : List (Option StateView)) (begins : board.start ≡ start)
    (so : IsRunSoFar job start board.entries rows locals) (c : ℕ) (grant : Grant) (kept : KeptSegment) (local : Option StateView)
    (granted : grant_in ((replayed board).state c) ≡ Some grant) (had : local ≡ get_or locals c None)
    (told : (made : List Grant) → IsKeptOf job c made local → IsSegmentOf job c (made ++ grant ∷ []) kept) (new : BoardView) (acted : HaveSameEntries new (with_step board c kept.step)) where
  pub board_here : replayed board ≡ board_after start board.entries
  board_here = ap (λ (s : StartView). after_entries (first_board s) board.entries) begins

  pub told_here : IsSegmentOf job c (used_in job start (channels_of board.entries) c ++ grant ∷ []) kept
  told_here = let P : Option StateView → Type 0 = λ o. IsKeptOf job c (used_in job start (channels_of board.entries) c) o in told (used_in job start (channels_of board.entries) c) (subst P (sym had) (so.kept c))

  pub granted_here : grant_in ((board_after start board.entries).state c) ≡ Some grant
  granted_here = ap (λ (b : Board). grant_in (b.state c)) (sym board_here) ∙ granted

  pub one_more : new.entries ≡ board.entries ++ entry_of (board_after start board.entries) c kept.step ∷ []
  one_more = acted.entries ∙ ap (λ (b : Board). board.entries ++ entry_of b c kept.step ∷ []) board_here

  pub run_turn : (later : List (Option StateView)) (made : List (List Item)) → IsPut locals c kept.after later → made ≡ rows ++ kept.items ∷ [] → IsReady job c kept.after
      → (new.start ≡ start) × IsRunSoFar job start new.entries made later
  run_turn later made there items ready =
      let P : List EntryView → Type 0 = λ es. IsRunSoFar job start es made later in
      let Q : List (List Item) → Type 0 = λ xs. IsRunSoFar job start (board.entries ++ entry_of (board_after start board.entries) c kept.step ∷ []) xs later in (
        acted.start ∙ begins,
        subst P (sym one_more) (subst Q (sym items) (run_more job start board.entries rows locals so c grant kept granted_here told_here later there ready)),
      )
