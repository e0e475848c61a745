-- One turn of a run in order, by what the calls answer that make it.
use Rattle.std.proofs.Common.{◌≡◌, ℕ, ◌<◌, List, [], ◌∷◌, ◌++◌, get_or, Option, Some, None, sym, ap, subst, ◌∙◌}
use Rattle.channel_machine.proofs.KeptLocals.{IsPut}
use Rattle.channel_machine.proofs.RunTurns as turn
use Rattle.channel_machine.proofs.RunsSoFar.{board_after, channels_of, used_in}
use Rattle.channel_machine.specs.Kept.{KeptSegment, StateView}
use Rattle.channel_machine.specs.Locals.{IsKeptOf, IsReady, IsSegmentOf}
use Rattle.coord_core.specs.Boards.{BoardView, HaveSameEntries, replayed, with_step}
use Rattle.job_types.specs.Job.{JobView}
use Rattle.product_run.proofs.Progress.{IsSoFar, left_in, less_left, so_far_more}
use Rattle.sync_types.specs.Boards.{grant_in}
use Rattle.sync_types.specs.Runs.{lowest_running}
use Rattle.sync_types.specs.Turns.{entry_of}
use Rattle.sync_types.specs.Views.{StartView, EntryView}
use Rattle.sync_types.specs.declared.Grant.{Grant}
use Rattle.sync_types.specs.declared.Item.{Item}

module _ (job : JobView) (start : StartView) (board : BoardView) (rows : List (List Item)) (locals : List (Option StateView)) (begins : board.start ≡ start)
    (so : IsSoFar job start board.entries rows locals) (c : ℕ) (grant : Grant) (kept : KeptSegment) (local : Option StateView)
    (lowest : lowest_running (replayed board) ≡ Some c) (granted : grant_in ((replayed board).state c) ≡ Some grant) (had : local ≡ get_or locals c None)
    (told : (made : List Grant) → IsKeptOf job c made local → IsSegmentOf job c (made ++ grant ∷ []) kept) (new : BoardView) (acted : HaveSameEntries new (with_step board c kept.step)) where
  told_here : IsSegmentOf job c (used_in job start (channels_of board.entries) c ++ grant ∷ []) kept
  told_here = turn.told_here job start board rows locals begins so.run c grant kept local granted had told new acted

  granted_here : grant_in ((board_after start board.entries).state c) ≡ Some grant
  granted_here = turn.granted_here job start board rows locals begins so.run c grant kept local granted had told new acted

  lowest_here : lowest_running (board_after start board.entries) ≡ Some c
  lowest_here = ap lowest_running (sym (turn.board_here job start board rows locals begins so.run c grant kept local granted had told new acted)) ∙ lowest

  more : new.entries ≡ board.entries ++ entry_of (board_after start board.entries) c kept.step ∷ []
  more = turn.one_more job start board rows locals begins so.run c grant kept local granted had told new acted

  pub turn_made : (later : List (Option StateView)) (made : List (List Item)) → IsPut locals c kept.after later → made ≡ rows ++ kept.items ∷ [] → IsReady job c kept.after
      → (new.start ≡ start) × IsSoFar job start new.entries made later
  turn_made later made there items ready =
      let P : List EntryView → Type 0 = λ es. IsSoFar job start es made later in
      let Q : List (List Item) → Type 0 = λ xs. IsSoFar job start (board.entries ++ entry_of (board_after start board.entries) c kept.step ∷ []) xs later in (
        acted.start ∙ begins,
        subst P (sym more) (subst Q (sym items) (so_far_more job start board.entries rows locals so c grant kept lowest_here granted_here told_here later there ready)),
      )

  pub turn_lowers : left_in job start new.entries < left_in job start board.entries
  turn_lowers =
      let P : List EntryView → Type 0 = λ es. left_in job start es < left_in job start board.entries in
      subst P (sym more) (less_left job start board.entries rows locals so c grant kept lowest_here granted_here told_here)
