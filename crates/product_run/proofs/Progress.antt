-- A run in order, so far: after one turn more, and at its end.
use Rattle.std.proofs.Common.{◌≡◌, ℕ, ◌<◌, List, [], ◌∷◌, ◌++◌, Option, Some, None, sym, ap, ap₂, subst, ◌∙◌}
use Rattle.channel_machine.proofs.KeptLocals.{IsPut}
use Rattle.channel_machine.proofs.Pushes.{IsInOrder, order-push, order_over, stage-push}
use Rattle.channel_machine.proofs.RunsSoFar.{IsRunSoFar, board_after, channels_of, entry, more_channels, more_used, run_first, run_more, runs_here, same_board, stage_in, used_in}
use Rattle.channel_machine.specs.Kept.{KeptSegment, StateView}
use Rattle.channel_machine.specs.Locals.{IsNothingKept, IsReady, IsSegmentOf}
use Rattle.channel_machine.specs.Scripts.{IsRunInOrder, items_of, script_of}
use Rattle.coord_core.proofs.Numbers.{lowest_numbered}
use Rattle.coord_core.proofs.Usage.{accords_first, accords_turns, no_usage}
use Rattle.job_types.specs.Job.{JobView}
use Rattle.product_run.proofs.Measures.{all_left, turn_leaves_less}
use Rattle.sync_types.specs.BoardEnds.{ends_of}
use Rattle.sync_types.specs.Boards.{Board, first_board, grant_in}
use Rattle.sync_types.specs.Runs.{Stage, after_turn, first_stage, lowest_running, moves_of}
use Rattle.sync_types.specs.Turns.{entries_of}
use Rattle.sync_types.specs.Views.{StartView, EntryView, RunView}
use Rattle.sync_types.specs.declared.Grant.{Grant}
use Rattle.sync_types.specs.declared.Item.{Item}

-- how many steps are left at most after these entries
abbrev pub left_in : JobView → StartView → List EntryView → ℕ
left_in job start es = all_left job (stage_in job start (channels_of es)) (used_in job start (channels_of es))

-- these are the entries, the items and what is kept of a run in order so far
pub record IsSoFar (job : JobView) (start : StartView) (es : List EntryView) (rows : List (List Item)) (locals : List (Option StateView)) : Type 0 where
  pub order : IsInOrder (script_of job) (first_stage start) (channels_of es)
  pub run : IsRunSoFar job start es rows locals

pub so_far_first : (job : JobView) (start : StartView) (locals : List (Option StateView)) → IsNothingKept locals → IsSoFar job start [] [] locals
so_far_first job start locals none = record { order = tt; run = run_first job start locals none }

module _ (job : JobView) (start : StartView) (es : List EntryView) (rows : List (List Item)) (locals : List (Option StateView)) (so : IsSoFar job start es rows locals) where
  -- the board after the entries is that of the run
  the_board : board_after start es ≡ (stage_in job start (channels_of es)).board
  the_board = same_board job start es rows locals so.run

  -- the run is whole where no channel runs
  pub whole : lowest_running (board_after start es) ≡ None → IsRunInOrder job start (record { entries = es; items = rows; ends = ends_of (board_after start es) })
  whole none =
      let cs : List ℕ = channels_of es in
      let ran : List EntryView = entries_of (first_board start) (moves_of (script_of job) (first_stage start) cs) in
      let by_entries : List EntryView → RunView = λ xs. record { entries = xs; items = rows; ends = ends_of (board_after start es) } in
      let by_items : List (List Item) → RunView = λ xs. record { entries = ran; items = xs; ends = ends_of (board_after start es) } in
      let by_board : Board → RunView = λ b. record { entries = ran; items = items_of job (first_stage start) cs; ends = ends_of b } in
      record {
        channels = cs;
        sequential = order_over (script_of job) (first_stage start) cs so.order (ap lowest_running (sym the_board) ∙ none);
        all = ap by_entries so.run.entries ∙ ap by_items so.run.items ∙ ap by_board the_board;
      }

  module _ (c : ℕ) (grant : Grant) (kept : KeptSegment) (lowest : lowest_running (board_after start es) ≡ Some c) (granted : grant_in ((board_after start es).state c) ≡ Some grant)
      (told : IsSegmentOf job c (used_in job start (channels_of es) c ++ grant ∷ []) kept) where
    abbrev now : EntryView
    now = entry job start es rows locals so.run c grant kept granted told

    with_it : channels_of (es ++ now ∷ []) ≡ channels_of es ++ c ∷ []
    with_it = more_channels job start es rows locals so.run c grant kept granted told

    more_order : IsInOrder (script_of job) (first_stage start) (channels_of (es ++ now ∷ []))
    more_order =
        subst (IsInOrder (script_of job) (first_stage start)) (sym with_it)
        (order-push (script_of job) (first_stage start) (channels_of es) c so.order (ap lowest_running (sym the_board) ∙ lowest))

    pub less_left : left_in job start (es ++ now ∷ []) < left_in job start es
    less_left =
        let cs : List ℕ = channels_of es in
        let runs = runs_here job start es rows locals so.run c grant kept granted told in
        let less = turn_leaves_less job (stage_in job start cs) (used_in job start cs) c (accords_turns (script_of job) (first_stage start) no_usage cs (accords_first start)) runs (lowest_numbered (board_after start es) c lowest) in
        let there : stage_in job start (channels_of (es ++ now ∷ [])) ≡ after_turn (script_of job) (stage_in job start cs) c = ap (stage_in job start) with_it ∙ stage-push (script_of job) (first_stage start) cs c in
        let P : ℕ → Type 0 = λ n. n < left_in job start es in
        subst P (sym (ap₂ (all_left job) there (more_used job start es rows locals so.run c grant kept granted told))) less

    -- one turn more
    pub so_far_more : (later : List (Option StateView)) → IsPut locals c kept.after later → IsReady job c kept.after → IsSoFar job start (es ++ now ∷ []) (rows ++ kept.items ∷ []) later
    so_far_more later put ready = record { order = more_order; run = run_more job start es rows locals so.run c grant kept granted told later put ready }
