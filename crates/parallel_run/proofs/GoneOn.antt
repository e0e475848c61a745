-- What goes on after the replay: a run of the job, until no channel runs.
use Rattle.std.proofs.Common.{◌≡◌, ℕ, ◌==◌, inl, inr, List, [], ◌∷◌, ◌++◌, get_or, Option, Some, None, IfSome, eqb-true, refl, sym, ap, subst, ◌∙◌, append_assoc, append-nil}
use Rattle.std.proofs.lemmas.Bool.{cases_Bool}
use Rattle.channel_machine.proofs.KeptLocals.{IsPut}
use Rattle.channel_machine.proofs.RunsSoFar.{IsRunSoFar, board_after, channels_of, same_board, stage_in}
use Rattle.channel_machine.proofs.RunTurns.{run_turn}
use Rattle.channel_machine.specs.Kept.{StateView}
use Rattle.channel_machine.specs.Locals.{IsKeptOf, IsReady}
use Rattle.channel_machine.specs.Scripts.{IsMaximalRunOf, items_of, script_of}
use Rattle.coord_core.proofs.Running.{after_both}
use Rattle.coord_core.proofs.Usage.{accords_first, no_usage}
use Rattle.coord_core.specs.Boards.{BoardView, replayed}
use Rattle.job_types.specs.Job.{JobView}
use Rattle.parallel_run.proofs.Joins.{joins}
use Rattle.parallel_run.specs.Joining.{AreReady, IsMadeByScript, IsTurn, Rows}
use Rattle.parallel_run.specs.ThreadRuns.{AreOfLowest, GoOnWith}
use Rattle.parallel_run.specs.Workers.{grants_used, items_for}
use Rattle.sync_types.proofs.Replays.{sequential_is_one}
use Rattle.sync_types.specs.BoardEnds.{ends_of}
use Rattle.sync_types.specs.Boards.{Board, first_board, grant_in}
use Rattle.sync_types.specs.Runs.{first_stage, lowest_running, moves_of}
use Rattle.sync_types.specs.Turns.{after_entries, after_step, entries_of, entry_of}
use Rattle.sync_types.specs.Views.{EntryView, RunView, StartView}
use Rattle.sync_types.specs.declared.Grant.{Grant}
use Rattle.sync_types.specs.declared.Item.{Item}

-- what was made by the script is a run so far
pub run_so_far : (job : JobView) (start : StartView) (es : List EntryView) (rows : List (List Item)) (locals : List (Option StateView)) → AreReady job locals
    → IsMadeByScript job start es rows locals → IsRunSoFar job start es rows locals
run_so_far job start es rows locals ready made =
    let all : Rows = λ c. items_for job c [] (grants_used c (first_board start) es) in
    let run = joins job (first_stage start) no_usage es all (accords_first start) made.lawful (record { steps = made.steps; items = λ c. refl }) in
    record {
      run = run.run;
      entries = run.entries;
      items = made.items ∙ run.items;
      places = ready.places;
      kept = λ d. subst (λ (gs : List Grant). IsKeptOf job d gs (get_or locals d None)) (sym (run.used d)) (made.kept d);
      ready = ready.each;
    }

-- and with one turn more
pub turned : (job : JobView) (start : StartView) (c : ℕ) (grant : Grant) (board new : BoardView) (rows later_rows : List (List Item)) (locals later : List (Option StateView))
    → board.start ≡ start → IsRunSoFar job start board.entries rows locals → grant_in ((replayed board).state c) ≡ Some grant
    → IsTurn job c grant board rows locals new later_rows later → AreReady job later → (new.start ≡ start) × IsRunSoFar job start new.entries later_rows later
turned job start c grant board new rows later_rows locals later begins so granted turn ready =
    run_turn job start board rows locals begins so c grant turn.segment (get_or locals c None) granted refl turn.told new turn.acted later later_rows
    (record { places = ready.places; here = turn.here; others = turn.others }) turn.items turn.ready

-- ---- it goes on with what was there before

lowest-push : (b : Board) (es : List EntryView) (e : EntryView) → AreOfLowest b es → lowest_running (after_entries b es) ≡ Some e.channel → AreOfLowest b (es ++ e ∷ [])
lowest-push b [] e so lowest = (lowest, tt)
lowest-push b (x ∷ es) e so lowest = (so.0, lowest-push (after_step b x.channel x.step) es e so.1 lowest)

pub turn_goes_on : (job : JobView) (start : StartView) (c : ℕ) (grant : Grant) (first : List EntryView) (board new : BoardView) (rows later_rows : List (List Item)) (locals later : List (Option StateView))
    → board.start ≡ start → lowest_running (replayed board) ≡ Some c → GoOnWith start first board.entries → IsTurn job c grant board rows locals new later_rows later → GoOnWith start first new.entries
turn_goes_on job start c grant first board new rows later_rows locals later begins lowest goes turn =
    let entry : EntryView = entry_of (replayed board) c turn.segment.step in
    let same : replayed board ≡ after_entries (after_entries (first_board start) first) goes.more =
    ap (λ (s : StartView). after_entries (first_board s) board.entries) begins
    ∙ ap (after_entries (first_board start)) goes.begins
    ∙ after_both (first_board start) first goes.more in
    record {
      more = goes.more ++ entry ∷ [];
      begins = turn.acted.entries ∙ ap (λ (es : List EntryView). es ++ entry ∷ []) goes.begins ∙ append_assoc first goes.more (entry ∷ []);
      lowest = lowest-push (after_entries (first_board start) first) goes.more entry goes.lowest (ap lowest_running (sym same) ∙ lowest);
    }

pub goes_itself : (start : StartView) (es : List EntryView) → GoOnWith start es es
goes_itself start es = record { more = []; begins = sym (append-nil es); lowest = tt }

-- the run is maximal where no channel runs
pub maximal : (job : JobView) (start : StartView) (es : List EntryView) (rows : List (List Item)) (locals : List (Option StateView)) → IsRunSoFar job start es rows locals
    → lowest_running (board_after start es) ≡ None → IsMaximalRunOf job start (record { entries = es; items = rows; ends = ends_of (board_after start es) })
maximal job start es rows locals so none =
    let cs : List ℕ = channels_of es in
    let same : board_after start es ≡ (stage_in job start cs).board = same_board job start es rows locals so in
    let ran : List EntryView = entries_of (first_board start) (moves_of (script_of job) (first_stage start) cs) in
    let by_entries : List EntryView → RunView = λ xs. record { entries = xs; items = rows; ends = ends_of (board_after start es) } in
    let by_items : List (List Item) → RunView = λ xs. record { entries = ran; items = xs; ends = ends_of (board_after start es) } in
    let by_board : Board → RunView = λ b. record { entries = ran; items = items_of job (first_stage start) cs; ends = ends_of b } in
    record {
      channels = cs;
      maximal = record { run = so.run; over = (sequential_is_one (script_of job) (stage_in job start cs) [] [] (ap lowest_running (sym same) ∙ none)).maximal.over };
      all = ap by_entries so.entries ∙ ap by_items so.items ∙ ap by_board same;
    }

-- what is kept of a channel was put at its place
pub ready_put : (job : JobView) (locals : List (Option StateView)) (c : ℕ) (kept : StateView) (later : List (Option StateView)) → AreReady job locals → IsPut locals c kept later → IsReady job c kept → AreReady job later
ready_put job locals c kept later ready put is = record {
  places = put.places;
  each = λ d. elim (cases_Bool (d == c)) [
    | inl on ↦
        subst (λ (k : ℕ). IfSome (get_or later k None) (IsReady job k)) (sym (eqb-true d c on))
        (subst (λ (o : Option StateView). IfSome o (IsReady job c)) (sym put.here) is)
    | inr off ↦ subst (λ (o : Option StateView). IfSome o (IsReady job d)) (sym (put.others d off)) (ready.each d)
  ];
}
