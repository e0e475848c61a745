-- A run of a job, so far, and after one turn more.
use Rattle.std.proofs.Common.{◌≡◌, ℕ, ◌==◌, true, false, List, [], ◌∷◌, ◌++◌, length, map, get_or, Option, Some, None, IfSome, refl, sym, ap, ap₂, subst, ◌∙◌, inl, inr, eqb-true, eq-eqb}
use Rattle.std.proofs.lemmas.Bool.{cases_Bool}
use Rattle.axis_sets.specs.declared.limits.TheConstants.{CHANNEL_PLACES}
use Rattle.channel_machine.proofs.KeptLocals.{IsPut, none_kept, none_ready}
use Rattle.channel_machine.proofs.Pushes.{after_its_entries, after_its_moves, channels-push, entries-push, items-push, moves-push, run-push}
use Rattle.channel_machine.specs.Kept.{KeptSegment, StateView}
use Rattle.channel_machine.specs.Locals.{IsKeptOf, IsNothingKept, IsReady, IsSegmentOf}
use Rattle.channel_machine.specs.Scripts.{items_of, script_of, segment_after}
use Rattle.coord_core.proofs.Granted.{granted_runs}
use Rattle.coord_core.proofs.Usage.{Usage, accords_first, accords_turns, no_usage, usage_after, usage_from, usage-push}
use Rattle.job_types.specs.Job.{JobView}
use Rattle.sync_types.specs.Boards.{Board, first_board, grant_in, is_running}
use Rattle.sync_types.specs.Runs.{IsRun, Stage, as_list, first_stage, moves_of, next_move, stage_after}
use Rattle.sync_types.specs.Turns.{Move, after_entries, after_moves, entries_of, entry_of}
use Rattle.sync_types.specs.Views.{StartView, EntryView}
use Rattle.sync_types.specs.declared.Grant.{Grant}
use Rattle.sync_types.specs.declared.Item.{Item}
use Rattle.sync_types.specs.declared.Step.{Step}

-- who acted
abbrev pub channels_of : List EntryView → List ℕ
channels_of es = map (λ (e : EntryView). e.channel) es

abbrev pub board_after : StartView → List EntryView → Board
board_after start es = after_entries (first_board start) es

abbrev pub stage_in : JobView → StartView → List ℕ → Stage
stage_in job start cs = stage_after (script_of job) (first_stage start) cs

abbrev pub used_in : JobView → StartView → List ℕ → Usage
used_in job start cs = usage_from (script_of job) (first_stage start) no_usage cs

-- these are the entries, the items and what is kept of a run so far
pub record IsRunSoFar (job : JobView) (start : StartView) (es : List EntryView) (rows : List (List Item)) (locals : List (Option StateView)) : Type 0 where
  pub run : IsRun (script_of job) (first_stage start) (channels_of es)
  pub entries : es ≡ entries_of (first_board start) (moves_of (script_of job) (first_stage start) (channels_of es))
  pub items : rows ≡ items_of job (first_stage start) (channels_of es)
  pub places : length locals ≡ CHANNEL_PLACES
  pub kept : (d : ℕ) → IsKeptOf job d (used_in job start (channels_of es) d) (get_or locals d None)
  pub ready : (d : ℕ) → IfSome (get_or locals d None) (IsReady job d)

pub run_first : (job : JobView) (start : StartView) (locals : List (Option StateView)) → IsNothingKept locals → IsRunSoFar job start [] [] locals
run_first job start locals none = record {
  run = tt;
  entries = refl;
  items = refl;
  places = none.places;
  kept = λ d. none_kept job d (get_or locals d None) (none.none d);
  ready = λ d. none_ready job d (get_or locals d None) (none.none d);
}

module _ (job : JobView) (start : StartView) (es : List EntryView) (rows : List (List Item)) (locals : List (Option StateView)) (so : IsRunSoFar job start es rows locals) where
  -- the board after the entries is that of the run
  pub same_board : board_after start es ≡ (stage_in job start (channels_of es)).board
  same_board =
      ap (λ (xs : List EntryView). after_entries (first_board start) xs) so.entries
      ∙ after_its_entries (first_board start) (moves_of (script_of job) (first_stage start) (channels_of es))
      ∙ after_its_moves (script_of job) (first_stage start) (channels_of es)

  module _ (c : ℕ) (grant : Grant) (kept : KeptSegment) (granted : grant_in ((board_after start es).state c) ≡ Some grant)
      (told : IsSegmentOf job c (used_in job start (channels_of es) c ++ grant ∷ []) kept) where
    -- the channel runs, and has got this grant last
    pub runs_here : is_running ((stage_in job start (channels_of es)).board.state c) ≡ true
    runs_here = granted_runs ((stage_in job start (channels_of es)).board.state c) grant (ap (λ (b : Board). grant_in (b.state c)) (sym same_board) ∙ granted)

    got : (stage_in job start (channels_of es)).grants c ≡ used_in job start (channels_of es) c ++ grant ∷ []
    got =
        (accords_turns (script_of job) (first_stage start) no_usage (channels_of es) (accords_first start)).grants c
        ∙ ap (λ (b : Board). used_in job start (channels_of es) c ++ as_list (grant_in (b.state c))) (sym same_board)
        ∙ ap (λ (o : Option Grant). used_in job start (channels_of es) c ++ as_list o) granted

    made_step : script_of job c ((stage_in job start (channels_of es)).grants c) ≡ kept.step
    made_step = ap (λ (gs : List Grant). (segment_after job c gs).step) got ∙ told.step

    made_items : (segment_after job c ((stage_in job start (channels_of es)).grants c)).items ≡ kept.items
    made_items = ap (λ (gs : List Grant). (segment_after job c gs).items) got ∙ told.items

    abbrev pub entry : EntryView
    entry = entry_of (board_after start es) c kept.step

    -- who acted, with this channel
    pub more_channels : channels_of (es ++ entry ∷ []) ≡ channels_of es ++ c ∷ []
    more_channels = channels-push es entry

    more_run : IsRun (script_of job) (first_stage start) (channels_of (es ++ entry ∷ []))
    more_run = subst (IsRun (script_of job) (first_stage start)) (sym more_channels) (run-push (script_of job) (first_stage start) (channels_of es) c so.run runs_here)

    more_entries : es ++ entry ∷ [] ≡ entries_of (first_board start) (moves_of (script_of job) (first_stage start) (channels_of (es ++ entry ∷ [])))
    more_entries =
        let moves : List Move = moves_of (script_of job) (first_stage start) (channels_of es) in
        let move : Move = next_move (script_of job) (stage_in job start (channels_of es)) c in
        let replayed : board_after start es ≡ after_moves (first_board start) moves =
        ap (λ (xs : List EntryView). after_entries (first_board start) xs) so.entries ∙ after_its_entries (first_board start) moves in
        let here : entry ≡ entry_of (after_moves (first_board start) moves) c move.step = ap₂ (λ (b : Board) (s : Step). entry_of b c s) replayed (sym made_step) in
        ap₂ (λ (xs : List EntryView) (x : EntryView). xs ++ x ∷ []) so.entries here
        ∙ sym (entries-push (first_board start) moves move)
        ∙ ap (entries_of (first_board start)) (sym (moves-push (script_of job) (first_stage start) (channels_of es) c))
        ∙ ap (λ (cs : List ℕ). entries_of (first_board start) (moves_of (script_of job) (first_stage start) cs)) (sym more_channels)

    more_items : rows ++ kept.items ∷ [] ≡ items_of job (first_stage start) (channels_of (es ++ entry ∷ []))
    more_items =
        ap₂ (λ (xs : List (List Item)) (x : List Item). xs ++ x ∷ []) so.items (sym made_items)
        ∙ sym (items-push job (first_stage start) (channels_of es) c)
        ∙ ap (items_of job (first_stage start)) (sym more_channels)

    pub more_used : used_in job start (channels_of (es ++ entry ∷ [])) ≡ usage_after (stage_in job start (channels_of es)) (used_in job start (channels_of es)) c
    more_used = ap (used_in job start) more_channels ∙ usage-push (script_of job) (first_stage start) no_usage (channels_of es) c

    -- the channel has used this grant too, and the others as many as before
    used_now : used_in job start (channels_of (es ++ entry ∷ [])) c ≡ used_in job start (channels_of es) c ++ grant ∷ []
    used_now =
        let used : usage_after (stage_in job start (channels_of es)) (used_in job start (channels_of es)) c c ≡ (stage_in job start (channels_of es)).grants c = rw (eq-eqb c c refl) refl in
        ap (λ (u : Usage). u c) more_used ∙ used ∙ got

    used_still : (d : ℕ) → (d == c) ≡ false → used_in job start (channels_of (es ++ entry ∷ [])) d ≡ used_in job start (channels_of es) d
    used_still d other =
        let used : usage_after (stage_in job start (channels_of es)) (used_in job start (channels_of es)) c d ≡ used_in job start (channels_of es) d = rw other refl in
        ap (λ (u : Usage). u d) more_used ∙ used

    -- one turn more
    pub run_more : (later : List (Option StateView)) → IsPut locals c kept.after later → IsReady job c kept.after → IsRunSoFar job start (es ++ entry ∷ []) (rows ++ kept.items ∷ []) later
    run_more later put ready = record {
      run = more_run;
      entries = more_entries;
      items = more_items;
      places = put.places;
      kept = λ d. elim (cases_Bool (d == c)) [
        | inl same ↦
            let P : ℕ → Type 0 = λ x. IsKeptOf job x (used_in job start (channels_of (es ++ entry ∷ [])) x) (get_or later x None) in
            subst P (sym (eqb-true d c same)) kept_here
        | inr other ↦ kept_there d other
      ];
      ready = λ d. elim (cases_Bool (d == c)) [
        | inl same ↦
            let P : ℕ → Type 0 = λ x. IfSome (get_or later x None) (IsReady job x) in
            let Q : Option StateView → Type 0 = λ o. IfSome o (IsReady job c) in
            subst P (sym (eqb-true d c same)) (subst Q (sym put.here) ready)
        | inr other ↦ let Q : Option StateView → Type 0 = λ o. IfSome o (IsReady job d) in subst Q (sym (put.others d other)) (so.ready d)
      ];
    }
      where
        kept_here : IsKeptOf job c (used_in job start (channels_of (es ++ entry ∷ [])) c) (get_or later c None)
        kept_here =
            let P : List Grant → Type 0 = λ gs. IsKeptOf job c gs (get_or later c None) in
            let Q : Option StateView → Type 0 = λ o. IsKeptOf job c (used_in job start (channels_of es) c ++ grant ∷ []) o in
            subst P (sym used_now) (subst Q (sym put.here) told.after)

        kept_there : (d : ℕ) → (d == c) ≡ false → IsKeptOf job d (used_in job start (channels_of (es ++ entry ∷ [])) d) (get_or later d None)
        kept_there d other =
            let P : List Grant → Type 0 = λ gs. IsKeptOf job d gs (get_or later d None) in
            let Q : Option StateView → Type 0 = λ o. IsKeptOf job d (used_in job start (channels_of es) d) o in
            subst P (sym (used_still d other)) (subst Q (sym (put.others d other)) (so.kept d))
