-- Two maximal runs of which one has no race end in one state of the machine, and in both the events of each channel tell the same.
use Rattle.std.proofs.Common.{◌≡◌, ◌∙◌, ℕ, Bool, List, [], ◌∷◌, ◌++◌, append-nil, length, refl, sym, ap, ap₂}
use Rattle.std.proofs.lemmas.List.{append_cancel_left}
use Rattle.board_laws.specs.Machine.{Clock, State as Machine}
use Rattle.schedule_laws.proofs.NextTurn.{log_at}
use Rattle.schedule_laws.proofs.RunLaws.{all_agree, speaks_of_states}
use Rattle.schedule_laws.specs.Schedules.{IsMaximalOf, IsQuietRun, moves_by}
use Rattle.schedule_laws.specs.Tracked.{cell_at, clocks_at, tenures_at, tracked}
use Rattle.speed_laws.proofs.Histories.{channels_have_histories}
use Rattle.speed_laws.proofs.JoinedRuns.{run_rest}
use Rattle.speed_laws.proofs.OwnersHaveLines.{keeps_run, runs_known}
use Rattle.speed_laws.proofs.PresentSpans.{none_runs}
use Rattle.speed_laws.specs.Doings.{Doings}
use Rattle.speed_laws.specs.Histories.{history, tellings_in_run}
use Rattle.sync_types.proofs.BoardTests.{no_truth}
use Rattle.sync_types.proofs.Together.{keeps_first}
use Rattle.sync_types.specs.Boards.{Board, channel_numbers, first_board, is_running}
use Rattle.sync_types.specs.Runs.{Script, IsRun, first_stage, stage_after}
use Rattle.sync_types.specs.Starts.{has_channel}
use Rattle.sync_types.specs.Turns.{Move}
use Rattle.sync_types.specs.Views.{StartView}
use Rattle.sync_types.specs.declared.Grant.{Grant}

-- ---- the state of the machine

module _ (script : Script) (start : StartView) (cs ds : List ℕ) (quiet : IsQuietRun script start cs) (maximal : IsMaximalOf script start ds) where
  abbrev board : Board
  board = first_board start

  abbrev one : List Move
  one = moves_by script start cs

  abbrev two : List Move
  two = moves_by script start ds

  -- a maximal run goes on no further
  no_rest : (rest : List ℕ) → IsRun script (first_stage start) (ds ++ rest) → rest ≡ []
  no_rest [] run = refl
  no_rest (c ∷ rest) run =
      let end = stage_after script (first_stage start) ds in
      let on = (run_rest script (first_stage start) ds (c ∷ rest) run).0 in
      let kept = keeps_run script (first_stage start) ds (keeps_first start quiet.sound) maximal.run in
      let known = quiet.numbers c (ap (λ (s : StartView). has_channel s c) (sym kept.1) ∙ runs_known end.board c kept.0 on) in
      no_truth (is_running (end.board.state c)) on (none_runs (λ d. is_running (end.board.state d)) channel_numbers c maximal.over known)

  pub one_state : tracked (first_board start) (moves_by script start cs) (length (moves_by script start cs)) ≡ tracked (first_board start) (moves_by script start ds) (length (moves_by script start ds))
  one_state =
      let spoken = speaks_of_states script start cs ds quiet maximal.run in
      let same : ds ++ spoken.alike.rest ≡ ds = ap (λ (rest : List ℕ). ds ++ rest) (no_rest spoken.alike.rest spoken.alike.maximal.run) ∙ append-nil ds in
      spoken.state ∙ ap (λ (es : List ℕ). tracked (first_board start) (moves_by script start es) (length (moves_by script start es))) same

  -- the clocks of all events, and the tenures of all axes
  pub clocks_alike : (c j : ℕ) → clocks_at (first_board start) (moves_by script start cs) (length (moves_by script start cs)) c j ≡ clocks_at (first_board start) (moves_by script start ds) (length (moves_by script start ds)) c j
  clocks_alike c j = ap (λ (log : ℕ → Clock). log j) (sym (log_at board one (length one) c) ∙ ap (λ (t : Machine). (t.own c).log) one_state ∙ log_at board two (length two) c)

  pub tenures_alike : (x : ℕ) → tenures_at (first_board start) (moves_by script start cs) (length (moves_by script start cs)) x ≡ tenures_at (first_board start) (moves_by script start ds) (length (moves_by script start ds)) x
  unfolding cell_at
  tenures_alike x = ap (λ (t : Machine). (t.axis x).tenures) one_state

-- ---- what events tell

pub tellings_alike : (doings : Doings) (start : StartView) (cs ds : List ℕ) → IsQuietRun doings.script start cs → IsMaximalOf doings.script start ds → (c : ℕ)
    → tellings_in_run doings start cs c ≡ tellings_in_run doings start ds c
tellings_alike doings start cs ds quiet maximal c =
    let one = channels_have_histories doings start cs c quiet.sound quiet.maximal.run in
    let two = channels_have_histories doings start ds c quiet.sound maximal.run in
    let same = all_agree doings.script start cs ds quiet maximal in
    let more : one.more ≡ two.more = append_cancel_left ((first_stage start).grants c) one.more two.more (sym one.grants ∙ same.grants c ∙ two.grants) in
    one.are
    ∙ ap₂ (λ (t : Bool) (gs : List Grant). history doings c t (is_running ((first_board start).state c)) ((first_stage start).grants c) gs) (ap (λ (b : Board). is_running (b.state c)) same.board) more
    ∙ sym two.are
