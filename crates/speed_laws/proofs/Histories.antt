-- What the events of a channel tell is its history by its grants.
use Rattle.std.proofs.Common.{◌≡◌, ◌∙◌, ℕ, suc, ◌+◌, Bool, true, false, cond, not, ◌==◌, ◌||◌, List, [], ◌∷◌, ◌++◌, append-nil, append_assoc, map, filter, slice_index_or, Option, None, Some, inl, inr, refl, sym, ap, ap₂, subst, arith}
use Rattle.std.proofs.lemmas.Bool.{cases_Bool, eqb-true, eq-eqb, ne_eqb}
use Rattle.std.proofs.lemmas.List.{map-append}
use Rattle.std.proofs.lemmas.List.Elements.{filter-append}
use Rattle.order_clocks.specs.Chains.{IsIn}
use Rattle.order_clocks.specs.Happenings.{going_of, happening_of}
use Rattle.speed_laws.proofs.RunBoards.{IsRunBoard, run_board_first, run_board_step}
use Rattle.speed_laws.proofs.StepEvents.{ActorTold, actor_goes, actor_told, as_goings, goes_on, goes_waited, is_stopped, kept_state, not_started, part_other, step_events}
use Rattle.speed_laws.specs.Doings.{Doings}
use Rattle.speed_laws.specs.Histories.{Telling, telling_of, act_telling, going_telling, waits_at, history, items_by, ChannelsHaveHistories}
use Rattle.sync_types.proofs.BoardTests.{no_truth}
use Rattle.sync_types.specs.BoardActions.{after_own_part}
use Rattle.sync_types.specs.Boards.{State, IsRunning, among, first_board, grant_in, is_running}
use Rattle.sync_types.specs.Events.{channels_in}
use Rattle.sync_types.specs.GoingOn.{Going}
use Rattle.sync_types.specs.Runs.{Stage, IsRun, as_list, gets_a_grant, after_turn, first_stage, moves_of, stage_after}
use Rattle.sync_types.specs.Turns.{after_step, goings_in_step}
use Rattle.sync_types.specs.Views.{StartView}
use Rattle.sync_types.specs.declared.Grant.{Grant}
use Rattle.sync_types.specs.declared.Item.{Item}
use Rattle.sync_types.specs.declared.Step.{Step}
use Rattle.zone_stretches.specs.Occurrences.{OccurrenceView, act_of, going_on_of, occurrences_in, occurrences_from, occurrences_of}

-- what is so of the grants to come: who does not run and gets none does not run at last, and who has stopped gets none
pub record Ahead (s : State) (more : List Grant) (at_last : Bool) : Type 0 where
  pub stays : is_running s ≡ false → more ≡ [] → at_last ≡ false
  pub stopped : is_stopped s ≡ true → more ≡ []

pub found_in : (gs : List Going) (c : ℕ) (g : Going) → going_of gs c ≡ Some g → IsIn g gs × (g.channel ≡ c)
found_in [] c g e = absurd cc
found_in (h ∷ gs) c g e = by_test (h.channel == c) refl e (found_in gs c g)
  where
    by_test : (t : Bool) → (h.channel == c) ≡ t → cond t (Some h) (going_of gs c) ≡ Some g → (going_of gs c ≡ Some g → IsIn g gs × (g.channel ≡ c)) → IsIn g (h ∷ gs) × (g.channel ≡ c)
    by_test true is e rest = let same : h ≡ g = cc in (inl (sym same), ap (λ (k : Going). k.channel) (sym same) ∙ eqb-true h.channel c is)
    by_test false is e rest = let r = rest e in (inr r.0, r.1)

pub none_in : (gs : List Going) (c : ℕ) → going_of gs c ≡ None → among (channels_in gs) c ≡ false
none_in [] c e = refl
none_in (h ∷ gs) c e = by_test (h.channel == c) refl e (none_in gs c)
  where
    by_test : (t : Bool) → (h.channel == c) ≡ t → cond t (Some h) (going_of gs c) ≡ None → (going_of gs c ≡ None → among (channels_in gs) c ≡ false) → ((h.channel == c) || among (channels_in gs) c) ≡ false
    by_test true is e rest = absurd cc
    by_test false is e rest = rw is (rest e)

-- ---- plain cases

module _ (doings : Doings) (c : ℕ) (at_last : Bool) (grants : List Grant) where
  -- who acts and does not go on in the step
  acts_alone : (s : State) → (is_running s ≡ true → waits_at c (doings.script c grants) ≡ false) → (is_running s ≡ false → is_stopped s ≡ false → waits_at c (doings.script c grants) ≡ true)
      → (more : List Grant) → Ahead s more at_last
      → history doings c at_last true grants (as_list (grant_in s) ++ more) ≡ act_telling doings c grants ∷ history doings c at_last (is_running s) (grants ++ as_list (grant_in s)) more
  acts_alone (IsRunning grant) runs holds more after = rw (runs refl) refl
  acts_alone other runs holds [] after = rw (after.stays refl refl) refl
  acts_alone other runs holds (grant ∷ more) after = rw (holds refl (goes_further (is_stopped other) refl), append-nil grants) refl
    where
      goes_further : (t : Bool) → is_stopped other ≡ t → is_stopped other ≡ false
      goes_further true is = let none : grant ∷ more ≡ [] = after.stopped is in absurd cc
      goes_further false is = is

  -- who acts and goes on in it
  acts_and_goes : (grant : Grant) (more : List Grant) → waits_at c (doings.script c grants) ≡ true
      → history doings c at_last true grants (grant ∷ more) ≡ act_telling doings c grants ∷ going_telling grant ∷ history doings c at_last true (grants ++ grant ∷ []) more
  acts_and_goes grant more waits = rw waits refl

no_grant : (s : State) → is_running s ≡ false → as_list (grant_in s) ≡ []
no_grant (IsRunning grant) off = absurd cc
no_grant other off = refl

runs_not_stopped : (s : State) → is_running s ≡ true → is_stopped s ≡ false
runs_not_stopped (IsRunning grant) on = refl
runs_not_stopped other on = absurd cc

-- ---- one step

module _ (doings : Doings) (stage : Stage) (p i : ℕ) (rows : List (List Item)) (zs : IsRunBoard stage.board) (running : is_running (stage.board.state p) ≡ true) (mine : slice_index_or rows i [] ≡ doings.items p (stage.grants p)) where
  abbrev step : Step
  step = doings.script p (stage.grants p)

  abbrev goings : List Going
  goings = goings_in_step stage.board p step

  abbrev state_after : ℕ → State
  state_after c = (after_step stage.board p step).state c

  abbrev added : ℕ → List Grant
  added c = cond (gets_a_grant stage.board p c) (as_list (grant_in (state_after c))) []

  abbrev events : ℕ → List OccurrenceView
  events c = cond (p == c) (act_of i step (happening_of stage.board p step) ∷ []) [] ++ map (going_on_of i goings) (as_goings (going_of goings c))

  record StepTold (c : ℕ) (more : List Grant) (at_last : Bool) : Type 0 where
    told : history doings c at_last (is_running (stage.board.state c)) (stage.grants c) (added c ++ more)
        ≡ map (telling_of rows) (events c) ++ history doings c at_last (is_running (state_after c)) (stage.grants c ++ added c) more
    ahead : Ahead (stage.board.state c) (added c ++ more) at_last

  act_is : telling_of rows (act_of i step (happening_of stage.board p step)) ≡ act_telling doings p (stage.grants p)
  act_is = ap (λ (items : List Item). let t : Telling = record { goes = false; line = Some step.line; at = step.at; on = step.on; items = items } in t) mine

  -- the acting channel
  actor : (more : List Grant) (at_last : Bool) → Ahead (state_after p) more at_last → StepTold p more at_last
  actor more at_last after = record {
    told = rw (running, eq-eqb p p refl) (by_going (going_of goings p) refl);
    ahead = record {
      stays = λ off. no_truth (is_running (stage.board.state p)) running off;
      stopped = λ over. no_truth (is_stopped (stage.board.state p)) over (runs_not_stopped (stage.board.state p) running);
    };
  }
    where
      by_going : (o : Option Going) → going_of goings p ≡ o
          → history doings p at_last true (stage.grants p) (as_list (grant_in (state_after p)) ++ more)
          ≡ telling_of rows (act_of i step (happening_of stage.board p step)) ∷ (map (telling_of rows) (map (going_on_of i goings) (as_goings (going_of goings p)))
          ++ history doings p at_last (is_running (state_after p)) (stage.grants p ++ as_list (grant_in (state_after p))) more)
      by_going (Some g) e =
          let f = found_in goings p g e in
          let now : state_after p ≡ IsRunning g.grant = ap state_after (sym f.1) ∙ (goes_on stage.board p step zs running g f.0).runs in
          rw (e, now, act_is) (acts_and_goes doings p at_last (stage.grants p) g.grant more (actor_goes stage.board p step zs running g p f.0 f.1 (eq-eqb p p refl)))
      by_going None e =
          let now : state_after p ≡ (after_own_part stage.board p step).state p = kept_state stage.board p step zs running p (none_in goings p e) in
          let told = subst (ActorTold stage.board p step zs running) (sym now) (actor_told stage.board p step zs running) in
          rw (e, act_is) (acts_alone doings p at_last (stage.grants p) (state_after p) told.runs told.holds more after)

  -- another channel
  other : (c : ℕ) (more : List Grant) (at_last : Bool) → (c == p) ≡ false → (p == c) ≡ false → Ahead (state_after c) more at_last → StepTold c more at_last
  other c more at_last off off' after = by_going (going_of goings c) refl
    where
      by_going : (o : Option Going) → going_of goings c ≡ o → StepTold c more at_last
      by_going (Some g) e =
          let f = found_in goings c g e in
          let now : state_after c ≡ IsRunning g.grant = ap state_after (sym f.1) ∙ (goes_on stage.board p step zs running g f.0).runs in
          let was = goes_waited stage.board p step zs running g c f.0 f.1 off in
          let gets : added c ≡ g.grant ∷ [] = rw (off, was.0, now) refl in
          record {
            told = rw (gets, was.0, now, off', e) refl;
            ahead = record {
              stays = λ still none. let bad : g.grant ∷ more ≡ [] = ap (λ (gs : List Grant). gs ++ more) (sym gets) ∙ none in absurd cc;
              stopped = λ over. no_truth (is_stopped (stage.board.state c)) over was.1;
            };
          }
      by_going None e =
          let out = none_in goings c e in
          let same : state_after c ≡ stage.board.state c =
          kept_state stage.board p step zs running c out ∙ part_other stage.board p step zs running c off (not_started stage.board p step zs running c out) in
          let gets : added c ≡ [] = rw (off, same) (nothing (stage.board.state c)) in
          let none : stage.grants c ++ added c ≡ stage.grants c = ap (λ (gs : List Grant). stage.grants c ++ gs) gets ∙ append-nil (stage.grants c) in
          record {
            told = rw (gets, append-nil (stage.grants c), off', e, same) refl;
            ahead = record {
              stays = λ still no_more. after.stays (ap is_running same ∙ still) (ap (λ (gs : List Grant). gs ++ more) (sym gets) ∙ no_more);
              stopped = λ over. ap (λ (gs : List Grant). gs ++ more) gets ∙ after.stopped (ap is_stopped same ∙ over);
            };
          }
        where
          nothing : (s : State) → cond (not (is_running s)) (as_list (grant_in s)) [] ≡ []
          nothing (IsRunning grant) = refl
          nothing other = refl

  step_told : (c : ℕ) (more : List Grant) (at_last : Bool) → Ahead (state_after c) more at_last → StepTold c more at_last
  step_told c more at_last after = elim (cases_Bool (p == c)) [
    | inl same ↦ by_same (eqb-true p c same) after
    | inr off ↦ other c more at_last (ne_eqb c p (λ e. no_truth (p == c) (eq-eqb p c (sym e)) off)) off after
  ]
    where
      by_same : p ≡ c → Ahead (state_after c) more at_last → StepTold c more at_last
      by_same e after = subst (λ d. StepTold d more at_last) e (actor more at_last (subst (λ d. Ahead (state_after d) more at_last) (sym e) after))

  grants_after : (c : ℕ) → (after_turn doings.script stage p).grants c ≡ stage.grants c ++ added c
  grants_after c = by_test (gets_a_grant stage.board p c)
    where
      by_test : (t : Bool) → cond t (stage.grants c ++ as_list (grant_in (state_after c))) (stage.grants c) ≡ stage.grants c ++ cond t (as_list (grant_in (state_after c))) []
      by_test true = refl
      by_test false = sym (append-nil (stage.grants c))

-- ---- all steps

pub record HistoryTold (doings : Doings) (stage : Stage) (cs : List ℕ) (i : ℕ) (rows : List (List Item)) (c : ℕ) : Type 0 where
  pub more : List Grant
  pub grants : (stage_after doings.script stage cs).grants c ≡ stage.grants c ++ more
  -- whatever grants come later
  pub goes_on : (later : List Grant) (at_last : Bool) → Ahead ((stage_after doings.script stage cs).board.state c) later at_last
      → (history doings c at_last (is_running (stage.board.state c)) (stage.grants c) (more ++ later)
      ≡ map (telling_of rows) (filter (λ o. o.channel == c) (occurrences_from stage.board i (moves_of doings.script stage cs)))
      ++ history doings c at_last (is_running ((stage_after doings.script stage cs).board.state c)) ((stage_after doings.script stage cs).grants c) later)
      × Ahead (stage.board.state c) (more ++ later) at_last

pub history_told : (doings : Doings) (cs : List ℕ) (stage : Stage) (i : ℕ) (rows : List (List Item)) (c : ℕ) → IsRunBoard stage.board → IsRun doings.script stage cs
    → ((k : ℕ) → slice_index_or rows (i + k) [] ≡ slice_index_or (items_by doings stage cs) k []) → HistoryTold doings stage cs i rows c
history_told doings [] stage i rows c zs run same = record {
  more = [];
  grants = sym (append-nil (stage.grants c));
  goes_on = λ later at_last after. (refl, after);
}
history_told doings (p ∷ cs) stage i rows c zs run same =
    let step = doings.script p (stage.grants p) in
    let first : i + 0 ≡ i = omega arith in
    let mine : slice_index_or rows i [] ≡ doings.items p (stage.grants p) = ap (λ (k : ℕ). slice_index_or rows k []) (sym first) ∙ same 0 in
    let next = after_turn doings.script stage p in
    let later : (k : ℕ) → slice_index_or rows (suc i + k) [] ≡ slice_index_or (items_by doings next cs) k [] =
    λ k. let past : suc i + k ≡ i + suc k = omega arith in ap (λ (j : ℕ). slice_index_or rows j []) past ∙ same (suc k) in
    let rest = history_told doings cs next (suc i) rows c (run_board_step stage.board p step zs) run.1 later in
    let gained = added doings stage p i rows zs run.0 mine c in
    let grown = grants_after doings stage p i rows zs run.0 mine c in
    let here = filter (λ o. o.channel == c) (occurrences_in i step (happening_of stage.board p step)) in
    let there = filter (λ o. o.channel == c) (occurrences_from next.board (suc i) (moves_of doings.script next cs)) in
    let end = stage_after doings.script next cs in
    let parts : map (telling_of rows) (filter (λ o. o.channel == c) (occurrences_in i step (happening_of stage.board p step) ++ occurrences_from next.board (suc i) (moves_of doings.script next cs)))
    ≡ map (telling_of rows) here ++ map (telling_of rows) there =
    ap (map (telling_of rows)) (filter-append (λ o. o.channel == c) (occurrences_in i step (happening_of stage.board p step)) (occurrences_from next.board (suc i) (moves_of doings.script next cs)))
    ∙ map-append (telling_of rows) here there in
    record {
      more = gained ++ rest.more;
      grants = rest.grants ∙ ap (λ (gs : List Grant). gs ++ rest.more) grown ∙ append_assoc (stage.grants c) gained rest.more;
      goes_on = λ more at_last after.
          let r = rest.goes_on more at_last after in
          let told = step_told doings stage p i rows zs run.0 mine c (rest.more ++ more) at_last r.1 in
          let joined : (gained ++ rest.more) ++ more ≡ gained ++ (rest.more ++ more) = append_assoc gained rest.more more in (
            ap (history doings c at_last (is_running (stage.board.state c)) (stage.grants c)) joined
                ∙ told.told
                ∙ ap₂ (λ (xs ys : List Telling). xs ++ ys) (ap (map (telling_of rows)) (sym (step_events stage.board p step i c run.0 zs)))
                (ap (λ (gs : List Grant). history doings c at_last (is_running (next.board.state c)) gs (rest.more ++ more)) (sym grown) ∙ r.0)
                ∙ sym (append_assoc (map (telling_of rows) here) (map (telling_of rows) there) (history doings c at_last (is_running (end.board.state c)) (end.grants c) more))
                ∙ ap (λ (xs : List Telling). xs ++ history doings c at_last (is_running (end.board.state c)) (end.grants c) more) (sym parts),
            subst (λ (gs : List Grant). Ahead (stage.board.state c) gs at_last) (sym joined) told.ahead,
          );
    }

-- at the end of a run
pub at_end : (doings : Doings) (c : ℕ) (s : State) (grants : List Grant) → (history doings c (is_running s) (is_running s) grants [] ≡ []) × Ahead s [] (is_running s)
at_end doings c s grants = (by_test (is_running s), record { stays = λ off none. off; stopped = λ over. refl })
  where
    by_test : (t : Bool) → history doings c t t grants [] ≡ []
    by_test true = refl
    by_test false = refl

-- in each run from a sound start
pub channels_have_histories : (doings : Doings) (start : StartView) (cs : List ℕ) (c : ℕ) → ChannelsHaveHistories doings start cs c
unfolding occurrences_of
channels_have_histories doings start cs c sound run =
    let rows = items_by doings (first_stage start) cs in
    let told = history_told doings cs (first_stage start) 0 rows c (run_board_first start sound) run (λ k. let same : 0 + k ≡ k = omega arith in ap (λ (j : ℕ). slice_index_or rows j []) same) in
    let end = stage_after doings.script (first_stage start) cs in
    let e = at_end doings c (end.board.state c) (end.grants c) in
    let whole = told.goes_on [] (is_running (end.board.state c)) e.1 in
    let tellings = map (telling_of rows) (filter (λ o. o.channel == c) (occurrences_from (first_board start) 0 (moves_of doings.script (first_stage start) cs))) in
    record {
      more = told.more;
      grants = told.grants;
      are =
          sym (append-nil tellings)
          ∙ ap (λ (xs : List Telling). tellings ++ xs) (sym e.0)
          ∙ sym whole.0
          ∙ ap (history doings c (is_running (end.board.state c)) (is_running ((first_board start).state c)) ((first_stage start).grants c)) (append-nil told.more);
    }
