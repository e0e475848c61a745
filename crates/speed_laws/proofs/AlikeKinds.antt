-- What a channel does after each of its events is told by the event that comes next, and after the last one by what the channel does at last.
use Rattle.std.proofs.Common.{◌≡◌, ◌∙◌, ℕ, suc, true, false, cond, ◌==◌, List, [], ◌∷◌, ◌++◌, map, filter, Option, None, Some, inl, inr, if◌then◌else◌, refl, sym, ap, subst}
use Rattle.std.specs.Prelude.{is_some}
use Rattle.std.proofs.lemmas.Bool.{cases_Bool, eqb-true, eq-eqb, ne_eqb}
use Rattle.std.proofs.lemmas.List.Elements.{filter-append}
use Rattle.order_clocks.specs.Happenings.{going_of, happening_of, hold_in}
use Rattle.order_clocks.specs.Watching.{wait_in}
use Rattle.speed_laws.proofs.Histories.{found_in, none_in}
use Rattle.speed_laws.proofs.RunBoards.{IsRunBoard, run_board_step}
use Rattle.speed_laws.proofs.StepEvents.{actor_told, as_goings, goes_on, goes_waited, is_stopped, kept_state, not_started, part_other, started_other, step_events}
use Rattle.sync_types.proofs.BoardTests.{no_truth}
use Rattle.sync_types.specs.BoardActions.{after_own_part}
use Rattle.sync_types.specs.Boards.{State, IsIdle, IsRunning, IsHolding, Board, is_idle, is_running}
use Rattle.sync_types.specs.GoingOn.{Going}
use Rattle.sync_types.specs.Turns.{AreOfRunning, Move, after_moves, after_step, goings_in_step}
use Rattle.sync_types.specs.declared.Step.{Step}
use Rattle.sync_types.specs.declared.verdicts.StretchKind.{StretchKind}
use Rattle.sync_types.specs.declared.verdicts.StretchKind.TheVariants.{Run, Hold}
use Rattle.zone_stretches.specs.Occurrences.{OccurrenceView, act_of, going_on_of, kind_after_act, occurrences_in, occurrences_from}

-- ---- kinds

-- what a channel does that has acted
abbrev pub kind_of : State → StretchKind
kind_of s = kind_after_act (hold_in s) s

-- before these events of the channel, at the end of which it does this
abbrev pub kind_next : List OccurrenceView → State → StretchKind
kind_next [] last = kind_of last
kind_next (o ∷ os) last = if o.name.go then Hold else Run

abbrev pub KindsFollow : List OccurrenceView → State → Type 0
KindsFollow [] last = Unit {0}
KindsFollow (o ∷ os) last = (o.kind ≡ kind_next os last) × KindsFollow os last

pub record Follow (s : State) (os : List OccurrenceView) (last : State) : Type 0 where
  pub now : is_idle s ≡ false → kind_of s ≡ kind_next os last
  pub later : KindsFollow os last

runs_kind : (s : State) → is_running s ≡ true → kind_of s ≡ Run
runs_kind (IsRunning grant) on = refl
runs_kind other on = absurd cc

waits_kind : (s after : State) → is_some (wait_in s) ≡ true → kind_after_act (hold_in s) after ≡ Hold
waits_kind (IsHolding hold line) after on = refl
waits_kind other after on = absurd cc

holds_kind : (s : State) → is_idle s ≡ false → is_running s ≡ false → is_stopped s ≡ false → kind_of s ≡ Hold
holds_kind (IsHolding hold line) awake off goes = refl
holds_kind IsIdle awake off goes = absurd cc
holds_kind (IsRunning grant) awake off goes = absurd cc
holds_kind other awake off goes = absurd cc

-- ---- one step

module _ (b : Board) (p : ℕ) (step : Step) (zs : IsRunBoard b) (running : is_running (b.state p) ≡ true) (i : ℕ) (last : State) where
  abbrev goings : List Going
  goings = goings_in_step b p step

  abbrev state_after : ℕ → State
  state_after c = (after_step b p step).state c

  abbrev events : ℕ → List OccurrenceView
  events c = cond (p == c) (act_of i step (happening_of b p step) ∷ []) [] ++ map (going_on_of i goings) (as_goings (going_of goings c))

  -- the acting channel
  actor : (os : List OccurrenceView) → Follow (state_after p) os last → Follow (b.state p) (events p ++ os) last
  actor os rest = by_going (going_of goings p) refl
    where
      by_going : (o : Option Going) → going_of goings p ≡ o → Follow (b.state p) (events p ++ os) last
      by_going (Some g) e =
          let f = found_in goings p g e in
          let goes = goes_on b p step zs running g f.0 in
          let now : state_after p ≡ IsRunning g.grant = ap state_after (sym f.1) ∙ goes.runs in
          let waited : is_some (wait_in ((after_own_part b p step).state p)) ≡ true = elim goes.waited [
            | inl start ↦ no_truth (g.channel == p) (eq-eqb g.channel p f.1) (started_other b p step zs running g.channel start)
            | inr waits ↦ ap (λ (c : ℕ). is_some (wait_in ((after_own_part b p step).state c))) (sym f.1) ∙ waits
          ] in
          rw (eq-eqb p p refl, e) (record {
            now = λ awake. runs_kind (b.state p) running;
            later = (
              waits_kind ((after_own_part b p step).state p) (state_after p) waited,
              (sym (ap kind_of now) ∙ rest.now (ap is_idle now), rest.later),
            );
          })
      by_going None e =
          let same : state_after p ≡ (after_own_part b p step).state p = kept_state b p step zs running p (none_in goings p e) in
          let told = actor_told b p step zs running in
          rw (eq-eqb p p refl, e) (record {
            now = λ awake. runs_kind (b.state p) running;
            later = (
              ap (λ (s : State). kind_after_act (hold_in s) (state_after p)) (sym same) ∙ rest.now (ap is_idle same ∙ told.acted),
              rest.later,
            );
          })

  -- another channel
  other : (c : ℕ) (os : List OccurrenceView) → (c == p) ≡ false → (p == c) ≡ false → Follow (state_after c) os last → Follow (b.state c) (events c ++ os) last
  other c os off off' rest = by_going (going_of goings c) refl
    where
      by_going : (o : Option Going) → going_of goings c ≡ o → Follow (b.state c) (events c ++ os) last
      by_going (Some g) e =
          let f = found_in goings c g e in
          let now : state_after c ≡ IsRunning g.grant = ap state_after (sym f.1) ∙ (goes_on b p step zs running g f.0).runs in
          let was = goes_waited b p step zs running g c f.0 f.1 off in
          rw (off', e) (record {
            now = λ awake. holds_kind (b.state c) awake was.0 was.1;
            later = (sym (ap kind_of now) ∙ rest.now (ap is_idle now), rest.later);
          })
      by_going None e =
          let out = none_in goings c e in
          let same : state_after c ≡ b.state c =
          kept_state b p step zs running c out ∙ part_other b p step zs running c off (not_started b p step zs running c out) in
          rw (off', e) (record {
            now = λ awake. ap kind_of (sym same) ∙ rest.now (ap is_idle same ∙ awake);
            later = rest.later;
          })

  follow_step : (c : ℕ) (os : List OccurrenceView) → Follow (state_after c) os last → Follow (b.state c) (events c ++ os) last
  follow_step c os rest = elim (cases_Bool (p == c)) [
    | inl same ↦ by_same (eqb-true p c same) rest
    | inr off ↦ other c os (ne_eqb c p (λ e. no_truth (p == c) (eq-eqb p c (sym e)) off)) off rest
  ]
    where
      by_same : p ≡ c → Follow (state_after c) os last → Follow (b.state c) (events c ++ os) last
      by_same e rest = subst (λ d. Follow (b.state d) (events d ++ os) last) e (actor os (subst (λ d. Follow (state_after d) os last) (sym e) rest))

-- ---- all steps

pub kinds_follow : (ms : List Move) (b : Board) (i c : ℕ) → IsRunBoard b → AreOfRunning b ms → Follow (b.state c) (filter (λ o. o.channel == c) (occurrences_from b i ms)) ((after_moves b ms).state c)
kinds_follow [] b i c zs run = record { now = λ awake. refl; later = tt }
kinds_follow (m ∷ ms) b i c zs run =
    let next = after_step b m.channel m.step in
    let last = (after_moves next ms).state c in
    let rest = kinds_follow ms next (suc i) c (run_board_step b m.channel m.step zs) run.1 in
    let here = occurrences_in i m.step (happening_of b m.channel m.step) in
    let there = occurrences_from next (suc i) ms in
    let parts = filter-append (λ o. o.channel == c) here there ∙ ap (λ (os : List OccurrenceView). os ++ filter (λ o. o.channel == c) there) (step_events b m.channel m.step i c run.0 zs) in
    subst (λ (os : List OccurrenceView). Follow (b.state c) os last) (sym parts) (follow_step b m.channel m.step zs run.0 i last c (filter (λ o. o.channel == c) there) rest)
