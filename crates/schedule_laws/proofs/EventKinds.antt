-- Which events of a channel are acts: who runs acts, and who does not run goes on.
use Rattle.std.proofs.Common.{◌≡◌, ℕ, ℤ, zero, suc, ◌≤◌, ◌<◌, ◌==◌, not, Bool, true, false, List, [], ◌∷◌, ◌++◌, length, length-append, Some, inl, inr, refl, sym, ap, subst, ◌∙◌, arith, if◌then◌else◌}
use Rattle.std.proofs.lemmas.Bool.{cases_Bool, eqb-true, eq-eqb, ne_eqb, true≢false}
use Rattle.sync_types.specs.Boards.{State as Doing, IsIdle, IsHolding, Board, among, grant_in, is_this}
use Rattle.sync_types.specs.Boards as boards
use Rattle.sync_types.specs.Events.{actor_at, goings_at, channels_in}
use Rattle.sync_types.specs.GoingOn.{Going}
use Rattle.sync_types.specs.Runs.{as_list}
use Rattle.sync_types.specs.Turns.{Move, AreOfRunning}
use Rattle.sync_types.specs.declared.runs.EventId.{EventId}
use Rattle.order_clocks.specs.Happenings.{Happening, board_at}
use Rattle.order_clocks.proofs.WholeLaws.{board_zero}
use Rattle.board_laws.specs.Machine.{Seat, In, Own, Span, Effect, holds, doing_of, with_value_at, span_of, touches, own_after_act, places_told, effect}
use Rattle.board_laws.specs.Machine as machine
use Rattle.board_laws.proofs.Basics.{no, ready_holds}
use Rattle.board_laws.proofs.Goings.{started_in}
use Rattle.board_laws.proofs.Parts.{touched_seat}
use Rattle.board_laws.proofs.Shown.{is_called}
use Rattle.schedule_laws.specs.EventPlaces.{act_in, going_in, event_in, events_upto}
use Rattle.schedule_laws.specs.Tracked.{rows_at, rows_in, part_at, actor, goes_in, grants_at, spans_in, spans_at, own_at, tracked}
use Rattle.schedule_laws.proofs.Places.{event}
use Rattle.schedule_laws.proofs.Steps.{Fresh, Here, here, mid, starts, step_at, seat_at, goings_told}
use Rattle.schedule_laws.proofs.Held.{kept_told}
use Rattle.schedule_laws.proofs.GoRows.{goer}
use Rattle.schedule_laws.proofs.NextTurn.{at_actor, other_own, acts_here, part_marks, part_state}
use Rattle.schedule_laws.proofs.EventLaws.{acts, goes, count_act, count_go, nth_append, nth_within, append_none, only_one, if_true, if_false, eqb_back, act_told, append_on, events_told}

-- the events of a channel so far, by whether it runs before each of them, and whether it runs now
pub record Kinds (xs : List EventId) (spans : ℕ → Span) (runs : Bool) : Type 0 where
  pub now : boards.is_running (spans (length xs)).state ≡ runs
  pub kind : (n : ℕ) (e : EventId) → event_in xs n ≡ Some e → e.go ≡ not (boards.is_running (spans n).state)

kinds_add : (xs : List EventId) (spans : ℕ → Span) (runs : Bool) (new : EventId) (span : Span) → Kinds xs spans runs → new.go ≡ not runs → Kinds (xs ++ new ∷ []) (with_value_at (suc (length xs)) span spans) (boards.is_running span.state)
kinds_add xs spans runs new span w go = record {
  now = ap (λ (n : ℕ). boards.is_running (with_value_at (suc (length xs)) span spans n).state) size
      ∙ ap (λ (t : Bool). boards.is_running (if t then span else spans (suc (length xs))).state) (eq-eqb (suc (length xs)) (suc (length xs)) refl);
  kind = λ n e on. elim (nth_append xs (new ∷ []) n e on) [
    | inl old ↦ let l = nth_within xs n e old in w.kind n e old ∙ ap not (sym (kept n (omega (arith, l))))
    | inr r ↦
        let z = only_one new e r.0 r.1.1 in
        let sum = r.1.0 in
        let none = z.0 in
        let last : n ≡ length xs = omega (arith, sum, none) in
        ap (λ (x : EventId). x.go) z.1 ∙ go ∙ ap not (sym w.now) ∙ ap (λ (k : ℕ). not (boards.is_running (spans k).state)) (sym last) ∙ ap not (sym (kept n (omega (arith, last))))
  ];
}
  where
    size : length (xs ++ new ∷ []) ≡ suc (length xs)
    size = length-append xs (new ∷ []) ∙ omega arith

    kept : (n : ℕ) → n ≤ length xs → boards.is_running (with_value_at (suc (length xs)) span spans n).state ≡ boards.is_running (spans n).state
    kept n up = ap (λ (t : Bool). boards.is_running (if t then span else spans n).state) (ne_eqb n (suc (length xs)) (λ e. absurd (omega (arith, up, e))))

-- what a channel does within the step, after the act
abbrev doing_in : Board → List Move → ℕ → ℕ → Doing
doing_in b moves i c = if c == actor b moves i then (part_at b moves i).state c else (board_at b moves i).state c

-- who acts runs
kinds_act : (b : Board) (moves : List Move) (i c : ℕ) → i < length moves → boards.is_running ((board_at b moves i).state (actor b moves i)) ≡ true → length (events_upto b moves c i) ≡ (rows_at b moves i).past c c
    → Kinds (events_upto b moves c i) (spans_at b moves i c) (boards.is_running ((board_at b moves i).state c))
    → Kinds (events_upto b moves c i ++ act_in moves c i) (spans_in b moves i (spans_at b moves i c) c) (boards.is_running (doing_in b moves i c))
kinds_act b moves i c inside runs size w =
    let xs : List EventId = events_upto b moves c i in
    let old : ℕ → Span = spans_at b moves i c in
    let span : Span = span_of ((part_at b moves i).state c) (grants_at b moves i c ++ as_list (grant_in ((part_at b moves i).state c))) in
    elim (cases_Bool (actor b moves i == c)) [
      | inl y ↦
          let s : actor b moves i ≡ c = eqb-true (actor b moves i) c y in
          let here_too : (c == actor b moves i) ≡ true = eqb_back c (actor b moves i) ∙ y in
          let one : act_in moves c i ≡ event i c false ∷ [] = if_true (is_this (actor_at moves i) c) (event i c false ∷ []) [] (acts b moves i c inside ∙ y) in
          let more = kinds_add xs old (boards.is_running ((board_at b moves i).state c)) (event i c false) span w (sym (ap not (ap (λ (z : ℕ). boards.is_running ((board_at b moves i).state z)) (sym s) ∙ runs))) in
          let spans : with_value_at (suc (length xs)) span old ≡ spans_in b moves i old c =
          ap (λ (n : ℕ). with_value_at n span old) (ap suc size ∙ sym (count_act b moves i c s))
          ∙ sym (if_true (c == actor b moves i) (with_value_at ((rows_in b moves i).past c c) span old) old here_too) in
          let now : boards.is_running span.state ≡ boards.is_running (doing_in b moves i c) =
          ap boards.is_running (sym (if_true (c == actor b moves i) ((part_at b moves i).state c) ((board_at b moves i).state c) here_too)) in
          subst (λ (zs : List EventId). Kinds (xs ++ zs) (spans_in b moves i old c) (boards.is_running (doing_in b moves i c))) (sym one)
          (subst (λ (f : ℕ → Span). Kinds (xs ++ event i c false ∷ []) f (boards.is_running (doing_in b moves i c))) spans
          (subst (λ (t : Bool). Kinds (xs ++ event i c false ∷ []) (with_value_at (suc (length xs)) span old) t) now more))
      | inr off ↦
          let other : (c == actor b moves i) ≡ false = eqb_back c (actor b moves i) ∙ off in
          let none : act_in moves c i ≡ [] = if_false (is_this (actor_at moves i) c) (event i c false ∷ []) [] (acts b moves i c inside ∙ off) in
          let same : xs ++ act_in moves c i ≡ xs = ap (λ (zs : List EventId). xs ++ zs) none ∙ append_none xs in
          let spans : spans_in b moves i old c ≡ old = if_false (c == actor b moves i) (with_value_at ((rows_in b moves i).past c c) span old) old other in
          let now : boards.is_running (doing_in b moves i c) ≡ boards.is_running ((board_at b moves i).state c) =
          ap boards.is_running (if_false (c == actor b moves i) ((part_at b moves i).state c) ((board_at b moves i).state c) other) in
          subst (λ (zs : List EventId). Kinds zs (spans_in b moves i old c) (boards.is_running (doing_in b moves i c))) (sym same)
          (subst (λ (f : ℕ → Span). Kinds xs f (boards.is_running (doing_in b moves i c))) (sym spans) (subst (λ (t : Bool). Kinds xs old t) (sym now) w))
    ]

-- within the step
acted_seat : (p : ℕ) (o : Own) (marks : ℕ → Bool) (state : Doing) (names : ℕ → Bool) (place : ℕ → ℤ) → (own_after_act p o marks state names place).seat ≡ In state
unfolding own_after_act
acted_seat p o marks state names place = refl

seat_of_actor : (b : Board) (moves : List Move) (i : ℕ) (w : Here b moves i) (c : ℕ) → (c == w.p) ≡ true → ((mid w).own c).seat ≡ In (part_state w c)
seat_of_actor b moves i w c y = ap (λ (o : Own). o.seat) (at_actor b moves i w c y) ∙ acted_seat c (own_at b moves i c) (part_marks w c) (part_state w c) (touches w.step.action) (places_told w.step)

in_part : (b : Board) (moves : List Move) (i : ℕ) (w : Here b moves i) (c : ℕ) → (c == w.p) ≡ true → doing_in b moves i c ≡ part_state w c
in_part b moves i w c y =
    if_true (c == actor b moves i) ((part_at b moves i).state c) ((board_at b moves i).state c) (acts_here b moves i w c ∙ y) ∙ ap (λ (a : Board). a.state c) w.part

in_board : (b : Board) (moves : List Move) (i : ℕ) (w : Here b moves i) (c : ℕ) → (c == w.p) ≡ false → doing_in b moves i c ≡ (board_at b moves i).state c
in_board b moves i w c n = if_false (c == actor b moves i) ((part_at b moves i).state c) ((board_at b moves i).state c) (acts_here b moves i w c ∙ n)

holds_not_runs : (s : Doing) → holds (In s) ≡ true → boards.is_running s ≡ false
holds_not_runs (IsHolding hold line) on = refl
holds_not_runs s on = absurd (true≢false (sym on))

idle_not_runs : (s : Doing) → machine.is_idle (In s) ≡ true → boards.is_running s ≡ false
idle_not_runs IsIdle on = refl
idle_not_runs s on = absurd (true≢false (sym on))

-- who goes on does not run before
goer_rests : (b : Board) (moves : List Move) (i : ℕ) (w : Here b moves i) (c : ℕ) → goes_in b moves i c ≡ true → boards.is_running (doing_in b moves i c) ≡ false
goer_rests b moves i w c on =
    let waits : holds ((mid w).own c).seat ≡ true = ready_holds (mid w) c ((mid w).own c).seat (goer b moves i w c on).goes in
    elim (cases_Bool (c == w.p)) [
      | inl y ↦ ap boards.is_running (in_part b moves i w c y) ∙ holds_not_runs (part_state w c) (ap holds (sym (seat_of_actor b moves i w c y)) ∙ waits)
      | inr n ↦
          let e : Effect = effect (tracked b moves i) w.p w.step in
          ap boards.is_running (in_board b moves i w c n) ∙ elim (touched_seat e w.p c (own_at b moves i c)) [
            | inl s ↦ holds_not_runs ((board_at b moves i).state c) (ap holds (sym (ap (λ (o : Own). o.seat) (other_own b moves i w c n) ∙ s ∙ seat_at b moves i c)) ∙ waits)
            | inr s ↦ idle_not_runs ((board_at b moves i).state c) (ap machine.is_idle (sym (seat_at b moves i c)) ∙ s.0)
          ]
    ]

-- and who does not go on does after the step what it does within it
rest_kept : (b : Board) (moves : List Move) (i : ℕ) (w : Here b moves i) (c : ℕ) → goes_in b moves i c ≡ false → (board_at b moves (suc i)).state c ≡ doing_in b moves i c
rest_kept b moves i w c off = kept_told b moves i w c off ∙ elim (cases_Bool (c == w.p)) [
  | inl y ↦ ap (λ (s : Seat). doing_of (mid w) c s) (seat_of_actor b moves i w c y) ∙ sym (in_part b moves i w c y)
  | inr n ↦
      let e : Effect = effect (tracked b moves i) w.p w.step in
      elim (touched_seat e w.p c (own_at b moves i c)) [
        | inl s ↦ ap (λ (s : Seat). doing_of (mid w) c s) (ap (λ (o : Own). o.seat) (other_own b moves i w c n) ∙ s ∙ seat_at b moves i c) ∙ sym (in_board b moves i w c n)
        | inr s ↦
            let called : is_called ((mid w).own c).seat ≡ true = ap (λ (o : Own). is_called o.seat) (other_own b moves i w c n) ∙ ap is_called s.1 in
            no (ap (λ (gs : List Going). among (channels_in gs) c) (goings_told b moves i w) ∙ started_in (mid w) (starts w) c w.parts.called called) off
      ]
]

kinds_go : (b : Board) (moves : List Move) (i : ℕ) (w : Here b moves i) (c : ℕ) (xs : List EventId) → length xs ≡ (rows_in b moves i).past c c
    → Kinds xs (spans_in b moves i (spans_at b moves i c) c) (boards.is_running (doing_in b moves i c))
    → Kinds (xs ++ going_in b moves c i) (spans_at b moves (suc i) c) (boards.is_running ((board_at b moves (suc i)).state c))
kinds_go b moves i w c xs size k =
    let old : ℕ → Span = spans_in b moves i (spans_at b moves i c) c in
    let span : Span = span_of ((board_at b moves (suc i)).state c) (grants_at b moves (suc i) c) in
    let runs : Bool = boards.is_running ((board_at b moves (suc i)).state c) in
    elim (cases_Bool (goes_in b moves i c)) [
      | inl y ↦
          let one : going_in b moves c i ≡ event i c true ∷ [] = if_true (among (channels_in (goings_at b moves i)) c) (event i c true ∷ []) [] (goes b moves i c ∙ y) in
          let more = kinds_add xs old (boards.is_running (doing_in b moves i c)) (event i c true) span k (ap not (sym (goer_rests b moves i w c y))) in
          let spans : with_value_at (suc (length xs)) span old ≡ spans_at b moves (suc i) c =
          ap (λ (n : ℕ). with_value_at n span old) (ap suc size ∙ sym (count_go b moves i c y))
          ∙ sym (if_true (goes_in b moves i c) (with_value_at ((rows_at b moves (suc i)).past c c) span old) old y) in
          subst (λ (zs : List EventId). Kinds (xs ++ zs) (spans_at b moves (suc i) c) runs) (sym one) (subst (λ (f : ℕ → Span). Kinds (xs ++ event i c true ∷ []) f runs) spans more)
      | inr off ↦
          let none : going_in b moves c i ≡ [] = if_false (among (channels_in (goings_at b moves i)) c) (event i c true ∷ []) [] (goes b moves i c ∙ off) in
          let same : xs ++ going_in b moves c i ≡ xs = ap (λ (zs : List EventId). xs ++ zs) none ∙ append_none xs in
          let spans : spans_at b moves (suc i) c ≡ old = if_false (goes_in b moves i c) (with_value_at ((rows_at b moves (suc i)).past c c) span old) old off in
          subst (λ (zs : List EventId). Kinds zs (spans_at b moves (suc i) c) runs) (sym same)
          (subst (λ (f : ℕ → Span). Kinds xs f runs) (sym spans) (subst (λ (t : Bool). Kinds xs old t) (sym (ap boards.is_running (rest_kept b moves i w c off))) k))
    ]

-- so it is in each run
pub kinds_told : (b : Board) (moves : List Move) (c i : ℕ) → Fresh b → AreOfRunning b moves → i ≤ length moves → Kinds (events_upto b moves c i) (spans_at b moves i c) (boards.is_running ((board_at b moves i).state c))
kinds_told b moves c zero fresh run inside = record {
  now = ap (λ (a : Board). boards.is_running (a.state c)) (sym (board_zero moves b));
  kind = λ n e on. nothing n e on;
}
  where
    nothing : {P : Type 0} (n : ℕ) (e : EventId) → event_in [] n ≡ Some e → P
    nothing n e on = let bad : ⊥ = cc in absurd bad
kinds_told b moves c (suc i) fresh run inside =
    let w = here b moves i fresh run (omega (arith, inside)) in
    let s = step_at b moves i (omega (arith, inside)) run in
    let told = events_told b moves c i (omega (arith, inside)) in
    let runs : boards.is_running ((board_at b moves i).state (actor b moves i)) ≡ true = ap (λ (h : Happening). boards.is_running ((board_at b moves i).state h.channel)) s.happens ∙ s.runs in
    let act = kinds_act b moves i c (omega (arith, inside)) runs told.count (kinds_told b moves c i fresh run (omega (arith, inside))) in
    let size = (act_told b moves c i (omega (arith, inside)) told).count in
    let go = kinds_go b moves i w c (events_upto b moves c i ++ act_in moves c i) size act in
    subst (λ (zs : List EventId). Kinds zs (spans_at b moves (suc i) c) (boards.is_running ((board_at b moves (suc i)).state c))) (append_on (events_upto b moves c i) (act_in moves c i) (going_in b moves c i)) go
