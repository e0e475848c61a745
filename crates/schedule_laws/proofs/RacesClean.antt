-- A step without a race is clean.
use Rattle.std.proofs.Common.{◌≡◌, ℕ, suc, ◌≤◌, ◌<◌, ◌==◌, ◌&&◌, ◌||◌, not, Bool, true, false, List, length, inl, inr, refl, sym, ap, ap₂, subst, ◌∙◌, arith}
use Rattle.std.proofs.lemmas.Bool.{cases_Bool, eqb-true, eq-eqb, and_from, true≢false}
use Rattle.sync_types.specs.BoardActions.{after_own_part}
use Rattle.sync_types.specs.Boards.{State as Doing, IsHolding, OwnedBy, AtMarks, AtAxes, Board, among, owns}
use Rattle.sync_types.specs.GoingOn.{Going}
use Rattle.sync_types.specs.Turns.{Move}
use Rattle.sync_types.specs.declared.Step.{Step}
use Rattle.order_clocks.specs.Happenings.{Happening, board_at, happening_of, happening_at, line_in}
use Rattle.order_clocks.specs.RaceOrder.{letter_c, letter_d, letter_f}
use Rattle.order_clocks.specs.Races.{place_of}
use Rattle.order_clocks.specs.TracedRaces.{Trace, Lowered, Needed, Took, Touched, act_leaves, act_minds, StillWaits, Differ, StillAsks}
use Rattle.order_clocks.proofs.OrderLaws.{event_from}
use Rattle.board_laws.specs.Machine.{Mark, Axis, Seat, In, Own, State, Effect, asks, is_at, mine, ready, doing_of, board_of, touches, effect, own_after_act}
use Rattle.board_laws.specs.Clean.{SameSet, ActClean, IsClean, Inv}
use Rattle.board_laws.proofs.Basics.{no, ready_met, mark_at}
use Rattle.board_laws.proofs.Parts.{put_same, put_other, touched_kept}
use Rattle.board_laws.proofs.Actions.{act_is, owns_mine}
use Rattle.board_laws.proofs.Absorb.{stood}
use Rattle.board_laws.proofs.Shown.{eqb_turned, axis_getting}
use Rattle.board_laws.proofs.Takings.{IsOf, in_channels, asked}
use Rattle.board_laws.proofs.AtOnce.{taken_in, before_takings, went, takings_of, getting_stays, asked_gets, left_out}
use Rattle.board_laws.proofs.Goings.{taken_in_goings, from_of}
use Rattle.schedule_laws.specs.Tracked.{goes_in, last_place, own_at, tracked}
use Rattle.schedule_laws.proofs.Steps.{Here, mid, starts, found_in, seat_at, goings_told, after_told}
use Rattle.schedule_laws.proofs.Held.{HeldIn, kept_told}
use Rattle.schedule_laws.proofs.Mates.{Meets, goes_at}
use Rattle.schedule_laws.proofs.GoRows.{goer}
use Rattle.schedule_laws.proofs.Places.{event, NoRace, no_race_counts}
use Rattle.schedule_laws.proofs.Told.{marks_waited, axes_waited, touched_told, mark_state, axis_state, asks_mark_in, asks_axis_in, act_event, act_count, go_count, going_lowers, going_minds_need, waits_on}

-- what is so of a step without a race
pub record Quiet (b : Board) (moves : List Move) (i : ℕ) : Type 0 where
  pub here : Here b moves i
  pub held : HeldIn here
  pub inv : Inv (mid here)
  pub inside : i < length moves
  pub none : NoRace b moves i

pub lowered_at : (b : Board) (moves : List Move) (i d k : ℕ) → (own_at b moves i d).lowered k ≡ last_place b moves i d (Lowered d k)
unfolding own_at
lowered_at b moves i d k = refl

pub needs_at : (b : Board) (moves : List Move) (i c d k : ℕ) → (own_at b moves i c).needs d k ≡ last_place b moves i c (Needed d k)
unfolding own_at
needs_at b moves i c d k = refl

pub took_at : (b : Board) (moves : List Move) (i d x : ℕ) → (own_at b moves i d).took x ≡ last_place b moves i d (Took x)
unfolding own_at
took_at b moves i d x = refl

pub started_at : (b : Board) (moves : List Move) (i d y : ℕ) → (own_at b moves i d).started y ≡ last_place b moves i d (Touched y)
unfolding own_at
started_at b moves i d y = refl

pub effect_seat : (t : State) (p : ℕ) (step : Step) → (effect t p step).own.seat ≡ In ((after_own_part (board_of t) p step).state p)
unfolding effect own_after_act
effect_seat t p step = refl

pub effect_marks : (t : State) (p : ℕ) (step : Step) → (effect t p step).own.marks ≡ (after_own_part (board_of t) p step).marks p
unfolding effect own_after_act
effect_marks t p step = refl

-- what the act minds
pub act_minds_at : (b : Board) (moves : List Move) (i : ℕ) (w : Here b moves i) (t : Trace) → act_minds (happening_at b moves i) t ≡ act_minds (happening_of (board_of (tracked b moves i)) w.p w.step) t
act_minds_at b moves i w t = ap (λ (h : Happening). act_minds h t) w.happens

minds_lower : (b : Board) (moves : List Move) (i : ℕ) (w : Here b moves i) (k : ℕ) → (own_at b moves i w.p).marks k ≡ true → (effect (tracked b moves i) w.p w.step).own.marks k ≡ false
    → act_minds (happening_at b moves i) (Needed w.p k) ≡ true
minds_lower b moves i w k on off =
    act_minds_at b moves i w (Needed w.p k)
    ∙ and_from (w.p == w.p) ((own_at b moves i w.p).marks k && not ((after_own_part (board_of (tracked b moves i)) w.p w.step).marks w.p k)) (eq-eqb w.p w.p refl)
    (and_from ((own_at b moves i w.p).marks k) (not ((after_own_part (board_of (tracked b moves i)) w.p w.step).marks w.p k)) on (ap not (sym (ap (λ (f : ℕ → Bool). f k) (effect_marks (tracked b moves i) w.p w.step)) ∙ off)))

leaves_lower : (b : Board) (moves : List Move) (i : ℕ) (w : Here b moves i) (k : ℕ) → (own_at b moves i w.p).marks k ≡ true → (effect (tracked b moves i) w.p w.step).own.marks k ≡ false
    → act_leaves (happening_at b moves i) (Lowered w.p k) ≡ true
leaves_lower b moves i w k on off =
    ap (λ (h : Happening). act_leaves h (Lowered w.p k)) w.happens
    ∙ and_from (w.p == w.p) ((own_at b moves i w.p).marks k && not ((after_own_part (board_of (tracked b moves i)) w.p w.step).marks w.p k)) (eq-eqb w.p w.p refl)
    (and_from ((own_at b moves i w.p).marks k) (not ((after_own_part (board_of (tracked b moves i)) w.p w.step).marks w.p k)) on (ap not (sym (ap (λ (f : ℕ → Bool). f k) (effect_marks (tracked b moves i) w.p w.step)) ∙ off)))

-- what a channel does after the step
pub after_at : (b : Board) (moves : List Move) (i : ℕ) (w : Here b moves i) (c : ℕ) → (happening_at b moves i).after c ≡ (board_at b moves (suc i)).state c
after_at b moves i w c = ap (λ (h : Happening). h.after c) w.happens ∙ ap (λ (a : Board). a.state c) (sym w.after)

-- one that asks and does not go on still asks
still : (b : Board) (moves : List Move) (i : ℕ) (w : Here b moves i) (c : ℕ) (s : Doing) → ((mid w).own c).seat ≡ In s → goes_in b moves i c ≡ false → (happening_at b moves i).after c ≡ s
still b moves i w c s seat out = after_at b moves i w c ∙ kept_told b moves i w c out ∙ ap (λ (z : Seat). doing_of (mid w) c z) seat

pub unready_stays : (b : Board) (moves : List Move) (i : ℕ) (w : Here b moves i) (c : ℕ) → ready (mid w) c ≡ false → goes_in b moves i c ≡ false
unready_stays b moves i w c off = elim (cases_Bool (goes_in b moves i c)) [ inl on ↦ no (goer b moves i w c on).goes off | inr out ↦ out ]

-- the act
act_clean : (b : Board) (moves : List Move) (i : ℕ) (q : Quiet b moves i) → ActClean (tracked b moves i) q.here.p (touches q.here.step.action) (effect (tracked b moves i) q.here.p q.here.step)
act_clean b moves i q =
    let w = q.here in
    let e : Effect = effect (tracked b moves i) w.p w.step in
    let seat : e.own.seat ≡ In ((after_own_part (board_of (tracked b moves i)) w.p w.step).state w.p) = effect_seat (tracked b moves i) w.p w.step in
    let counts : (d : ℕ) (t : Trace) → (d == w.p) ≡ false → act_minds (happening_at b moves i) t ≡ true → last_place b moves i d t ≤ (own_at b moves i w.p).past d = λ d t n minds.
    let l = no_race_counts b moves i w.p d false t q.none q.inside (act_event b moves i w) n minds in
    let r = act_count b moves i w d n in
    omega (arith, l, r) in
    record {
      waiting = λ d k y n.
          let minds : act_minds (happening_at b moves i) (Lowered d k) ≡ true = act_minds_at b moves i w (Lowered d k) ∙ marks_waited ((after_own_part (board_of (tracked b moves i)) w.p w.step).state w.p) d k ∙ ap (λ (z : Seat). asks z (Mark d k)) (sym seat) ∙ y in
          let l = counts d (Lowered d k) n minds in
          let r = lowered_at b moves i d k in
          omega (arith, l, r);
      lowering = λ c k on off n. let l = counts c (Needed w.p k) n (minds_lower b moves i w k on off) in let r = needs_at b moves i c w.p k in omega (arith, l, r);
      unasked = λ c k on off n. elim (cases_Bool (asks (own_at b moves i c).seat (Mark w.p k))) [
        | inr out ↦ out
        | inl y ↦
            let z = mark_state ((board_at b moves i).state c) w.p k (ap (λ (s : Seat). asks s (Mark w.p k)) (sym (seat_at b moves i c)) ∙ y) in
            let seat_c : ((mid w).own c).seat ≡ In ((board_at b moves i).state c) = waits_on b moves i w c ((board_at b moves i).state c) (Mark w.p k) n (seat_at b moves i c) (ap (λ (s : Seat). asks s (Mark w.p k)) (sym (seat_at b moves i c)) ∙ y) in
            let down : ((mid w).own w.p).marks k ≡ false = ap (λ (o : Own). o.marks k) (put_same (tracked b moves i) w.p e) ∙ off in
            let asked_in : asks ((mid w).own c).seat (Mark w.p k) ≡ true = ap (λ (s : Seat). asks s (Mark w.p k)) (seat_c ∙ sym (seat_at b moves i c)) ∙ y in
            let out : goes_in b moves i c ≡ false = unready_stays b moves i w c (elim (cases_Bool (ready (mid w) c)) [
              | inr s ↦ s
              | inl r ↦ no (stood (mid w) c w.p k (ready_met (mid w) c ((mid w).own c).seat (Mark w.p k) r asked_in)) down
            ]) in
            let after : (happening_at b moves i).after c ≡ IsHolding (AtMarks k z.named) z.line = still b moves i w c ((board_at b moves i).state c) seat_c out ∙ z.state in
            absurd (q.none (record { case = letter_c; first = place_of b moves (event i w.p false); second = (c, z.line) })
            (StillWaits (event i w.p false) c k z.line z.named refl (event_from b moves (event i w.p false) q.inside (act_event b moves i w)) (leaves_lower b moves i w k on off) n after z.names refl))
      ];
      asking = λ d x y n.
          let minds : act_minds (happening_at b moves i) (Took x) ≡ true = act_minds_at b moves i w (Took x) ∙ axes_waited ((after_own_part (board_of (tracked b moves i)) w.p w.step).state w.p) x ∙ ap (λ (z : Seat). asks z (Axis x)) (sym seat) ∙ y in
          let l = counts d (Took x) n minds in
          let r = took_at b moves i d x in
          omega (arith, l, r);
      starting = λ d y m n.
          let minds : act_minds (happening_at b moves i) (Touched y) ≡ true = act_minds_at b moves i w (Touched y) ∙ touched_told w.step.action y ∙ m in
          let l = counts d (Touched y) n minds in
          let r = started_at b moves i d y in
          omega (arith, l, r);
    }

-- what goes on at marks
goes_named : (b : Board) (moves : List Move) (i : ℕ) (q : Quiet b moves i) (d c k : ℕ) → ready (mid q.here) d ≡ true → is_at ((mid q.here).own d).seat k ≡ true → (c == d) ≡ false → asks ((mid q.here).own c).seat (Mark d k) ≡ true → ready (mid q.here) c ≡ true
goes_named b moves i q d c k r at n y = elim (cases_Bool (ready (mid q.here) c)) [
  | inl on ↦ on
  | inr off ↦
      let w = q.here in
      let s = asks_mark_in (mid w) c d k y in
      let z = mark_state s.state d k s.asks in
      let there : goes_in b moves i d ≡ true = goes_at b moves i w d k r at in
      let after : (happening_at b moves i).after c ≡ IsHolding (AtMarks k z.named) z.line = still b moves i w c s.state s.seat (unready_stays b moves i w c off) ∙ z.state in
      absurd (q.none (record { case = letter_c; first = place_of b moves (event i d true); second = (c, z.line) })
      (StillWaits (event i d true) c k z.line z.named refl (event_from b moves (event i d true) q.inside there) (going_lowers b moves i w d k (goer b moves i w d there) ∙ at) n after z.names refl))
]

same_or : (a b : Bool) → ((a ≡ b → ⊥) → ⊥) → a ≡ b
same_or true true h = refl
same_or false false h = refl
same_or true false h = absurd (h (λ e. true≢false e))
same_or false true h = absurd (h (λ e. true≢false (sym e)))

-- the named of one at a number
record Named (t : State) (c k : ℕ) : Type 0 where
  pub named : List ℕ
  pub line : ℕ
  pub seat : (t.own c).seat ≡ In (IsHolding (AtMarks k named) line)
  pub names : (x : ℕ) → among named x ≡ asks (t.own c).seat (Mark x k)

named_at : (t : State) (c k : ℕ) → is_at (t.own c).seat k ≡ true → Named t c k
named_at t c k at = go (t.own c).seat refl at
  where
    go : (s : Seat) → (t.own c).seat ≡ s → is_at s k ≡ true → Named t c k
    go (In (IsHolding (AtMarks m named) line)) e at =
        let j : m ≡ k = eqb-true m k at in
        let seat : (t.own c).seat ≡ In (IsHolding (AtMarks k named) line) = e ∙ ap (λ (n : ℕ). In (IsHolding (AtMarks n named) line)) j in
        record {
          named = named;
          line = line;
          seat = seat;
          names = λ x. both k named line x ∙ ap (λ (z : Seat). asks z (Mark x k)) (sym seat);
        }
      where
        both : (k : ℕ) (named : List ℕ) (line x : ℕ) → among named x ≡ asks (In (IsHolding (AtMarks k named) line)) (Mark x k)
        both k named line x = sym (left (k == k) (among named x) (eq-eqb k k refl)) ∙ marks_waited (IsHolding (AtMarks k named) line) x k
          where
            left : (a b : Bool) → a ≡ true → (a && b) ≡ b
            left true b on = refl
            left false b on = no refl (sym on)
    go s e at = absurd (true≢false (sym at))

set_named : (b : Board) (moves : List Move) (i : ℕ) (q : Quiet b moves i) (d c k : ℕ) → ready (mid q.here) d ≡ true → is_at ((mid q.here).own d).seat k ≡ true → (c == d) ≡ false → asks ((mid q.here).own c).seat (Mark d k) ≡ true
    → SameSet c ((mid q.here).own c).seat d ((mid q.here).own d).seat k
set_named b moves i q d c k r at n y x =
    let w = q.here in
    let at_c = mark_at ((mid w).own c).seat d k y in
    let gc = goer b moves i w c (goes_at b moves i w c k (goes_named b moves i q d c k r at n y) at_c) in
    let gd = goer b moves i w d (goes_at b moves i w d k r at) in
    let fc = found_in (happening_at b moves i).goings c gc.going gc.found in
    let fd = found_in (happening_at b moves i).goings d gd.going gd.found in
    let nc = named_at (mid w) c k at_c in
    let nd = named_at (mid w) d k at in
    let from_c : gc.going.from ≡ IsHolding (AtMarks k nc.named) nc.line = gc.from ∙ ap (λ (s : Seat). from_of s) nc.seat in
    let from_d : gd.going.from ≡ IsHolding (AtMarks k nd.named) nd.line = gd.from ∙ ap (λ (s : Seat). from_of s) nd.seat in
    let names : among nc.named gd.going.channel ≡ true = ap (among nc.named) gd.channel ∙ nc.names d ∙ y in
    let left : ((x == gc.going.channel) || among nc.named x) ≡ ((x == c) || asks ((mid w).own c).seat (Mark x k)) = ap₂ (λ (a b : Bool). a || b) (ap (λ (z : ℕ). x == z) gc.channel) (nc.names x) in
    let right : ((x == gd.going.channel) || among nd.named x) ≡ ((x == d) || asks ((mid w).own d).seat (Mark x k)) = ap₂ (λ (a b : Bool). a || b) (ap (λ (z : ℕ). x == z) gd.channel) (nd.names x) in
    same_or ((x == c) || asks ((mid w).own c).seat (Mark x k)) ((x == d) || asks ((mid w).own d).seat (Mark x k)) (λ differ.
    q.none (record { case = letter_d; first = (gd.going.channel, nd.line); second = (gc.going.channel, nc.line) })
    (Differ gc.going gd.going k nc.line nd.line x nc.named nd.named fc.0 fd.0 from_c from_d names (λ e. differ (sym left ∙ e ∙ right)) refl))

meets_quiet : (b : Board) (moves : List Move) (i : ℕ) (q : Quiet b moves i) → Meets (mid q.here)
meets_quiet b moves i q = record { goes = goes_named b moves i q; set = set_named b moves i q }

pub needs_mid : (b : Board) (moves : List Move) (i : ℕ) (w : Here b moves i) (c d k : ℕ) → ((mid w).own c).needs d k ≡ (own_at b moves i c).needs d k
needs_mid b moves i w c d k = elim (cases_Bool (c == w.p)) [
  | inl y ↦
      let s : c ≡ w.p = eqb-true c w.p y in
      ap (λ (z : ℕ). ((mid w).own z).needs d k) s ∙ ap (λ (o : Own). o.needs d k) (put_same (tracked b moves i) w.p (effect (tracked b moves i) w.p w.step)) ∙ (act_is (tracked b moves i) w.p w.step).needs d k ∙ ap (λ (z : ℕ). (own_at b moves i z).needs d k) (sym s)
  | inr n ↦
      ap (λ (o : Own). o.needs d k) (put_other (tracked b moves i) w.p (effect (tracked b moves i) w.p w.step) c n)
      ∙ ap (λ (f : ℕ → ℕ → ℕ). f d k) (touched_kept (effect (tracked b moves i) w.p w.step) w.p c (own_at b moves i c)).needs
]

-- who asks for axes and did not take them still asks
record StillAsking (b : Board) (moves : List Move) (i d x : ℕ) : Type 0 where
  pub from_standing : Bool
  pub axes : List ℕ
  pub line : ℕ
  pub holds : (happening_at b moves i).after d ≡ IsHolding (AtAxes from_standing axes) line
  pub names : among axes x ≡ true

asking_stays : (b : Board) (moves : List Move) (i : ℕ) (w : Here b moves i) (d x : ℕ) → asks ((mid w).own d).seat (Axis x) ≡ true → went (mid w) d ≡ false → StillAsking b moves i d x
asking_stays b moves i w d x y out =
    let get = axis_getting ((mid w).own d).seat x y in
    let s = asks_axis_in (mid w) d x y in
    let z = axis_state s.state x s.asks in
    let f : (board_at b moves (suc i)).state d ≡ doing_of (mid w) d ((mid w).own d).seat = ap (λ (a : Board). a.state d) (after_told b moves i w) ∙ (takings_of (mid w) w.parts.orderly).kept d out ∙ getting_stays (mid w) d get in
    record { from_standing = z.from_standing; axes = z.axes; line = z.line; holds = after_at b moves i w d ∙ f ∙ ap (λ (v : Seat). doing_of (mid w) d v) s.seat ∙ z.state; names = z.names }

-- one that took is among those that go on
took_there : (b : Board) (moves : List Move) (i : ℕ) (w : Here b moves i) (g : Going) → IsOf g (taken_in (mid w)).goings → IsOf g (happening_at b moves i).goings
took_there b moves i w g on = subst (λ (gs : List Going). IsOf g gs) (sym (goings_told b moves i w)) (taken_in_goings (mid w) (starts w) g on)

still_asks : (b : Board) (moves : List Move) (i : ℕ) (q : Quiet b moves i) (g : Going) (d x : ℕ) → IsOf g (taken_in (mid q.here)).goings → among g.took x ≡ true → (d == g.channel) ≡ false → asks ((mid q.here).own d).seat (Axis x) ≡ true → went (mid q.here) d ≡ false → ⊥
still_asks b moves i q g d x on took other y out =
    let z = asking_stays b moves i q.here d x y out in
    q.none (record { case = letter_f; first = (g.channel, line_in g.from); second = (d, z.line) })
    (StillAsks g d x z.line z.from_standing z.axes (took_there b moves i q.here g on) took other z.holds z.names refl)

axes_quiet : (b : Board) (moves : List Move) (i : ℕ) (q : Quiet b moves i) (c d x : ℕ) → ready (mid q.here) c ≡ true → asks ((mid q.here).own c).seat (Axis x) ≡ true → mine (mid q.here) c x ≡ false → (d == c) ≡ false → asks ((mid q.here).own d).seat (Axis x) ≡ false
axes_quiet b moves i q c d x r y off n = elim (cases_Bool (asks ((mid q.here).own d).seat (Axis x))) [
  | inr out ↦ out
  | inl on ↦
      let w = q.here in
      let t : State = mid w in
      let all = takings_of t w.parts.orderly in
      let get_c = axis_getting (t.own c).seat x y in
      let get_d = axis_getting (t.own d).seat x on in
      elim (cases_Bool (went t c)) [
        | inl gone ↦
            let g = in_channels (taken_in t).goings c gone in
            let g_asks : asked (before_takings t) g.0.channel x ≡ true = ap (λ (z : ℕ). asked (before_takings t) z x) g.1.1 ∙ asked_gets t c x get_c ∙ y in
            let not_own : not (owns (before_takings t) g.0.channel x) ≡ true = ap not (owns_mine t g.0.channel x ∙ ap (λ (z : ℕ). mine t z x) g.1.1 ∙ off) in
            let took : among g.0.took x ≡ true = (all.each g.0 g.1.0).took x ∙ and_from (asked (before_takings t) g.0.channel x) (not (owns (before_takings t) g.0.channel x)) g_asks not_own in
            let owned : (taken_in t).board.axis x ≡ OwnedBy g.0.channel = (all.each g.0 g.1.0).has x g_asks in
            let other : (d == g.0.channel) ≡ false = ap (λ (z : ℕ). d == z) g.1.1 ∙ n in
            let out : went t d ≡ false = elim (cases_Bool (went t d)) [
              | inr no_d ↦ no_d
              | inl gone_d ↦
                  let h = in_channels (taken_in t).goings d gone_d in
                  let owned_d : (taken_in t).board.axis x ≡ OwnedBy h.0.channel = (all.each h.0 h.1.0).has x (ap (λ (z : ℕ). asked (before_takings t) z x) h.1.1 ∙ asked_gets t d x get_d ∙ on) in
                  no (eq-eqb d g.0.channel (sym h.1.1 ∙ one_owner h.0.channel g.0.channel (sym owned_d ∙ owned))) other
            ] in
            absurd (still_asks b moves i q g.0 d x g.1.0 took other on out)
        | inr stays ↦
            let z = left_out t c w.parts.orderly w.parts.over r get_c stays in
            absurd (still_asks b moves i q z.going c z.axis z.took z.taken (eqb_turned c z.going.channel ∙ z.other) z.asks stays)
      ]
]
  where
    one_owner : (c d : ℕ) → OwnedBy c ≡ OwnedBy d → c ≡ d
    one_owner c d e = cc

-- a step without a race is clean
pub quiet_clean : (b : Board) (moves : List Move) (i : ℕ) (q : Quiet b moves i) → IsClean (tracked b moves i) q.here.p q.here.step
quiet_clean b moves i q = record {
  act = act_clean b moves i q;
  going = record {
    marks = λ d c k r at n. record {
      goes = goes_named b moves i q d c k r at n;
      set = set_named b moves i q d c k r at n;
      needed =
          let w = q.here in
          let there : goes_in b moves i d ≡ true = goes_at b moves i w d k r at in
          let l = no_race_counts b moves i d c true (Needed d k) q.none q.inside there n (going_minds_need b moves i w d k (goer b moves i w d there) ∙ at) in
          let row = go_count b moves i w q.held d c (meets_quiet b moves i q) q.inv there in
          let e = needs_mid b moves i w c d k in
          let f = needs_at b moves i c d k in
          omega (arith, l, row, e, f);
    };
    axes = axes_quiet b moves i q;
  };
}
