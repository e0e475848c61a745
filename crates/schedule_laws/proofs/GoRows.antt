-- The counters of what goes on are the clocks of the machine, where what goes on at marks is clean.
use Rattle.std.proofs.Common.{◌≡◌, ℕ, suc, ◌≤◌, ◌⊎◌, ◌==◌, ◌&&◌, ◌||◌, not, Bool, true, false, List, [], ◌∷◌, Option, Some, inl, inr, refl, sym, ap, subst, ◌∙◌, arith, if◌then◌else◌}
use Rattle.std.proofs.lemmas.Bool.{cases_Bool, eqb-true, eq-eqb, and_parts, and_from, or_cases, or_left, or_right, true≢false}
use Rattle.sync_types.proofs.BoardTests.{among_kept}
use Rattle.sync_types.specs.Boards.{State as Doing, IsIdle, IsRunning, IsHolding, HasEnded, HasAlarmed, AtMarks, AtEnds, AtAxes, Board, among}
use Rattle.sync_types.specs.GoingOn.{Going}
use Rattle.sync_types.specs.Turns.{Move}
use Rattle.order_clocks.specs.Chains.{IsIn}
use Rattle.order_clocks.specs.Counters.{own_row, go_row, members}
use Rattle.order_clocks.specs.CourseOf.{course_of}
use Rattle.order_clocks.specs.Happenings.{Key, Raised, Freed, Started, Ended, happening_at, going_of, rests_in, rests_on}
use Rattle.order_clocks.proofs.CounterLaws.{is_in, contains_from, member, member_parts, go_elsewhere, top_above}
use Rattle.order_clocks.proofs.MemberLaws.{in_map, map_in}
use Rattle.board_laws.specs.Machine.{Need, Mark, End, Axis, Call, Seat, In, Called, Own, State, Effect, same, holds, asks, is_at, is_ended, mine, is_met, ready_at, ready, heard, go_clock, axes_taken, own_after_call, settle_own, effect}
use Rattle.board_laws.specs.Clean.{Inv}
use Rattle.board_laws.proofs.Basics.{no, same_true, asks_holds, off_from, ready_met, ready_holds, mark_at, at_needs, clock_own, clock_under, clock_past, clock_heard, heard_mark, heard_partner, heard_axis, heard_own_axis, heard_end, heard_call, heard_under, called_self}
use Rattle.board_laws.proofs.Parts.{settle_goes, gone_count, put_same, put_other, touched_seat}
use Rattle.board_laws.proofs.Invariants.{go_clock_bound}
use Rattle.board_laws.proofs.Actions.{act_is}
use Rattle.board_laws.proofs.Absorb.{called_only}
use Rattle.board_laws.proofs.Shown.{eqb_turned, is_called}
use Rattle.board_laws.proofs.Goings.{from_of}
use Rattle.schedule_laws.specs.Tracked.{rows_at, rows_in, goes_in, own_at, tracked}
use Rattle.schedule_laws.proofs.Within.{top, rows_within, opened_within, own_past, own_last, own_under, own_within, go_self, top_under}
use Rattle.schedule_laws.proofs.Steps.{Here, mid, starts, went_told, going_there, found_in}
use Rattle.schedule_laws.proofs.Opened.{past_in, count_in, raised_in, freed_in, started_in}
use Rattle.schedule_laws.proofs.Held.{HeldIn}
use Rattle.schedule_laws.proofs.Mates.{Meets, Mates, Joined, joined_from, goes_at, labels_to}

-- what a need stands for in the counters
abbrev pub value : State → ℕ → ℕ → Need → ℕ
value t c x (Mark d k) = (t.own d).raised k x
value t c x (End d) = (t.own d).past x
value t c x (Axis a) = if mine t c a then 0 else (t.axis a).freed x
value t c x (Call p) = (t.own p).past x

-- only the actor calls
calls_actor : (b : Board) (moves : List Move) (i : ℕ) (w : Here b moves i) (c r : ℕ) → asks ((mid w).own c).seat (Call r) ≡ true → r ≡ w.p
calls_actor b moves i w c r on = elim (cases_Bool (c == w.p)) [
  | inl y ↦ no on (ap (λ (z : ℕ). asks ((mid w).own z).seat (Call r)) (eqb-true c w.p y) ∙ ap (λ (o : Own). asks o.seat (Call r)) (put_same (tracked b moves i) w.p (effect (tracked b moves i) w.p w.step))
      ∙ (act_is (tracked b moves i) w.p w.step).uncalled r)
  | inr n ↦
      let e : Effect = effect (tracked b moves i) w.p w.step in
      let on' : asks (own_after_call e w.p c (own_at b moves i c)).seat (Call r) ≡ true = ap (λ (o : Own). asks o.seat (Call r)) (sym (put_other (tracked b moves i) w.p e c n)) ∙ on in
      elim (touched_seat e w.p c (own_at b moves i c)) [
        | inl s ↦ no (ap (λ (z : Seat). asks z (Call r)) (sym s) ∙ on') (w.uncalled c r)
        | inr s ↦ called_only w.p r (ap (λ (z : Seat). asks z (Call r)) (sym s.1) ∙ on')
      ]
]

ended_met : (t : State) (c d : ℕ) → is_met t c (End d) ≡ true → is_ended (t.own d).seat ≡ true
unfolding is_met
ended_met t c d m = m

asks_mark : (k : ℕ) (named : List ℕ) (line d : ℕ) → IsIn d named → asks (In (IsHolding (AtMarks k named) line)) (Mark d k) ≡ true
unfolding asks
asks_mark k [] line d on = absurd on
asks_mark k (x ∷ xs) line d on = elim on [
  | inl here ↦ or_left ((d == x) && (k == k)) _ (and_from (d == x) (k == k) (eq-eqb d x here) (eq-eqb k k refl))
  | inr later ↦ or_right ((d == x) && (k == k)) _ (asks_mark k xs line d later)
]

asks_end : (named : List ℕ) (line d : ℕ) → IsIn d named → asks (In (IsHolding (AtEnds named) line)) (End d) ≡ true
unfolding asks
asks_end [] line d on = absurd on
asks_end (x ∷ xs) line d on = elim on [
  | inl here ↦ or_left (d == x) _ (eq-eqb d x here)
  | inr later ↦ or_right (d == x) _ (asks_end xs line d later)
]

not_ready : (t : State) (c : ℕ) (s : Doing) → holds (In s) ≡ false → ready_at t c (In s) ≡ false
not_ready t c s off = elim (cases_Bool (ready_at t c (In s))) [ inl r ↦ no (ready_holds t c (In s) r) off | inr n ↦ n ]

asks_nothing : (s : Doing) (m : Need) → holds (In s) ≡ false → asks (In s) m ≡ false
asks_nothing s m off = elim (cases_Bool (asks (In s) m)) [ inl y ↦ no (asks_holds (In s) m y) off | inr n ↦ n ]

named_mark : (j : ℕ) (named : List ℕ) (line : ℕ) (m : Need) → asks (In (IsHolding (AtMarks j named) line)) m ≡ true → (d : ℕ) × (IsIn d named × (m ≡ Mark d j))
unfolding asks
named_mark j [] line m on = absurd (true≢false (sym on))
named_mark j (x ∷ xs) line m on = elim (or_cases (same m (Mark x j)) _ on) [
  | inl here ↦ (x, (inl refl, same_true m (Mark x j) here))
  | inr later ↦ let r = named_mark j xs line m later in (r.0, (inr r.1.0, r.1.1))
]

named_end : (named : List ℕ) (line : ℕ) (m : Need) → asks (In (IsHolding (AtEnds named) line)) m ≡ true → (d : ℕ) × (IsIn d named × (m ≡ End d))
unfolding asks
named_end [] line m on = absurd (true≢false (sym on))
named_end (x ∷ xs) line m on = elim (or_cases (same m (End x)) _ on) [
  | inl here ↦ (x, (inl refl, same_true m (End x) here))
  | inr later ↦ let r = named_end xs line m later in (r.0, (inr r.1.0, r.1.1))
]

named_axis : (from_standing : Bool) (axes : List ℕ) (line : ℕ) (m : Need) → asks (In (IsHolding (AtAxes from_standing axes) line)) m ≡ true → (x : ℕ) × (m ≡ Axis x)
unfolding asks
named_axis from_standing [] line m on = absurd (true≢false (sym on))
named_axis from_standing (x ∷ xs) line m on = elim (or_cases (same m (Axis x)) _ on) [
  | inl here ↦ (x, same_true m (Axis x) here)
  | inr later ↦ named_axis from_standing xs line m later
]

called_need : (p : ℕ) (m : Need) → asks (Called p) m ≡ true → m ≡ Call p
unfolding asks
called_need p m on = elim (or_cases (same m (Call p)) false on) [ inl here ↦ same_true m (Call p) here | inr never ↦ absurd (true≢false (sym never)) ]

taking_from : (t : State) (c : ℕ) (s : Seat) (x : ℕ) → asks s (Axis x) ≡ true → mine t c x ≡ false → axes_taken t c s x ≡ true
unfolding axes_taken
taking_from t c s x on off = rw (on, off) refl

-- a channel that goes on, and its keys
pub record Goer {b : Board} {moves : List Move} {i : ℕ} (w : Here b moves i) (c : ℕ) : Type 0 where
  pub going : Going
  pub found : going_of (happening_at b moves i).goings c ≡ Some going
  pub channel : going.channel ≡ c
  pub from : going.from ≡ from_of ((mid w).own c).seat
  pub took : (x : ℕ) → among going.took x ≡ axes_taken (mid w) c ((mid w).own c).seat x
  pub goes : ready (mid w) c ≡ true

pub goer : (b : Board) (moves : List Move) (i : ℕ) (w : Here b moves i) (c : ℕ) → goes_in b moves i c ≡ true → Goer w c
goer b moves i w c on =
    let g = going_there (happening_at b moves i).goings c on in
    let f = found_in (happening_at b moves i).goings c g.0 g.1 in
    let z = went_told b moves i w g.0 f.0 in
    record {
      going = g.0;
      found = g.1;
      channel = f.1;
      from = z.from ∙ ap (λ (d : ℕ). from_of ((mid w).own d).seat) f.1;
      took = λ x. z.took x ∙ ap (λ (d : ℕ). axes_taken (mid w) d ((mid w).own d).seat x) f.1;
      goes = ap (λ (d : ℕ). ready (mid w) d) (sym f.1) ∙ z.goes;
    }

pub taking_parts : (t : State) (c : ℕ) (s : Seat) (x : ℕ) → axes_taken t c s x ≡ true → (asks s (Axis x) ≡ true) × (mine t c x ≡ false)
unfolding axes_taken
taking_parts t c s x on = let p = and_parts (asks s (Axis x)) (not (mine t c x)) on in (p.0, off_from (mine t c x) p.1)

-- each key on which it rests is a need, and has its value
key_value : (b : Board) (moves : List Move) (i : ℕ) (w : Here b moves i) (held : HeldIn w) (c : ℕ) (g : Goer w c) (s : Seat) → ((mid w).own c).seat ≡ s → (x : ℕ) (k : Key) → IsIn k (rests_in g.going (from_of s))
    → (n : Need) × ((asks s n ≡ true) × ((rows_in b moves i).last k x ≡ value (mid w) c x n))
key_value b moves i w held c g (In (IsHolding (AtMarks m named) line)) e x k on =
    let r = map_in (λ (d : ℕ). Raised d m) k named on in
    (Mark r.0 m, (asks_mark m named line r.0 r.1.0, ap (λ (z : Key). (rows_in b moves i).last z x) r.1.1 ∙ sym (raised_in b moves i w r.0 m x)))
key_value b moves i w held c g (In (IsHolding (AtEnds named) line)) e x k on =
    let r = map_in Ended k named on in
    let asked : asks (In (IsHolding (AtEnds named) line)) (End r.0) ≡ true = asks_end named line r.0 r.1.0 in
    let ended = ended_met (mid w) c r.0 (ready_met (mid w) c ((mid w).own c).seat (End r.0) g.goes (ap (λ (z : Seat). asks z (End r.0)) e ∙ asked)) in
    (End r.0, (asked, ap (λ (z : Key). (rows_in b moves i).last z x) r.1.1 ∙ held.ended r.0 x ended))
key_value b moves i w held c g (In (IsHolding (AtAxes from_standing axes) line)) e x k on =
    let r = map_in Freed k g.going.took on in
    let took : axes_taken (mid w) c ((mid w).own c).seat r.0 ≡ true = sym (g.took r.0) ∙ contains_from g.going.took r.0 r.1.0 in
    let p = taking_parts (mid w) c ((mid w).own c).seat r.0 took in
    (Axis r.0, (ap (λ (z : Seat). asks z (Axis r.0)) (sym e) ∙ p.0, ap (λ (z : Key). (rows_in b moves i).last z x) r.1.1 ∙ sym (freed_in b moves i w r.0 x) ∙ sym (ap (λ (t : Bool). if t then 0 else ((mid w).axis r.0).freed x) p.1)))
key_value b moves i w held c g (Called p) e x k on = elim on [
  | inr none ↦ absurd none
  | inl here ↦
      let called : asks ((mid w).own c).seat (Call p) ≡ true = ap (λ (z : Seat). asks z (Call p)) e ∙ called_self p in
      let s : p ≡ w.p = calls_actor b moves i w c p called in
      let start : among (starts w) c ≡ true = w.parts.called c ∙ ap (λ (z : Seat). is_called z) e in
      (Call p, (called_self p, ap (λ (z : Key). (rows_in b moves i).last z x) (here ∙ ap Started g.channel) ∙ sym (started_in b moves i w c x start) ∙ ap (λ (z : ℕ). ((mid w).own z).past x) (sym s)))
]
key_value b moves i w held c g (In IsIdle) e x k on = no (ap (λ (z : Seat). ready_at (mid w) c z) (sym e) ∙ g.goes) (not_ready (mid w) c IsIdle refl)
key_value b moves i w held c g (In (IsRunning grant)) e x k on = no (ap (λ (z : Seat). ready_at (mid w) c z) (sym e) ∙ g.goes) (not_ready (mid w) c (IsRunning grant) refl)
key_value b moves i w held c g (In (HasEnded line)) e x k on = no (ap (λ (z : Seat). ready_at (mid w) c z) (sym e) ∙ g.goes) (not_ready (mid w) c (HasEnded line) refl)
key_value b moves i w held c g (In (HasAlarmed code line)) e x k on = no (ap (λ (z : Seat). ready_at (mid w) c z) (sym e) ∙ g.goes) (not_ready (mid w) c (HasAlarmed code line) refl)

-- its own counter is under what bounds its past and all its needs
own_row_under : (b : Board) (moves : List Move) (i : ℕ) (w : Here b moves i) (held : HeldIn w) (c x n : ℕ) → goes_in b moves i c ≡ true → ((mid w).own c).past x ≤ n
    → ((m : Need) → asks ((mid w).own c).seat m ≡ true → value (mid w) c x m ≤ n) → own_row (course_of b moves) i (rows_in b moves i) c x ≤ n
own_row_under b moves i w held c x n on past each =
    let g = goer b moves i w c on in
    let p = past_in b moves i w c x in
    own_under (course_of b moves) i (rows_in b moves i) c x n (omega (arith, p, past)) (λ k key.
    let key' : IsIn k (rests_in g.going (from_of ((mid w).own c).seat)) = subst (λ (s : Doing). IsIn k (rests_in g.going s)) g.from (subst (λ (o : Option Going). IsIn k (rests_on o)) g.found key) in
    let v = key_value b moves i w held c g ((mid w).own c).seat refl x k key' in
    let u = each v.0 v.1.0 in
    let e = v.1.1 in
    omega (arith, u, e))

-- and over each of them
need_key : (b : Board) (moves : List Move) (i : ℕ) (w : Here b moves i) (held : HeldIn w) (c : ℕ) (g : Goer w c) (s : Seat) → ((mid w).own c).seat ≡ s → (x : ℕ) (m : Need) → asks s m ≡ true
    → (value (mid w) c x m ≡ 0) ⊎ ((k : Key) × (IsIn k (rests_in g.going (from_of s)) × ((rows_in b moves i).last k x ≡ value (mid w) c x m)))
need_key b moves i w held c g (In (IsHolding (AtMarks j named) line)) e x m on =
    let r = named_mark j named line m on in
    inr (Raised r.0 j, (in_map (λ (d : ℕ). Raised d j) r.0 named r.1.0, sym (raised_in b moves i w r.0 j x) ∙ ap (λ (z : Need). value (mid w) c x z) (sym r.1.1)))
need_key b moves i w held c g (In (IsHolding (AtEnds named) line)) e x m on =
    let r = named_end named line m on in
    let ended = ended_met (mid w) c r.0 (ready_met (mid w) c ((mid w).own c).seat (End r.0) g.goes (ap (λ (z : Seat). asks z (End r.0)) e ∙ asks_end named line r.0 r.1.0)) in
    inr (Ended r.0, (in_map Ended r.0 named r.1.0, held.ended r.0 x ended ∙ ap (λ (z : Need). value (mid w) c x z) (sym r.1.1)))
need_key b moves i w held c g (In (IsHolding (AtAxes from_standing axes) line)) e x m on =
    let r = named_axis from_standing axes line m on in
    elim (cases_Bool (mine (mid w) c r.0)) [
      | inl own ↦ inl (ap (λ (z : Need). value (mid w) c x z) r.1 ∙ ap (λ (t : Bool). if t then 0 else ((mid w).axis r.0).freed x) own)
      | inr off ↦
          let asked : asks ((mid w).own c).seat (Axis r.0) ≡ true = ap (λ (z : Seat). asks z (Axis r.0)) e ∙ subst (λ (z : Need). asks (In (IsHolding (AtAxes from_standing axes) line)) z ≡ true) r.1 on in
          let took : among g.going.took r.0 ≡ true = g.took r.0 ∙ taking_from (mid w) c ((mid w).own c).seat r.0 asked off in
          inr (Freed r.0, (in_map Freed r.0 g.going.took (is_in g.going.took r.0 took), sym (freed_in b moves i w r.0 x) ∙ sym (ap (λ (z : Need). value (mid w) c x z) r.1 ∙ ap (λ (t : Bool). if t then 0 else ((mid w).axis r.0).freed x) off)))
    ]
need_key b moves i w held c g (Called p) e x m on =
    let s : m ≡ Call p = called_need p m on in
    let called : asks ((mid w).own c).seat (Call p) ≡ true = ap (λ (z : Seat). asks z (Call p)) e ∙ called_self p in
    let q : p ≡ w.p = calls_actor b moves i w c p called in
    let start : among (starts w) c ≡ true = w.parts.called c ∙ ap (λ (z : Seat). is_called z) e in
    inr (Started g.going.channel, (inl refl, ap (λ (z : ℕ). (rows_in b moves i).last (Started z) x) g.channel ∙ sym (started_in b moves i w c x start) ∙ ap (λ (z : ℕ). ((mid w).own z).past x) (sym q) ∙ ap (λ (z : Need). value (mid w) c x z) (sym s)))
need_key b moves i w held c g (In IsIdle) e x m on = no on (asks_nothing IsIdle m refl)
need_key b moves i w held c g (In (IsRunning grant)) e x m on = no on (asks_nothing (IsRunning grant) m refl)
need_key b moves i w held c g (In (HasEnded line)) e x m on = no on (asks_nothing (HasEnded line) m refl)
need_key b moves i w held c g (In (HasAlarmed code line)) e x m on = no on (asks_nothing (HasAlarmed code line) m refl)

need_under : (b : Board) (moves : List Move) (i : ℕ) (w : Here b moves i) (held : HeldIn w) (c x : ℕ) (m : Need) → goes_in b moves i c ≡ true → asks ((mid w).own c).seat m ≡ true
    → value (mid w) c x m ≤ own_row (course_of b moves) i (rows_in b moves i) c x
need_under b moves i w held c x m on asked =
    let g = goer b moves i w c on in
    elim (need_key b moves i w held c g ((mid w).own c).seat refl x m asked) [
      | inl z ↦ omega (arith, z)
      | inr r ↦
          let key : IsIn r.0 (rests_on (going_of (happening_at b moves i).goings c)) = subst (λ (o : Option Going). IsIn r.0 (rests_on o)) (sym g.found) (subst (λ (s : Doing). IsIn r.0 (rests_in g.going s)) (sym g.from) r.1.0) in
          let l = own_last (course_of b moves) i (rows_in b moves i) c x r.0 key in
          let e = r.1.1 in
          omega (arith, l, e)
    ]

-- the members of the group of a channel
member_joined : (b : Board) (moves : List Move) (i : ℕ) (w : Here b moves i) (c m : ℕ) → Meets (mid w) → IsIn m (members (course_of b moves) i ((course_of b moves).group i c)) → (goes_in b moves i m ≡ true) × Joined (mid w) m c
member_joined b moves i w c m meets on =
    let p = member_parts (course_of b moves) i ((course_of b moves).group i c) m on in
    (p.0, joined_from b moves i w m c meets p.1)

joined_member : (b : Board) (moves : List Move) (i : ℕ) (w : Here b moves i) (c m : ℕ) → Mates (mid w) m c → among (members (course_of b moves) i ((course_of b moves).group i c)) m ≡ true
joined_member b moves i w c m mates =
    among_kept (λ d. (course_of b moves).group i d == (course_of b moves).group i c) ((course_of b moves).goers i) m
    ∙ and_from (goes_in b moves i m) ((course_of b moves).group i m == (course_of b moves).group i c) (goes_at b moves i w m mates.number mates.c_goes mates.at_c)
    (eq-eqb ((course_of b moves).group i m) ((course_of b moves).group i c) (labels_to b moves i w m c mates))

-- what a need gives is heard
value_heard : (t : State) (c x : ℕ) (m : Need) → ((k : ℕ) → is_at (t.own c).seat k ≡ true → (t.own c).raised k x ≡ (t.own c).past x) → (x == c) ≡ false → asks (t.own c).seat m ≡ true → value t c x m ≤ go_clock t c x
value_heard t c x (Mark d k) own n on = elim (cases_Bool (d == c)) [
  | inl y ↦
      let e : (t.own d).raised k x ≡ (t.own c).past x = ap (λ (z : ℕ). (t.own z).raised k x) (eqb-true d c y) ∙ own k (mark_at (t.own c).seat d k on) in
      let l = clock_past t c x (t.own c) n in
      omega (arith, e, l)
  | inr off ↦
      let l = heard_mark t c x d k off in
      let u = clock_heard t c x (t.own c) (Mark d k) n on in
      omega (arith, l, u)
]
value_heard t c x (End d) own n on = let e = heard_end t c x d in let u = clock_heard t c x (t.own c) (End d) n on in omega (arith, e, u)
value_heard t c x (Axis a) own n on = elim (cases_Bool (mine t c a)) [
  | inl y ↦ rw y (omega arith)
  | inr off ↦ let e = heard_axis t c x a off in let u = clock_heard t c x (t.own c) (Axis a) n on in rw off (omega (arith, e, u))
]
value_heard t c x (Call p) own n on = let e = heard_call t c x p in let u = clock_heard t c x (t.own c) (Call p) n on in omega (arith, e, u)

-- a member counts no more than the clock
member_under : (b : Board) (moves : List Move) (i : ℕ) (w : Here b moves i) (held : HeldIn w) (c x m : ℕ) → Meets (mid w) → goes_in b moves i c ≡ true → (x == c) ≡ false → goes_in b moves i m ≡ true → Joined (mid w) m c
    → own_row (course_of b moves) i (rows_in b moves i) m x ≤ go_clock (mid w) c x
member_under b moves i w held c x m meets on n goes (inl s) =
    subst (λ (z : ℕ). own_row (course_of b moves) i (rows_in b moves i) z x ≤ go_clock (mid w) c x) (sym s)
    (own_row_under b moves i w held c x (go_clock (mid w) c x) on (clock_past (mid w) c x ((mid w).own c) n) (λ v asked. value_heard (mid w) c x v (λ k at. held.raised c k x at) n asked))
member_under b moves i w held c x m meets on n goes (inr mates) =
    let k : ℕ = mates.number in
    let t : State = mid w in
    let heard_m : (t.own m).raised k x ≤ go_clock t c x = let l = heard_mark t c x m k mates.other in let u = clock_heard t c x (t.own c) (Mark m k) n mates.d_names in omega (arith, l, u) in
    let past_m = held.raised m k x mates.at_c in
    let set = meets.set m c k mates.c_goes mates.at_c (eqb_turned c m ∙ mates.other) mates.d_names in
    own_row_under b moves i w held m x (go_clock t c x) goes (omega (arith, heard_m, past_m)) (λ v asked.
    let z = at_needs (t.own m).seat k v mates.at_c asked in
    let asked' : asks (t.own m).seat (Mark z.0 k) ≡ true = subst (λ (y : Need). asks (t.own m).seat y ≡ true) z.1 asked in
    let small : (t.own z.0).raised k x ≤ go_clock t c x = elim (cases_Bool (z.0 == c)) [
      | inl y ↦
          let e : (t.own z.0).raised k x ≡ (t.own c).past x = ap (λ (q : ℕ). (t.own q).raised k x) (eqb-true z.0 c y) ∙ held.raised c k x mates.at_d in
          let l = clock_past t c x (t.own c) n in
          omega (arith, e, l)
      | inr off ↦
          let names : asks (t.own c).seat (Mark z.0 k) ≡ true = second (z.0 == c) (asks (t.own c).seat (Mark z.0 k)) off (set z.0 ∙ or_right (z.0 == m) (asks (t.own m).seat (Mark z.0 k)) asked') in
          let l = heard_mark t c x z.0 k off in
          let u = clock_heard t c x (t.own c) (Mark z.0 k) n names in
          omega (arith, l, u)
    ] in
    subst (λ (y : Need). value t m x y ≤ go_clock t c x) (sym z.1) small)
  where
    second : (a b : Bool) → a ≡ false → (a || b) ≡ true → b ≡ true
    second true b off yes_it = no refl off
    second false b off yes_it = yes_it

abbrev all_of : (b : Board) (moves : List Move) (i c : ℕ) → List ℕ
all_of b moves i c = members (course_of b moves) i ((course_of b moves).group i c)

abbrev top_of : (b : Board) (moves : List Move) (i c x : ℕ) → ℕ
top_of b moves i c x = top (λ m. own_row (course_of b moves) i (rows_in b moves i) m x) (all_of b moves i c)

-- and the clock no more than the members
clock_least : (b : Board) (moves : List Move) (i : ℕ) (w : Here b moves i) (held : HeldIn w) (c x : ℕ) → goes_in b moves i c ≡ true → ready (mid w) c ≡ true → (x == c) ≡ false → among (all_of b moves i c) x ≡ false
    → go_clock (mid w) c x ≤ top_of b moves i c x
clock_least b moves i w held c x on r n out =
    let t : State = mid w in
    let mine_in = top_above (λ m. own_row (course_of b moves) i (rows_in b moves i) m x) (all_of b moves i c) c (member (course_of b moves) i c on) in
    let past = own_past (course_of b moves) i (rows_in b moves i) c x in
    let past' = past_in b moves i w c x in
    clock_under t c x (t.own c) (top_of b moves i c x) n (omega (arith, mine_in, past, past')) (λ m asked. each m asked (need_under b moves i w held c x m on asked) mine_in)
  where
    each : (m : Need) → asks ((mid w).own c).seat m ≡ true → value (mid w) c x m ≤ own_row (course_of b moves) i (rows_in b moves i) c x → own_row (course_of b moves) i (rows_in b moves i) c x ≤ top_of b moves i c x → heard (mid w) c x m ≤ top_of b moves i c x
    each (Mark d k) asked l u = heard_under (mid w) c x d k (top_of b moves i c x) (λ off. omega (arith, l, u)) (λ off same rd back.
        let s : x ≡ d = eqb-true x d same in
        let mates : Mates (mid w) d c = record {
          number = k;
          at_c = mark_at ((mid w).own d).seat c k back;
          at_d = mark_at ((mid w).own c).seat d k asked;
          c_names = back;
          d_names = asked;
          c_goes = rd;
          d_goes = r;
          other = off;
        } in
        no (ap (λ (z : ℕ). among (all_of b moves i c) z) s ∙ joined_member b moves i w c d mates) out)
    each (End d) asked l u = let e = heard_end (mid w) c x d in omega (arith, e, l, u)
    each (Axis a) asked l u = elim (cases_Bool (mine (mid w) c a)) [
      | inl y ↦ let e = heard_own_axis (mid w) c x a y in omega (arith, e)
      | inr off ↦
          let e = heard_axis (mid w) c x a off in
          let v : value (mid w) c x (Axis a) ≡ ((mid w).axis a).freed x = ap (λ (z : Bool). if z then 0 else ((mid w).axis a).freed x) off in
          omega (arith, e, v, l, u)
    ]
    each (Call p) asked l u = let e = heard_call (mid w) c x p in omega (arith, e, l, u)

same_from : (a b : ℕ) → a ≤ b → b ≤ a → a ≡ b
same_from a b l u = omega (arith, l, u)

-- the counters of a going on are its clock
pub go_told : (b : Board) (moves : List Move) (i : ℕ) (w : Here b moves i) (held : HeldIn w) (c x : ℕ) → Meets (mid w) → Inv (mid w) → goes_in b moves i c ≡ true
    → go_row (course_of b moves) i (rows_in b moves i) ((course_of b moves).group i c) x ≡ go_clock (mid w) c x
go_told b moves i w held c x meets inv on =
    let g = goer b moves i w c on in
    elim (cases_Bool (among (all_of b moves i c) x)) [
      | inr out ↦
          let n : (x == c) ≡ false = elim (cases_Bool (x == c)) [
            | inr off ↦ off
            | inl y ↦ no (ap (λ (z : ℕ). among (all_of b moves i c) z) (eqb-true x c y) ∙ contains_from (all_of b moves i c) c (member (course_of b moves) i c on)) out
          ] in
          go_elsewhere (course_of b moves) i (rows_in b moves i) ((course_of b moves).group i c) x out
          ∙ same_from (top_of b moves i c x) (go_clock (mid w) c x)
          (top_under (λ m. own_row (course_of b moves) i (rows_in b moves i) m x) (all_of b moves i c) (go_clock (mid w) c x)
          (λ m in_it. let j = member_joined b moves i w c m meets in_it in member_under b moves i w held c x m meets on n j.0 j.1))
          (clock_least b moves i w held c x on g.goes n out)
      | inl in_it ↦
          let j = member_joined b moves i w c x meets (is_in (all_of b moves i c) x in_it) in
          let up = top_under (λ m. own_row (course_of b moves) i (rows_in b moves i) m x) (all_of b moves i c) ((rows_in b moves i).past x x)
          (λ m on_m. own_within (course_of b moves) i (rows_in b moves i) m x (opened_within (course_of b moves) i (rows_at b moves i) (rows_within (course_of b moves) i))) in
          let low = top_above (λ m. own_row (course_of b moves) i (rows_in b moves i) m x) (all_of b moves i c) x (is_in (all_of b moves i c) x in_it) in
          let past = own_past (course_of b moves) i (rows_in b moves i) x x in
          let count = count_in b moves i w x in
          let row = go_self (course_of b moves) i (rows_in b moves i) ((course_of b moves).group i c) x in_it in
          let clock : go_clock (mid w) c x ≡ suc ((mid w).own x).count = member_clock j.1 g.goes (goer b moves i w x j.0).goes in
          omega (arith, up, low, past, count, row, clock)
    ]
  where
    member_clock : Joined (mid w) x c → ready (mid w) c ≡ true → ready (mid w) x ≡ true → go_clock (mid w) c x ≡ suc ((mid w).own x).count
    member_clock (inl s) rc rx = ap (λ (z : ℕ). go_clock (mid w) c z) s ∙ clock_own (mid w) c ((mid w).own c) ∙ ap (λ (z : ℕ). suc ((mid w).own z).count) (sym s)
    member_clock (inr mates) rc rx =
        let bound = go_clock_bound (mid w) c x inv rc in
        let e : (settle_own (mid w) x).count ≡ suc ((mid w).own x).count = ap (λ (o : Own). o.count) (settle_goes (mid w) x rx) ∙ gone_count (mid w) x in
        let l = heard_partner (mid w) c x mates.number mates.other rx mates.c_names in
        let u = clock_heard (mid w) c x ((mid w).own c) (Mark x mates.number) mates.other mates.d_names in
        omega (arith, bound, e, l, u)
