-- The board after all that goes on.
use Rattle.axis_sets.specs.declared.limits.TheConstants.{CHANNEL_LIMIT}
use Rattle.std.proofs.Math.Path.{fun_ext}
use Rattle.std.proofs.Common.{◌≡◌, ℕ, ℤ, ◌⊎◌, ◌&&◌, ◌||◌, not, Bool, true, false, Option, None, Some, inl, inr, refl, sym, ap, ap₂, ◌∙◌}
use Rattle.std.proofs.lemmas.Bool.{cases_Bool, and_parts, and_from, true≢false}
use Rattle.axis_sets.specs.Sets.{members_of}
use Rattle.sync_types.specs.Boards.{IsIdle, IsRunning, IsHolding, HasEnded, AtMarks, AtEnds, AtAxes, State as Doing, Ownership, OwnedBy, FreeAt, Board, among, channel_numbers, is_this, owner_of, ownership_of, owns, no_positions, positions_where, grant_with}
use Rattle.sync_types.specs.Boards as boards
use Rattle.sync_types.specs.GoingOn.{first_of, axes_asked, next_taker, resting_position, goers_at_once, lowers, marks_after_goes, after_goings}
use Rattle.sync_types.specs.Starts.{axes_of_zone, first_holder}
use Rattle.sync_types.specs.Views.{StartView}
use Rattle.sync_types.specs.declared.Grant.{Grant}
use Rattle.board_laws.specs.Machine.{Axis, Call, Seat, In, Called, Own, Cell, State, holds, asks, is_at, mine, ready, grant_at_go, takes, taker, cell_after_taking, settle_own, settle_axis, settle, carrier, doing_of, board_of, grant_by}
use Rattle.board_laws.specs.Clean.{GoesClean}
use Rattle.board_laws.specs.Zones.{Zones}
use Rattle.board_laws.proofs.Basics.{no, called_self, ready_holds}
use Rattle.board_laws.proofs.Parts.{settle_goes, settle_stays, gone_seat, gone_program, gone_last_position, gone_marks_at, gone_marks_off, first_none, only_one, settle_axis_none, settle_axis_some, takes_from, takes_not}
use Rattle.board_laws.proofs.Absorb.{call_ready, took_free}
use Rattle.board_laws.proofs.Actions.{owner_is, owns_mine}
use Rattle.board_laws.proofs.Zones.{holder_told, zones_goes, zones_takings}
use Rattle.board_laws.proofs.Takings.{in_channels, asked, taker_grant}
use Rattle.board_laws.proofs.Shown.{is_quick, is_getting, is_called, quick_goes, lowers_shown, at_quick, axis_getting, quick_grant, taken_grant}
use Rattle.board_laws.proofs.AtOnce.{Orderly, before_takings, taken_in, went, takings_of, goes_state, stays_state, getting_stays, asked_gets, free_shown, taken_ready, went_ready, ready_went}

-- of three kinds is what is ready
pub ready_kinds : (s : Seat) → holds s ≡ true → (is_quick s ≡ true) ⊎ ((is_getting s ≡ true) ⊎ (is_called s ≡ true))
ready_kinds (In (IsHolding (AtMarks k named) line)) on = inl refl
ready_kinds (In (IsHolding (AtEnds named) line)) on = inl refl
ready_kinds (In (IsHolding (AtAxes from_standing axes) line)) on = inr (inl refl)
ready_kinds (Called p) on = inr (inr refl)
ready_kinds s on = absurd (true≢false (sym on))

quick_other : (s : Seat) → is_quick s ≡ true → (is_getting s ≡ false) × (is_called s ≡ false)
quick_other (In (IsHolding (AtMarks k named) line)) on = (refl, refl)
quick_other (In (IsHolding (AtEnds named) line)) on = (refl, refl)
quick_other s on = absurd (true≢false (sym on))

called_shown : (t : State) (c : ℕ) (s : Seat) → is_called s ≡ true → doing_of t c s ≡ IsRunning (grant_at_go t c (t.own c))
called_shown t c (Called p) on = refl
called_shown t c (In state) on = absurd (true≢false (sym on))

called_quick : (s : Seat) → is_called s ≡ true → is_quick s ≡ false
called_quick (Called p) on = refl
called_quick (In state) on = absurd (true≢false (sym on))

stays_off : (t : State) (c : ℕ) → (ready t c && is_quick (t.own c).seat) ≡ false → among (goers_at_once (board_of t)) c ≡ false
stays_off t c off = quick_goes t c ∙ off

and_off : (a b : Bool) → b ≡ false → (a && b) ≡ false
and_off true b off = off
and_off false b off = refl

and_first : (a b : Bool) → a ≡ false → (a && b) ≡ false
and_first true b off = absurd (true≢false off)
and_first false b off = refl

abbrev grant_in : State → ℕ → Doing → Grant
grant_in t c s = grant_by t.start c (λ x. among (axes_asked s) x || owns (board_of t) c x) (positions_where (λ x. among (axes_asked s) x && not (owns (board_of t) c x)) (λ x. resting_position (board_of t) x ((board_of t).axis x))) t.on (t.own c).program

before_same : (t : State) (c : ℕ) → is_getting (t.own c).seat ≡ true → taker_grant (before_takings t) c ≡ taker_grant (board_of t) c
before_same t c get = ap (λ (s : Doing). grant_in t c s) (getting_stays t c get)

-- a channel that went runs with what the machine gives
pub after_went : (t : State) (c : ℕ) → Orderly t → went t c ≡ true → (taken_in t).board.state c ≡ IsRunning (grant_at_go t c (t.own c))
after_went t c zs on =
    let g = in_channels (taken_in t).goings c on in
    let w = (takings_of t zs).each g.0 g.1.0 in
    let r = went_ready t c zs on in
    ap (λ (d : ℕ). (taken_in t).board.state d) (sym g.1.1) ∙ w.runs ∙ ap IsRunning (w.grant ∙ ap (λ (d : ℕ). taker_grant (before_takings t) d) g.1.1 ∙ before_same t c r.1 ∙ taken_grant t c r.0 r.1)

-- what each channel does
state_after : (t : State) (c : ℕ) → GoesClean t → Orderly t → next_taker (taken_in t).board ≡ None → (taken_in t).board.state c ≡ doing_of (settle t) c (settle_own t c).seat
state_after t c clean zs over = elim (cases_Bool (ready t c)) [
  | inl r ↦
      let right : doing_of (settle t) c (settle_own t c).seat ≡ IsRunning (grant_at_go t c (t.own c)) =
      ap (λ (s : Seat). doing_of (settle t) c s) (ap (λ (o : Own). o.seat) (settle_goes t c r) ∙ gone_seat t c) in
      elim (ready_kinds (t.own c).seat (ready_holds t c (t.own c).seat r)) [
        | inl quick ↦
            let kinds = quick_other (t.own c).seat quick in
            let goes : among (goers_at_once (board_of t)) c ≡ true = quick_goes t c ∙ and_from (ready t c) (is_quick (t.own c).seat) r quick in
            (takings_of t zs).kept c (not_went t c zs kinds.0) ∙ goes_state t c goes ∙ ap IsRunning (quick_grant t c zs.zones kinds.0 kinds.1) ∙ sym right
        | inr other ↦ elim other [
          | inl get ↦ after_went t c zs (ready_went t c clean zs over r get) ∙ sym right
          | inr call ↦
              (takings_of t zs).kept c (not_went t c zs (called_gets (t.own c).seat call))
              ∙ stays_state t c (stays_off t c (and_off (ready t c) (is_quick (t.own c).seat) (called_quick (t.own c).seat call))) ∙ called_shown t c (t.own c).seat call ∙ sym right
        ]
      ]
  | inr s ↦
      let out : went t c ≡ false = elim (cases_Bool (went t c)) [ inl on ↦ no (went_ready t c zs on).0 s | inr off ↦ off ] in
      (takings_of t zs).kept c out ∙ stays_state t c (stays_off t c (and_first (ready t c) (is_quick (t.own c).seat) s)) ∙ unready (t.own c).seat refl s
      ∙ sym (ap (λ (x : Seat). doing_of (settle t) c x) (ap (λ (o : Own). o.seat) (settle_stays t c s)))
]
  where
    not_went : (t : State) (c : ℕ) → Orderly t → is_getting (t.own c).seat ≡ false → went t c ≡ false
    not_went t c zs off = elim (cases_Bool (went t c)) [ inl on ↦ no (went_ready t c zs on).1 off | inr out ↦ out ]

    called_gets : (s : Seat) → is_called s ≡ true → is_getting s ≡ false
    called_gets (Called p) on = refl
    called_gets (In state) on = absurd (true≢false (sym on))

    unready : (s : Seat) → (t.own c).seat ≡ s → ready t c ≡ false → doing_of t c s ≡ doing_of (settle t) c s
    unready (In state) e s = refl
    unready (Called p) e s = no (call_ready t c (t.own c).seat p (ap (λ (z : Seat). asks z (Call p)) e ∙ called_self p)) s

-- marks
pub marks_after : (t : State) (c m : ℕ) → marks_after_goes (board_of t) c m ≡ (settle_own t c).marks m
unfolding marks_after_goes
marks_after t c m =
    let low : (among (goers_at_once (board_of t)) c && lowers (doing_of t c (t.own c).seat) m) ≡ ((ready t c && is_quick (t.own c).seat) && is_at (t.own c).seat m) =
    ap₂ (λ (a b : Bool). a && b) (quick_goes t c) (lowers_shown t c m (t.own c).seat) in
    ap (λ (b : Bool). (t.own c).marks m && not b) low ∙ elim (cases_Bool (ready t c)) [
      | inr s ↦ ap (λ (b : Bool). (t.own c).marks m && not ((b && is_quick (t.own c).seat) && is_at (t.own c).seat m)) s ∙ and_true ((t.own c).marks m) ∙ sym (ap (λ (o : Own). o.marks m) (settle_stays t c s))
      | inl r ↦ ap (λ (b : Bool). (t.own c).marks m && not ((b && is_quick (t.own c).seat) && is_at (t.own c).seat m)) r ∙ elim (cases_Bool (is_at (t.own c).seat m)) [
        | inl y ↦
            rw (y, at_quick (t.own c).seat m y) (and_false ((t.own c).marks m)) ∙ sym (ap (λ (o : Own). o.marks m) (settle_goes t c r) ∙ gone_marks_at t c m y)
        | inr n ↦ ap (λ (b : Bool). (t.own c).marks m && not (is_quick (t.own c).seat && b)) n ∙ off_and ((t.own c).marks m) (is_quick (t.own c).seat) ∙ sym (ap (λ (o : Own). o.marks m) (settle_goes t c r) ∙ gone_marks_off t c m n)
      ]
    ]
  where
    and_true : (b : Bool) → (b && true) ≡ b
    and_true true = refl
    and_true false = refl

    and_false : (b : Bool) → (b && false) ≡ false
    and_false true = refl
    and_false false = refl

    off_and : (a b : Bool) → (a && not (b && false)) ≡ a
    off_and true true = refl
    off_and true false = refl
    off_and false b = refl

program_after : (t : State) (c : ℕ) → (t.own c).program ≡ (settle_own t c).program
program_after t c = elim (cases_Bool (ready t c)) [
  | inl r ↦ sym (ap (λ (o : Own). o.program) (settle_goes t c r) ∙ gone_program t c)
  | inr s ↦ sym (ap (λ (o : Own). o.program) (settle_stays t c s))
]

last_position_after : (t : State) (c : ℕ) → (t.own c).last_position ≡ (settle_own t c).last_position
last_position_after t c = elim (cases_Bool (ready t c)) [
  | inl r ↦ sym (ap (λ (o : Own). o.last_position) (settle_goes t c r) ∙ gone_last_position t c)
  | inr s ↦ sym (ap (λ (o : Own). o.last_position) (settle_stays t c s))
]

not_on : (b : Bool) → not b ≡ true → b ≡ false
not_on true off = absurd (true≢false (sym off))
not_on false off = refl

given_shown : (t : State) (c : ℕ) (cell : Cell) → ownership_of (cell_after_taking t (Some c) cell).owner (cell_after_taking t (Some c) cell).position ≡ OwnedBy c
unfolding cell_after_taking
given_shown t c cell = refl

-- axes
axis_after : (t : State) (x : ℕ) → GoesClean t → Orderly t → next_taker (taken_in t).board ≡ None → (taken_in t).board.axis x ≡ ownership_of (settle_axis t x).owner (settle_axis t x).position
axis_after t x clean zs over =
    let all = takings_of t zs in
    elim (all.axis x) [
      | inr g ↦
          let w = all.each g.0 g.1.0 in
          let r = taken_ready t g.0 zs g.1.0 in
          let took = and_parts (asked (before_takings t) g.0.channel x) (not (owns (before_takings t) g.0.channel x)) (sym (w.took x) ∙ g.1.1) in
          let on : asks (t.own g.0.channel).seat (Axis x) ≡ true = sym (asked_gets t g.0.channel x r.1) ∙ took.0 in
          let off : mine t g.0.channel x ≡ false = sym (owns_mine t g.0.channel x) ∙ not_on (owns (before_takings t) g.0.channel x) took.1 in
          let some : taker t x ≡ Some g.0.channel = only_one (takes t x) channel_numbers g.0.channel w.listed (takes_from t x g.0.channel r.0 on off)
          (λ d n. takes_not t x d (λ rd yd md. no yd (clean.axes g.0.channel d x r.0 on off n))) in
          w.has x took.0 ∙ sym (ap (λ (z : Cell). ownership_of z.owner z.position) (settle_axis_some t x g.0.channel some) ∙ given_shown t g.0.channel (t.axis x))
      | inl same ↦
          let none : taker t x ≡ None = first_none (takes t x) channel_numbers (λ c. takes_not t x c (λ r y m.
          let get = axis_getting (t.own c).seat x y in
          let g = in_channels (taken_in t).goings c (ready_went t c clean zs over r get) in
          let w = all.each g.0 g.1.0 in
          let get' : is_getting (t.own g.0.channel).seat ≡ true = ap (λ (d : ℕ). is_getting (t.own d).seat) g.1.1 ∙ get in
          let y' : asks (t.own g.0.channel).seat (Axis x) ≡ true = ap (λ (d : ℕ). asks (t.own d).seat (Axis x)) g.1.1 ∙ y in
          let owned : (before_takings t).axis x ≡ OwnedBy g.0.channel = sym same ∙ w.has x (asked_gets t g.0.channel x get' ∙ y') in
          no (free_shown (t.axis x).owner (t.axis x).position ∙ took_free t c x r y m) (ap boards.is_free owned))) in
          same ∙ sym (ap (λ (z : Cell). ownership_of z.owner z.position) (settle_axis_none t x none))
    ]

board_made : StartView → (ℕ → ℕ → Bool) → (ℕ → Doing) → (ℕ → Option ℕ) → (ℕ → ℕ → ℤ) → (ℕ → Ownership) → (ℕ → Option ℕ) → (ℕ → Bool) → Board
board_made start marks state program last_position axis holder on = record { start = start; marks = marks; state = state; program = program; last_position = last_position; axis = axis; holder = holder; is_on = on }

pub board_eq : (a b : Board) → a.start ≡ b.start → ((c m : ℕ) → a.marks c m ≡ b.marks c m) → ((c : ℕ) → a.state c ≡ b.state c) → ((c : ℕ) → a.program c ≡ b.program c)
    → ((c x : ℕ) → a.last_position c x ≡ b.last_position c x) → ((x : ℕ) → a.axis x ≡ b.axis x) → ((z : ℕ) → a.holder z ≡ b.holder z) → ((z : ℕ) → a.is_on z ≡ b.is_on z) → a ≡ b
unfolding board_made
board_eq a b start marks state program last axis holder on =
    ap (λ (s : StartView). board_made s a.marks a.state a.program a.last_position a.axis a.holder a.is_on) start
    ∙ ap (λ (f : ℕ → ℕ → Bool). board_made b.start f a.state a.program a.last_position a.axis a.holder a.is_on) (fun_ext λ c. fun_ext (marks c))
    ∙ ap (λ (f : ℕ → Doing). board_made b.start b.marks f a.program a.last_position a.axis a.holder a.is_on) (fun_ext state)
    ∙ ap (λ (f : ℕ → Option ℕ). board_made b.start b.marks b.state f a.last_position a.axis a.holder a.is_on) (fun_ext program)
    ∙ ap (λ (f : ℕ → ℕ → ℤ). board_made b.start b.marks b.state b.program f a.axis a.holder a.is_on) (fun_ext λ c. fun_ext (last c))
    ∙ ap (λ (f : ℕ → Ownership). board_made b.start b.marks b.state b.program b.last_position f a.holder a.is_on) (fun_ext axis)
    ∙ ap (λ (f : ℕ → Option ℕ). board_made b.start b.marks b.state b.program b.last_position b.axis f a.is_on) (fun_ext holder)
    ∙ ap (λ (f : ℕ → Bool). board_made b.start b.marks b.state b.program b.last_position b.axis b.holder f) (fun_ext on)

carrier_same : (o : Option ℕ) (f g : ℕ → Option ℕ) (first : Option ℕ) → ((a : ℕ) → f a ≡ g a) → carrier o f first ≡ carrier o g first
carrier_same (Some a) f g first each = each a
carrier_same None f g first each = refl

-- a zone's holder by axes alone
pub holder_by_axes : (f : Board) (t : State) → Zones f → f.start ≡ t.start → ((x : ℕ) → f.axis x ≡ ownership_of (t.axis x).owner (t.axis x).position) → (z : ℕ) → f.holder z ≡ (board_of t).holder z
holder_by_axes f t zs start axis z =
    holder_told f zs z
    ∙ ap (λ (s : StartView). carrier (first_of (members_of (axes_of_zone s z))) (λ a. owner_of (f.axis a)) (first_holder s z)) start
    ∙ carrier_same (first_of (members_of (axes_of_zone t.start z))) (λ a. owner_of (f.axis a)) (λ a. (t.axis a).owner) (first_holder t.start z) (λ a. ap owner_of (axis a) ∙ owner_is (t.axis a).owner (t.axis a).position)

-- rules 1 to 3 one after another are all at once
pub settled_board : (t : State) → GoesClean t → Orderly t → next_taker (after_goings (board_of t)) ≡ None → after_goings (board_of t) ≡ board_of (settle t)
settled_board t clean zs over =
    let all = takings_of t zs in
    let axis : (x : ℕ) → (taken_in t).board.axis x ≡ ownership_of (settle_axis t x).owner (settle_axis t x).position = λ x. axis_after t x clean zs over in
    board_eq (after_goings (board_of t)) (board_of (settle t)) all.start
    (λ c m. ap (λ (f : ℕ → ℕ → Bool). f c m) all.marks ∙ marks_after t c m)
    (λ c. state_after t c clean zs over)
    (λ c. ap (λ (f : ℕ → Option ℕ). f c) all.program ∙ program_after t c)
    (λ c x. ap (λ (f : ℕ → ℕ → ℤ). f c x) all.last_position ∙ ap (λ (f : ℕ → ℤ). f x) (last_position_after t c))
    axis
    (holder_by_axes (taken_in t).board (settle t) (zones_takings CHANNEL_LIMIT (before_takings t) (zones_goes (board_of t) zs.zones)) all.start axis)
    (λ z. ap (λ (f : ℕ → Bool). f z) all.on)
