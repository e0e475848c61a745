-- Rules 1 to 3 one after another are all at once, on boards.
use Rattle.axis_sets.specs.declared.limits.TheConstants.{CHANNEL_LIMIT}
use Rattle.std.proofs.Common.{◌≡◌, ℕ, ℤ, ◌==◌, ◌&&◌, ◌||◌, not, Bool, true, false, List, [], ◌∷◌, filter, Option, None, Some, inl, inr, refl, sym, ap, ap₂, ◌∙◌}
use Rattle.std.proofs.lemmas.Bool.{cases_Bool, eqb-true, eq-eqb, and_parts, or_cases, or_left, or_right, true≢false}
use Rattle.std.specs.List.{list_all}
use Rattle.sync_types.proofs.FreeTakings.{NobodyRobs, goes_rob_nobody, takings_rob_nobody}
use Rattle.sync_types.proofs.TakenAxes.{free_or_own}
use Rattle.sync_types.specs.Boards.{IsIdle, IsRunning, IsHolding, HasEnded, AtMarks, AtEnds, AtAxes, State as Doing, Ownership, OwnedBy, FreeAt, Board, among, channel_numbers, is_this, owner_of, ownership_of, owns, no_positions, grant_with}
use Rattle.sync_types.specs.Boards as boards
use Rattle.sync_types.specs.Events.{channels_in}
use Rattle.sync_types.specs.GoingOn.{Going, first_of, axes_asked, waits_for_axes, can_have, can_take, next_taker, goers_at_once, state_after_goes, after_goes, Takings, all_takings}
use Rattle.board_laws.specs.Machine.{Axis, Seat, In, Called, State, is_listed, asks, is_free, mine, is_met, ready, doing_of, board_of}
use Rattle.board_laws.specs.Clean.{GoesClean}
use Rattle.board_laws.specs.Zones.{Zones}
use Rattle.board_laws.proofs.Basics.{no, ready_met, ready_listed}
use Rattle.board_laws.proofs.Parts.{free_of}
use Rattle.board_laws.proofs.Actions.{owns_mine}
use Rattle.board_laws.proofs.Zones.{zones_goes}
use Rattle.board_laws.proofs.Takings.{IsOf, in_channels, channels_of, asked, AllTaken, all_taken, taken_was_free}
use Rattle.board_laws.proofs.Shown.{is_getting, quick_goes, asked_shown, waits_shown, getting_not_quick, getting_ready}

-- the board before the takings of the step, and all of them
abbrev pub before_takings : State → Board
before_takings t = after_goes (board_of t)

abbrev pub taken_in : State → Takings
taken_in t = all_takings (before_takings t)

abbrev pub went : State → ℕ → Bool
went t c = among (channels_in (taken_in t).goings) c

-- zones go with their axes, and nobody takes axes from channels that stand
pub record Orderly (t : State) : Type 0 where
  pub zones : Zones (board_of t)
  pub none : NobodyRobs (board_of t)

pub takings_of : (t : State) → Orderly t → AllTaken (before_takings t) (taken_in t)
takings_of t zs = all_taken CHANNEL_LIMIT (before_takings t) (zones_goes (board_of t) zs.zones) (goes_rob_nobody (board_of t) zs.none)

pub goes_state : (t : State) (c : ℕ) → among (goers_at_once (board_of t)) c ≡ true → (before_takings t).state c ≡ IsRunning (grant_with (board_of t) c no_positions)
unfolding state_after_goes
goes_state t c on = rw on refl

pub stays_state : (t : State) (c : ℕ) → among (goers_at_once (board_of t)) c ≡ false → (before_takings t).state c ≡ doing_of t c (t.own c).seat
unfolding state_after_goes
stays_state t c off = rw off refl

-- who asks for axes does not go before the takings
pub getting_stays : (t : State) (c : ℕ) → is_getting (t.own c).seat ≡ true → (before_takings t).state c ≡ doing_of t c (t.own c).seat
getting_stays t c get = stays_state t c (quick_goes t c ∙ ap (λ (b : Bool). ready t c && b) (getting_not_quick (t.own c).seat get) ∙ off (ready t c))
  where
    off : (b : Bool) → (b && false) ≡ false
    off true = refl
    off false = refl

pub waiting_gets : (t : State) (c : ℕ) → waits_for_axes ((before_takings t).state c) ≡ true → is_getting (t.own c).seat ≡ true
waiting_gets t c on = elim (cases_Bool (among (goers_at_once (board_of t)) c)) [
  | inl goes ↦ no on (ap waits_for_axes (goes_state t c goes))
  | inr stays ↦ sym (waits_shown t c (t.own c).seat) ∙ sym (ap waits_for_axes (stays_state t c stays)) ∙ on
]

pub asked_gets : (t : State) (c x : ℕ) → is_getting (t.own c).seat ≡ true → asked (before_takings t) c x ≡ asks (t.own c).seat (Axis x)
asked_gets t c x get = ap (λ (s : Doing). among (axes_asked s) x) (getting_stays t c get) ∙ asked_shown t c x (t.own c).seat

pub free_shown : (o : Option ℕ) (p : ℤ) → boards.is_free (ownership_of o p) ≡ is_free o
free_shown None p = refl
free_shown (Some d) p = refl

can_shown : (t : State) (c x : ℕ) → (boards.is_free ((before_takings t).axis x) || owns (before_takings t) c x) ≡ (is_free (t.axis x).owner || mine t c x)
can_shown t c x = ap₂ (λ (a b : Bool). a || b) (free_shown (t.axis x).owner (t.axis x).position) (owns_mine t c x)

-- who takes is ready
pub taken_ready : (t : State) (g : Going) → Orderly t → IsOf g (taken_in t).goings → (ready t g.channel ≡ true) × (is_getting (t.own g.channel).seat ≡ true)
taken_ready t g zs in_it =
    let w = (takings_of t zs).each g in_it in
    let get = waiting_gets t g.channel w.waits in
    (getting_ready t g.channel get w.listed (λ x on. sym (can_shown t g.channel x) ∙ w.could x (asked_gets t g.channel x get ∙ on)), get)

pub went_ready : (t : State) (c : ℕ) → Orderly t → went t c ≡ true → (ready t c ≡ true) × (is_getting (t.own c).seat ≡ true)
went_ready t c zs on =
    let g = in_channels (taken_in t).goings c on in
    let r = taken_ready t g.0 zs g.1.0 in
    (ap (λ (d : ℕ). ready t d) (sym g.1.1) ∙ r.0, ap (λ (d : ℕ). is_getting (t.own d).seat) (sym g.1.1) ∙ r.1)

-- nobody is left who could take
pub no_taker : (b : Board) → next_taker b ≡ None → (c : ℕ) → among channel_numbers c ≡ true → can_take b c ≡ false
no_taker b none c listed = go channel_numbers none listed
  where
    go : (xs : List ℕ) → first_of (filter (can_take b) xs) ≡ None → among xs c ≡ true → can_take b c ≡ false
    go [] h on = absurd (true≢false (sym on))
    go (x ∷ xs) h on = elim (cases_Bool (can_take b x)) [
      | inl y ↦ let bad : Some x ≡ None = rw y at h in let worse : ⊥ = cc in absurd worse
      | inr n ↦ elim (or_cases (x == c) (among xs c) on) [
        | inl here ↦ ap (can_take b) (sym (eqb-true x c here)) ∙ n
        | inr later ↦ go xs (rw n at h) later
      ]
    ]

some_fails : (f : ℕ → Bool) (xs : List ℕ) → list_all f xs ≡ false → (x : ℕ) × ((among xs x ≡ true) × (f x ≡ false))
some_fails f [] h = no refl h
some_fails f (x ∷ xs) h = elim (cases_Bool (f x)) [
  | inr n ↦ (x, (or_left (x == x) (among xs x) (eq-eqb x x refl), n))
  | inl y ↦ let r = some_fails f xs (rw y at h) in (r.0, (or_right (x == r.0) (among xs r.0) r.1.0, r.1.1))
]

-- one that is ready and does not take: an axis that it asks for and that was free was taken by another
pub record Robbed (t : State) (c : ℕ) : Type 0 where
  pub axis : ℕ
  pub going : Going
  pub took : IsOf going (taken_in t).goings
  pub taken : among going.took axis ≡ true
  pub other : (going.channel == c) ≡ false
  pub asks : asks (t.own c).seat (Axis axis) ≡ true

pub left_out : (t : State) (c : ℕ) → Orderly t → next_taker (taken_in t).board ≡ None → ready t c ≡ true → is_getting (t.own c).seat ≡ true → went t c ≡ false → Robbed t c
unfolding is_met
left_out t c zs over r get out =
    let all = takings_of t zs in
    let f : Board = (taken_in t).board in
    let state : f.state c ≡ doing_of t c (t.own c).seat = all.kept c out ∙ getting_stays t c get in
    let listed : among channel_numbers c ≡ true = is_in_list (t.own c).seat get (ready_listed t c (t.own c).seat r) in
    let waits : waits_for_axes (f.state c) ≡ true = ap waits_for_axes state ∙ waits_shown t c (t.own c).seat ∙ get in
    let cannot = no_taker f over c listed in
    let fails = some_fails (can_have f c) (axes_asked (f.state c)) (second (waits_for_axes (f.state c)) (list_all (can_have f c) (axes_asked (f.state c))) waits cannot) in
    let x : ℕ = fails.0 in
    let on : asks (t.own c).seat (Axis x) ≡ true = sym (asked_shown t c x (t.own c).seat) ∙ sym (ap (λ (s : Doing). among (axes_asked s) x) state) ∙ fails.1.0 in
    elim (all.axis x) [
      | inl same ↦
          let could : (is_free (t.axis x).owner || mine t c x) ≡ true = met_is t c x (ready_met t c (t.own c).seat (Axis x) r on) in
          let still : (boards.is_free (f.axis x) || owns f c x) ≡ true = ap (λ (a : Ownership). boards.is_free a || is_this (owner_of a) c) same ∙ can_shown t c x ∙ could in
          no (free_or_own f c x (takings_rob_nobody CHANNEL_LIMIT (before_takings t) (goes_rob_nobody (board_of t) zs.none) c) ∙ still) fails.1.1
      | inr g ↦ record {
        axis = x;
        going = g.0;
        took = g.1.0;
        taken = g.1.1;
        other = elim (cases_Bool (g.0.channel == c)) [
          | inr n ↦ n
          | inl y ↦ no (ap (λ (d : ℕ). went t d) (sym (eqb-true g.0.channel c y)) ∙ channels_of (taken_in t).goings g.0 g.1.0) out
        ];
        asks = on;
      }
    ]
  where
    is_in_list : (s : Seat) → is_getting s ≡ true → is_listed c s ≡ true → among channel_numbers c ≡ true
    is_in_list (In state) get l = l
    is_in_list (Called p) get l = no get refl

    second : (a b : Bool) → a ≡ true → (a && b) ≡ false → b ≡ false
    second true b on h = h
    second false b on h = no on refl

    met_is : (t : State) (c x : ℕ) → is_met t c (Axis x) ≡ true → (is_free (t.axis x).owner || mine t c x) ≡ true
    met_is t c x m = m

-- where what goes on is clean, all that is ready for axes takes
pub ready_went : (t : State) (c : ℕ) → GoesClean t → Orderly t → next_taker (taken_in t).board ≡ None → ready t c ≡ true → is_getting (t.own c).seat ≡ true → went t c ≡ true
ready_went t c clean zs over r get = elim (cases_Bool (went t c)) [
  | inl on ↦ on
  | inr out ↦
      let w = left_out t c zs over r get out in
      let g = taken_ready t w.going zs w.took in
      let each = (takings_of t zs).each w.going w.took in
      let took = and_parts (asked (before_takings t) w.going.channel w.axis) (not (owns (before_takings t) w.going.channel w.axis)) (sym (each.took w.axis) ∙ w.taken) in
      let asks_g : asks (t.own w.going.channel).seat (Axis w.axis) ≡ true = sym (asked_gets t w.going.channel w.axis g.1) ∙ took.0 in
      let free : is_free (t.axis w.axis).owner ≡ true =
      sym (free_shown (t.axis w.axis).owner (t.axis w.axis).position) ∙ taken_was_free (before_takings t) (taken_in t).board w.going w.axis each w.taken in
      no asks_g (clean.axes c w.going.channel w.axis r w.asks (free_of (t.axis w.axis).owner c free) w.other)
]
