-- The board of a machine tells who goes on as the machine does.
use Rattle.std.proofs.Math.Path.{fun_ext}
use Rattle.std.proofs.Common.{◌≡◌, ℕ, ℤ, ◌==◌, ◌&&◌, ◌||◌, not, Bool, true, false, List, [], ◌∷◌, map, Option, None, Some, inl, inr, refl, sym, ap, ap₂, ◌∙◌}
use Rattle.std.proofs.lemmas.Bool.{cases_Bool, eqb-true, eq-eqb, ne_eqb, and_parts, or_cases, true≢false}
use Rattle.std.specs.List.{list_all, list_any}
use Rattle.sync_types.proofs.BoardTests.{among_kept}
use Rattle.sync_types.specs.Boards.{IsIdle, IsRunning, IsHolding, HasEnded, HasAlarmed, AtMarks, AtEnds, AtAxes, State as Doing, Ownership, OwnedBy, FreeAt, Board, among, axis_numbers, channel_numbers, is_this, has_ended, owner_of, ownership_of, owns, no_positions, positions_where, grant_with}
use Rattle.sync_types.specs.Boards as boards
use Rattle.sync_types.specs.GoingOn.{axes_asked, waits_for_axes, goes_at_once, goers_at_once, lowers, resting_position}
use Rattle.sync_types.specs.Starts.{first_position}
use Rattle.sync_types.specs.declared.Grant.{Grant}
use Rattle.board_laws.specs.Machine.{Need, Mark, End, Axis, Seat, In, Called, State, same, holds, is_listed, asks, is_at, is_ended, is_free, mine, is_met, ready_at, ready, axes_taken, axes_then_owned, grant_by, places_of, grant_at_go, doing_of, board_of}
use Rattle.board_laws.specs.Zones.{Zones}
use Rattle.board_laws.proofs.Basics.{no, same_true, ready_met, ready_from}
use Rattle.board_laws.proofs.Parts.{free_of, of_free}
use Rattle.board_laws.proofs.Absorb.{met_axis}
use Rattle.board_laws.proofs.Actions.{owns_mine}
use Rattle.board_laws.proofs.Zones.{grant_told}
use Rattle.board_laws.proofs.Takings.{taker_grant, positions_same}

-- waits for marks or ends; for axes
abbrev pub is_quick : Seat → Bool
is_quick (In (IsHolding (AtMarks k named) line)) = true
is_quick (In (IsHolding (AtEnds named) line)) = true
is_quick (In state) = false
is_quick (Called p) = false

abbrev pub is_getting : Seat → Bool
is_getting (In (IsHolding (AtAxes from_standing axes) line)) = true
is_getting (In state) = false
is_getting (Called p) = false

abbrev pub is_called : Seat → Bool
is_called (In state) = false
is_called (Called p) = true

pub eqb_turned : (x y : ℕ) → (x == y) ≡ (y == x)
eqb_turned x y = elim (cases_Bool (x == y)) [
  | inl on ↦ on ∙ sym (eq-eqb y x (sym (eqb-true x y on)))
  | inr off ↦ off ∙ sym (ne_eqb y x (λ e. no (eq-eqb x y (sym e)) off))
]

all_map : {A : Type 0} (f : A → Bool) (g : ℕ → A) (xs : List ℕ) → list_all f (map g xs) ≡ list_all (λ x. f (g x)) xs
all_map f g [] = refl
all_map f g (x ∷ xs) = ap (λ (b : Bool). f (g x) && b) (all_map f g xs)

pub ended_shown : (t : State) (c : ℕ) (s : Seat) → has_ended (doing_of t c s) ≡ is_ended s
ended_shown t c (In (HasEnded line)) = refl
ended_shown t c (In state) = refl
ended_shown t c (Called p) = refl

and_true : (b : Bool) → b ≡ (b && true)
and_true true = refl
and_true false = refl

-- false from both
nothing : (a b : Bool) → (a && false) ≡ (b && false)
nothing true true = refl
nothing true false = refl
nothing false true = refl
nothing false false = refl

quick_at : (t : State) (c : ℕ) (s : Seat) → (among channel_numbers c && goes_at_once (board_of t) (doing_of t c s)) ≡ (ready_at t c s && is_quick s)
unfolding ready_at is_met
quick_at t c (In (IsHolding (AtMarks k named) line)) =
    ap (λ (b : Bool). among channel_numbers c && b) (sym (all_map (is_met t c) (λ d. Mark d k) named)) ∙ and_true (among channel_numbers c && list_all (is_met t c) (map (λ (d : ℕ). Mark d k) named))
quick_at t c (In (IsHolding (AtEnds named) line)) =
    ap (λ (f : ℕ → Bool). among channel_numbers c && list_all f named) (fun_ext λ d. ended_shown t d (t.own d).seat)
    ∙ ap (λ (b : Bool). among channel_numbers c && b) (sym (all_map (is_met t c) (λ d. End d) named)) ∙ and_true (among channel_numbers c && list_all (is_met t c) (map (λ (d : ℕ). End d) named))
quick_at t c (In (IsHolding (AtAxes from_standing axes) line)) = nothing (among channel_numbers c) (ready_at t c (In (IsHolding (AtAxes from_standing axes) line)))
quick_at t c (In state) = nothing (among channel_numbers c) false
quick_at t c (Called p) = nothing (among channel_numbers c) true

-- who goes at once
pub quick_goes : (t : State) (c : ℕ) → among (goers_at_once (board_of t)) c ≡ (ready t c && is_quick (t.own c).seat)
quick_goes t c = among_kept (λ d. goes_at_once (board_of t) ((board_of t).state d)) channel_numbers c ∙ quick_at t c (t.own c).seat

-- the axes for which it asks
pub asked_shown : (t : State) (c x : ℕ) (s : Seat) → among (axes_asked (doing_of t c s)) x ≡ asks s (Axis x)
unfolding asks
asked_shown t c x (In (IsHolding (AtAxes from_standing axes) line)) = go axes
  where
    go : (xs : List ℕ) → among xs x ≡ list_any (same (Axis x)) (map (λ (a : ℕ). Axis a) xs)
    go [] = refl
    go (y ∷ ys) = ap₂ (λ (a b : Bool). a || b) (eqb_turned y x) (go ys)
asked_shown t c x (In (IsHolding (AtMarks k named) line)) = go named
  where
    go : (xs : List ℕ) → false ≡ list_any (same (Axis x)) (map (λ (d : ℕ). Mark d k) xs)
    go [] = refl
    go (y ∷ ys) = go ys
asked_shown t c x (In (IsHolding (AtEnds named) line)) = go named
  where
    go : (xs : List ℕ) → false ≡ list_any (same (Axis x)) (map (λ (d : ℕ). End d) xs)
    go [] = refl
    go (y ∷ ys) = go ys
asked_shown t c x (In state) = refl
asked_shown t c x (Called p) = refl

-- and the named channels
pub named_shown : (t : State) (c d k line : ℕ) (named : List ℕ) (s : Seat) → doing_of t c s ≡ IsHolding (AtMarks k named) line → s ≡ In (IsHolding (AtMarks k named) line)
named_shown t c d k line named (In state) e = ap In e
named_shown t c d k line named (Called p) e = let bad : ⊥ = runs_not e in absurd bad
  where
    runs_not : {g : Grant} → IsRunning g ≡ IsHolding (AtMarks k named) line → ⊥
    runs_not e = true≢false (ap (λ (s : Doing). boards.is_running s) e)

pub waits_shown : (t : State) (c : ℕ) (s : Seat) → waits_for_axes (doing_of t c s) ≡ is_getting s
waits_shown t c (In (IsHolding (AtAxes from_standing axes) line)) = refl
waits_shown t c (In state) = refl
waits_shown t c (Called p) = refl

pub lowers_shown : (t : State) (c m : ℕ) (s : Seat) → lowers (doing_of t c s) m ≡ is_at s m
lowers_shown t c m (In (IsHolding (AtMarks k named) line)) = eqb_turned m k
lowers_shown t c m (In state) = refl
lowers_shown t c m (Called p) = refl

pub at_quick : (s : Seat) (m : ℕ) → is_at s m ≡ true → is_quick s ≡ true
at_quick (In (IsHolding (AtMarks k named) line)) m on = refl
at_quick s m on = absurd (true≢false (sym on))

pub getting_not_quick : (s : Seat) → is_getting s ≡ true → is_quick s ≡ false
getting_not_quick (In (IsHolding (AtAxes from_standing axes) line)) on = refl
getting_not_quick s on = absurd (true≢false (sym on))

pub axis_getting : (s : Seat) (x : ℕ) → asks s (Axis x) ≡ true → is_getting s ≡ true
unfolding asks
axis_getting (In (IsHolding (AtAxes from_standing axes) line)) x on = refl
axis_getting (In (IsHolding (AtMarks k named) line)) x on = go named on
  where
    go : (xs : List ℕ) → list_any (same (Axis x)) (map (λ (d : ℕ). Mark d k) xs) ≡ true → false ≡ true
    go [] z = z
    go (y ∷ ys) z = go ys z
axis_getting (In (IsHolding (AtEnds named) line)) x on = go named on
  where
    go : (xs : List ℕ) → list_any (same (Axis x)) (map (λ (d : ℕ). End d) xs) ≡ true → false ≡ true
    go [] z = z
    go (y ∷ ys) z = go ys z
axis_getting s x on = absurd (true≢false (sym on))

axis_needs : (s : Seat) (n : Need) → is_getting s ≡ true → asks s n ≡ true → (x : ℕ) × (n ≡ Axis x)
unfolding asks
axis_needs (In (IsHolding (AtAxes from_standing axes) line)) n get on = go axes on
  where
    go : (xs : List ℕ) → list_any (same n) (map (λ (a : ℕ). Axis a) xs) ≡ true → (x : ℕ) × (n ≡ Axis x)
    go [] h = absurd (true≢false (sym h))
    go (y ∷ ys) h = elim (or_cases (same n (Axis y)) (list_any (same n) (map (λ (a : ℕ). Axis a) ys)) h) [
      | inl here ↦ (y, same_true n (Axis y) here)
      | inr later ↦ go ys later
    ]
axis_needs s n get on = absurd (true≢false (sym get))

-- one that asks for axes is ready where all are free or its own
pub getting_ready : (t : State) (c : ℕ) → is_getting (t.own c).seat ≡ true → among channel_numbers c ≡ true → ((x : ℕ) → asks (t.own c).seat (Axis x) ≡ true → (is_free (t.axis x).owner || mine t c x) ≡ true) → ready t c ≡ true
unfolding is_met
getting_ready t c get listed each = ready_from t c (t.own c).seat (getting_holds (t.own c).seat get) (getting_listed (t.own c).seat get) (λ n on. go n (only (t.own c).seat get n on) on)
  where
    getting_holds : (s : Seat) → is_getting s ≡ true → holds s ≡ true
    getting_holds (In (IsHolding (AtAxes from_standing axes) line)) on = refl
    getting_holds s on = absurd (true≢false (sym on))

    getting_listed : (s : Seat) → is_getting s ≡ true → is_listed c s ≡ true
    getting_listed (In state) on = listed
    getting_listed (Called p) on = refl

    only : (s : Seat) → is_getting s ≡ true → (n : Need) → asks s n ≡ true → (x : ℕ) × (n ≡ Axis x)
    only s on n a = axis_needs s n on a

    go : (n : Need) → (x : ℕ) × (n ≡ Axis x) → asks (t.own c).seat n ≡ true → is_met t c n ≡ true
    go n w on = rw w.1 (each w.0 (rw w.1 at on))

-- what goes on at once goes on with what the machine gives
pub quick_grant : (t : State) (c : ℕ) → Zones (board_of t) → is_getting (t.own c).seat ≡ false → is_called (t.own c).seat ≡ false → grant_with (board_of t) c no_positions ≡ grant_at_go t c (t.own c)
unfolding grant_at_go axes_then_owned places_of axes_taken
quick_grant t c zs get call =
    let none : (x : ℕ) → asks (t.own c).seat (Axis x) ≡ false = λ x. elim (cases_Bool (asks (t.own c).seat (Axis x))) [
      | inl on ↦ no (axis_getting (t.own c).seat x on) get
      | inr off ↦ off
    ] in
    grant_told (board_of t) zs c no_positions
    ∙ ap (λ (f : ℕ → Bool). grant_by t.start c f no_positions t.on (t.own c).program) (fun_ext λ x. owns_mine t c x ∙ ap (λ (b : Bool). b || mine t c x) (sym (none x)))
    ∙ ap (λ (at : List (Option ℤ)). grant_by t.start c (λ x. asks (t.own c).seat (Axis x) || mine t c x) at t.on (t.own c).program) (no_places (t.own c).seat none call)
  where
    no_places : (s : Seat) → ((x : ℕ) → asks s (Axis x) ≡ false) → is_called s ≡ false → no_positions ≡ places_of t c s
    no_places (Called p) none call = no refl call
    no_places (In state) none call = positions_same (λ x. false) (axes_taken t c (In state)) (λ a. (t.axis a).position) (λ a. (t.axis a).position) (λ x. ap (λ (b : Bool). b && not (mine t c x)) (sym (none x))) (λ x on. refl)

pub started_grant : (t : State) (c : ℕ) → Zones (board_of t) → is_called (t.own c).seat ≡ true → boards.start_grant (board_of t) c ≡ grant_at_go t c (t.own c)
unfolding grant_at_go axes_then_owned places_of boards.start_grant asks
started_grant t c zs call =
    grant_told (board_of t) zs c (positions_where (owns (board_of t) c) (first_position t.start))
    ∙ ap (λ (f : ℕ → Bool). grant_by t.start c f (positions_where f (first_position t.start)) t.on (t.own c).program) (fun_ext λ x. owns_mine t c x)
    ∙ go (t.own c).seat call
  where
    go : (s : Seat) → is_called s ≡ true → grant_by t.start c (mine t c) (positions_where (mine t c) (first_position t.start)) t.on (t.own c).program ≡ grant_by t.start c (λ x. asks s (Axis x) || mine t c x) (places_of t c s) t.on (t.own c).program
    go (Called p) on = refl
    go (In state) on = no on refl

-- and who takes axes
pub taken_grant : (t : State) (c : ℕ) → ready t c ≡ true → is_getting (t.own c).seat ≡ true → taker_grant (board_of t) c ≡ grant_at_go t c (t.own c)
unfolding grant_at_go axes_then_owned places_of axes_taken
taken_grant t c r get =
    ap (λ (f : ℕ → Bool). grant_by t.start c f (positions_where (λ x. among (axes_asked (doing_of t c (t.own c).seat)) x && not (owns (board_of t) c x)) (λ x. resting_position (board_of t) x ((board_of t).axis x))) t.on (t.own c).program)
    (fun_ext λ x. ap₂ (λ (a b : Bool). a || b) (asked_shown t c x (t.own c).seat) (owns_mine t c x))
    ∙ ap (λ (at : List (Option ℤ)). grant_by t.start c (λ x. asks (t.own c).seat (Axis x) || mine t c x) at t.on (t.own c).program) (places (t.own c).seat get refl)
  where
    at_free : (x : ℕ) (o : Option ℕ) (p : ℤ) → is_free o ≡ true → resting_position (board_of t) x (ownership_of o p) ≡ p
    at_free x None p f = refl
    at_free x (Some d) p f = no f refl

    not_mine : (x : ℕ) → asks (t.own c).seat (Axis x) ≡ true → is_free (t.axis x).owner ≡ not (mine t c x)
    not_mine x on = elim (met_axis t c x (ready_met t c (t.own c).seat (Axis x) r on)) [
      | inl f ↦ f ∙ sym (ap not (free_of (t.axis x).owner c f))
      | inr o ↦ of_free (t.axis x).owner c o ∙ sym (ap not o)
    ]

    places : (s : Seat) → is_getting s ≡ true → (t.own c).seat ≡ s
        → positions_where (λ x. among (axes_asked (doing_of t c (t.own c).seat)) x && not (owns (board_of t) c x)) (λ x. resting_position (board_of t) x ((board_of t).axis x)) ≡ places_of t c s
    places (In state) on e = positions_same (λ x. among (axes_asked (doing_of t c (t.own c).seat)) x && not (owns (board_of t) c x)) (axes_taken t c (In state)) (λ x. resting_position (board_of t) x ((board_of t).axis x)) (λ a. (t.axis a).position)
        (λ x. ap₂ (λ (a b : Bool). a && not b) (asked_shown t c x (t.own c).seat) (owns_mine t c x) ∙ ap (λ (z : Seat). asks z (Axis x) && not (mine t c x)) e)
        (λ x on. at_free x (t.axis x).owner (t.axis x).position (not_mine x (ap (λ (z : Seat). asks z (Axis x)) e ∙ (and_parts (asks (In state) (Axis x)) (not (mine t c x)) on).0) ∙ (and_parts (asks (In state) (Axis x)) (not (mine t c x)) on).1))
    places (Called p) on e = no on refl
