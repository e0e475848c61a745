-- What a step minds and leaves, as the machine has it.
use Rattle.std.proofs.Common.{◌≡◌, ℕ, ◌==◌, ◌&&◌, ◌||◌, Bool, true, false, List, [], ◌∷◌, map, Option, refl, sym, ap, ap₂, ◌∙◌}
use Rattle.std.proofs.lemmas.Bool.{eqb-true, eq-eqb, and_parts, true≢false}
use Rattle.std.specs.List.{list_any}
use Rattle.sync_types.specs.Boards.{State as Doing, IsHolding, AtMarks, AtEnds, AtAxes, Board, among}
use Rattle.sync_types.specs.GoingOn.{Going, lowers}
use Rattle.sync_types.specs.Turns.{Move}
use Rattle.sync_types.specs.declared.Action.{Action}
use Rattle.sync_types.specs.declared.Action.TheVariants.{Init, Start}
use Rattle.order_clocks.specs.Counters.{row}
use Rattle.order_clocks.specs.CourseOf.{course_of}
use Rattle.order_clocks.specs.Courses.{IsEventIn}
use Rattle.order_clocks.specs.Happenings.{happening_at, channels_touched, hold_in, waits_for, asks_for, going_of, of_going}
use Rattle.order_clocks.specs.TracedRaces.{Lowered, Needed, going_leaves, going_minds}
use Rattle.board_laws.specs.Machine.{Need, Mark, End, Axis, Call, Seat, In, Called, Own, Cell, State, Effect, Clock, same, asks, is_at, mine, ready, doing_of, board_of, with_effect, put_own, touches, act_clock, own_after_act, effect, go_clock}
use Rattle.board_laws.specs.Machine as machine
use Rattle.board_laws.specs.Clean.{Inv}
use Rattle.board_laws.proofs.Basics.{no, asks_holds}
use Rattle.board_laws.proofs.Parts.{put_other, touched_awake}
use Rattle.board_laws.proofs.Shown.{eqb_turned}
use Rattle.board_laws.proofs.Goings.{from_of}
use Rattle.schedule_laws.specs.Tracked.{goes_in, own_at, tracked}
use Rattle.schedule_laws.proofs.Steps.{Here, mid, actor_told}
use Rattle.schedule_laws.proofs.Opened.{act_told}
use Rattle.schedule_laws.proofs.Held.{HeldIn}
use Rattle.schedule_laws.proofs.Mates.{Meets}
use Rattle.schedule_laws.proofs.GoRows.{Goer, go_told}
use Rattle.schedule_laws.proofs.Places.{event}

flip_and : (a b c d : Bool) → a ≡ c → b ≡ d → (a && b) ≡ (d && c)
flip_and true true c d e f = ap₂ (λ (x y : Bool). x && y) f e
flip_and true false c d e f = ap₂ (λ (x y : Bool). x && y) f e
flip_and false true c d e f = flat c d e f
  where
    flat : (c d : Bool) → false ≡ c → true ≡ d → false ≡ (d && c)
    flat c d e f = ap₂ (λ (x y : Bool). x && y) f e
flip_and false false c d e f = ap₂ (λ (x y : Bool). x && y) f e

-- for what it begins to wait
pub marks_waited : (s : Doing) (d k : ℕ) → waits_for (hold_in s) d k ≡ asks (In s) (Mark d k)
unfolding asks
marks_waited (IsHolding (AtMarks m named) line) d k = go named
  where
    none : (b : Bool) → (b && false) ≡ false
    none true = refl
    none false = refl

    spread : (a b c : Bool) → (a && (b || c)) ≡ ((a && b) || (a && c))
    spread true b c = refl
    spread false b c = refl

    go : (xs : List ℕ) → ((m == k) && among xs d) ≡ list_any (same (Mark d k)) (map (λ (e : ℕ). Mark e m) xs)
    go [] = none (m == k)
    go (x ∷ xs) = spread (m == k) (x == d) (among xs d) ∙ ap₂ (λ (a b : Bool). a || b) (flip_and (m == k) (x == d) (k == m) (d == x) (eqb_turned m k) (eqb_turned x d)) (go xs)
marks_waited (IsHolding (AtEnds named) line) d k = go named
  where
    go : (xs : List ℕ) → false ≡ list_any (same (Mark d k)) (map (λ (e : ℕ). End e) xs)
    go [] = refl
    go (x ∷ xs) = go xs
marks_waited (IsHolding (AtAxes from_standing named) line) d k = go named
  where
    go : (xs : List ℕ) → false ≡ list_any (same (Mark d k)) (map (λ (e : ℕ). Axis e) xs)
    go [] = refl
    go (x ∷ xs) = go xs
marks_waited s d k = refl

pub axes_waited : (s : Doing) (x : ℕ) → asks_for (hold_in s) x ≡ asks (In s) (Axis x)
unfolding asks
axes_waited (IsHolding (AtAxes from_standing axes) line) x = go axes
  where
    go : (ys : List ℕ) → among ys x ≡ list_any (same (Axis x)) (map (λ (a : ℕ). Axis a) ys)
    go [] = refl
    go (y ∷ ys) = ap₂ (λ (a b : Bool). a || b) (eqb_turned y x) (go ys)
axes_waited (IsHolding (AtMarks k named) line) x = go named
  where
    go : (ys : List ℕ) → false ≡ list_any (same (Axis x)) (map (λ (d : ℕ). Mark d k) ys)
    go [] = refl
    go (y ∷ ys) = go ys
axes_waited (IsHolding (AtEnds named) line) x = go named
  where
    go : (ys : List ℕ) → false ≡ list_any (same (Axis x)) (map (λ (d : ℕ). End d) ys)
    go [] = refl
    go (y ∷ ys) = go ys
axes_waited s x = refl

pub touched_told : (action : Action) (y : ℕ) → among (channels_touched action) y ≡ touches action y
touched_told (Init c program) y = refl
touched_told (Start named) y = refl
touched_told other y = refl

-- who waits for a mark, or an axis
pub record AtMark (s : Doing) (d k : ℕ) : Type 0 where
  pub named : List ℕ
  pub line : ℕ
  pub state : s ≡ IsHolding (AtMarks k named) line
  pub names : among named d ≡ true

pub mark_state : (s : Doing) (d k : ℕ) → asks (In s) (Mark d k) ≡ true → AtMark s d k
mark_state s d k on = go s (marks_waited s d k ∙ on)
  where
    go : (s : Doing) → waits_for (hold_in s) d k ≡ true → AtMark s d k
    go (IsHolding (AtMarks m named) line) on =
        let p = and_parts (m == k) (among named d) on in
        record { named = named; line = line; state = ap (λ (n : ℕ). IsHolding (AtMarks n named) line) (eqb-true m k p.0); names = p.1 }
    go s on = absurd (true≢false (sym on))

pub record AtAxis (s : Doing) (x : ℕ) : Type 0 where
  pub from_standing : Bool
  pub axes : List ℕ
  pub line : ℕ
  pub state : s ≡ IsHolding (AtAxes from_standing axes) line
  pub names : among axes x ≡ true

pub axis_state : (s : Doing) (x : ℕ) → asks (In s) (Axis x) ≡ true → AtAxis s x
axis_state s x on = go s (axes_waited s x ∙ on)
  where
    go : (s : Doing) → asks_for (hold_in s) x ≡ true → AtAxis s x
    go (IsHolding (AtAxes from_standing axes) line) on = record { from_standing = from_standing; axes = axes; line = line; state = refl; names = on }
    go s on = absurd (true≢false (sym on))

-- the seat within a step of a channel that asks
pub record Asks (t : State) (c : ℕ) (n : Need) : Type 0 where
  pub state : Doing
  pub seat : (t.own c).seat ≡ In state
  pub asks : asks (In state) n ≡ true

asks_in : (t : State) (c : ℕ) (n : Need) (s : Seat) → (t.own c).seat ≡ s → asks s n ≡ true → ((p : ℕ) → asks (Called p) n ≡ false) → Asks t c n
asks_in t c n (In state) e on off = record { state = state; seat = e; asks = on }
asks_in t c n (Called p) e on off = no on (off p)

pub asks_mark_in : (t : State) (c d k : ℕ) → asks (t.own c).seat (Mark d k) ≡ true → Asks t c (Mark d k)
unfolding asks
asks_mark_in t c d k on = asks_in t c (Mark d k) (t.own c).seat refl on (λ p. refl)

pub asks_axis_in : (t : State) (c x : ℕ) → asks (t.own c).seat (Axis x) ≡ true → Asks t c (Axis x)
unfolding asks
asks_axis_in t c x on = asks_in t c (Axis x) (t.own c).seat refl on (λ p. refl)

-- the act of a step
pub act_event : (b : Board) (moves : List Move) (i : ℕ) (w : Here b moves i) → IsEventIn (course_of b moves) (event i w.p false)
act_event b moves i w = actor_told b moves i w

pub act_count : (b : Board) (moves : List Move) (i : ℕ) (w : Here b moves i) (d : ℕ) → (d == w.p) ≡ false → row (course_of b moves) (event i w.p false) d ≡ (own_at b moves i w.p).past d
act_count b moves i w d n = sym (act_told b moves i w d) ∙ other (own_at b moves i w.p)
  where
    other : (o : Own) → act_clock w.p o d ≡ o.past d
    other o = rw n refl

-- a going on of a step
pub go_count : (b : Board) (moves : List Move) (i : ℕ) (w : Here b moves i) (held : HeldIn w) (c d : ℕ) → Meets (mid w) → Inv (mid w) → goes_in b moves i c ≡ true → row (course_of b moves) (event i c true) d ≡ go_clock (mid w) c d
go_count b moves i w held c d meets inv on = go_told b moves i w held c d meets inv on

lowers_at : (s : Seat) (k : ℕ) → lowers (from_of s) k ≡ is_at s k
lowers_at (In (IsHolding (AtMarks m named) line)) k = eqb_turned k m
lowers_at (In s) k = refl
lowers_at (Called p) k = refl

-- who goes on from a mark leaves that it is lowered, and minds who needed it
pub going_lowers : (b : Board) (moves : List Move) (i : ℕ) (w : Here b moves i) (c k : ℕ) (g : Goer w c) → of_going (going_of (happening_at b moves i).goings c) (λ g. going_leaves g (Lowered c k)) ≡ is_at ((mid w).own c).seat k
going_lowers b moves i w c k g =
    ap (λ (o : Option Going). of_going o (λ g. going_leaves g (Lowered c k))) g.found
    ∙ ap₂ (λ (x : Bool) (y : Bool). x && y) (eq-eqb c g.going.channel (sym g.channel)) (ap (λ (s : Doing). lowers s k) g.from ∙ lowers_at ((mid w).own c).seat k)

pub going_minds_need : (b : Board) (moves : List Move) (i : ℕ) (w : Here b moves i) (c k : ℕ) (g : Goer w c) → of_going (going_of (happening_at b moves i).goings c) (λ g. going_minds g (Needed c k)) ≡ is_at ((mid w).own c).seat k
going_minds_need b moves i w c k g =
    ap (λ (o : Option Going). of_going o (λ g. going_minds g (Needed c k))) g.found
    ∙ ap₂ (λ (x : Bool) (y : Bool). x && y) (eq-eqb c g.going.channel (sym g.channel)) (ap (λ (s : Doing). lowers s k) g.from ∙ lowers_at ((mid w).own c).seat k)

-- who waits before the step waits within it
pub waits_on : (b : Board) (moves : List Move) (i : ℕ) (w : Here b moves i) (c : ℕ) (s : Doing) (n : Need) → (c == w.p) ≡ false → (own_at b moves i c).seat ≡ In s → asks (In s) n ≡ true → ((mid w).own c).seat ≡ In s
waits_on b moves i w c s n other seat on =
    ap (λ (o : Own). o.seat) (put_other (tracked b moves i) w.p (effect (tracked b moves i) w.p w.step) c other
    ∙ touched_awake (effect (tracked b moves i) w.p w.step) w.p c (own_at b moves i c) (ap (λ (z : Seat). machine.is_idle z) seat ∙ awake s (asks_holds (In s) n on)))
    ∙ seat
  where
    awake : (s : Doing) → machine.holds (In s) ≡ true → machine.is_idle (In s) ≡ false
    awake (IsHolding hold line) h = refl
    awake s h = absurd (true≢false (sym h))
