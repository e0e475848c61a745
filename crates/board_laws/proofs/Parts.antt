-- The own part of a step, and what goes: one equation per case.
use Rattle.std.proofs.Common.{◌≡◌, ℕ, ℤ, suc, ◌⊎◌, ◌==◌, ◌&&◌, ◌||◌, not, Bool, true, false, List, [], ◌∷◌, Option, None, Some, filter, map, inl, inr, refl, sym, ap, ◌∙◌, if◌then◌else◌}
use Rattle.std.proofs.Math.Path.{fun_ext}
use Rattle.std.proofs.lemmas.Bool.{cases_Bool, eqb-true, eq-eqb, and_parts, true≢false}
use Rattle.sync_types.specs.Boards.{IsIdle, IsRunning, among, zone_numbers, axis_numbers, is_this, positions_where}
use Rattle.sync_types.specs.GoingOn.{first_of}
use Rattle.sync_types.specs.Starts.{first_position}
use Rattle.sync_types.specs.Views.{StartView}
use Rattle.sync_types.specs.declared.Grant.{Grant}
use Rattle.board_laws.specs.Machine.{Need, Mark, Axis, Call, Seat, In, Called, Own, Cell, State, Effect, Clock, same, asks, is_at, is_idle, is_ended, is_running, is_free, mine, ready, clock_of, go_clock, axes_taken, axes_then_owned, holds_zone, grant_by, places_of, grant_at_go, gone_of, own_after_go, takes, taker, cell_after_taking, settle_own, settle_axis, own_after_call, cell_after_release, put_own, put_axis}
use Rattle.board_laws.proofs.Basics.{no, running_asks, called_asks, idle_asks}

pub settle_goes : (t : State) (c : ℕ) → ready t c ≡ true → settle_own t c ≡ own_after_go t c
unfolding settle_own
settle_goes t c r = rw r refl

pub settle_stays : (t : State) (c : ℕ) → ready t c ≡ false → settle_own t c ≡ t.own c
unfolding settle_own
settle_stays t c r = rw r refl

pub gone_seat : (t : State) (c : ℕ) → (own_after_go t c).seat ≡ In (IsRunning (grant_at_go t c (t.own c)))
unfolding gone_of
gone_seat t c = refl

pub gone_runs : (t : State) (c : ℕ) → is_running (own_after_go t c).seat ≡ true
unfolding gone_of
gone_runs t c = refl

pub gone_asks : (t : State) (c : ℕ) (n : Need) → asks (own_after_go t c).seat n ≡ false
gone_asks t c n = running_asks (own_after_go t c).seat n (gone_runs t c)

pub gone_count : (t : State) (c : ℕ) → (own_after_go t c).count ≡ suc (t.own c).count
unfolding gone_of
gone_count t c = refl

pub gone_past : (t : State) (c : ℕ) → (own_after_go t c).past ≡ go_clock t c
unfolding gone_of
gone_past t c = refl

pub gone_raised : (t : State) (c : ℕ) → (own_after_go t c).raised ≡ (t.own c).raised
unfolding gone_of
gone_raised t c = refl

pub gone_program : (t : State) (c : ℕ) → (own_after_go t c).program ≡ (t.own c).program
unfolding gone_of
gone_program t c = refl

pub gone_last_position : (t : State) (c : ℕ) → (own_after_go t c).last_position ≡ (t.own c).last_position
unfolding gone_of
gone_last_position t c = refl

pub gone_started : (t : State) (c : ℕ) → (own_after_go t c).started ≡ (t.own c).started
unfolding gone_of
gone_started t c = refl

pub gone_marks_at : (t : State) (c k : ℕ) → is_at (t.own c).seat k ≡ true → (own_after_go t c).marks k ≡ false
unfolding gone_of
gone_marks_at t c k at = rw at refl

pub gone_marks_off : (t : State) (c k : ℕ) → is_at (t.own c).seat k ≡ false → (own_after_go t c).marks k ≡ (t.own c).marks k
unfolding gone_of
gone_marks_off t c k at = rw at refl

pub gone_lowered_at : (t : State) (c k : ℕ) → is_at (t.own c).seat k ≡ true → (own_after_go t c).lowered k ≡ suc (t.own c).count
unfolding gone_of
gone_lowered_at t c k at = rw at refl

pub gone_lowered_off : (t : State) (c k : ℕ) → is_at (t.own c).seat k ≡ false → (own_after_go t c).lowered k ≡ (t.own c).lowered k
unfolding gone_of
gone_lowered_off t c k at = rw at refl

pub gone_needs_on : (t : State) (c d k : ℕ) → asks (t.own c).seat (Mark d k) ≡ true → (own_after_go t c).needs d k ≡ suc (t.own c).count
unfolding gone_of
gone_needs_on t c d k a = rw a refl

pub gone_needs_off : (t : State) (c d k : ℕ) → asks (t.own c).seat (Mark d k) ≡ false → (own_after_go t c).needs d k ≡ (t.own c).needs d k
unfolding gone_of
gone_needs_off t c d k a = rw a refl

pub gone_took_on : (t : State) (c a : ℕ) → asks (t.own c).seat (Axis a) ≡ true → mine t c a ≡ false → (own_after_go t c).took a ≡ suc (t.own c).count
unfolding gone_of axes_taken
gone_took_on t c a y f = rw (y, f) refl

pub gone_took_off : (t : State) (c a : ℕ) → (asks (t.own c).seat (Axis a) && not (mine t c a)) ≡ false → (own_after_go t c).took a ≡ (t.own c).took a
unfolding gone_of axes_taken
gone_took_off t c a y = rw y refl

-- a grant by what a channel owns, learns and has on
owning_same : (t u : State) (c : ℕ) (s : Seat) → ((a : ℕ) → mine t c a ≡ mine u c a) → axes_then_owned t c s ≡ axes_then_owned u c s
unfolding axes_then_owned
owning_same t u c s own = fun_ext λ a. ap (λ (b : Bool). asks s (Axis a) || b) (own a)

taking_same : (t u : State) (c : ℕ) (s : Seat) → ((a : ℕ) → mine t c a ≡ mine u c a) → axes_taken t c s ≡ axes_taken u c s
unfolding axes_taken
taking_same t u c s own = fun_ext λ a. ap (λ (b : Bool). asks s (Axis a) && not b) (own a)

map_same : {A : Type 0} (f g : ℕ → A) (xs : List ℕ) → ((x : ℕ) → f x ≡ g x) → map f xs ≡ map g xs
map_same {A} f g xs each = ap (λ (h : ℕ → A). map h xs) (fun_ext each)

places_same : (t u : State) (c : ℕ) (s : Seat) → t.start ≡ u.start → ((a : ℕ) → mine t c a ≡ mine u c a) → ((a : ℕ) → asks s (Axis a) ≡ true → t.axis a ≡ u.axis a) → places_of t c s ≡ places_of u c s
unfolding places_of axes_taken
places_same t u c (Called p) start own cells = ap (λ (s : StartView). positions_where (mine t c) (first_position s)) start ∙ ap (λ (f : ℕ → Bool). positions_where f (first_position u.start)) (fun_ext own)
places_same t u c (In state) start own cells =
    map_same (λ a. if asks (In state) (Axis a) && not (mine t c a) then Some (t.axis a).position else None) (λ a. if asks (In state) (Axis a) && not (mine u c a) then Some (u.axis a).position else None)
    axis_numbers (λ a. elim (cases_Bool (asks (In state) (Axis a))) [
      | inl y ↦ rw (y, cells a y) refl
      | inr n ↦ rw n refl
    ])

on_same : (start : StartView) (own f g : ℕ → Bool) (c : ℕ) → ((z : ℕ) → holds_zone start own c z ≡ true → f z ≡ g z)
    → map (λ (z : ℕ). holds_zone start own c z && f z) zone_numbers ≡ map (λ (z : ℕ). holds_zone start own c z && g z) zone_numbers
on_same start own f g c each = map_same (λ (z : ℕ). holds_zone start own c z && f z) (λ (z : ℕ). holds_zone start own c z && g z) zone_numbers (λ z. elim (cases_Bool (holds_zone start own c z)) [
  | inl y ↦ rw (y, each z y) refl
  | inr n ↦ rw n refl
])

grant_same : (start : StartView) (c : ℕ) (own : ℕ → Bool) (at : List (Option ℤ)) (f g : ℕ → Bool) (program : Option ℕ) → ((z : ℕ) → holds_zone start own c z ≡ true → f z ≡ g z)
    → grant_by start c own at f program ≡ grant_by start c own at g program
unfolding grant_by
grant_same start c own at f g program each = ap (λ (on : List Bool). grant_of on) (on_same start own f g c each)
  where
    grant_of : List Bool → Grant
    grant_of on = record { axes = map own axis_numbers; at = at; on = false ∷ on; program = program }

pub granted_agree : (t u : State) (c : ℕ) (o : Own) → t.start ≡ u.start → ((a : ℕ) → mine t c a ≡ mine u c a) → ((a : ℕ) → asks o.seat (Axis a) ≡ true → t.axis a ≡ u.axis a)
    → ((z : ℕ) → holds_zone u.start (axes_then_owned u c o.seat) c z ≡ true → t.on z ≡ u.on z) → grant_at_go t c o ≡ grant_at_go u c o
unfolding grant_at_go
granted_agree t u c o start own cells on =
    ap (λ (s : StartView). grant_by s c (axes_then_owned t c o.seat) (places_of t c o.seat) t.on o.program) start
    ∙ ap (λ (f : ℕ → Bool). grant_by u.start c f (places_of t c o.seat) t.on o.program) (owning_same t u c o.seat own)
    ∙ ap (λ (at : List (Option ℤ)). grant_by u.start c (axes_then_owned u c o.seat) at t.on o.program) (places_same t u c o.seat start own cells)
    ∙ grant_same u.start c (axes_then_owned u c o.seat) (places_of u c o.seat) t.on u.on o.program on

-- equal own parts, clocks, axes and zones give equal channels
pub gone_agree : (t u : State) (c : ℕ) → t.start ≡ u.start → t.own c ≡ u.own c → clock_of t c (u.own c) ≡ clock_of u c (u.own c)
    → ((a : ℕ) → asks (u.own c).seat (Axis a) ≡ true → t.axis a ≡ u.axis a) → ((a : ℕ) → mine t c a ≡ mine u c a)
    → ((z : ℕ) → holds_zone u.start (axes_then_owned u c (u.own c).seat) c z ≡ true → t.on z ≡ u.on z) → own_after_go t c ≡ own_after_go u c
gone_agree t u c start own clock cells owns on =
    ap (λ (o : Own). gone_of o (clock_of t c o) (axes_taken t c o.seat) (grant_at_go t c o)) own
    ∙ ap (λ (k : Clock). gone_of (u.own c) k (axes_taken t c (u.own c).seat) (grant_at_go t c (u.own c))) clock
    ∙ ap (λ (h : ℕ → Bool). gone_of (u.own c) (clock_of u c (u.own c)) h (grant_at_go t c (u.own c))) (taking_same t u c (u.own c).seat owns)
    ∙ ap (λ (g : Grant). gone_of (u.own c) (clock_of u c (u.own c)) (axes_taken u c (u.own c).seat) g) (granted_agree t u c (u.own c) start owns cells on)

pub put_same : (b : State) (p : ℕ) (e : Effect) → put_own b p e p ≡ e.own
unfolding put_own
put_same b p e = rw (eq-eqb p p refl) refl

pub put_other : (b : State) (p : ℕ) (e : Effect) (c : ℕ) → (c == p) ≡ false → put_own b p e c ≡ own_after_call e p c (b.own c)
unfolding put_own
put_other b p e c other = rw other refl

pub touched_awake : (e : Effect) (p c : ℕ) (o : Own) → is_idle o.seat ≡ false → own_after_call e p c o ≡ o
unfolding own_after_call
touched_awake e p c o awake = elim (cases_Bool (e.calls c)) [
  | inl y ↦ elim (cases_Bool (e.selects c)) [ inl z ↦ rw (y, z, awake) refl | inr z ↦ rw (y, z, awake) refl ]
  | inr y ↦ elim (cases_Bool (e.selects c)) [ inl z ↦ rw (y, z, awake) refl | inr z ↦ rw (y, z) refl ]
]

pub touched_off : (e : Effect) (p c : ℕ) (o : Own) → e.calls c ≡ false → e.selects c ≡ false → own_after_call e p c o ≡ o
unfolding own_after_call
touched_off e p c o y z = rw (y, z) refl

-- what START and INIT leave alone
pub record Kept (old new : Own) : Type 0 where
  pub marks : new.marks ≡ old.marks
  pub last_position : new.last_position ≡ old.last_position
  pub count : new.count ≡ old.count
  pub past : new.past ≡ old.past
  pub raised : new.raised ≡ old.raised
  pub lowered : new.lowered ≡ old.lowered
  pub needs : new.needs ≡ old.needs
  pub took : new.took ≡ old.took
  pub started : new.started ≡ old.started

pub touched_kept : (e : Effect) (p c : ℕ) (o : Own) → Kept o (own_after_call e p c o)
unfolding own_after_call
touched_kept e p c o = elim (cases_Bool (e.calls c && is_idle o.seat)) [
  | inl y ↦ rw y (record { marks = refl; last_position = refl; count = refl; past = refl; raised = refl; lowered = refl; needs = refl; took = refl; started = refl })
  | inr n ↦ elim (cases_Bool (e.selects c && is_idle o.seat)) [
    | inl y ↦ rw (n, y) (record { marks = refl; last_position = refl; count = refl; past = refl; raised = refl; lowered = refl; needs = refl; took = refl; started = refl })
    | inr m ↦ rw (n, m) (record { marks = refl; last_position = refl; count = refl; past = refl; raised = refl; lowered = refl; needs = refl; took = refl; started = refl })
  ]
]

-- the seat stays, or was idle and is called or idle
pub touched_seat : (e : Effect) (p c : ℕ) (o : Own) → ((own_after_call e p c o).seat ≡ o.seat) ⊎ ((is_idle o.seat ≡ true) × ((own_after_call e p c o).seat ≡ Called p))
unfolding own_after_call
touched_seat e p c o = elim (cases_Bool (e.calls c && is_idle o.seat)) [
  | inl y ↦ let i = and_parts (e.calls c) (is_idle o.seat) y in rw y (inr (i.1, refl))
  | inr n ↦ elim (cases_Bool (e.selects c && is_idle o.seat)) [
    | inl y ↦ rw (n, y) (inl refl)
    | inr m ↦ rw (n, m) (inl refl)
  ]
]

-- what is asked after it was asked before, but for the call
pub touched_asks : (e : Effect) (p c : ℕ) (o : Own) (n : Need) → same n (Call p) ≡ false → asks (own_after_call e p c o).seat n ≡ asks o.seat n
touched_asks e p c o n h = elim (touched_seat e p c o) [
  | inl s ↦ ap (λ (x : Seat). asks x n) s
  | inr w ↦ ap (λ (x : Seat). asks x n) w.1 ∙ called_asks p n h ∙ sym (idle_asks o.seat n w.0)
]

pub touched_at : (e : Effect) (p c : ℕ) (o : Own) (k : ℕ) → is_at (own_after_call e p c o).seat k ≡ is_at o.seat k
touched_at e p c o k = elim (touched_seat e p c o) [
  | inl s ↦ ap (λ (x : Seat). is_at x k) s
  | inr w ↦ ap (λ (x : Seat). is_at x k) w.1 ∙ sym (idle_at o.seat w.0)
]
  where
    idle_at : (s : Seat) → is_idle s ≡ true → is_at s k ≡ false
    idle_at (In IsIdle) i = refl
    idle_at s i = absurd (true≢false (sym i))

pub touched_ended : (e : Effect) (p c : ℕ) (o : Own) → is_ended (own_after_call e p c o).seat ≡ is_ended o.seat
touched_ended e p c o = elim (touched_seat e p c o) [
  | inl s ↦ ap (λ (x : Seat). is_ended x) s
  | inr w ↦ ap (λ (x : Seat). is_ended x) w.1 ∙ sym (idle_ended o.seat w.0)
]
  where
    idle_ended : (s : Seat) → is_idle s ≡ true → is_ended s ≡ false
    idle_ended (In IsIdle) i = refl
    idle_ended s i = absurd (true≢false (sym i))

pub axis_off : (b : State) (p : ℕ) (e : Effect) (a : ℕ) → mine b p a ≡ false → put_axis b p e a ≡ b.axis a
unfolding put_axis
axis_off b p e a h = elim (cases_Bool (e.frees a)) [ inl y ↦ rw (y, h) refl | inr n ↦ rw n refl ]

pub axis_kept : (b : State) (p : ℕ) (e : Effect) (a : ℕ) → e.frees a ≡ false → put_axis b p e a ≡ b.axis a
unfolding put_axis
axis_kept b p e a h = rw h refl

pub axis_freed : (b : State) (p : ℕ) (e : Effect) (a : ℕ) → e.frees a ≡ true → mine b p a ≡ true → put_axis b p e a ≡ cell_after_release b p e a
unfolding put_axis
axis_freed b p e a h o = rw (h, o) refl

pub released_free : (b : State) (p : ℕ) (e : Effect) (a c : ℕ) → is_this (cell_after_release b p e a).owner c ≡ false
unfolding cell_after_release
released_free b p e a c = refl

pub free_of : (o : Option ℕ) (p : ℕ) → is_free o ≡ true → is_this o p ≡ false
free_of None p h = refl
free_of (Some d) p h = absurd (true≢false (sym h))

pub of_free : (o : Option ℕ) (p : ℕ) → is_this o p ≡ true → is_free o ≡ false
of_free None p h = absurd (true≢false (sym h))
of_free (Some d) p h = refl

pub of_other : (o : Option ℕ) (c p : ℕ) → (c == p) ≡ false → is_this o c ≡ true → is_this o p ≡ false
of_other None c p other h = refl
of_other (Some d) c p other h = rw (eqb-true d c h) other

-- the first of a list
pub first_is : (f : ℕ → Bool) (xs : List ℕ) (c : ℕ) → first_of (filter f xs) ≡ Some c → f c ≡ true
first_is f [] c h = let bad : ⊥ = cc in absurd bad
first_is f (x ∷ xs) c h = elim (cases_Bool (f x)) [
  | inl y ↦ let e : Some x ≡ Some c = sym (is_here y) ∙ h in let s : x ≡ c = cc in rw (sym s) y
  | inr n ↦ first_is f xs c (sym (is_there n) ∙ h)
]
  where
    is_here : f x ≡ true → first_of (filter f (x ∷ xs)) ≡ Some x
    is_here y = rw y refl

    is_there : f x ≡ false → first_of (filter f (x ∷ xs)) ≡ first_of (filter f xs)
    is_there n = rw n refl

pub first_none : (f : ℕ → Bool) (xs : List ℕ) → ((c : ℕ) → f c ≡ false) → first_of (filter f xs) ≡ None
first_none f [] each = refl
first_none f (x ∷ xs) each = rw (each x, first_none f xs each) refl

-- the only one that passes is the first
pub first_only : (f g : ℕ → Bool) (xs : List ℕ) (c : ℕ) → first_of (filter f xs) ≡ Some c → g c ≡ true → ((d : ℕ) → (d == c) ≡ false → g d ≡ false) → first_of (filter g xs) ≡ Some c
first_only f g [] c h y each = let bad : ⊥ = cc in absurd bad
first_only f g (x ∷ xs) c h y each = elim (cases_Bool (x == c)) [
  | inl e ↦ is_here (eqb-true x c e)
  | inr n ↦ is_there (each x n) (elim (cases_Bool (f x)) [
    | inl fx ↦ let e : Some x ≡ Some c = sym (was_here fx) ∙ h in let s : x ≡ c = cc in no (eq-eqb x c s) n
    | inr fn ↦ first_only f g xs c (sym (was_there fn) ∙ h) y each
  ])
]
  where
    is_here : x ≡ c → first_of (filter g (x ∷ xs)) ≡ Some c
    is_here e = rw (e, y) refl

    is_there : g x ≡ false → first_of (filter g xs) ≡ Some c → first_of (filter g (x ∷ xs)) ≡ Some c
    is_there n r = rw n r

    was_here : f x ≡ true → first_of (filter f (x ∷ xs)) ≡ Some x
    was_here y = rw y refl

    was_there : f x ≡ false → first_of (filter f (x ∷ xs)) ≡ first_of (filter f xs)
    was_there n = rw n refl

pub first_agree : (f g h : ℕ → Bool) (xs : List ℕ) → first_of (filter f xs) ≡ None → ((d : ℕ) → f d ≡ false → g d ≡ h d) → first_of (filter g xs) ≡ first_of (filter h xs)
first_agree f g h [] e each = refl
first_agree f g h (x ∷ xs) e each = elim (cases_Bool (f x)) [
  | inl y ↦ let bad : Some x ≡ None = sym (was_here y) ∙ e in let worse : ⊥ = cc in absurd worse
  | inr n ↦ rw (each x n) (same_tail (h x) (first_agree f g h xs (sym (was_there n) ∙ e) each))
]
  where
    same_tail : (b : Bool) → first_of (filter g xs) ≡ first_of (filter h xs) → first_of (if b then x ∷ filter g xs else filter g xs) ≡ first_of (if b then x ∷ filter h xs else filter h xs)
    same_tail true r = refl
    same_tail false r = r

    was_here : f x ≡ true → first_of (filter f (x ∷ xs)) ≡ Some x
    was_here y = rw y refl

    was_there : f x ≡ false → first_of (filter f (x ∷ xs)) ≡ first_of (filter f xs)
    was_there n = rw n refl

-- one of the list that alone passes is the first
pub only_one : (f : ℕ → Bool) (xs : List ℕ) (c : ℕ) → among xs c ≡ true → f c ≡ true → ((d : ℕ) → (d == c) ≡ false → f d ≡ false) → first_of (filter f xs) ≡ Some c
only_one f [] c listed y each = absurd (true≢false (sym listed))
only_one f (x ∷ xs) c listed y each = elim (cases_Bool (x == c)) [
  | inl i ↦ let s : x ≡ c = eqb-true x c i in rw (ap f s ∙ y) (ap Some s)
  | inr n ↦ rw (each x n) (only_one f xs c (rw n at listed) y each)
]

-- where none passes one test, the first that passes another does not pass the one
pub first_past : (f g : ℕ → Bool) (xs : List ℕ) (c : ℕ) → first_of (filter f xs) ≡ None → first_of (filter g xs) ≡ Some c → f c ≡ false
first_past f g [] c none some = let bad : ⊥ = cc in absurd bad
first_past f g (x ∷ xs) c none some = elim (cases_Bool (f x)) [
  | inl y ↦ let bad : Some x ≡ None = sym (was_here f y) ∙ none in let worse : ⊥ = cc in absurd worse
  | inr n ↦ elim (cases_Bool (g x)) [
    | inl y ↦ let e : Some x ≡ Some c = sym (was_here g y) ∙ some in let s : x ≡ c = cc in rw (sym s) n
    | inr m ↦ first_past f g xs c (sym (was_there f n) ∙ none) (sym (was_there g m) ∙ some)
  ]
]
  where
    was_here : (h : ℕ → Bool) → h x ≡ true → first_of (filter h (x ∷ xs)) ≡ Some x
    was_here h y = rw y refl

    was_there : (h : ℕ → Bool) → h x ≡ false → first_of (filter h (x ∷ xs)) ≡ first_of (filter h xs)
    was_there h n = rw n refl

pub settle_axis_none : (t : State) (a : ℕ) → taker t a ≡ None → settle_axis t a ≡ t.axis a
unfolding settle_axis cell_after_taking
settle_axis_none t a h = rw h refl

pub settle_axis_some : (t : State) (a c : ℕ) → taker t a ≡ Some c → settle_axis t a ≡ cell_after_taking t (Some c) (t.axis a)
unfolding settle_axis
settle_axis_some t a c h = rw h refl

pub given_to : (t : State) (c : ℕ) (cell : Cell) (d : ℕ) → is_this (cell_after_taking t (Some c) cell).owner d ≡ (c == d)
unfolding cell_after_taking
given_to t c cell d = refl

pub cases_first : (o : Option ℕ) → (o ≡ None) ⊎ ((c : ℕ) × (o ≡ Some c))
cases_first None = inl refl
cases_first (Some c) = inr (c, refl)

pub takes_parts : (t : State) (a c : ℕ) → takes t a c ≡ true → (ready t c ≡ true) × (asks (t.own c).seat (Axis a) ≡ true) × (mine t c a ≡ false)
unfolding takes
takes_parts t a c h =
    let p = and_parts (ready t c) (asks (t.own c).seat (Axis a) && not (mine t c a)) h in
    let q = and_parts (asks (t.own c).seat (Axis a)) (not (mine t c a)) p.1 in
    (p.0, q.0, off (mine t c a) q.1)
  where
    off : (b : Bool) → not b ≡ true → b ≡ false
    off true h = sym h
    off false h = refl

pub takes_from : (t : State) (a c : ℕ) → ready t c ≡ true → asks (t.own c).seat (Axis a) ≡ true → mine t c a ≡ false → takes t a c ≡ true
unfolding takes
takes_from t a c r y f = rw (r, y, f) refl

pub takes_not : (t : State) (a c : ℕ) → (ready t c ≡ true → asks (t.own c).seat (Axis a) ≡ true → mine t c a ≡ false → ⊥) → takes t a c ≡ false
takes_not t a c never = elim (cases_Bool (takes t a c)) [
  | inl y ↦ let p = takes_parts t a c y in absurd (never p.0 p.1 p.2)
  | inr n ↦ n
]
