-- What the own part of a step reads of a board, and what it leaves.
use Rattle.std.proofs.Math.Path.{fun_ext}
use Rattle.std.proofs.Common.{◌≡◌, ℕ, ◌==◌, ◌&&◌, ◌||◌, not, Bool, true, false, List, [], ◌∷◌, map, Option, None, Some, is_some, inl, inr, refl, sym, ap, ◌∙◌, if◌then◌else◌}
use Rattle.std.proofs.lemmas.Bool.{cases_Bool, eqb-true, eq-eqb, or_left}
use Rattle.std.specs.List.{list_all, list_any}
use Rattle.axis_sets.specs.Sets.{has, members_of}
use Rattle.sync_types.proofs.BoardTests.{no_truth, not_so}
use Rattle.sync_types.specs.BoardActions.{axes_to_free, marks_after, is_on_after, state_after_alarm, marks_of_all, ownership_after, holder_after, carries, after_effects, state_of_actor, state_after_action, after_part, after_own_part, channels_started}
use Rattle.sync_types.specs.BoardAlarms.{alarm_of, named_channels, names_no_mark, names_no_channel, names_no_axis, named_axes, lets_go_of_others, is_whole, splits_a_zone, finds_own_mark, finds_one_awake, starts_without_program, own_alarm}
use Rattle.sync_types.specs.Boards.{AtMarks, AtEnds, AtAxes, IsIdle, IsRunning, IsHolding, HasEnded, HasAlarmed, State as Doing, Board, FreeAt, OwnedBy, Ownership, among, axis_numbers, zone_numbers, is_this, owner_of, owns, no_positions, grant_with}
use Rattle.sync_types.specs.Boards as boards
use Rattle.sync_types.specs.Starts.{has_channel, has_axis, axes_of_zone}
use Rattle.sync_types.specs.Views.{StartView}
use Rattle.sync_types.specs.declared.Action.{Action}
use Rattle.sync_types.specs.declared.Action.TheVariants.{WaitM, SetM, ClearM, Init, Start, WaitE, Release, Get, End, Alarm}
use Rattle.sync_types.specs.declared.Grant.{Grant}
use Rattle.sync_types.specs.declared.Step.{Step}
use Rattle.board_laws.specs.Machine.{In, is_at, is_idle, touches, selects_program}

-- what the own part of a step of p by this action reads is the same on both boards
pub record ReadsSame (a b : Board) (p : ℕ) (action : Action) : Type 0 where
  pub start : a.start ≡ b.start
  pub marks : a.marks p ≡ b.marks p
  pub program : a.program p ≡ b.program p
  pub owns : (x : ℕ) → owns a p x ≡ owns b p x
  pub holder : (z : ℕ) → is_this (a.holder z) p ≡ is_this (b.holder z) p
  pub idle : (y : ℕ) → touches action y ≡ true → boards.is_idle (a.state y) ≡ boards.is_idle (b.state y)
  pub chosen : (y : ℕ) → touches action y ≡ true → is_some (a.program y) ≡ is_some (b.program y)

pub all_same : (f g : ℕ → Bool) (xs : List ℕ) → ((x : ℕ) → among xs x ≡ true → f x ≡ g x) → list_all f xs ≡ list_all g xs
all_same f g [] each = refl
all_same f g (x ∷ xs) each = both (f x) (g x) (each x (or_left (x == x) (among xs x) (eq-eqb x x refl))) (all_same f g xs (λ y on. each y (later (x == y) (among xs y) on)))
  where
    later : (a b : Bool) → b ≡ true → (a || b) ≡ true
    later true b on = refl
    later false b on = on

    both : (a b : Bool) → a ≡ b → list_all f xs ≡ list_all g xs → (a && list_all f xs) ≡ (b && list_all g xs)
    both a b e r = ap (λ (z : Bool). z && list_all f xs) e ∙ ap (λ (z : Bool). b && z) r

abbrev by_tests : (number channel axis own whole mark idle program : Bool) → Option ℕ → Option ℕ
by_tests number channel axis own whole mark idle program rest =
    if number then Some 25 else if channel then Some 24 else if axis then Some 14 else if own then Some 15 else if whole then Some 31 else if mark then Some 26
    else if idle then Some 27 else if program then Some 28 else rest

others_same : (a b : Board) (p : ℕ) (action : Action) → ReadsSame a b p action → lets_go_of_others a p action ≡ lets_go_of_others b p action
others_same a b p (Release axes) s = ap (λ (f : ℕ → Bool). not (list_all f (members_of axes))) (fun_ext s.owns)
others_same a b p other s = refl

mark_same : (a b : Board) (p : ℕ) (action : Action) → ReadsSame a b p action → finds_own_mark a p action ≡ finds_own_mark b p action
mark_same a b p (WaitM m named) s = ap (λ (f : ℕ → Bool). f m) s.marks
mark_same a b p other s = refl

awake_same : (a b : Board) (p : ℕ) (action : Action) → ReadsSame a b p action → finds_one_awake a action ≡ finds_one_awake b action
awake_same a b p (Init c program) s = ap not (s.idle c (or_left (c == c) false (eq-eqb c c refl)))
awake_same a b p (Start named) s = ap not (all_same (λ c. boards.is_idle (a.state c)) (λ c. boards.is_idle (b.state c)) (members_of named) s.idle)
awake_same a b p other s = refl

program_same : (a b : Board) (p : ℕ) (action : Action) → ReadsSame a b p action → starts_without_program a action ≡ starts_without_program b action
program_same a b p (Start named) s = ap not (all_same (λ c. is_some (a.program c)) (λ c. is_some (b.program c)) (members_of named) s.chosen)
program_same a b p other s = refl

pub alarm_same : (a b : Board) (p : ℕ) (action : Action) → ReadsSame a b p action → alarm_of a p action ≡ alarm_of b p action
unfolding alarm_of
alarm_same a b p action s =
    let number : Bool = names_no_mark action in
    let channel : names_no_channel a action ≡ names_no_channel b action = ap (λ (t : StartView). not (list_all (has_channel t) (named_channels action))) s.start in
    let axis : names_no_axis a action ≡ names_no_axis b action = ap (λ (t : StartView). not (list_all (has_axis t) (members_of (named_axes action)))) s.start in
    let whole : splits_a_zone a action ≡ splits_a_zone b action = ap (λ (t : StartView). not (list_all (λ zone. is_whole (named_axes action) zone.1) t.zones)) s.start in
    let go : (c1 c2 x1 x2 o1 o2 w1 w2 m1 m2 i1 i2 p1 p2 : Bool) → c1 ≡ c2 → x1 ≡ x2 → o1 ≡ o2 → w1 ≡ w2 → m1 ≡ m2 → i1 ≡ i2 → p1 ≡ p2
    → by_tests number c1 x1 o1 w1 m1 i1 p1 (own_alarm action) ≡ by_tests number c2 x2 o2 w2 m2 i2 p2 (own_alarm action) =
    λ c1 c2 x1 x2 o1 o2 w1 w2 m1 m2 i1 i2 p1 p2 c x o w m i q.
    ap (λ (z : Bool). by_tests number z x1 o1 w1 m1 i1 p1 (own_alarm action)) c
    ∙ ap (λ (z : Bool). by_tests number c2 z o1 w1 m1 i1 p1 (own_alarm action)) x
    ∙ ap (λ (z : Bool). by_tests number c2 x2 z w1 m1 i1 p1 (own_alarm action)) o
    ∙ ap (λ (z : Bool). by_tests number c2 x2 o2 z m1 i1 p1 (own_alarm action)) w
    ∙ ap (λ (z : Bool). by_tests number c2 x2 o2 w2 z i1 p1 (own_alarm action)) m
    ∙ ap (λ (z : Bool). by_tests number c2 x2 o2 w2 m2 z p1 (own_alarm action)) i
    ∙ ap (λ (z : Bool). by_tests number c2 x2 o2 w2 m2 i2 z (own_alarm action)) q in
    go (names_no_channel a action) (names_no_channel b action) (names_no_axis a action) (names_no_axis b action) (lets_go_of_others a p action) (lets_go_of_others b p action)
    (splits_a_zone a action) (splits_a_zone b action) (finds_own_mark a p action) (finds_own_mark b p action) (finds_one_awake a action) (finds_one_awake b action)
    (starts_without_program a action) (starts_without_program b action)
    channel axis (others_same a b p action s) whole (mark_same a b p action s) (awake_same a b p action s) (program_same a b p action s)

-- where there is no alarm, none of the tests has come
pub record NoAlarm (b : Board) (p : ℕ) (action : Action) : Type 0 where
  pub number : names_no_mark action ≡ false
  pub channel : names_no_channel b action ≡ false
  pub axis : names_no_axis b action ≡ false
  pub own : lets_go_of_others b p action ≡ false
  pub whole : splits_a_zone b action ≡ false
  pub mark : finds_own_mark b p action ≡ false
  pub awake : finds_one_awake b action ≡ false
  pub program : starts_without_program b action ≡ false
  pub found : own_alarm action ≡ None

pub no_alarm : (b : Board) (p : ℕ) (action : Action) → alarm_of b p action ≡ None → NoAlarm b p action
unfolding alarm_of
no_alarm b p action none =
    let late_5 : Option ℕ = if starts_without_program b action then Some 28 else own_alarm action in
    let late_4 : Option ℕ = if finds_one_awake b action then Some 27 else late_5 in
    let late_3 : Option ℕ = if finds_own_mark b p action then Some 26 else late_4 in
    let late_2 : Option ℕ = if splits_a_zone b action then Some 31 else late_3 in
    let late_1 : Option ℕ = if lets_go_of_others b p action then Some 15 else late_2 in
    let late_0 : Option ℕ = if names_no_axis b action then Some 14 else late_1 in
    let late : Option ℕ = if names_no_channel b action then Some 24 else late_0 in
    let numbered = not_so (names_no_mark action) 25 late none in
    let known = not_so (names_no_channel b action) 24 late_0 numbered.1 in
    let there = not_so (names_no_axis b action) 14 late_1 known.1 in
    let own = not_so (lets_go_of_others b p action) 15 late_2 there.1 in
    let whole = not_so (splits_a_zone b action) 31 late_3 own.1 in
    let mark = not_so (finds_own_mark b p action) 26 late_4 whole.1 in
    let awake = not_so (finds_one_awake b action) 27 late_5 mark.1 in
    let program = not_so (starts_without_program b action) 28 (own_alarm action) awake.1 in
    record { number = numbered.0; channel = known.0; axis = there.0; own = own.0; whole = whole.0; mark = mark.0; awake = awake.0; program = program.0; found = program.1 }

-- the own part leaves the same marks and the same state
marks_left : (a b : Board) (p : ℕ) (step : Step) (alarm : Option ℕ) → ReadsSame a b p step.action → (after_part a p step alarm).marks p ≡ (after_part b p step alarm).marks p
unfolding marks_of_all
marks_left a b p step (Some code) s = s.marks
marks_left a b p step None s = fun_ext λ m. ap (λ (f : ℕ → Bool). if p == p then marks_after f step.action m else f m) s.marks

axes_left : (a b : Board) (p : ℕ) (step : Step) → ReadsSame a b p step.action → (x : ℕ) → owns (after_effects a p step) p x ≡ owns (after_effects b p step) p x
unfolding ownership_after
axes_left a b p step s x = elim (cases_Bool (among (axes_to_free step.action) x)) [ inl y ↦ rw y refl | inr n ↦ rw n (s.owns x) ]

on_left : (a b : Board) (p : ℕ) (step : Step) → ReadsSame a b p step.action → (z : ℕ) → (is_this (holder_after a step z) p && is_on_after a p step z) ≡ (is_this (holder_after b step z) p && is_on_after b p step z)
unfolding holder_after is_on_after
on_left a b p step s z =
    let c : carries a (axes_to_free step.action) z ≡ carries b (axes_to_free step.action) z = ap (λ (t : StartView). list_any (has (axes_of_zone t z)) (axes_to_free step.action)) s.start in
    go (carries a (axes_to_free step.action) z) (carries b (axes_to_free step.action) z) (a.holder z) (b.holder z) c (s.holder z)
  where
    go : (f g : Bool) (h k : Option ℕ) → f ≡ g → is_this h p ≡ is_this k p
        → (is_this (if f then None else h) p && (if is_this h p then has step.on z else a.is_on z)) ≡ (is_this (if g then None else k) p && (if is_this k p then has step.on z else b.is_on z))
    go true true h k c s = refl
    go true false h k c s = no_truth true refl c
    go false true h k c s = no_truth true refl (sym c)
    go false false h k c s = elim (cases_Bool (is_this k p)) [ inl y ↦ rw (s, y) refl | inr n ↦ rw (s, n) refl ]

abbrev grant_made : List Bool → List Bool → Option ℕ → Grant
grant_made axes on program = record { axes = axes; at = no_positions; on = false ∷ on; program = program }

abbrev on_of : Board → ℕ → Step → ℕ → Bool
on_of a p step z = is_this (holder_after a step z) p && is_on_after a p step z

-- INIT of another channel only
own_program : (a b : Board) (p : ℕ) (step : Step) → ReadsSame a b p step.action → (after_effects a p step).program p ≡ (after_effects b p step).program p
own_program a b p step s = go step.action
  where
    go : (action : Action) → (after_effects a p (record step { action = action })).program p ≡ (after_effects b p (record step { action = action })).program p
    go (Init c program) = ap (λ (o : Option ℕ). if p == c then Some program else o) s.program
    go other = s.program

grant_left : (a b : Board) (p : ℕ) (step : Step) → ReadsSame a b p step.action → grant_with (after_effects a p step) p no_positions ≡ grant_with (after_effects b p step) p no_positions
unfolding grant_with
grant_left a b p step s =
    ap (λ (f : ℕ → Bool). grant_made (map f axis_numbers) (map (on_of a p step) zone_numbers) ((after_effects a p step).program p)) (fun_ext (axes_left a b p step s))
    ∙ ap (λ (f : ℕ → Bool). grant_made (map (owns (after_effects b p step) p) axis_numbers) (map f zone_numbers) ((after_effects a p step).program p)) (fun_ext (on_left a b p step s))
    ∙ ap (λ (o : Option ℕ). grant_made (map (owns (after_effects b p step) p) axis_numbers) (map (on_of b p step) zone_numbers) o) (own_program a b p step s)

actor_same : (a b : Board) (p line : ℕ) (action : Action) → grant_with a p no_positions ≡ grant_with b p no_positions → state_of_actor a p line action ≡ state_of_actor b p line action
actor_same a b p line (WaitM m named) g = refl
actor_same a b p line (SetM marks) g = ap IsRunning g
actor_same a b p line (ClearM marks) g = ap IsRunning g
actor_same a b p line (Init c program) g = ap IsRunning g
actor_same a b p line (Start named) g = ap IsRunning g
actor_same a b p line (WaitE named) g = refl
actor_same a b p line (Release axes) g = ap IsRunning g
actor_same a b p line (Get axes) g = refl
actor_same a b p line End g = refl
actor_same a b p line (Alarm code) g = ap IsRunning g

state_left : (a b : Board) (p : ℕ) (step : Step) (alarm : Option ℕ) → ReadsSame a b p step.action → (after_part a p step alarm).state p ≡ (after_part b p step alarm).state p
unfolding state_after_alarm state_after_action
state_left a b p step (Some code) s = rw (eq-eqb p p refl) refl
state_left a b p step None s = rw (eq-eqb p p refl) (actor_same (after_effects a p step) (after_effects b p step) p step.line step.action (grant_left a b p step s))

pub part_marks : (a b : Board) (p : ℕ) (step : Step) → ReadsSame a b p step.action → (after_own_part a p step).marks p ≡ (after_own_part b p step).marks p
part_marks a b p step s = ap (λ (o : Option ℕ). (after_part a p step o).marks p) (alarm_same a b p step.action s) ∙ marks_left a b p step (alarm_of b p step.action) s

pub part_state : (a b : Board) (p : ℕ) (step : Step) → ReadsSame a b p step.action → (after_own_part a p step).state p ≡ (after_own_part b p step).state p
part_state a b p step s = ap (λ (o : Option ℕ). (after_part a p step o).state p) (alarm_same a b p step.action s) ∙ state_left a b p step (alarm_of b p step.action) s

-- who acts is not idle, and where it waits at a number its own mark was down and stands now
actor_awake : (b : Board) (p line : ℕ) (action : Action) → is_idle (In (state_of_actor b p line action)) ≡ false
actor_awake b p line (WaitM m named) = refl
actor_awake b p line (SetM marks) = refl
actor_awake b p line (ClearM marks) = refl
actor_awake b p line (Init c program) = refl
actor_awake b p line (Start named) = refl
actor_awake b p line (WaitE named) = refl
actor_awake b p line (Release axes) = refl
actor_awake b p line (Get axes) = refl
actor_awake b p line End = refl
actor_awake b p line (Alarm code) = refl

pub part_awake : (b : Board) (p : ℕ) (step : Step) → is_idle (In ((after_own_part b p step).state p)) ≡ false
unfolding state_after_alarm state_after_action
part_awake b p step = go (alarm_of b p step.action)
  where
    go : (alarm : Option ℕ) → is_idle (In ((after_part b p step alarm).state p)) ≡ false
    go (Some code) = rw (eq-eqb p p refl) refl
    go None = rw (eq-eqb p p refl) (actor_awake (after_effects b p step) p step.line step.action)

pub record Found (b : Board) (p : ℕ) (step : Step) (k : ℕ) : Type 0 where
  pub down : b.marks p k ≡ false
  pub up : (after_own_part b p step).marks p k ≡ true

found_at : (b a : Board) (p line k : ℕ) (action : Action) → finds_own_mark b p action ≡ false → is_at (In (state_of_actor a p line action)) k ≡ true → (b.marks p k ≡ false) × (marks_after (b.marks p) action k ≡ true)
found_at b a p line k (WaitM m named) down at = let e : m ≡ k = eqb-true m k at in (ap (b.marks p) (sym e) ∙ down, or_left (k == m) (b.marks p k) (eq-eqb k m (sym e)))
found_at b a p line k (SetM marks) down at = no_truth false at refl
found_at b a p line k (ClearM marks) down at = no_truth false at refl
found_at b a p line k (Init c program) down at = no_truth false at refl
found_at b a p line k (Start named) down at = no_truth false at refl
found_at b a p line k (WaitE named) down at = no_truth false at refl
found_at b a p line k (Release axes) down at = no_truth false at refl
found_at b a p line k (Get axes) down at = no_truth false at refl
found_at b a p line k End down at = no_truth false at refl
found_at b a p line k (Alarm code) down at = no_truth false at refl

pub part_found : (b : Board) (p : ℕ) (step : Step) (k : ℕ) → is_at (In ((after_own_part b p step).state p)) k ≡ true → Found b p step k
unfolding state_after_alarm state_after_action marks_of_all
part_found b p step k at = let f = go (alarm_of b p step.action) refl at in record { down = f.0; up = f.1 }
  where
    go : (alarm : Option ℕ) → alarm_of b p step.action ≡ alarm → is_at (In ((after_part b p step alarm).state p)) k ≡ true → (b.marks p k ≡ false) × ((after_part b p step alarm).marks p k ≡ true)
    go (Some code) is at = no_truth false (rw (eq-eqb p p refl) at at) refl
    go None is at =
        let f = found_at b (after_effects b p step) p step.line k step.action (no_alarm b p step.action is).mark (rw (eq-eqb p p refl) at at) in
        (f.0, rw (eq-eqb p p refl) f.1)

-- only the channels that it names are started or get a program
pub part_calls : (alarm : Option ℕ) (action : Action) (y : ℕ) → touches action y ≡ false → among (channels_started alarm action) y ≡ false
part_calls (Some code) action y off = refl
part_calls None (Start named) y off = off
part_calls None other y off = refl

pub part_selects : (alarm : Option ℕ) (action : Action) (y : ℕ) → touches action y ≡ false → selects_program alarm action y ≡ false
part_selects None (Init c program) y off = go (c == y) off
  where
    go : (b : Bool) → (b || false) ≡ false → b ≡ false
    go true off = off
    go false off = refl
part_selects alarm action y off = refl
