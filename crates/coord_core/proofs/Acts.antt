-- What a step changes, on the board as in what is kept.
use Rattle.std.proofs.Common.{eqb-true, ◌≡◌, ℕ, ℤ, ◌<◌, ◌≤◌, ◌==◌, ◌&&◌, ◌||◌, not, ◌↔◌, Bool, true, false, cond, List, [], ◌∷◌, filter, length, map, Option, Some, None, is_some, if◌then◌else◌, slice_index_or, refl, sym, ap, ap₂, ◌∙◌}
use Rattle.std.proofs.Math.Path.{fun_ext}
use Rattle.std.specs.List.{list_any, range_with_len}
use Rattle.axis_exchange.specs.Owners.{axis_state, free_at, is_owned_by}
use Rattle.axis_exchange.specs.declared.AxisState.{AxisState}
use Rattle.axis_exchange.specs.declared.AxisState.TheVariants.{Owned, Free}
use Rattle.axis_sets.proofs.SetLaws.{list_any-members_of}
use Rattle.axis_sets.specs.Positions.{position_of}
use Rattle.axis_sets.specs.Sets.{has, members_of, IsEmpty}
use Rattle.axis_sets.specs.declared.limits.TheConstants.{AXIS_LIMIT, CHANNEL_PLACES}
use Rattle.coord_core.proofs.Members.{passing_among}
use Rattle.coord_core.proofs.ZoneLaws.{holder_handed, on_handed, holder_noted, on_noted, axes_noted, numbers_noted, whole_where_none}
use Rattle.coord_core.specs.Tables.{activity_at, board_in, state_in, HasPassing, IsTable, ownership_in, holder_in, is_on_in, axes_in, last_position_in, shares, zone_after_step, zone_handed}
use Rattle.coord_core.specs.declared.activities.Activity.{Activity}
use Rattle.coord_core.specs.declared.activities.Activity.TheVariants.{Running, Alarmed}
use Rattle.coord_core.specs.declared.table.Table.{Table}
use Rattle.coord_core.specs.declared.zones.ZoneState.{ZoneState}
use Rattle.mark_board.specs.Marks.{has_mark}
use Rattle.set_laws.proofs.MemberLaws.{list_all-at_member}
use Rattle.sync_types.proofs.BoardTests.{no_truth, not_so, not_not}
use Rattle.sync_types.specs.BoardActions.{carries, channels_to_start, axes_to_free, marks_after, program_after, position_or_zero, last_position_after, is_on_after, marks_of_all, ownership_after, holder_after, after_effects, state_of_actor, state_after_action, state_after_alarm, after_alarm}
use Rattle.sync_types.specs.BoardAlarms.{alarm_of, names_no_mark, names_no_channel, names_no_axis, lets_go_of_others, splits_a_zone, finds_own_mark, finds_one_awake, starts_without_program, own_alarm}
use Rattle.sync_types.specs.Boards.{State, IsRunning, Board, FreeAt, among, is_this, owner_of, owns, grant_with, start_grant, no_positions}
use Rattle.sync_types.specs.GoingOn.{going_of_start, goers_at_once, goes_at_once, lowers, marks_after_goes, state_after_goes, after_goes}
use Rattle.sync_types.specs.Views.{StartView}
use Rattle.sync_types.specs.declared.Action.{Action}
use Rattle.sync_types.specs.declared.Action.TheVariants.{WaitM, ClearM, WaitE, Release, Get, End}
use Rattle.sync_types.specs.declared.Grant.{Grant}
use Rattle.sync_types.specs.declared.Step.{Step}

-- an action that names no axes splits no zone
pub no_split : (b : Board) (action : Action) → ((axes : List Bool) → action ≡ Release axes → ⊥) → ((axes : List Bool) → action ≡ Get axes → ⊥) → false ≡ splits_a_zone b action
no_split b (Release axes) release get = absurd (release axes refl)
no_split b (Get axes) release get = absurd (get axes refl)
no_split b other release get = sym (ap not (whole_where_none b.start.zones))

-- who does not wait and has not ended runs on
pub actor_runs_on : (b : Board) (c line : ℕ) (action : Action) (grant : Grant) → ((m : ℕ) (named : List Bool) → action ≡ WaitM m named → ⊥) → ((named : List Bool) → action ≡ WaitE named → ⊥)
    → ((axes : List Bool) → action ≡ Get axes → ⊥) → (action ≡ End → ⊥) → grant ≡ grant_with b c no_positions → IsRunning grant ≡ state_of_actor b c line action
actor_runs_on b c line (WaitM m named) grant marks ends axes end is = absurd (marks m named refl)
actor_runs_on b c line (WaitE named) grant marks ends axes end is = absurd (ends named refl)
actor_runs_on b c line (Get asked) grant marks ends axes end is = absurd (axes asked refl)
actor_runs_on b c line End grant marks ends axes end is = absurd (end refl)
actor_runs_on b c line other grant marks ends axes end is = ap IsRunning is

-- two of the tests that an action passes which does not alarm
pub no_alarm : (b : Board) (c : ℕ) (action : Action) → alarm_of b c action ≡ None → (names_no_mark action ≡ false) × (lets_go_of_others b c action ≡ false)
unfolding alarm_of
no_alarm b c action none =
    let late_5 : Option ℕ = if starts_without_program b action then Some 28 else own_alarm action in
    let late_4 : Option ℕ = if finds_one_awake b action then Some 27 else late_5 in
    let late_3 : Option ℕ = if finds_own_mark b c action then Some 26 else late_4 in
    let late_2 : Option ℕ = if splits_a_zone b action then Some 31 else late_3 in
    let late_1 : Option ℕ = if lets_go_of_others b c action then Some 15 else late_2 in
    let late_0 : Option ℕ = if names_no_axis b action then Some 14 else late_1 in
    let late : Option ℕ = if names_no_channel b action then Some 24 else late_0 in
    let numbered = not_so (names_no_mark action) 25 late none in
    let known = not_so (names_no_channel b action) 24 late_0 numbered.1 in
    let there = not_so (names_no_axis b action) 14 late_1 known.1 in
    let own = not_so (lets_go_of_others b c action) 15 late_2 there.1 in
    (numbered.0, own.0)

-- boards that agree in each place
pub same_boards : (a b : Board) → a.start ≡ b.start → ((c m : ℕ) → a.marks c m ≡ b.marks c m) → ((c : ℕ) → a.state c ≡ b.state c) → ((c : ℕ) → a.program c ≡ b.program c)
    → ((c x : ℕ) → a.last_position c x ≡ b.last_position c x) → ((x : ℕ) → a.axis x ≡ b.axis x) → ((z : ℕ) → a.holder z ≡ b.holder z) → ((z : ℕ) → a.is_on z ≡ b.is_on z) → a ≡ b
same_boards a b start marks state program last axis holder on =
    let m : a.marks ≡ b.marks = fun_ext (λ c. fun_ext (marks c)) in
    let s : a.state ≡ b.state = fun_ext state in
    let p : a.program ≡ b.program = fun_ext program in
    let l : a.last_position ≡ b.last_position = fun_ext (λ c. fun_ext (last c)) in
    let x : a.axis ≡ b.axis = fun_ext axis in
    let h : a.holder ≡ b.holder = fun_ext holder in
    let o : a.is_on ≡ b.is_on = fun_ext on in
    ap (λ v. record a { start = v }) start
    ∙ ap (λ v. record a { start = b.start; marks = v }) m
    ∙ ap (λ v. record a { start = b.start; marks = b.marks; state = v }) s
    ∙ ap (λ v. record a { start = b.start; marks = b.marks; state = b.state; program = v }) p
    ∙ ap (λ v. record a { start = b.start; marks = b.marks; state = b.state; program = b.program; last_position = v }) l
    ∙ ap (λ v. record a { start = b.start; marks = b.marks; state = b.state; program = b.program; last_position = b.last_position; axis = v }) x
    ∙ ap (λ v. record a { start = b.start; marks = b.marks; state = b.state; program = b.program; last_position = b.last_position; axis = b.axis; holder = v }) h
    ∙ ap (λ v. record b { is_on = v }) o

-- a step tells where the axes of its channel stand
pub positions_told : (t : Table) (rows : List (Option (List (Option ℤ)))) (channels : List Activity) (c : ℕ) (step : Step)
    → ((d : ℕ) → slice_index_or rows d None ≡ (if d == c then Some step.at else slice_index_or t.last_positions d None))
    → (d x : ℕ) → last_position_in t.start (slice_index_or rows d None) x ≡ last_position_after (board_in t channels) c step d x
unfolding last_position_after
positions_told t rows channels c step told d x = ap (λ (row : Option (List (Option ℤ))). last_position_in t.start row x) (told d) ∙ by_owner (d == c)
  where
    by_owner : (own : Bool) → last_position_in t.start (if own then Some step.at else slice_index_or t.last_positions d None) x
        ≡ (if own then position_or_zero (position_of step.at x) else last_position_in t.start (slice_index_or t.last_positions d None) x)
    by_owner true = refl
    by_owner false = refl

-- the effects of an action
pub effects_board : (t now : Table) (channels : List Activity) (c : ℕ) (step : Step) → now.start ≡ t.start
    → ((d m : ℕ) → has_mark now.marks d m ≡ (if d == c then marks_after (has_mark t.marks c) step.action m else has_mark t.marks d m))
    → ((d : ℕ) → slice_index_or now.programs d None ≡ program_after step.action d (slice_index_or t.programs d None))
    → ((d : ℕ) → slice_index_or now.last_positions d None ≡ (if d == c then Some step.at else slice_index_or t.last_positions d None))
    → ((x : ℕ) → ownership_in (axis_state now.owners x) ≡ ownership_after (board_in t channels) step x)
    → ((z : ℕ) → holder_in now.zones.items z ≡ holder_after (board_in t channels) step z)
    → ((z : ℕ) → is_on_in now.zones.items z ≡ is_on_after (board_in t channels) c step z)
    → board_in now channels ≡ after_effects (board_in t channels) c step
unfolding marks_of_all
effects_board t now channels c step start marks programs told axes holders on =
    same_boards (board_in now channels) (after_effects (board_in t channels) c step) start marks (λ d. refl) programs
    (λ d x. ap (λ (s : StartView). last_position_in s (slice_index_or now.last_positions d None) x) start ∙ positions_told t now.last_positions channels c step told d x)
    axes holders on

-- an action that lets nothing go
nothing_freed : (action : Action) → ((axes : List Bool) → action ≡ Release axes → ⊥) → axes_to_free action ≡ []
nothing_freed (Release axes) not_release = absurd (not_release axes refl)
nothing_freed other not_release = refl

pub axes_stay : (t : Table) (channels : List Activity) (step : Step) → ((axes : List Bool) → step.action ≡ Release axes → ⊥) → (x : ℕ) → ownership_in (axis_state t.owners x) ≡ ownership_after (board_in t channels) step x
unfolding ownership_after
axes_stay t channels step not_release x =
    ap (λ (freed : List ℕ). if among freed x then FreeAt (position_or_zero (position_of step.at x)) else ownership_in (axis_state t.owners x)) (sym (nothing_freed step.action not_release))

pub holders_stay : (t : Table) (zones : List ZoneState) (channels : List Activity) (c : ℕ) (step : Step) → zones ≡ map (zone_after_step c step.on) t.zones.items
    → ((axes : List Bool) → step.action ≡ Release axes → ⊥) → (z : ℕ) → holder_in zones z ≡ holder_after (board_in t channels) step z
unfolding holder_after
holders_stay t zones channels c step is not_release z =
    ap (λ (zs : List ZoneState). holder_in zs z) is ∙ holder_noted c step.on t.zones.items z
    ∙ ap (λ (freed : List ℕ). if carries (board_in t channels) freed z then None else holder_in t.zones.items z) (sym (nothing_freed step.action not_release))

pub on_told : (t : Table) (zones : List ZoneState) (channels : List Activity) (c : ℕ) (step : Step) → zones ≡ map (zone_after_step c step.on) t.zones.items
    → (z : ℕ) → is_on_in zones z ≡ is_on_after (board_in t channels) c step z
unfolding is_on_after
on_told t zones channels c step is z = ap (λ (zs : List ZoneState). is_on_in zs z) is ∙ on_noted c step.on t.zones.items z

-- RELEASE
pub axes_freed : (t : Table) (owners : List (Option AxisState)) (channels : List Activity) (step : Step) (axes : List Bool) (at : List (Option ℤ)) → step.action ≡ Release axes
    → ((x : ℕ) → position_of at x ≡ (if has axes x then Some (position_or_zero (position_of step.at x)) else None))
    → ((x : ℕ) → axis_state owners x ≡ (if has axes x then free_at (position_of at x) else axis_state t.owners x))
    → (x : ℕ) → ownership_in (axis_state owners x) ≡ ownership_after (board_in t channels) step x
unfolding ownership_after
axes_freed t owners channels step axes at is full freed x =
    ap ownership_in (freed x) ∙ each (has axes x) (position_of at x) (full x)
    ∙ ap (λ (b : Bool). if b then FreeAt (position_or_zero (position_of step.at x)) else ownership_in (axis_state t.owners x)) (sym (list_any-members_of axes x))
    ∙ ap (λ (a : Action). if among (axes_to_free a) x then FreeAt (position_or_zero (position_of step.at x)) else ownership_in (axis_state t.owners x)) (sym is)
  where
    each : (b : Bool) (p : Option ℤ) → p ≡ (if b then Some (position_or_zero (position_of step.at x)) else None)
        → ownership_in (if b then free_at p else axis_state t.owners x) ≡ (if b then FreeAt (position_or_zero (position_of step.at x)) else ownership_in (axis_state t.owners x))
    each true p e = ap (λ (q : Option ℤ). ownership_in (free_at q)) e
    each false p e = refl

pub owners_freed : (t : Table) (owners : List (Option AxisState)) (step : Step) (axes : List Bool) (at : List (Option ℤ)) → IsTable t
    → ((x : ℕ) → position_of at x ≡ (if has axes x then Some (position_or_zero (position_of step.at x)) else None))
    → ((x : ℕ) → axis_state owners x ≡ (if has axes x then free_at (position_of at x) else axis_state t.owners x))
    → (x : ℕ) → x < AXIS_LIMIT → is_some (axis_state owners x) ≡ true
owners_freed t owners step axes at kept full freed x below = ap is_some (freed x) ∙ each (has axes x) (position_of at x) (full x)
  where
    each : (b : Bool) (p : Option ℤ) → p ≡ (if b then Some (position_or_zero (position_of step.at x)) else None) → is_some (if b then free_at p else axis_state t.owners x) ≡ true
    each true p e = ap (λ (q : Option ℤ). is_some (free_at q)) e
    each false p e = kept.owners x below

pub holders_freed : (t : Table) (zones noted : List ZoneState) (channels : List Activity) (c : ℕ) (step : Step) (axes : List Bool) → IsTable t → step.action ≡ Release axes
    → noted ≡ map (zone_after_step c step.on) t.zones.items → zones ≡ map (zone_handed axes None) noted
    → (z : ℕ) → holder_in zones z ≡ holder_after (board_in t channels) step z
unfolding holder_after
holders_freed t zones noted channels c step axes kept is told handed z =
    ap (λ (zs : List ZoneState). holder_in zs z) (handed ∙ ap (map (zone_handed axes None)) told)
    ∙ holder_handed axes None (map (zone_after_step c step.on) t.zones.items) z
    ∙ ap₂ (λ (carrying : List Bool) (holder : Option ℕ). if shares carrying axes then None else holder) (axes_noted c step.on t.zones.items z ∙ kept.zone_axes z) (holder_noted c step.on t.zones.items z)
    ∙ ap (λ (a : Action). if carries (board_in t channels) (axes_to_free a) z then None else holder_in t.zones.items z) (sym is)

pub on_freed : (t : Table) (zones noted : List ZoneState) (channels : List Activity) (c : ℕ) (step : Step) (axes : List Bool)
    → noted ≡ map (zone_after_step c step.on) t.zones.items → zones ≡ map (zone_handed axes None) noted → (z : ℕ) → is_on_in zones z ≡ is_on_after (board_in t channels) c step z
on_freed t zones noted channels c step axes told handed z =
    ap (λ (zs : List ZoneState). is_on_in zs z) handed ∙ on_handed axes None noted z ∙ on_told t noted channels c step told z

-- an axis that is free has no owner
free_unowned : (place : Option ℤ) (d : ℕ) → free_at place ≡ Some (Owned d) → ⊥
free_unowned (Some p) d is = cc
free_unowned None d is = cc

-- who owns an axis after a RELEASE owned it before
pub numbers_freed : (t : Table) (owners : List (Option AxisState)) (axes : List Bool) (at : List (Option ℤ)) → IsTable t
    → ((x : ℕ) → axis_state owners x ≡ (if has axes x then free_at (position_of at x) else axis_state t.owners x))
    → (x d : ℕ) → axis_state owners x ≡ Some (Owned d) → (1 ≤ d) × (d < CHANNEL_PLACES)
numbers_freed t owners axes at kept freed x d is = each (has axes x) (sym (freed x) ∙ is)
  where
    each : (b : Bool) → (if b then free_at (position_of at x) else axis_state t.owners x) ≡ Some (Owned d) → (1 ≤ d) × (d < CHANNEL_PLACES)
    each true owned = absurd (free_unowned (position_of at x) d owned)
    each false owned = kept.owner_numbers x d owned

-- what is kept of zones
pub numbers_after : (t : Table) (noted : List ZoneState) (c : ℕ) (on : List Bool) → noted ≡ map (zone_after_step c on) t.zones.items → map (λ zone. zone.zone) noted ≡ map (λ zone. zone.zone) t.zones.items
numbers_after t noted c on told = ap (map (λ (zone : ZoneState). zone.zone)) told ∙ numbers_noted c on t.zones.items

pub zone_axes_after : (t : Table) (noted : List ZoneState) (c : ℕ) (on : List Bool) → noted ≡ map (zone_after_step c on) t.zones.items → (z : ℕ) → axes_in noted z ≡ axes_in t.zones.items z
zone_axes_after t noted c on told z = ap (λ (zs : List ZoneState). axes_in zs z) told ∙ axes_noted c on t.zones.items z

-- all axes that RELEASE names are the channel's own
pub own_freed : (t : Table) (channels : List Activity) (c : ℕ) (action : Action) (axes : List Bool) → action ≡ Release axes → lets_go_of_others (board_in t channels) c action ≡ false
    → (x : ℕ) → has axes x ≡ true → is_owned_by (axis_state t.owners x) c ≡ true
own_freed t channels c action axes is own x member =
    owned (axis_state t.owners x) ∙ list_all-at_member axes (owns (board_in t channels) c) x (not_not _ (sym (ap (lets_go_of_others (board_in t channels) c) is) ∙ own)) member
  where
    owned : (s : Option AxisState) → is_owned_by s c ≡ is_this (owner_of (ownership_in s)) c
    owned (Some (Owned owner)) = refl
    owned (Some (Free position)) = refl
    owned None = refl

-- states of channels after the action
pub acted_board : (t : Table) (before started after : List Activity) (b : Board) (c : ℕ) (step : Step) (actor : Activity) (named : List Bool) → board_in t before ≡ b
    → state_in c actor ≡ state_of_actor (board_in t before) c step.line step.action
    → members_of named ≡ channels_to_start step.action
    → ((d : ℕ) → activity_at started d ≡ (if has named d then Running (start_grant (board_in t before) d) else activity_at before d))
    → ((d : ℕ) → activity_at after d ≡ (if d == c then actor else activity_at started d))
    → board_in t after ≡ record b { state = state_after_action b c step }
unfolding state_after_action
acted_board t before started after b c step actor named is acts names starts writes =
    ap (λ (s : ℕ → State). record (board_in t before) { state = s }) (fun_ext each) ∙ ap (λ (a : Board). record a { state = state_after_action a c step }) is
  where
    if_started : (test : Bool) (d : ℕ) → state_in d (if test then Running (start_grant (board_in t before) d) else activity_at before d) ≡ (if test then IsRunning (start_grant (board_in t before) d) else state_in d (activity_at before d))
    if_started true d = refl
    if_started false d = refl

    other : (d : ℕ) → state_in d (activity_at started d) ≡ (if among (channels_to_start step.action) d then IsRunning (start_grant (board_in t before) d) else state_in d (activity_at before d))
    other d = ap (state_in d) (starts d) ∙ if_started (has named d) d
        ∙ ap (λ (test : Bool). if test then IsRunning (start_grant (board_in t before) d) else state_in d (activity_at before d)) (sym (list_any-members_of named d) ∙ ap (λ (cs : List ℕ). among cs d) names)

    chosen : (test : Bool) (d : ℕ) → (d == c) ≡ test → state_in d (if test then actor else activity_at started d)
        ≡ (if test then state_of_actor (board_in t before) c step.line step.action
        else if among (channels_to_start step.action) d then IsRunning (start_grant (board_in t before) d) else state_in d (activity_at before d))
    chosen true d here = ap (λ (n : ℕ). state_in n actor) (eqb-true d c here) ∙ acts
    chosen false d here = other d

    each : (d : ℕ) → state_in d (activity_at after d) ≡ state_after_action (board_in t before) c step d
    each d = ap (state_in d) (writes d) ∙ chosen (d == c) d refl

pub starts_alike : (t : Table) (one other : List Activity) → going_of_start (board_in t one) ≡ going_of_start (board_in t other)
unfolding start_grant grant_with
starts_alike t one other = refl

-- after an alarm
pub alarmed_board : (t : Table) (zones : List ZoneState) (rows : List (Option (List (Option ℤ)))) (before after : List Activity) (c : ℕ) (step : Step) (code : ℕ) → zones ≡ map (zone_after_step c step.on) t.zones.items
    → ((d : ℕ) → slice_index_or rows d None ≡ (if d == c then Some step.at else slice_index_or t.last_positions d None))
    → ((d : ℕ) → activity_at after d ≡ (if d == c then Alarmed (record { code = code; line = step.line }) else activity_at before d))
    → board_in (record t { zones = record { items = zones }; last_positions = rows }) after ≡ after_alarm (board_in t before) c step code
unfolding state_after_alarm
alarmed_board t zones rows before after c step code told stand writes =
    same_boards (board_in (record t { zones = record { items = zones }; last_positions = rows }) after) (after_alarm (board_in t before) c step code) refl (λ d m. refl) states (λ d. refl)
    (positions_told t rows before c step stand) (λ x. refl)
    (λ z. ap (λ (zs : List ZoneState). holder_in zs z) told ∙ holder_noted c step.on t.zones.items z)
    (on_told t zones before c step told)
  where
    chosen : (test : Bool) (d : ℕ) → state_in d (if test then Alarmed (record { code = code; line = step.line }) else activity_at before d)
        ≡ (if test then state_in d (Alarmed (record { code = code; line = step.line })) else state_in d (activity_at before d))
    chosen true d = refl
    chosen false d = refl

    states : (d : ℕ) → state_in d (activity_at after d) ≡ state_after_alarm (board_in t before) c step code d
    states d = ap (state_in d) (writes d) ∙ chosen (d == c) d

-- after those have gone on that can at once
pub gone_board : (t : Table) (marks : List (List Bool)) (before after : List Activity) (goers : List Bool) → HasPassing goers (λ c. goes_at_once (board_in t before) (state_in c (activity_at before c)))
    → ((c m : ℕ) → has_mark marks c m ≡ (has_mark t.marks c m && not (has goers c && lowers (state_in c (activity_at before c)) m)))
    → ((c : ℕ) → activity_at after c ≡ (if has goers c then Running (grant_with (board_in t before) c no_positions) else activity_at before c))
    → board_in (record t { marks = marks }) after ≡ after_goes (board_in t before)
unfolding marks_after_goes state_after_goes
gone_board t marks before after goers passing lowered runs =
    same_boards (board_in (record t { marks = marks }) after) (after_goes (board_in t before)) refl
    (λ c m. lowered c m ∙ ap (λ (goes : Bool). has_mark t.marks c m && not (goes && lowers (state_in c (activity_at before c)) m)) (same c))
    (λ c. ap (state_in c) (runs c) ∙ chosen (has goers c) c ∙ ap (λ (goes : Bool). if goes then IsRunning (grant_with (board_in t before) c no_positions) else state_in c (activity_at before c)) (same c))
    (λ c. refl) (λ c x. refl) (λ x. refl) (λ z. refl) (λ z. refl)
  where
    same : (c : ℕ) → has goers c ≡ among (goers_at_once (board_in t before)) c
    same c = passing_among goers (λ d. goes_at_once (board_in t before) (state_in d (activity_at before d))) passing c

    chosen : (test : Bool) (c : ℕ) → state_in c (if test then Running (grant_with (board_in t before) c no_positions) else activity_at before c)
        ≡ (if test then IsRunning (grant_with (board_in t before) c no_positions) else state_in c (activity_at before c))
    chosen true c = refl
    chosen false c = refl

-- CLEARM that names marks
pub some_member : (s : List Bool) (empty : Bool) → (empty ≡ true ↔ IsEmpty s) → empty ≡ false → list_any (λ n. true) (members_of s) ≡ true
some_member s empty same off = go (members_of s) refl
  where
    go : (xs : List ℕ) → members_of s ≡ xs → list_any (λ n. true) xs ≡ true
    go [] e = no_truth empty (same.1 (λ m. sym (list_any-members_of s m) ∙ ap (λ (ys : List ℕ). among ys m) e)) off
    go (x ∷ xs) e = refl

pub marks_cleared : (marks : List (List Bool)) (c : ℕ) (action : Action) (named : List Bool) → action ≡ ClearM named → list_any (λ n. true) (members_of named) ≡ true
    → (d m : ℕ) → (if d == c then has_mark marks d m && not (has named m) else has_mark marks d m) ≡ (if d == c then marks_after (has_mark marks c) action m else has_mark marks d m)
marks_cleared marks c action named is some d m = each (d == c) refl
  where
    lowered : (a b : Bool) → b ≡ true → not a ≡ not (a || not b)
    lowered true b on = refl
    lowered false b on = ap (λ (t : Bool). not (not t)) (sym on)

    each : (b : Bool) → (d == c) ≡ b → (if b then has_mark marks d m && not (has named m) else has_mark marks d m) ≡ (if b then marks_after (has_mark marks c) action m else has_mark marks d m)
    each true here =
        ap (λ (n : ℕ). has_mark marks n m && not (has named m)) (eqb-true d c here)
        ∙ ap (λ (t : Bool). has_mark marks c m && t) (lowered (has named m) (list_any (λ n. true) (members_of named)) some)
        ∙ ap (λ (a : Action). marks_after (has_mark marks c) a m) (sym is)
    each false other = refl

-- CLEARM that names no mark
pub all_cleared : (marks : List (List Bool)) (c : ℕ) (action : Action) (named : List Bool) → action ≡ ClearM named → IsEmpty named
    → (d m : ℕ) → (if d == c then false else has_mark marks d m) ≡ (if d == c then marks_after (has_mark marks c) action m else has_mark marks d m)
all_cleared marks c action named is empty d m = each (d == c) refl
  where
    kept_none : (xs : List ℕ) → filter (has named) xs ≡ []
    kept_none [] = refl
    kept_none (x ∷ xs) = ap (λ (b : Bool). cond b (x ∷ filter (has named) xs) (filter (has named) xs)) (empty x) ∙ kept_none xs

    none : list_any (λ n. true) (members_of named) ≡ false
    none = ap (list_any (λ n. true)) (kept_none (range_with_len 0 (length named)))

    lowered : (a b t : Bool) → t ≡ false → false ≡ (a && not (b || not t))
    lowered a b t off = by a b ∙ ap (λ (t : Bool). a && not (b || not t)) (sym off)
      where
        by : (a b : Bool) → false ≡ (a && not (b || true))
        by true true = refl
        by true false = refl
        by false b = refl

    each : (b : Bool) → (d == c) ≡ b → (if b then false else has_mark marks d m) ≡ (if b then marks_after (has_mark marks c) action m else has_mark marks d m)
    each true here =
        lowered (has_mark marks c m) (has named m) (list_any (λ n. true) (members_of named)) none
        ∙ ap (λ (a : Action). marks_after (has_mark marks c) a m) (sym is)
    each false other = refl
