-- A channel takes the axes for which it waits.
use Rattle.std.proofs.Common.{eqb-true, ◌≡◌, ℕ, ℤ, zero, suc, ◌+◌, ◌-◌, ◌<◌, ◌≤◌, ◌==◌, ◌&&◌, ◌||◌, not, Bool, true, false, cond, List, [], ◌∷◌, ◌++◌, map, filter, length, append_assoc, Option, Some, None, is_some, if◌then◌else◌, refl, sym, ap, ap₂, subst, ◌∙◌, arith}
use Rattle.std.proofs.Math.Path.{fun_ext}
use Rattle.std.specs.List.{list_any, range_with_len}
use Rattle.axis_exchange.specs.Owners.{axis_state, is_owned_by, is_known, position_when_taken}
use Rattle.axis_exchange.specs.declared.AxisState.{AxisState}
use Rattle.axis_exchange.specs.declared.AxisState.TheVariants.{Owned, Free}
use Rattle.axis_sets.proofs.SetLaws.{list_any-members_of}
use Rattle.axis_sets.specs.Positions.{position_of}
use Rattle.axis_sets.specs.Sets.{has, members_of}
use Rattle.axis_sets.specs.declared.limits.TheConstants.{AXIS_LIMIT, CHANNEL_LIMIT, CHANNEL_PLACES}
use Rattle.coord_core.proofs.Acts.{same_boards}
use Rattle.coord_core.proofs.GrantLaws.{owned_alike, positions_listed}
use Rattle.coord_core.proofs.ZoneLaws.{holder_handed, on_handed, axes_handed, numbers_handed}
use Rattle.coord_core.specs.Tables.{activity_at, board_in, state_in, IsTable, ownership_in, holder_in, is_on_in, axes_in, resting_in, zone_handed}
use Rattle.coord_core.specs.declared.activities.Activity.{Activity}
use Rattle.coord_core.specs.declared.activities.Activity.TheVariants.{Running, AtAxes}
use Rattle.coord_core.specs.declared.table.Table.{Table}
use Rattle.coord_core.specs.declared.zones.ZoneState.{ZoneState}
use Rattle.sync_types.specs.Boards.{State, IsRunning, Board, OwnedBy, among, grant_with, is_this, owner_of}
use Rattle.sync_types.specs.GoingOn.{go_of, axes_asked, axes_to_take, resting_position, ownership_after_taking, holder_after_taking, with_its_axes, grant_of_taker, state_after_taking, after_taking, going_of_taker, next_taker, Takings, takings, takings_from}
use Rattle.sync_types.specs.Starts.{stand_once}
use Rattle.sync_types.specs.declared.Grant.{Grant}
use Rattle.sync_types.specs.declared.runs.Go.{Go}

-- what is known where a channel takes axes: what it asked for, what of that it had, where the others stand, and what it got
pub record Takes (t : Table) (channels : List Activity) (c : ℕ) (axes own taken : List Bool) (line : ℕ) (owners : List (Option AxisState)) (at : List (Option ℤ)) : Type 0 where
  pub from_standing : Bool
  pub resting : List (Option ℤ)
  pub number : (1 ≤ c) × (c < CHANNEL_PLACES)
  pub kept : IsTable t
  pub waits : activity_at channels c ≡ AtAxes from_standing axes line
  pub size : length axes ≡ AXIS_LIMIT
  pub owned : (x : ℕ) → has own x ≡ is_owned_by (axis_state t.owners x) c
  pub others : (x : ℕ) → has taken x ≡ (has axes x && not (has own x))
  pub taken_size : length taken ≡ AXIS_LIMIT
  pub told : (x : ℕ) → position_of resting x ≡ (if has taken x then Some (resting_in t x) else None)
  pub states : (x : ℕ) → axis_state owners x ≡ (if has axes x then Some (Owned c) else axis_state t.owners x)
  pub positions : (x : ℕ) → position_of at x ≡ (if has axes x then position_when_taken (axis_state t.owners x) c (position_of resting x) else None)
  pub at_size : length at ≡ AXIS_LIMIT

kept_twice : (p : ℕ → Bool) (b : Bool) (x : ℕ) (ys : List ℕ) → filter p (cond b (x ∷ ys) ys) ≡ cond (b && p x) (x ∷ filter p ys) (filter p ys)
kept_twice p true x ys = refl
kept_twice p false x ys = refl

filter_twice : (p q : ℕ → Bool) (xs : List ℕ) → filter p (filter q xs) ≡ filter (λ x. q x && p x) xs
filter_twice p q [] = refl
filter_twice p q (x ∷ xs) = kept_twice p (q x) x (filter q xs) ∙ ap (λ (ys : List ℕ). cond (q x && p x) (x ∷ ys) ys) (filter_twice p q xs)

-- the members that pass
filter_members : (s t : List Bool) (p : ℕ → Bool) → length t ≡ length s → ((x : ℕ) → has t x ≡ (has s x && p x)) → filter p (members_of s) ≡ members_of t
filter_members s t p sizes is =
    filter_twice p (has s) (range_with_len 0 (length s))
    ∙ ap (λ (q : ℕ → Bool). filter q (range_with_len 0 (length s))) (fun_ext (λ x. sym (is x)))
    ∙ ap (λ (n : ℕ). filter (has t) (range_with_len 0 n)) (sym sizes)

-- of another's axis it is told where it stands
pub known_where : (s : Option AxisState) (c : ℕ) (place : Option ℤ) (resting : ℤ) → place ≡ (if not (is_owned_by s c) then Some resting else None) → is_known s c place ≡ true
known_where (Some (Owned owner)) c place resting told = each (owner == c) told
  where
    each : (own : Bool) → place ≡ (if not own then Some resting else None) → (own || is_some place) ≡ true
    each true told = refl
    each false told = ap is_some told
known_where (Some (Free position)) c place resting told = refl
known_where None c place resting told = ap is_some told

owner_where : (member : Bool) (s : Option AxisState) (c : ℕ)
    → ownership_in (if member then Some (Owned c) else s) ≡ (if member && not (is_owned_by s c) then OwnedBy c else ownership_in s)
owner_where false s c = refl
owner_where true (Some (Owned owner)) c = each (owner == c) refl
  where
    each : (own : Bool) → (owner == c) ≡ own → OwnedBy c ≡ (if not own then OwnedBy c else OwnedBy owner)
    each true same = ap OwnedBy (sym (eqb-true owner c same))
    each false same = refl
owner_where true (Some (Free position)) c = refl
owner_where true None c = refl

position_where : (member : Bool) (s : Option AxisState) (c : ℕ) (b : Board) (x : ℕ) (place : Option ℤ)
    → place ≡ (if member && not (is_owned_by s c) then Some (resting_position b x (ownership_in s)) else None)
    → (if member then position_when_taken s c place else None) ≡ (if member && not (is_owned_by s c) then Some (resting_position b x (ownership_in s)) else None)
position_where false s c b x place told = refl
position_where true (Some (Owned owner)) c b x place told = each (owner == c) told
  where
    each : (own : Bool) → place ≡ (if not own then Some (b.last_position owner x) else None) → (if own then None else place) ≡ (if not own then Some (b.last_position owner x) else None)
    each true told = refl
    each false told = told
position_where true (Some (Free position)) c b x place told = refl
position_where true None c b x place told = told

has_taken : (t : Table) (channels : List Activity) (c : ℕ) (axes own taken : List Bool) (line : ℕ) (owners : List (Option AxisState)) (at : List (Option ℤ)) → Takes t channels c axes own taken line owners at
    → (x : ℕ) → has taken x ≡ (has axes x && not (is_owned_by (axis_state t.owners x) c))
has_taken t channels c axes own taken line owners at k x = k.others x ∙ ap (λ (b : Bool). has axes x && not b) (k.owned x)

-- what the board says that it takes
to_take : (t : Table) (channels : List Activity) (c : ℕ) (axes own taken : List Bool) (line : ℕ) (owners : List (Option AxisState)) (at : List (Option ℤ)) → Takes t channels c axes own taken line owners at
    → axes_to_take (board_in t channels) c ≡ members_of taken
to_take t channels c axes own taken line owners at k =
    ap (λ (a : Activity). filter (λ x. not (is_this (owner_of (ownership_in (axis_state t.owners x))) c)) (axes_asked (state_in c a))) k.waits
    ∙ filter_members axes taken (λ x. not (is_this (owner_of (ownership_in (axis_state t.owners x))) c)) (k.taken_size ∙ sym k.size)
    (λ x. has_taken t channels c axes own taken line owners at k x ∙ ap (λ (b : Bool). has axes x && not b) (owned_alike (axis_state t.owners x) c))

among_taken : (t : Table) (channels : List Activity) (c : ℕ) (axes own taken : List Bool) (line : ℕ) (owners : List (Option AxisState)) (at : List (Option ℤ)) → Takes t channels c axes own taken line owners at
    → (x : ℕ) → has taken x ≡ among (axes_to_take (board_in t channels) c) x
among_taken t channels c axes own taken line owners at k x =
    sym (list_any-members_of taken x) ∙ ap (λ (xs : List ℕ). among xs x) (sym (to_take t channels c axes own taken line owners at k))

-- the board with its axes
with_axes : (t : Table) (channels : List Activity) (c : ℕ) (axes own taken : List Bool) (line : ℕ) (owners : List (Option AxisState)) (at : List (Option ℤ)) (zones : List ZoneState) → Takes t channels c axes own taken line owners at
    → zones ≡ map (zone_handed taken (Some c)) t.zones.items
    → board_in (record t { owners = owners; zones = record { items = zones } }) channels ≡ with_its_axes (board_in t channels) c
unfolding ownership_after_taking holder_after_taking
with_axes t channels c axes own taken line owners at zones k handed =
    same_boards (board_in (record t { owners = owners; zones = record { items = zones } }) channels) (with_its_axes (board_in t channels) c)
    refl (λ d m. refl) (λ d. refl) (λ d. refl) (λ d x. refl)
    (λ x. ap ownership_in (k.states x) ∙ owner_where (has axes x) (axis_state t.owners x) c ∙ ap (λ (b : Bool). if b then OwnedBy c else ownership_in (axis_state t.owners x))
    (sym (has_taken t channels c axes own taken line owners at k x) ∙ among_taken t channels c axes own taken line owners at k x))
    (λ z. ap (λ (zs : List ZoneState). holder_in zs z) handed ∙ holder_handed taken (Some c) t.zones.items z
    ∙ ap₂ (λ (carrying : List Bool) (xs : List ℕ). if list_any (has carrying) xs then Some c else holder_in t.zones.items z) (k.kept.zone_axes z) (sym (to_take t channels c axes own taken line owners at k)))
    (λ z. ap (λ (zs : List ZoneState). is_on_in zs z) handed ∙ on_handed taken (Some c) t.zones.items z)

-- its grant
pub taker_granted : (t : Table) (channels : List Activity) (c : ℕ) (axes own taken : List Bool) (line : ℕ) (owners : List (Option AxisState)) (at : List (Option ℤ)) (zones : List ZoneState) (grant : Grant)
    → Takes t channels c axes own taken line owners at → zones ≡ map (zone_handed taken (Some c)) t.zones.items
    → grant ≡ grant_with (board_in (record t { owners = owners; zones = record { items = zones } }) channels) c at
    → grant ≡ grant_of_taker (board_in t channels) c
unfolding grant_of_taker
taker_granted t channels c axes own taken line owners at zones grant k handed is =
    is ∙ ap₂ (λ (b : Board) (p : List (Option ℤ)). grant_with b c p) (with_axes t channels c axes own taken line owners at zones k handed)
    (positions_listed at (among (axes_to_take (board_in t channels) c)) (resting_in t)
    (λ x. k.positions x ∙ position_where (has axes x) (axis_state t.owners x) c (board_in t []) x (position_of k.resting x)
    (k.told x ∙ ap (λ (b : Bool). if b then Some (resting_in t x) else None) (has_taken t channels c axes own taken line owners at k x))
    ∙ ap (λ (b : Bool). if b then Some (resting_in t x) else None)
    (sym (has_taken t channels c axes own taken line owners at k x) ∙ among_taken t channels c axes own taken line owners at k x)) k.at_size)

-- and the board after it
pub taken_board : (t : Table) (channels after : List Activity) (c : ℕ) (axes own taken : List Bool) (line : ℕ) (owners : List (Option AxisState)) (at : List (Option ℤ)) (zones : List ZoneState) (activity : Activity)
    → Takes t channels c axes own taken line owners at → zones ≡ map (zone_handed taken (Some c)) t.zones.items
    → activity ≡ Running (grant_of_taker (board_in t channels) c)
    → ((d : ℕ) → activity_at after d ≡ (if d == c then activity else activity_at channels d))
    → board_in (record t { owners = owners; zones = record { items = zones } }) after ≡ after_taking (board_in t channels) c
unfolding state_after_taking
taken_board t channels after c axes own taken line owners at zones activity k handed is writes =
    ap (λ (s : ℕ → State). record (board_in (record t { owners = owners; zones = record { items = zones } }) channels) { state = s }) (fun_ext each)
    ∙ ap (λ (b : Board). record b { state = state_after_taking (board_in t channels) c }) (with_axes t channels c axes own taken line owners at zones k handed)
  where
    chosen : (b : Bool) (d : ℕ) → state_in d (if b then Running (grant_of_taker (board_in t channels) c) else activity_at channels d)
        ≡ (if b then IsRunning (grant_of_taker (board_in t channels) c) else state_in d (activity_at channels d))
    chosen true d = refl
    chosen false d = refl

    each : (d : ℕ) → state_in d (activity_at after d) ≡ state_after_taking (board_in t channels) c d
    each d = ap (state_in d) (writes d ∙ ap (λ (a : Activity). if d == c then a else activity_at channels d) is) ∙ chosen (d == c) d

pub taken_kept : (t : Table) (channels : List Activity) (c : ℕ) (axes own taken : List Bool) (line : ℕ) (owners : List (Option AxisState)) (at : List (Option ℤ)) (zones : List ZoneState)
    → Takes t channels c axes own taken line owners at → zones ≡ map (zone_handed taken (Some c)) t.zones.items
    → IsTable (record t { owners = owners; zones = record { items = zones } })
taken_kept t channels c axes own taken line owners at zones k handed = record {
  owners = λ x below. ap is_some (k.states x) ∙ chosen (has axes x) (axis_state t.owners x) (k.kept.owners x below);
  owner_numbers = λ x d is. numbered (has axes x) x d (sym (k.states x) ∙ is);
  zones_once = ap (λ (zs : List ZoneState). stand (map (λ (zone : ZoneState). zone.zone) zs)) handed ∙ ap stand (numbers_handed taken (Some c) t.zones.items) ∙ k.kept.zones_once;
  zone_axes = λ z. ap (λ (zs : List ZoneState). axes_in zs z) handed ∙ axes_handed taken (Some c) t.zones.items z ∙ k.kept.zone_axes z;
}
  where
    stand : List ℕ → Bool
    stand numbers = stand_once numbers

    same_owner : (d : ℕ) → Some (Owned c) ≡ Some (Owned d) → c ≡ d
    same_owner d is = cc

    numbered : (b : Bool) (x d : ℕ) → (if b then Some (Owned c) else axis_state t.owners x) ≡ Some (Owned d) → (1 ≤ d) × (d < CHANNEL_PLACES)
    numbered true x d is = subst (λ (n : ℕ). (1 ≤ n) × (n < CHANNEL_PLACES)) (same_owner d is) k.number
    numbered false x d is = k.kept.owner_numbers x d is

    chosen : (b : Bool) (s : Option AxisState) → is_some s ≡ true → is_some (if b then Some (Owned c) else s) ≡ true
    chosen true s some = refl
    chosen false s some = some

-- takings, one after another
takings_more : (n : ℕ) (b : Board) (c : ℕ) → n < CHANNEL_LIMIT → next_taker b ≡ Some c → takings (CHANNEL_LIMIT - n) b ≡ takings_from (takings (CHANNEL_LIMIT - (n + 1))) b (Some c)
takings_more n b c below is =
    let more : CHANNEL_LIMIT - n ≡ suc (CHANNEL_LIMIT - (n + 1)) = omega arith in
    ap (λ (k : ℕ). takings k b) more ∙ ap (takings_from (takings (CHANNEL_LIMIT - (n + 1))) b) is

pub taking_goes : (n c : ℕ) (b after : Board) (whole goes more : List Go) → n < CHANNEL_LIMIT → next_taker b ≡ Some c → after ≡ after_taking b c → more ≡ goes ++ go_of (going_of_taker b c) ∷ []
    → whole ≡ goes ++ map go_of (takings (CHANNEL_LIMIT - n) b).goings → whole ≡ more ++ map go_of (takings (CHANNEL_LIMIT - (n + 1)) after).goings
taking_goes n c b after whole goes more below is moved one before =
    before ∙ ap (λ (tk : Takings). goes ++ map go_of tk.goings) (takings_more n b c below is)
    ∙ sym (append_assoc goes (go_of (going_of_taker b c) ∷ []) (map go_of (takings (CHANNEL_LIMIT - (n + 1)) (after_taking b c)).goings))
    ∙ ap₂ (λ (gs : List Go) (a : Board). gs ++ map go_of (takings (CHANNEL_LIMIT - (n + 1)) a).goings) (sym one) (sym moved)

pub taking_board : (n c : ℕ) (b after whole : Board) → n < CHANNEL_LIMIT → next_taker b ≡ Some c → after ≡ after_taking b c → whole ≡ (takings (CHANNEL_LIMIT - n) b).board → whole ≡ (takings (CHANNEL_LIMIT - (n + 1)) after).board
taking_board n c b after whole below is moved before =
    before ∙ ap (λ (tk : Takings). tk.board) (takings_more n b c below is) ∙ ap (λ (a : Board). (takings (CHANNEL_LIMIT - (n + 1)) a).board) (sym moved)

pub taking_room : (n c : ℕ) (b after : Board) → n < CHANNEL_LIMIT → next_taker b ≡ Some c → after ≡ after_taking b c → length (takings (CHANNEL_LIMIT - n) b).goings ≡ suc (length (takings (CHANNEL_LIMIT - (n + 1)) after).goings)
taking_room n c b after below is moved =
    ap (λ (tk : Takings). length tk.goings) (takings_more n b c below is) ∙ ap (λ (a : Board). suc (length (takings (CHANNEL_LIMIT - (n + 1)) a).goings)) (sym moved)

pub no_more_takings : (n : ℕ) (b : Board) → next_taker b ≡ None → takings n b ≡ record { goings = []; board = b }
no_more_takings zero b none = refl
no_more_takings (suc n) b none = ap (takings_from (takings n) b) none

pub nothing_more : (goes : List Go) → goes ++ [] ≡ goes
nothing_more [] = refl
nothing_more (go ∷ goes) = ap (λ (rest : List Go). go ∷ rest) (nothing_more goes)
