-- The state before the first step.
use Rattle.std.proofs.Common.{inl, inr, ◌≡◌, ℕ, ℤ, pos, zero, suc, ◌+◌, ◌<◌, ◌≤◌, ◌==◌, ◌||◌, Bool, true, false, cond, List, [], ◌∷◌, map, length, Option, Some, None, is_some, if◌then◌else◌, slice_index_or, refl, sym, ap, ap₂, ◌∙◌, arith}
use Rattle.std.specs.Prelude.{find}
use Rattle.std.proofs.Math.ListN.{get_or-eq_default}
use Rattle.std.proofs.lemmas.Bool.{cases_Bool, cases_eq, cases_lt, eq-eqb, ne_eqb}
use Rattle.std.proofs.lemmas.List.FromFn.{fill_by_all}
use Rattle.std.specs.List.{list_any, range_with_len}
use Rattle.std.specs.Option.{option_map, option_map_or}
use Rattle.axis_exchange.specs.Owners.{axis_state, first_state, state_with}
use Rattle.axis_exchange.specs.declared.AxisState.{AxisState}
use Rattle.axis_exchange.specs.declared.AxisState.TheVariants.{Owned}
use Rattle.axis_sets.proofs.SetLaws.{has-past}
use Rattle.axis_sets.specs.Sets.{has}
use Rattle.axis_sets.specs.declared.limits.TheConstants.{AXIS_LIMIT, CHANNEL_PLACES}
use Rattle.coord_core.specs.declared.activities.Activity.{Activity}
use Rattle.coord_core.specs.declared.activities.Activity.TheVariants.{Idle, Running}
use Rattle.coord_core.specs.declared.table.Table.{Table}
use Rattle.coord_core.specs.Tables.{activity_at, board_in, state_in, ownership_in, zone_in, holder_in, is_on_in, axes_in, zone_at_start}
use Rattle.coord_core.specs.declared.zones.ZoneState.{ZoneState}
use Rattle.sync_types.proofs.BoardTests.{no_truth}
use Rattle.set_laws.proofs.MemberLaws.{has-below}
use Rattle.sync_types.specs.Boards.{Board, IsRunning, IsIdle, OwnedBy, board_at_rest, first_state as state_at_first, grant_with, ownership_of, start_grant}
use Rattle.sync_types.specs.Starts.{first_owner, first_position, runs_at_first, IsSound}
use Rattle.sync_types.specs.Views.{StartView}
use Rattle.sync_types.specs.declared.Grant.{Grant}

-- what no line is, is not found
pub none_listed : {L A : Type 0} (p : L → Bool) (f : L → A) (d : A) (lines : List L) → list_any p lines ≡ false → option_map_or f (find p lines) d ≡ d
none_listed p f d [] none = refl
none_listed p f d (line ∷ lines) none = elim (cases_Bool (p line)) [
  | inl here ↦ no_truth (p line || list_any p lines) (rw here refl) none
  | inr other ↦ rw other (none_listed p f d lines (rw other at none))
]

-- lines by their numbers
found_in_range : (g : ℕ → ℕ × Option ℕ × ℤ) → ((k : ℕ) → (g k).0 ≡ k) → (a n x : ℕ) → a ≤ x → x < a + n → find (λ line. line.0 == x) (map g (range_with_len a n)) ≡ Some (g x)
found_in_range g number a zero x from upto = absurd (omega arith)
found_in_range g number a (suc n) x from upto = elim (cases_eq a x) [
  | inl here ↦ ap (λ (b : Bool). cond b (Some (g a)) (find (λ line. line.0 == x) (map g (range_with_len (a + 1) n)))) (eq-eqb (g a).0 x (number a ∙ here)) ∙ ap (λ (k : ℕ). Some (g k)) here
  | inr other ↦ ap (λ (b : Bool). cond b (Some (g a)) (find (λ line. line.0 == x) (map g (range_with_len (a + 1) n)))) (ne_eqb (g a).0 x (λ e. other (sym (number a) ∙ e))) ∙ found_in_range g number (a + 1) n x (omega arith) (omega arith)
]

first_of_all : (all : List (ℕ × Option ℕ × ℤ)) (owner : ℕ → Option ℕ) (position : ℕ → ℤ) → length all ≡ AXIS_LIMIT
    → ((k : ℕ) (d : ℕ × Option ℕ × ℤ) → k < AXIS_LIMIT → slice_index_or all k d ≡ (k, owner k, position k))
    → (x : ℕ) → x < AXIS_LIMIT → first_state all x ≡ Some (state_with (owner x) (position x))
first_of_all all owner position size each x below =
    let g : ℕ → ℕ × Option ℕ × ℤ = λ k. (k, owner k, position k) in
    let listed : all ≡ map g (range_with_len 0 AXIS_LIMIT) = fill_by_all g all AXIS_LIMIT (0, None, pos 0) size (λ k low. each k (0, None, pos 0) low) in
    ap (λ (lines : List (ℕ × Option ℕ × ℤ)). first_state lines x) listed
    ∙ ap (option_map (λ line. state_with line.1 line.2)) (found_in_range g (λ k. refl) 0 AXIS_LIMIT x (omega arith) (omega arith))

pub all_owned : (owners : List (Option AxisState)) (all : List (ℕ × Option ℕ × ℤ)) (owner : ℕ → Option ℕ) (position : ℕ → ℤ) → length all ≡ AXIS_LIMIT
    → ((k : ℕ) (d : ℕ × Option ℕ × ℤ) → k < AXIS_LIMIT → slice_index_or all k d ≡ (k, owner k, position k)) → ((x : ℕ) → axis_state owners x ≡ first_state all x)
    → (x : ℕ) → x < AXIS_LIMIT → is_some (axis_state owners x) ≡ true
all_owned owners all owner position size each states x below = ap is_some (states x ∙ first_of_all all owner position size each x below)

-- no line has a number from the size on
none_past : (all : List (ℕ × Option ℕ × ℤ)) (owner : ℕ → Option ℕ) (position : ℕ → ℤ) → length all ≡ AXIS_LIMIT
    → ((k : ℕ) (d : ℕ × Option ℕ × ℤ) → k < AXIS_LIMIT → slice_index_or all k d ≡ (k, owner k, position k)) → (x : ℕ) → AXIS_LIMIT ≤ x → first_state all x ≡ None
none_past all owner position size each x past =
    let g : ℕ → ℕ × Option ℕ × ℤ = λ k. (k, owner k, position k) in
    let listed : all ≡ map g (range_with_len 0 AXIS_LIMIT) = fill_by_all g all AXIS_LIMIT (0, None, pos 0) size (λ k low. each k (0, None, pos 0) low) in
    ap (λ (lines : List (ℕ × Option ℕ × ℤ)). first_state lines x) listed
    ∙ ap (option_map (λ line. state_with line.1 line.2)) (out_of_range g (λ k. refl) 0 AXIS_LIMIT x (omega arith))
  where
    out_of_range : (g : ℕ → ℕ × Option ℕ × ℤ) → ((k : ℕ) → (g k).0 ≡ k) → (a n x : ℕ) → a + n ≤ x → find (λ line. line.0 == x) (map g (range_with_len a n)) ≡ None
    out_of_range g number a zero x past = refl
    out_of_range g number a (suc n) x past =
        ap (λ (b : Bool). cond b (Some (g a)) (find (λ line. line.0 == x) (map g (range_with_len (a + 1) n)))) (ne_eqb (g a).0 x (λ e. let same : a ≡ x = sym (number a) ∙ e in omega arith))
        ∙ out_of_range g number (a + 1) n x (omega arith)

ownership_with : (owner : Option ℕ) (position : ℤ) → ownership_in (Some (state_with owner position)) ≡ ownership_of owner position
ownership_with (Some c) position = refl
ownership_with None position = refl

pub owned_at_first : (owners : List (Option AxisState)) (all lines : List (ℕ × Option ℕ × ℤ)) (known : List Bool) → length all ≡ AXIS_LIMIT
    → ((k : ℕ) (d : ℕ × Option ℕ × ℤ) → k < AXIS_LIMIT → slice_index_or all k d ≡ (k, option_map_or (λ line. line.1) (find (λ line. line.0 == k) lines) None, option_map_or (λ line. line.2) (find (λ line. line.0 == k) lines) (pos 0)))
    → ((x : ℕ) → axis_state owners x ≡ first_state all x)
    → ((x : ℕ) → has known x ≡ list_any (λ line. line.0 == x) lines) → length known ≡ AXIS_LIMIT
    → (x : ℕ) → ownership_in (axis_state owners x) ≡ ownership_of (option_map_or (λ line. line.1) (find (λ line. line.0 == x) lines) None) (option_map_or (λ line. line.2) (find (λ line. line.0 == x) lines) (pos 0))
owned_at_first owners all lines known size each states listed known_size x = elim (cases_lt x AXIS_LIMIT) [
  | inl below ↦ ap ownership_in (states x ∙ first_of_all all _ _ size each x below) ∙ ownership_with _ _
  | inr past ↦
      let none : list_any (λ (line : ℕ × Option ℕ × ℤ). line.0 == x) lines ≡ false = sym (listed x) ∙ has-past known x (omega arith) in
      ap ownership_in (states x ∙ none_past all _ _ size each x past)
      ∙ sym (ap₂ ownership_of (none_listed (λ (line : ℕ × Option ℕ × ℤ). line.0 == x) (λ line. line.1) None lines none) (none_listed (λ (line : ℕ × Option ℕ × ℤ). line.0 == x) (λ line. line.2) (pos 0) lines none))
]

-- programs
pub programs_at_first : (programs : List (Option ℕ)) (lines : List (ℕ × Option ℕ × Bool)) (known : List Bool) (n : ℕ) → CHANNEL_PLACES ≤ n → length programs ≡ CHANNEL_PLACES
    → ((c : ℕ) → 1 ≤ c → c < n → slice_index_or programs c None ≡ option_map_or (λ line. line.1) (find (λ line. line.0 == c) lines) None) → slice_index_or programs 0 None ≡ None
    → ((c : ℕ) → has known c ≡ list_any (λ line. line.0 == c) lines) → has known 0 ≡ false → length known ≡ CHANNEL_PLACES
    → (c : ℕ) → slice_index_or programs c None ≡ option_map_or (λ line. line.1) (find (λ line. line.0 == c) lines) None
programs_at_first programs lines known n end size each zeroth listed none known_size c = elim (cases_eq c 0) [
  | inl here ↦ ap (λ (k : ℕ). slice_index_or programs k None) here ∙ zeroth ∙ sym (absent (ap (has known) here ∙ none))
  | inr other ↦ elim (cases_lt c CHANNEL_PLACES) [
    | inl below ↦ each c (omega (arith, other)) (omega arith)
    | inr past ↦ get_or-eq_default programs None (omega arith) ∙ sym (absent (has-past known c (omega arith)))
  ]
]
  where
    absent : has known c ≡ false → option_map_or (λ line. line.1) (find (λ line. line.0 == c) lines) None ≡ None
    absent out = none_listed (λ (line : ℕ × Option ℕ × Bool). line.0 == c) (λ line. line.1) None lines (sym (listed c) ∙ out)

-- the numbers of owners
pub numbers_at_first_owner : (start : StartView) (owners : List (Option AxisState)) (known : List Bool) → IsSound start
    → ((c : ℕ) → has known c ≡ list_any (λ line. line.0 == c) start.channels) → has known 0 ≡ false → length known ≡ CHANNEL_PLACES
    → ((x : ℕ) → ownership_in (axis_state owners x) ≡ ownership_of (first_owner start x) (first_position start x))
    → (x d : ℕ) → axis_state owners x ≡ Some (Owned d) → (1 ≤ d) × (d < CHANNEL_PLACES)
numbers_at_first_owner start owners known sound listed none size first x d is =
    let owned : first_owner start x ≡ Some d = owner_is (first_owner start x) (first_position start x) (sym (first x) ∙ ap ownership_in is) in
    let member : has known d ≡ true = listed d ∙ sound.owners x d owned in
    (positive d member, omega (arith, has-below known d member, size))
  where
    owner_is : (owner : Option ℕ) (position : ℤ) → ownership_of owner position ≡ OwnedBy d → owner ≡ Some d
    owner_is (Some e) position is = cc
    owner_is None position is = cc

    positive : (c : ℕ) → has known c ≡ true → 1 ≤ c
    positive zero on = no_truth (has known 0) on none
    positive (suc n) on = omega arith

-- zones
pub zone_at_first : (lines : List (ℕ × List Bool × Option ℕ × Bool)) (z : ℕ) → zone_in (map zone_at_start lines) z ≡ option_map zone_at_start (find (λ line. line.0 == z) lines)
zone_at_first [] z = refl
zone_at_first (line ∷ lines) z = elim (cases_Bool (line.0 == z)) [
  | inl here ↦ rw here refl
  | inr other ↦ rw other (zone_at_first lines z)
]

pub numbers_at_first : (lines : List (ℕ × List Bool × Option ℕ × Bool)) → map (λ zone. zone.zone) (map zone_at_start lines) ≡ map (λ line. line.0) lines
numbers_at_first [] = refl
numbers_at_first (line ∷ lines) = ap (λ (ns : List ℕ). line.0 ∷ ns) (numbers_at_first lines)

pub axes_at_first : (lines : List (ℕ × List Bool × Option ℕ × Bool)) (z : ℕ) → axes_in (map zone_at_start lines) z ≡ option_map_or (λ line. line.1) (find (λ line. line.0 == z) lines) []
axes_at_first lines z = ap (λ (o : Option ZoneState). option_map_or (λ zone. zone.axes) o []) (zone_at_first lines z) ∙ each (find (λ line. line.0 == z) lines)
  where
    each : (found : Option (ℕ × List Bool × Option ℕ × Bool)) → option_map_or (λ zone. zone.axes) (option_map zone_at_start found) [] ≡ option_map_or (λ line. line.1) found []
    each (Some line) = refl
    each None = refl

pub holder_at_first : (lines : List (ℕ × List Bool × Option ℕ × Bool)) (z : ℕ) → holder_in (map zone_at_start lines) z ≡ option_map_or (λ line. line.2) (find (λ line. line.0 == z) lines) None
holder_at_first lines z = ap (λ (o : Option ZoneState). option_map_or (λ zone. zone.holder) o None) (zone_at_first lines z) ∙ each (find (λ line. line.0 == z) lines)
  where
    each : (found : Option (ℕ × List Bool × Option ℕ × Bool)) → option_map_or (λ zone. zone.holder) (option_map zone_at_start found) None ≡ option_map_or (λ line. line.2) found None
    each (Some line) = refl
    each None = refl

pub on_at_first : (lines : List (ℕ × List Bool × Option ℕ × Bool)) (z : ℕ) → is_on_in (map zone_at_start lines) z ≡ option_map_or (λ line. line.3) (find (λ line. line.0 == z) lines) false
on_at_first lines z = ap (λ (o : Option ZoneState). option_map_or (λ zone. zone.on) o false) (zone_at_first lines z) ∙ each (find (λ line. line.0 == z) lines)
  where
    each : (found : Option (ℕ × List Bool × Option ℕ × Bool)) → option_map_or (λ zone. zone.on) (option_map zone_at_start found) false ≡ option_map_or (λ line. line.3) found false
    each (Some line) = refl
    each None = refl

-- channels that run at the start
granted_at_first : (t : Table) (channels : List Activity) (n : ℕ) → board_in t channels ≡ record (board_at_rest t.start) { state = λ c. state_in c (activity_at channels c) }
    → start_grant (board_in t channels) n ≡ start_grant (board_at_rest t.start) n
unfolding start_grant grant_with
granted_at_first t channels n rest = ap (λ (b : Board). start_grant b n) rest

pub started_more : (t : Table) (any now new : List Activity) (n : ℕ) (v : Activity) (grant : Grant) → board_in t any ≡ record (board_at_rest t.start) { state = λ c. state_in c (activity_at any c) }
    → runs_at_first t.start n ≡ true → v ≡ Running grant → grant ≡ start_grant (board_in t any) n
    → ((x : ℕ) → activity_at new x ≡ (if x == n then v else activity_at now x))
    → ((x : ℕ) → 1 ≤ x → x < n → state_in x (activity_at now x) ≡ state_at_first t.start x)
    → (x : ℕ) → 1 ≤ x → x < n + 1 → state_in x (activity_at new x) ≡ state_at_first t.start x
unfolding state_at_first
started_more t any now new n v grant rest runs is granted writes before x from upto = elim (cases_eq x n) [
  | inl here ↦
      ap (state_in x) (writes x ∙ ap (λ (b : Bool). if b then v else activity_at now x) (eq-eqb x n here) ∙ is)
      ∙ ap IsRunning (granted ∙ granted_at_first t any n rest ∙ ap (start_grant (board_at_rest t.start)) (sym here))
      ∙ sym (ap (λ (b : Bool). if b then IsRunning (start_grant (board_at_rest t.start) x) else IsIdle) (ap (runs_at_first t.start) here ∙ runs))
  | inr other ↦ ap (state_in x) (writes x ∙ ap (λ (b : Bool). if b then v else activity_at now x) (ne_eqb x n other)) ∙ before x from (omega arith)
]

idle_where : (start : StartView) (x : ℕ) (now : List Activity) → runs_at_first start x ≡ false → activity_at now x ≡ Idle → state_in x (activity_at now x) ≡ state_at_first start x
unfolding state_at_first
idle_where start x now rests is =
    ap (state_in x) is ∙ sym (ap (λ (b : Bool). if b then IsRunning (start_grant (board_at_rest start) x) else IsIdle) rests)

pub rested_more : (t : Table) (now : List Activity) (n : ℕ) → runs_at_first t.start n ≡ false → activity_at now n ≡ Idle
    → ((x : ℕ) → 1 ≤ x → x < n → state_in x (activity_at now x) ≡ state_at_first t.start x)
    → (x : ℕ) → 1 ≤ x → x < n + 1 → state_in x (activity_at now x) ≡ state_at_first t.start x
rested_more t now n rests is before x from upto = elim (cases_eq x n) [
  | inl here ↦ idle_where t.start x now (ap (runs_at_first t.start) here ∙ rests) (ap (activity_at now) here ∙ is)
  | inr other ↦ before x from (omega arith)
]

pub activities_at_first : (start : StartView) (now : List Activity) (known : List Bool) (n : ℕ) → CHANNEL_PLACES ≤ n
    → ((x : ℕ) → 1 ≤ x → x < n → state_in x (activity_at now x) ≡ state_at_first start x) → ((x : ℕ) → n ≤ x → activity_at now x ≡ Idle) → activity_at now 0 ≡ Idle
    → ((c : ℕ) → has known c ≡ list_any (λ line. line.0 == c) start.channels) → has known 0 ≡ false → length known ≡ CHANNEL_PLACES
    → (x : ℕ) → state_in x (activity_at now x) ≡ state_at_first start x
activities_at_first start now known n end each above zeroth listed none size x = elim (cases_eq x 0) [
  | inl here ↦ idle_where start x now (absent (ap (has known) here ∙ none)) (ap (activity_at now) here ∙ zeroth)
  | inr other ↦ elim (cases_lt x n) [
    | inl below ↦ each x (omega (arith, other)) below
    | inr past ↦ idle_where start x now (absent (has-past known x (omega arith))) (above x past)
  ]
]
  where
    absent : has known x ≡ false → runs_at_first start x ≡ false
    absent out = none_listed (λ (line : ℕ × Option ℕ × Bool). line.0 == x) (λ line. line.2) false start.channels (sym (listed x) ∙ out)
