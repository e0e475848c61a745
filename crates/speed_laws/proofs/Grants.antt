-- What a channel is granted at its start.
use Rattle.std.proofs.Common.{◌≡◌, ◌⊎◌, ◌∙◌, ℕ, zero, suc, ℤ, pos, ◌+◌, ◌<◌, ◌≤◌, ◌==◌, ◌&&◌, Bool, true, false, cond, List, [], ◌∷◌, map, length, find, slice_get, option_and_then, Option, None, Some, unwrap_or, All, inl, inr, zero-add, refl, sym, ap, subst, arith}
use Rattle.std.specs.Option.{option_map, option_map_or}
use Rattle.std.proofs.lemmas.Bool.{eqb-true, eq-eqb, false≢true}
use Rattle.std.proofs.lemmas.List.{get_or_past}
use Rattle.std.proofs.lemmas.List.Elements.{All-head, All-tail}
use Rattle.std.proofs.lemmas.List.FromFn.{get_or-map-range_with_len, length-map-range_with_len}
use Rattle.std.proofs.lemmas.Option.{slice_get_within}
use Rattle.axis_sets.specs.Positions.{position_of, stands}
use Rattle.axis_sets.specs.Sets.{has}
use Rattle.axis_sets.specs.declared.limits.TheConstants.{AXIS_LIMIT, ZONE_LIMIT}
use Rattle.channel_machine.proofs.StartLaws.{axis_found, owner_is, zone_found}
use Rattle.channel_machine.specs.StartStates.{first_axis, start_of}
use Rattle.job_types.specs.Axes.{first_owner, start_position}
use Rattle.job_types.specs.Job.{JobView}
use Rattle.job_types.specs.SoundJob.{IsSoundJob}
use Rattle.job_types.specs.declared.job.AxisLine.{AxisLine}
use Rattle.job_types.specs.declared.job.ZoneLine.{ZoneLine}
use Rattle.micro_units.specs.Position.{IsPosition}
use Rattle.sync_types.specs.declared.Grant.{Grant}
use Rattle.sync_types.specs.Boards.{Board, axis_numbers, zone_numbers, board_at_rest, grant_with, is_this, owner_of, ownership_of, owns, start_grant}
use Rattle.sync_types.specs.Starts as start

pub le_or_lt : (a b : ℕ) → (a ≤ b) ⊎ (b < a)
le_or_lt a b = grind arith

-- what the job gives a channel at its start: its axes and where they stand, its zones that are on, and its program
abbrev pub first_grant : JobView → ℕ → Grant
first_grant job channel = start_grant (board_at_rest (start_of job)) channel

-- ---- axes

rest : JobView → Board
rest job = board_at_rest (start_of job)

owner_told : (o : Option ℕ) (position : ℤ) → owner_of (ownership_of o position) ≡ o
owner_told None position = refl
owner_told (Some c) position = refl

-- who owns an axis on the board
owns_is : (job : JobView) → IsSoundJob job → (c axis : ℕ) → owns (rest job) c axis ≡ is_this (first_owner job axis) c
unfolding rest
owns_is job sound c axis = ap (λ (o : Option ℕ). is_this o c) (owner_told (start.first_owner (start_of job) axis) (start.first_position (start_of job) axis) ∙ owner_is job sound axis)

-- where an axis stands at the start
pub position_is : (job : JobView) → IsSoundJob job → (axis : ℕ) → start.first_position (start_of job) axis ≡ start_position job axis
unfolding start_of start_position
position_is job sound axis =
    ap (λ (o : Option (ℕ × Option ℕ × ℤ)). option_map_or (λ line. line.2) o (pos 0)) (axis_found job sound axis) ∙ by_line (slice_get job.axes axis)
  where
    by_line : (o : Option AxisLine) → option_map_or (λ (e : ℕ × Option ℕ × ℤ). e.2) (option_map (first_axis axis) o) (pos 0) ≡ option_map_or (λ line. line.at) o (pos 0)
    by_line None = refl
    by_line (Some line) = refl

axes_are : (job : JobView) (c : ℕ) → (first_grant job c).axes ≡ map (owns (rest job) c) axis_numbers
unfolding start_grant grant_with rest
axes_are job c = refl

at_is : (job : JobView) (c : ℕ) → (first_grant job c).at ≡ map (λ x. cond (owns (rest job) c x) (Some (start.first_position (start_of job) x)) None) axis_numbers
unfolding start_grant grant_with rest
at_is job c = refl

-- an axis that is granted is one of the row
pub granted_within : (job : JobView) (c axis : ℕ) → has (first_grant job c).axes axis ≡ true → axis < AXIS_LIMIT
granted_within job c axis granted = by_place (le_or_lt AXIS_LIMIT axis)
  where
    by_place : (AXIS_LIMIT ≤ axis) ⊎ (axis < AXIS_LIMIT) → axis < AXIS_LIMIT
    by_place (inl past) =
        let long = length-map-range_with_len (owns (rest job) c) 0 AXIS_LIMIT in
        let not_granted : has (first_grant job c).axes axis ≡ false = ap (λ (xs : List Bool). has xs axis) (axes_are job c) ∙ get_or_past (map (owns (rest job) c) axis_numbers) axis false (omega arith) in
        absurd cc
    by_place (inr within) = within

pub this_one : (o : Option ℕ) (c : ℕ) → is_this o c ≡ true → o ≡ Some c
this_one None c is = absurd (false≢true is)
this_one (Some d) c is = ap (λ (n : ℕ). Some n) (eqb-true d c is)

granted_is : (job : JobView) → IsSoundJob job → (c axis : ℕ) → axis < AXIS_LIMIT → has (first_grant job c).axes axis ≡ is_this (first_owner job axis) c
granted_is job sound c axis within =
    ap (λ (xs : List Bool). has xs axis) (axes_are job c) ∙ get_or-map-range_with_len (owns (rest job) c) 0 AXIS_LIMIT axis axis false within (zero-add axis) ∙ owns_is job sound c axis

-- it is the channel's own
pub granted_owned : (job : JobView) → IsSoundJob job → (c axis : ℕ) → has (first_grant job c).axes axis ≡ true → first_owner job axis ≡ Some c
granted_owned job sound c axis granted = this_one (first_owner job axis) c (sym (granted_is job sound c axis (granted_within job c axis granted)) ∙ granted)

-- an owned axis is an axis of the job
owned_within : (job : JobView) (axis c : ℕ) → first_owner job axis ≡ Some c → axis < length job.axes
unfolding first_owner
owned_within job axis c owned = by_line (slice_get job.axes axis) refl owned
  where
    by_line : (o : Option AxisLine) → slice_get job.axes axis ≡ o → option_and_then (λ (line : AxisLine). line.owner) o ≡ Some c → axis < length job.axes
    by_line None is owned = absurd cc
    by_line (Some line) is owned = slice_get_within job.axes axis line is

owned_in_row : (job : JobView) → IsSoundJob job → (axis c : ℕ) → first_owner job axis ≡ Some c → axis < AXIS_LIMIT
owned_in_row job sound axis c owned = let few : length job.axes ≤ AXIS_LIMIT = sound.few_axes in let below : axis < length job.axes = owned_within job axis c owned in omega arith

-- and each axis of its own is granted
pub owned_granted : (job : JobView) → IsSoundJob job → (c axis : ℕ) → first_owner job axis ≡ Some c → has (first_grant job c).axes axis ≡ true
owned_granted job sound c axis owned = granted_is job sound c axis (owned_in_row job sound axis c owned) ∙ rw owned (eq-eqb c c refl)

granted_at : (job : JobView) → IsSoundJob job → (c axis : ℕ) → axis < AXIS_LIMIT
    → position_of (first_grant job c).at axis ≡ cond (is_this (first_owner job axis) c) (Some (start_position job axis)) None
granted_at job sound c axis within =
    ap (λ (xs : List (Option ℤ)). position_of xs axis) (at_is job c)
    ∙ get_or-map-range_with_len (λ x. cond (owns (rest job) c x) (Some (start.first_position (start_of job) x)) None) 0 AXIS_LIMIT axis axis None within (zero-add axis)
    ∙ rw (owns_is job sound c axis, position_is job sound axis) refl

-- where the job gives the axis to the channel, it is granted where the job puts it
pub granted_own : (job : JobView) → IsSoundJob job → (c axis : ℕ) → first_owner job axis ≡ Some c → stands (first_grant job c).at axis ≡ start_position job axis
granted_own job sound c axis owned =
    let own : is_this (first_owner job axis) c ≡ true = rw owned (eq-eqb c c refl) in
    ap (λ (o : Option ℤ). unwrap_or o (pos 0)) (granted_at job sound c axis (owned_in_row job sound axis c owned))
    ∙ ap (λ (b : Bool). unwrap_or (cond b (Some (start_position job axis)) None) (pos 0)) own

-- an axis that is granted is granted where the job puts it
pub granted_there : (job : JobView) → IsSoundJob job → (c axis : ℕ) → unwrap_or (position_of (first_grant job c).at axis) (start_position job axis) ≡ start_position job axis
granted_there job sound c axis = by_place (le_or_lt AXIS_LIMIT axis)
  where
    by_owner : (b : Bool) → unwrap_or (cond b (Some (start_position job axis)) None) (start_position job axis) ≡ start_position job axis
    by_owner true = refl
    by_owner false = refl

    by_place : (AXIS_LIMIT ≤ axis) ⊎ (axis < AXIS_LIMIT) → unwrap_or (position_of (first_grant job c).at axis) (start_position job axis) ≡ start_position job axis
    by_place (inl past) =
        let long = length-map-range_with_len (λ x. cond (owns (rest job) c x) (Some (start.first_position (start_of job) x)) None) 0 AXIS_LIMIT in
        ap (λ (o : Option ℤ). unwrap_or o (start_position job axis))
        (ap (λ (xs : List (Option ℤ)). position_of xs axis) (at_is job c)
        ∙ get_or_past (map (λ x. cond (owns (rest job) c x) (Some (start.first_position (start_of job) x)) None) axis_numbers) axis None (omega arith))
    by_place (inr within) = ap (λ (o : Option ℤ). unwrap_or o (start_position job axis)) (granted_at job sound c axis within) ∙ by_owner (is_this (first_owner job axis) c)

-- each axis is granted in range
starts_in_range : (job : JobView) → IsSoundJob job → (axis : ℕ) → IsPosition (start_position job axis)
unfolding start_position
starts_in_range job sound axis = at_line job.axes axis sound.positions
  where
    at_line : (lines : List AxisLine) (axis : ℕ) → All (λ line. IsPosition line.at) lines → IsPosition (option_map_or (λ line. line.at) (slice_get lines axis) (pos 0))
    at_line [] axis all = omega arith
    at_line (line ∷ lines) zero all = All-head (λ l. IsPosition l.at) line lines all
    at_line (line ∷ lines) (suc axis) all = at_line lines axis (All-tail (λ l. IsPosition l.at) line lines all)

pub granted_in_range : (job : JobView) → IsSoundJob job → (c axis : ℕ) → IsPosition (stands (first_grant job c).at axis)
granted_in_range job sound c axis = by_place (le_or_lt AXIS_LIMIT axis)
  where
    by_owner : (b : Bool) → IsPosition (unwrap_or (cond b (Some (start_position job axis)) None) (pos 0))
    by_owner true = starts_in_range job sound axis
    by_owner false = omega arith

    by_place : (AXIS_LIMIT ≤ axis) ⊎ (axis < AXIS_LIMIT) → IsPosition (stands (first_grant job c).at axis)
    by_place (inl past) =
        let long = length-map-range_with_len (λ x. cond (owns (rest job) c x) (Some (start.first_position (start_of job) x)) None) 0 AXIS_LIMIT in
        let none : position_of (first_grant job c).at axis ≡ None =
        ap (λ (xs : List (Option ℤ)). position_of xs axis) (at_is job c)
        ∙ get_or_past (map (λ x. cond (owns (rest job) c x) (Some (start.first_position (start_of job) x)) None) axis_numbers) axis None (omega arith) in
        subst (λ (o : Option ℤ). IsPosition (unwrap_or o (pos 0))) (sym none) (omega arith)
    by_place (inr within) = subst (λ (o : Option ℤ). IsPosition (unwrap_or o (pos 0))) (sym (granted_at job sound c axis within)) (by_owner (is_this (first_owner job axis) c))

-- ---- zones

on_is : (job : JobView) (c : ℕ) → (first_grant job c).on ≡ false ∷ map (λ z. is_this (start.first_holder (start_of job) z) c && start.is_on_at_first (start_of job) z) zone_numbers
unfolding start_grant grant_with
on_is job c = refl

-- a zone that is on is granted to its holder
pub zone_granted : (job : JobView) → IsSoundJob job → (zone : ZoneLine) → find (λ z. z.zone == zone.zone) job.zones ≡ Some zone → 1 ≤ zone.zone → zone.zone ≤ ZONE_LIMIT
    → (c : ℕ) → zone.holder ≡ Some c → zone.on ≡ true → has (first_grant job c).on zone.zone ≡ true
unfolding start_of
zone_granted job sound zone there low high c held on =
    ap (λ (xs : List Bool). has xs zone.zone) (on_is job c) ∙ at_place zone.zone low high ∙ rw (zone_found job sound zone.zone, there, held, eq-eqb c c refl, on) refl
  where
    flag : ℕ → Bool
    flag z = is_this (start.first_holder (start_of job) z) c && start.is_on_at_first (start_of job) z

    at_place : (z : ℕ) → 1 ≤ z → z ≤ ZONE_LIMIT → has (false ∷ map flag zone_numbers) z ≡ flag z
    at_place zero low high = absurd (omega arith)
    at_place (suc n) low high = let next : 1 + n ≡ suc n = omega arith in get_or-map-range_with_len flag 1 ZONE_LIMIT n (suc n) false (omega arith) next
