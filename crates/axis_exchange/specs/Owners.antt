-- Meaning. Who has each axis, which axes a channel may take, and where those stand that it takes.
use Rattle.std.specs.Prelude.{ℕ, ℤ, ◌==◌, ◌&&◌, ◌||◌, Bool, true, false, List, find, slice_index_or, Option, Some, None, is_some, if◌then◌else◌}
use Rattle.std.specs.List.{list_all}
use Rattle.std.specs.Option.{option_map}
use Rattle.axis_sets.specs.Sets.{has, members_of}
use Rattle.axis_exchange.specs.declared.AxisState.{AxisState}
use Rattle.axis_exchange.specs.declared.AxisState.TheVariants.{Owned, Free}

-- who has an axis; none where there is no axis of this number
abbrev pub axis_state : List (Option AxisState) → ℕ → Option AxisState
axis_state owners axis = slice_index_or owners axis None

-- the axis is owned by this channel
abbrev pub is_owned_by : Option AxisState → ℕ → Bool
is_owned_by (Some (Owned owner)) channel = owner == channel
is_owned_by (Some (Free position)) channel = false
is_owned_by None channel = false

abbrev pub is_free : Option AxisState → Bool
is_free (Some (Owned owner)) = false
is_free (Some (Free position)) = true
is_free None = false

-- where an axis stands that is free
abbrev pub position_if_free : Option AxisState → Option ℤ
position_if_free (Some (Owned owner)) = None
position_if_free (Some (Free position)) = Some position
position_if_free None = None

-- free at a position
abbrev pub free_at : Option ℤ → Option AxisState
free_at (Some position) = Some (Free position)
free_at None = None

-- a channel may take what is free or its own
abbrev pub may_take : Option AxisState → ℕ → Bool
may_take state channel = is_free state || is_owned_by state channel

-- it may take each of these axes
abbrev pub may_take_all : List (Option AxisState) → ℕ → List Bool → Bool
may_take_all owners channel axes = list_all (λ x. may_take (axis_state owners x) channel) (members_of axes)

-- from channels that stand it may take too what one of them owns
abbrev pub may_take_from : Option AxisState → ℕ → List Bool → Bool
may_take_from (Some (Owned owner)) channel standing = (owner == channel) || has standing owner
may_take_from (Some (Free position)) channel standing = true
may_take_from None channel standing = false

-- each of these axes
abbrev pub may_take_all_from : List (Option AxisState) → ℕ → List Bool → List Bool → Bool
may_take_all_from owners channel axes standing = list_all (λ x. may_take_from (axis_state owners x) channel standing) (members_of axes)

-- an axis is free, the channel's own, or it is told where it stands
abbrev pub is_known : Option AxisState → ℕ → Option ℤ → Bool
is_known (Some (Owned owner)) channel place = (owner == channel) || is_some place
is_known (Some (Free position)) channel place = true
is_known None channel place = is_some place

-- where an axis stands that a channel takes: where it is free, else where it is told; of its own it takes none
abbrev pub position_when_taken : Option AxisState → ℕ → Option ℤ → Option ℤ
position_when_taken (Some (Owned owner)) channel place = if owner == channel then None else place
position_when_taken (Some (Free position)) channel place = Some position
position_when_taken None channel place = place

-- of these axes one that is free
abbrev pub is_free_among : List (Option AxisState) → List Bool → ℕ → Bool
is_free_among owners axes x = has axes x && is_free (axis_state owners x)

-- owned by this channel, or where there is none free at the position
abbrev pub state_with : Option ℕ → ℤ → AxisState
state_with (Some owner) position = Owned owner
state_with None position = Free position

-- what the first line of an axis says, of lines with an axis, its owner or none, and where it stands
abbrev pub first_state : List (ℕ × Option ℕ × ℤ) → ℕ → Option AxisState
first_state lines x = option_map (λ line. state_with line.1 line.2) (find (λ line. line.0 == x) lines)
