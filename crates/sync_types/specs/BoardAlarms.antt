-- Meaning. The alarm of an action on the board, the first that fits.
use Rattle.axis_sets.specs.declared.limits.TheConstants.{MARK_LIMIT}
use Rattle.std.specs.Prelude.{ℕ, ◌||◌, not, nat_lt, Bool, false, List, [], ◌∷◌, Option, Some, None, is_some, if◌then◌else◌}
use Rattle.std.specs.List.{list_all}
use Rattle.axis_sets.specs.Sets.{members_of, has}
use Rattle.sync_types.specs.Boards.{Board, is_idle, owns}
use Rattle.sync_types.specs.Starts.{has_channel, has_axis}
use Rattle.sync_types.specs.declared.Action.{Action}
use Rattle.sync_types.specs.declared.Action.TheVariants.{WaitM, Init, Start, WaitE, Release, Get, Alarm}

-- marks have the numbers 0 to 9
abbrev pub mark_count : ℕ
mark_count = MARK_LIMIT

-- the number of a mark that there is not: alarm 25
abbrev pub names_no_mark : Action → Bool
names_no_mark (WaitM m named) = not (nat_lt m mark_count)
names_no_mark other = false

abbrev pub named_channels : Action → List ℕ
named_channels (WaitM m named) = members_of named
named_channels (Init c program) = c ∷ []
named_channels (Start named) = members_of named
named_channels (WaitE named) = members_of named
named_channels other = []

abbrev pub named_axes : Action → List Bool
named_axes (Release axes) = axes
named_axes (Get axes) = axes
named_axes other = []

-- a channel that the machine has not: alarm 24
abbrev pub names_no_channel : Board → Action → Bool
names_no_channel b action = not (list_all (has_channel b.start) (named_channels action))

-- an axis that the machine has not: alarm 14
abbrev pub names_no_axis : Board → Action → Bool
names_no_axis b action = not (list_all (has_axis b.start) (members_of (named_axes action)))

-- an axis to be let go that the channel does not own: alarm 15
abbrev pub lets_go_of_others : Board → ℕ → Action → Bool
lets_go_of_others b c (Release axes) = not (list_all (owns b c) (members_of axes))
lets_go_of_others b c other = false

-- all axes of a zone are named, or none
abbrev pub is_whole : List Bool → List Bool → Bool
is_whole axes zone = list_all (has axes) (members_of zone) || list_all (λ x. not (has axes x)) (members_of zone)

-- a zone of which some axes are named and some are not: alarm 31
abbrev pub splits_a_zone : Board → Action → Bool
splits_a_zone b action = not (list_all (λ zone. is_whole (named_axes action) zone.1) b.start.zones)

-- the own mark stands already: alarm 26
abbrev pub finds_own_mark : Board → ℕ → Action → Bool
finds_own_mark b c (WaitM m named) = b.marks c m
finds_own_mark b c other = false

-- INIT or START of a channel that is not idle: alarm 27
abbrev pub finds_one_awake : Board → Action → Bool
finds_one_awake b (Init c program) = not (is_idle (b.state c))
finds_one_awake b (Start named) = not (list_all (λ c. is_idle (b.state c)) (members_of named))
finds_one_awake b other = false

-- START of a channel that has no program: alarm 28
abbrev pub starts_without_program : Board → Action → Bool
starts_without_program b (Start named) = not (list_all (λ c. is_some (b.program c)) (members_of named))
starts_without_program b other = false

-- an alarm that the channel has found itself
abbrev pub own_alarm : Action → Option ℕ
own_alarm (Alarm code) = Some code
own_alarm other = None

-- the first alarm of an action of a channel
unfoldable pub alarm_of : Board → ℕ → Action → Option ℕ
alarm_of b c action =
    if names_no_mark action then Some 25
    else if names_no_channel b action then Some 24
    else if names_no_axis b action then Some 14
    else if lets_go_of_others b c action then Some 15
    else if splits_a_zone b action then Some 31
    else if finds_own_mark b c action then Some 26
    else if finds_one_awake b action then Some 27
    else if starts_without_program b action then Some 28
    else own_alarm action
