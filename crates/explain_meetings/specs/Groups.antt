-- Meaning. Pairs of boxes by their names.
use Rattle.std.specs.Prelude.{◌≡◌, ℕ, ◌<◌, ◌-◌, ◌^◌, ◌==◌, ◌&&◌, Bool, true, false, All, List, [], ◌∷◌, take, slice_get, min, Option, None, Some}
use Rattle.std.specs.List.{Any, count_by}
use Rattle.explain_meetings.specs.declared.groups.Group.{Group}
use Rattle.sync_types.specs.declared.verdicts.PlaceName.{PlaceName}
use Rattle.sync_types.specs.declared.verdicts.StretchKind.{StretchKind}
use Rattle.sync_types.specs.declared.verdicts.StretchKind.TheVariants.{Idle, Run, Hold, End, Free}
use Rattle.explain_places.specs.declared.place.Meeting.{Meeting}

-- ---- names

abbrev pub kind_number : StretchKind → ℕ
kind_number Idle = 0
kind_number Run = 1
kind_number Hold = 2
kind_number End = 3
kind_number Free = 4

abbrev pub same_channel : Option ℕ → Option ℕ → Bool
same_channel None None = true
same_channel None (Some other) = false
same_channel (Some one) None = false
same_channel (Some one) (Some other) = one == other

abbrev pub same_name : PlaceName → PlaceName → Bool
same_name one other = one.line == other.line && (one.zone == other.zone && (same_channel one.channel other.channel && kind_number one.kind == kind_number other.kind))

-- both boxes of a pair have these names
abbrev pub have_names : PlaceName → PlaceName → Meeting → Bool
have_names left right met = same_name met.left.name left && same_name met.right.name right

-- ---- groups

-- a number, or the greatest that is counted
abbrev pub capped : ℕ → ℕ
capped n = min n (2 ^ 64 - 1)

-- the pairs with the names of the one at the place of the group: none of them is earlier, and so many there are
pub record IsGroup (met : List Meeting) (group : Group) : Type 0 where
  pub one : Meeting
  pub there : slice_get met group.first ≡ Some one
  pub first : All (λ other. have_names one.left.name one.right.name other ≡ false) (take group.first met)
  pub count : group.count ≡ capped (count_by (have_names one.left.name one.right.name) met)

-- a pair has the names of the one at the place of a group
abbrev pub IsIn : List Meeting → Meeting → Group → Type 0
IsIn met pair group = (one : Meeting) × (slice_get met group.first ≡ Some one) × (have_names one.left.name one.right.name pair ≡ true)

-- each begins before all later ones
abbrev pub DoAscend : List Group → Type 0
DoAscend [] = Unit {0}
DoAscend (group ∷ groups) = All (λ later. group.first < later.first) groups × DoAscend groups

-- each pair is in one, and they stand in the order of their first pairs
pub record AreGroups (met : List Meeting) (groups : List Group) : Type 0 where
  pub each : All (IsGroup met) groups
  pub all : All (λ pair. Any (IsIn met pair) groups) met
  pub ascend : DoAscend groups
