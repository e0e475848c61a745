-- Meaning. Which marks of channels stand, and which of the channels that wait for marks go on.
use Rattle.std.specs.Prelude.{ℕ, Bool, List, [], slice_index_or}
use Rattle.std.specs.List.{list_all}
use Rattle.axis_sets.specs.Sets.{has, members_of}
use Rattle.set_laws.specs.Others.{others_than}

-- the mark of this number of this channel stands
abbrev pub has_mark : List (List Bool) → ℕ → ℕ → Bool
has_mark marks channel number = has (slice_index_or marks channel []) number

-- of the named channels all but the channel itself have raised their mark of this number
abbrev pub others_have_mark : List (List Bool) → ℕ → ℕ → List Bool → Bool
others_have_mark marks channel number named = list_all (λ d. has_mark marks d number) (others_than channel (members_of named))
