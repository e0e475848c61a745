-- Meaning. Which execution of its block a motion is.
use Rattle.std.specs.Prelude.{ℕ, ◌+◌, ◌-◌, ◌^◌, ◌==◌, ◌&&◌, min, Bool, if◌then◌else◌, List, [], length, take, slice_get, slice_index_or, Option, option_map}
use Rattle.std.specs.List.{count_by, range_with_len, sum_by}
use Rattle.std.specs.Option.{option_and_then, option_map_or}
use Rattle.sync_types.specs.Items.{is_motion}
use Rattle.sync_types.specs.Views.{RunView}
use Rattle.sync_types.specs.declared.Item.{Item}
use Rattle.explain_places.specs.declared.executions.Execution.{Execution}
use Rattle.explain_places.specs.declared.place.Place.{Place}

-- a number, or the greatest that is counted
abbrev pub capped : ℕ → ℕ
capped n = min n (2 ^ 64 - 1)

-- a motion of a block in this line
abbrev pub moves_at : ℕ → Item → Bool
moves_at line item = item.line == line && is_motion item

-- how many of these are
unfoldable pub motions_at : ℕ → List Item → ℕ
motions_at line items = count_by (moves_at line) items

-- how many of them an entry has, where it is of the channel
unfoldable pub motions_in : RunView → ℕ → ℕ → ℕ → ℕ
motions_in run channel line place =
    option_map_or (λ entry. if entry.channel == channel then motions_at line (slice_index_or run.items place []) else 0) (slice_get run.entries place) 0

-- and the entries before one
unfoldable pub motions_before : RunView → ℕ → ℕ → ℕ → ℕ
motions_before run channel line upto = sum_by (motions_in run channel line) (range_with_len 0 upto)

-- which execution of its block the motion is that comes after so many items of an entry of a channel, counted from 1, and how many the run has
unfoldable pub execution_of : RunView → ℕ → ℕ → ℕ → ℕ → Execution
execution_of run channel line entry items = record {
  which = capped (motions_before run channel line entry + motions_at line (take items (slice_index_or run.items entry [])) + 1);
  of = capped (motions_before run channel line (length run.entries));
}

-- that of a box; none where it stands or nobody holds its zone
unfoldable pub execution_at : RunView → Place → Option Execution
execution_at run place =
    option_and_then (λ channel. option_map (λ motion. execution_of run channel place.name.line place.entry (motion - 1)) place.motion) place.name.channel
