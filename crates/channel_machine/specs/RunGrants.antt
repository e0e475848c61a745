-- Meaning. With which grants a channel makes its steps in a run.
use Rattle.std.specs.Prelude.{ℕ, ◌==◌, if◌then◌else◌, List, [], ◌∷◌, length, slice_get, take}
use Rattle.std.specs.List.{flat_map, range_with_len}
use Rattle.std.specs.Option.{option_map_or}
use Rattle.sync_types.specs.Boards.{Board, first_board, grant_in}
use Rattle.sync_types.specs.Runs.{as_list}
use Rattle.sync_types.specs.Turns.{after_entries}
use Rattle.sync_types.specs.Views.{EntryView, StartView, RunView}
use Rattle.sync_types.specs.declared.Grant.{Grant}

-- the board before the entry of a place
abbrev pub board_before : StartView → List EntryView → ℕ → Board
board_before start entries place = after_entries (first_board start) (take place entries)

-- the grant of the entry of a place, where it is of the channel: with what the channel runs on the board before it
abbrev pub grants_at : StartView → List EntryView → ℕ → ℕ → List Grant
grants_at start entries channel place =
    option_map_or (λ entry. if entry.channel == channel then as_list (grant_in ((board_before start entries place).state channel)) else []) (slice_get entries place) []

-- those of the entries before a place
unfoldable pub grants_before : StartView → List EntryView → ℕ → ℕ → List Grant
grants_before start entries channel upto = flat_map (grants_at start entries channel) (range_with_len 0 upto)

-- those of all entries
abbrev pub grants_of : StartView → List EntryView → ℕ → List Grant
grants_of start entries channel = grants_before start entries channel (length entries)

-- ---- answers

-- a grant of the channel that acts, where it is this one
abbrev pub own_grant : ℕ → ℕ → Grant → List Grant
own_grant channel acting grant = if acting == channel then grant ∷ [] else []
