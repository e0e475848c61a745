-- Steps. The sequential run of channels whose steps are listed, and what comes of it.
use Rattle.axis_sets.specs.declared.limits.TheConstants.{AXIS_LIMIT, CHANNEL_PLACES, MARK_LIMIT, ZONE_PLACES}
use Rattle.std.specs.Prelude.{ℕ, ℤ, zero, suc, ◌-◌, ◌==◌, Bool, List, [], ◌∷◌, map, filter, find, length, slice_index_or, Option, Some, None}
use Rattle.std.specs.List.{range_with_len}
use Rattle.std.specs.Option.{option_map_or}
use Rattle.fault_codes.specs.declared.Alarm.{Alarm}
use Rattle.sync_types.specs.BoardEnds.{ends_of}
use Rattle.sync_types.specs.Boards.{Ownership, Board, among, no_positions}
use Rattle.sync_types.specs.Runs.{Script, Stage, first_stage, after_turn, moves_of, stage_after, lowest_running}
use Rattle.sync_types.specs.Turns.{Move, entries_of}
use Rattle.sync_types.specs.Turns.{Move}
use Rattle.sync_types.specs.Views.{StartView, EntryView}
use Rattle.sync_types.specs.declared.Action.{Action}
use Rattle.sync_types.specs.declared.Action.TheVariants.{End}
use Rattle.sync_types.specs.declared.ChannelEnd.{ChannelEnd}
use Rattle.sync_types.specs.declared.Grant.{Grant}
use Rattle.sync_types.specs.declared.Step.{Step}
use Rattle.sync_types.specs.declared.runs.Go.{Go}

-- sets of these members
abbrev pub channels : List ℕ → List Bool
channels members = map (among members) (range_with_len 0 CHANNEL_PLACES)

abbrev pub marks : List ℕ → List Bool
marks members = map (among members) (range_with_len 0 MARK_LIMIT)

abbrev pub axes : List ℕ → List Bool
axes members = map (among members) (range_with_len 0 AXIS_LIMIT)

abbrev pub zones : List ℕ → List Bool
zones members = map (among members) (range_with_len 0 ZONE_PLACES)

-- positions of these axes
abbrev pub positions : List (ℕ × ℤ) → List (Option ℤ)
positions places = map (λ x. option_map_or (λ place. Some place.1) (find (λ place. place.0 == x) places) None) (range_with_len 0 AXIS_LIMIT)

-- a step of a channel without axes and zones
abbrev pub at_line : ℕ → Action → Step
at_line line action = record { line = line; action = action; at = no_positions; on = zones [] }

-- a step of a channel whose axes stand there, and of whose zones these are on
abbrev pub at_place : ℕ → List (ℕ × ℤ) → List ℕ → Action → Step
at_place line places on action = record { line = line; action = action; at = positions places; on = zones on }

-- the steps of each channel; each grant lets it make the next
abbrev pub script_of : List (List Step) → Script
script_of steps c grants = slice_index_or (slice_index_or steps (c - 1) []) (length grants - 1) (at_line 0 End)

abbrev pub turns_from : (Stage → List ℕ) → Script → Stage → Option ℕ → List ℕ
turns_from rest script stage None = []
turns_from rest script stage (Some c) = c ∷ rest (after_turn script stage c)

-- each time the lowest running channel, at most so often
abbrev pub turns : ℕ → Script → Stage → List ℕ
turns zero script stage = []
turns (suc n) script stage = turns_from (turns n script) script stage (lowest_running stage.board)

-- the steps of the sequential run
abbrev pub moves_in_order : StartView → List (List Step) → List Move
moves_in_order start steps = moves_of (script_of steps) (first_stage start) (turns 30 (script_of steps) (first_stage start))

-- all grants of a channel in it
abbrev pub grants_of : StartView → List (List Step) → ℕ → List Grant
grants_of start steps = (stage_after (script_of steps) (first_stage start) (turns 30 (script_of steps) (first_stage start))).grants

-- who acts, and who goes on in that step
pub record Act : Type 0 where
  pub channel : ℕ
  pub goes : List ℕ

abbrev pub acts : ℕ → List ℕ → Act
acts c goes = record { channel = c; goes = goes }

abbrev pub alarm : ℕ → ℕ → Alarm
alarm code line = record { code = code; line = line }

abbrev pub act_of : EntryView → Act
act_of entry = record { channel = entry.channel; goes = map (λ (g : Go). g.channel) entry.goes }

abbrev pub zone_marks : Board → List (Option ℕ × Bool)
zone_marks b = map (λ line. (b.holder line.0, b.is_on line.0)) b.start.zones

-- what comes of a run
pub record Outcome : Type 0 where
  pub acts : List Act
  pub ends : List ChannelEnd
  pub marks : List (List ℕ)
  pub axes : List Ownership
  pub zones : List (Option ℕ × Bool)

abbrev pub outcome_at : Stage → Script → List ℕ → Outcome
outcome_at stage script cs = record {
  acts = map act_of (entries_of stage.board (moves_of script stage cs));
  ends = ends_of (stage_after script stage cs).board;
  marks = map (λ line. filter ((stage_after script stage cs).board.marks line.0) (range_with_len 0 MARK_LIMIT)) stage.board.start.channels;
  axes = map (λ line. (stage_after script stage cs).board.axis line.0) stage.board.start.axes;
  zones = zone_marks (stage_after script stage cs).board;
}

-- what comes of the sequential run of these steps
abbrev pub outcome_of : StartView → List (List Step) → Outcome
outcome_of start steps = outcome_at (first_stage start) (script_of steps) (turns 30 (script_of steps) (first_stage start))
