-- Meaning. A segment of a channel's run, told over the list of what the channel has done: the blocks that it has executed, and the grants that it got.
use Rattle.std.specs.Prelude.{⊤, ℕ, zero, suc, ◌-◌, ◌==◌, ℤ, Bool, false, if◌then◌else◌, List, [], ◌∷◌, ◌++◌, length, map, fold, filter_map, slice_get, Option, None, Some, option_and_then, unwrap_or, slice_set, Result, Ok, Err}
use Rattle.std.specs.List.{list_any, range_with_len}
use Rattle.std.specs.Option.{option_map_or, option_to_list}
use Rattle.axis_sets.specs.Sets.{has}
use Rattle.axis_sets.specs.Positions.{position_of, stands}
use Rattle.sync_types.specs.Items.{end_in, is_motion}
use Rattle.block_effects.specs.Effects.{Course, Goes, Ends, Calls, Effect, SituationView, group_words, effect_of}
use Rattle.block_effects.specs.Words.{SetupView, values_in, zeros}
use Rattle.frames.specs.Maps.{Map}
use Rattle.g_groups.specs.declared.GWord.{GWord}
use Rattle.nc_blocks.specs.Statement.{BlockView, Statement}
use Rattle.nc_control_flow.specs.Parts.{statement_at}
use Rattle.nc_control_flow.specs.Structures.{opening}
use Rattle.nc_expressions.specs.Value.{◌>>=◌}
use Rattle.fault_codes.specs.Codes.{IsAlarmCode}
use Rattle.nc_subprograms.specs.declared.Place.{Place}
use Rattle.sync_types.specs.declared.Action.{Action}
use Rattle.sync_types.specs.declared.Action.TheVariants.{End, Alarm}
use Rattle.sync_types.specs.declared.Grant.{Grant}
use Rattle.sync_types.specs.declared.Item.{Item}
use Rattle.sync_types.specs.declared.Part.TheVariants as part
use Rattle.coordination_words.specs.Settings.{SettingView}
use Rattle.coordination_words.specs.declared.asked.Request.{Request}
use Rattle.coordination_words.specs.declared.asked.Request.TheVariants.{Act, Switch}
use Rattle.sync_types.specs.declared.Step.{Step}
use Rattle.job_types.specs.Job.{JobView, ProgramView}
use Rattle.job_types.specs.declared.job.AxisLine.{AxisLine}
use Rattle.job_types.specs.declared.job.ChannelLine.{ChannelLine}
use Rattle.job_types.specs.declared.job.ZoneLine.{ZoneLine}
use Rattle.channel_machine.specs.declared.levels.Levels.{Levels}
use Rattle.channel_machine.specs.Coordination.{request_in, setting_with}
use Rattle.channel_machine.specs.Levels.{lines_of, program_blocks, first_place, levels_from, levels_after}
use Rattle.job_types.specs.Slots.{slot_axis, offset_of}
use Rattle.job_types.specs.Axes.{axis_named}
use Rattle.tool_offsets.specs.Choices.{Choice}
use Rattle.tool_offsets.specs.declared.tools.ToolEdge.{ToolEdge}
use Rattle.channel_machine.specs.Tools.{tools_of}
use Rattle.fault_codes.specs.declared.alarms.TheConstants.{TOO_MANY_BLOCKS, NO_PROGRAM_END}
use Rattle.axis_sets.specs.declared.limits.TheConstants.{AXIS_LIMIT}
use Rattle.channel_machine.specs.declared.limits.TheConstants.{BLOCK_LIMIT}

-- ---- what a channel runs by

-- the version of the job list; the channel; the CHANNEL lines, the programs, the AXIS lines and the ZONE lines of the job, the axes in the channel's slots X, Y and Z, the settable offset of each slot under each word of its group, the edges of the channel's tools, or none where it has no tools, whether blocks with '/' are passed over, and what the channel was granted at its start
pub record SurroundingsView : Type 0 where
  pub version : ℕ
  pub channel : ℕ
  pub channels : List ChannelLine
  pub programs : List (List ℕ × ProgramView)
  pub axes : List AxisLine
  pub zones : List ZoneLine
  pub slots : List (Option ℕ)
  pub offset : ℕ → ℕ → ℤ
  pub tools : Option (List ToolEdge)
  pub skip : Bool
  pub grant : Grant

-- what a channel of a job runs by
abbrev pub surroundings_of : JobView → ℕ → Grant → SurroundingsView
surroundings_of job channel grant = record {
  version = job.version;
  channel = channel;
  channels = job.channels;
  programs = job.programs;
  axes = job.axes;
  zones = job.zones;
  slots = slot_axis job channel 0 ∷ slot_axis job channel 1 ∷ slot_axis job channel 2 ∷ [];
  offset = offset_of job channel;
  tools = tools_of job channel;
  skip = job.skip;
  grant = grant;
}

-- the edges of the channel's tools; none where it has no tools
abbrev pub edges_in : SurroundingsView → List ToolEdge
edges_in setting = unwrap_or setting.tools []

-- the names of the programs, in the order of their numbers
abbrev pub names : SurroundingsView → List (List ℕ)
names setting = map (λ p. p.0) setting.programs

-- ---- what a channel has done

-- a block that was executed, with its line, what it asked for, if it is one of coordination, and what it left
pub record Executed : Type 0 where
  pub line : ℕ
  pub block : BlockView
  pub request : Option Request
  pub effect : Effect

-- a channel executed a block, or got a grant
pub data Deed : Type 0 where
  Did : Executed → Deed
  Got : Grant → Deed

-- a channel between two blocks: what it has done since its start, and where control is, or nowhere past the end of the main program
pub record Channel : Type 0 where
  pub past : List Deed
  pub levels : Option Levels

abbrev pub block_in : Deed → Option Executed
block_in (Did done) = Some done
block_in (Got grant) = None

-- the executed blocks
abbrev pub blocks_of : List Deed → List Executed
blocks_of past = filter_map block_in past

-- the parameters that the last block leaves, or the zeros of the start
abbrev pub parameters_after : List Deed → List ℤ
parameters_after past = fold (λ _ e. e.effect.parameters) zeros (blocks_of past)

-- the frame that the last leaves, or the empty chain of the start; and the words of groups of each
abbrev pub chain_after : List Deed → List Map
chain_after past = fold (λ _ e. e.effect.chain) [] (blocks_of past)

abbrev pub words_after : List Deed → List (List GWord)
words_after past = map (λ e. group_words e.block.statement) (blocks_of past)

-- the choices of tools and edges that the executed blocks have made, the last at the end
abbrev pub choices_after : List Deed → List Choice
choices_after past = fold (λ _ e. e.effect.choices) [] (blocks_of past)

-- a grant takes the place of the one before it
abbrev pub grant_by : Grant → Deed → Grant
grant_by before (Did done) = before
grant_by before (Got grant) = grant

-- the last grant, or that of the start
abbrev pub grant_after : SurroundingsView → List Deed → Grant
grant_after setting past = fold grant_by setting.grant past

-- where the axes stand at the start: one without a granted position at 0
abbrev pub stands_at_start : Grant → ℕ → ℤ
stands_at_start grant = stands grant.at

-- where a deed puts an axis: at the end of its motion, or where the grant has it; none where it has not this axis
abbrev pub position_by : ℕ → Deed → Option ℤ
position_by axis (Did done) = option_and_then (end_in axis) done.effect.item
position_by axis (Got grant) = position_of grant.at axis

-- where an axis stands: where the last deed puts it that has this axis, or where it stood at the start
abbrev pub stands_after : SurroundingsView → List Deed → ℕ → ℤ
stands_after setting past axis = fold (λ at deed. unwrap_or (position_by axis deed) at) (stands_at_start setting.grant axis) past

-- what a block on this line does that has this motion and asks for this: a request to switch a zone is done at once
abbrev pub item_by : ℕ → Option Request → Option Item → Option Item
item_by line None motion = motion
item_by line (Some (Act action)) motion = motion
item_by line (Some (Switch zone on)) motion = Some (record { line = line; part = part.Switch zone on })

abbrev pub item_of : Executed → Option Item
item_of done = item_by done.line done.request done.effect.item

-- an executed block moves axes
abbrev pub does_move : Executed → Bool
does_move done = list_any is_motion (option_to_list (item_of done))

-- the zones that are on after a block that asks for this
abbrev pub on_by_request : List Bool → Option Request → List Bool
on_by_request on None = on
on_by_request on (Some (Act action)) = on
on_by_request on (Some (Switch zone new)) = slice_set on zone new

-- a grant says which zones of the channel are on
abbrev pub on_by : List Bool → Deed → List Bool
on_by on (Did done) = on_by_request on done.request
on_by on (Got grant) = grant.on

-- the zones that the channel holds and that are on: those of the last grant, but for what its blocks have switched since
abbrev pub on_after : SurroundingsView → List Deed → List Bool
on_after setting past = fold on_by setting.grant.on past

-- the line of the main program's header; 0 where the grant names no program of the job
abbrev pub header_of : SurroundingsView → ℕ
header_of setting = option_map_or (λ p. p.1.line) (option_and_then (slice_get setting.programs) setting.grant.program) 0

-- the line of the last executed block, or of the header
abbrev pub line_after : SurroundingsView → List Deed → ℕ
line_after setting past = fold (λ _ e. e.line) (header_of setting) (blocks_of past)

-- ---- one block

-- the block that comes, with its line
abbrev pub block_at : SurroundingsView → Place → Option (ℕ × BlockView)
block_at setting place = slice_get (lines_of setting.programs place.program) place.pc

-- the beginning of the structure round a place
abbrev pub opener_at : SurroundingsView → Place → Statement
opener_at setting place = statement_at (opening place.pc (program_blocks setting.programs place.program)) (program_blocks setting.programs place.program)

-- what a block finds in the job, and in the channel after these deeds
abbrev pub setup_after : SurroundingsView → List Deed → SetupView
setup_after setting past = record {
  names = names setting;
  axis_named = axis_named setting.axes;
  offset = setting.offset;
  tools = setting.tools;
  slots = setting.slots;
  owned = (grant_after setting past).axes;
}

abbrev pub found_after : SurroundingsView → List Deed → SituationView
found_after setting past = record {
  parameters = parameters_after past;
  words = words_after past;
  chain = chain_after past;
  choices = choices_after past;
  at = stands_after setting past;
}

-- what a block of coordination finds
abbrev pub setting_after : SurroundingsView → List Deed → SettingView
setting_after setting past = setting_with setting.version setting.channels setting.programs setting.axes setting.zones setting.channel setting.slots (grant_after setting past).axes

-- a block with its line, executed after these deeds: its arguments are read first, where it is one of coordination
abbrev pub executed_block : SurroundingsView → List Deed → Place → ℕ × BlockView → Result Executed ℕ
executed_block setting past place (line, block) =
    request_in (setting_after setting past) (values_in (parameters_after past)) block.statement >>= λ request.
    effect_of (setup_after setting past) (found_after setting past) line (opener_at setting place) block.statement >>= λ effect.
    Ok (record { line = line; block = block; request = request; effect = effect })

-- ---- the segment

-- In one sentence: a channel executes one block after another, and its segment ends with the first of these: an alarm,
-- where no block comes, where one alarms, or where it would be one too many; a block that asks anything of the other
-- channels; the end of the main program. The definitions below say it a case at a time: `go` stands for what the segment
-- is from a channel on that goes on.

-- what a segment does, motions and zones that it switches, the step that ends it, and the channel after it
pub record SegmentView : Type 0 where
  pub items : List Item
  pub step : Step
  pub after : Channel

-- a channel that has done this and goes on no more: control is nowhere
abbrev pub channel_at_end : List Deed → Channel
channel_at_end past = record { past = past; levels = None }

-- where the axes of a set stand
abbrev pub owned_at : List Bool → (ℕ → ℤ) → List (Option ℤ)
owned_at axes at = map (λ axis. if has axes axis then Some (at axis) else None) (range_with_len 0 AXIS_LIMIT)

-- a step on this line, where the axes stand so
abbrev pub step_at : List Bool → List Bool → (ℕ → ℤ) → ℕ → Action → Step
step_at axes on at line action = record { line = line; action = action; at = owned_at axes at; on = on }

-- a step after these deeds
abbrev pub step_after : SurroundingsView → List Deed → ℕ → Action → Step
step_after setting past line action = step_at (grant_after setting past).axes (on_after setting past) (stands_after setting past) line action

-- the segment ends with an alarm, and with it the channel; nothing of the block on this line stands
abbrev pub alarm_segment : SurroundingsView → List Deed → ℕ → ℕ → SegmentView
alarm_segment setting past line code = record { items = []; step = step_after setting past line (Alarm code); after = channel_at_end past }

-- a segment with a block in front of it
abbrev pub with_items_before : List Item → SegmentView → SegmentView
with_items_before items segment = record segment { items = items ++ segment.items }

-- whether a block ends the main program
abbrev pub ends_main : Levels → Course → Bool
ends_main levels Ends = length levels.returns == 0
ends_main levels (Goes outcome) = false
ends_main levels (Calls number passes) = false

-- where no block comes: an alarm at the line of the last executed block, or of the header
abbrev pub with_block : SurroundingsView → List Deed → Option (ℕ × BlockView) → (ℕ × BlockView → SegmentView) → SegmentView
with_block setting past None go = alarm_segment setting past (line_after setting past) NO_PROGRAM_END
with_block setting past (Some block) go = go block

abbrev pub with_levels : SurroundingsView → List Deed → Option Levels → (Levels → ℕ × BlockView → SegmentView) → SegmentView
with_levels setting past None go = alarm_segment setting past (line_after setting past) NO_PROGRAM_END
with_levels setting past (Some levels) go = with_block setting past (block_at setting levels.here) (go levels)

-- the channel has executed a block more
abbrev pub channel_after_block : List Deed → Executed → Option Levels → Channel
channel_after_block past done levels = record { past = past ++ Did done ∷ []; levels = levels }

-- a block that asks anything of the other channels ends the segment, and any other leads on
abbrev pub segment_after_request : SurroundingsView → List Deed → Executed → Option Levels → Option Request → (Channel → SegmentView) → SegmentView
segment_after_request setting past done levels (Some (Act action)) go = record {
  items = option_to_list (item_of done);
  step = step_after setting (past ++ Did done ∷ []) done.line action;
  after = channel_after_block past done levels;
}
segment_after_request setting past done levels (Some (Switch zone on)) go = with_items_before (option_to_list (item_of done)) (go (channel_after_block past done levels))
segment_after_request setting past done levels None go = with_items_before (option_to_list (item_of done)) (go (channel_after_block past done levels))

-- after an executed block: where control goes on, or an alarm of that
abbrev pub segment_after_course : SurroundingsView → List Deed → Executed → Result (Option Levels) ℕ → (Channel → SegmentView) → SegmentView
segment_after_course setting past done (Err code) go = alarm_segment setting past done.line code
segment_after_course setting past done (Ok levels) go = segment_after_request setting past done levels done.request go

-- the end of the main program ends the segment, and the channel
abbrev pub end_segment : SurroundingsView → List Deed → Executed → SegmentView
end_segment setting past done = record {
  items = option_to_list (item_of done);
  step = step_after setting (past ++ Did done ∷ []) done.line End;
  after = channel_after_block past done None;
}

-- after a block: its alarm, the end of the main program, or where control goes on
abbrev pub segment_after_block : SurroundingsView → List Deed → Levels → ℕ → Result Executed ℕ → (Channel → SegmentView) → SegmentView
segment_after_block setting past levels line (Err code) go = alarm_segment setting past line code
segment_after_block setting past levels line (Ok done) go =
    if ends_main levels done.effect.course then end_segment setting past done
    else segment_after_course setting past done (levels_after setting.skip setting.programs levels done.effect.course) go

-- the segment of a channel that may still execute so many blocks; one more is an alarm
unfoldable pub run_after : SurroundingsView → ℕ → Channel → SegmentView
run_after setting zero channel = with_levels setting channel.past channel.levels (λ levels block. alarm_segment setting channel.past block.0 TOO_MANY_BLOCKS)
run_after setting (suc more) channel =
    with_levels setting channel.past channel.levels (λ levels block.
    segment_after_block setting channel.past levels block.0 (executed_block setting channel.past levels.here block) (λ after. run_after setting more after))

-- the segment of a channel; in all it executes no more blocks than it may
unfoldable pub segment_of : SurroundingsView → Channel → SegmentView
segment_of setting channel = run_after setting (BLOCK_LIMIT - length (blocks_of channel.past)) channel

-- a main program at its first block that counts
abbrev pub first_levels : Bool → List (List ℕ × ProgramView) → ℕ → Option Levels
first_levels skip programs number = levels_from skip programs (first_place skip programs number 0) []

-- a channel at its start
abbrev pub channel_at_start : SurroundingsView → Channel
channel_at_start setting = record { past = []; levels = option_and_then (first_levels setting.skip setting.programs) setting.grant.program }

-- a channel goes on with a grant
abbrev pub channel_after_grant : Channel → Grant → Channel
channel_after_grant channel grant = record channel { past = channel.past ++ Got grant ∷ [] }

-- the alarm of a step, where it is one, is in the table of alarms
abbrev pub IsListedAction : Action → Type 0
IsListedAction (Alarm code) = IsAlarmCode code
IsListedAction other = ⊤
