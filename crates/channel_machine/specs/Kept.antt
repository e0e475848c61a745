-- Steps. What is kept of a channel between two blocks.
use Rattle.std.specs.Prelude.{◌≡◌, ℕ, ◌+◌, ℤ, Bool, true, false, List, [], ◌∷◌, ◌++◌, length, slice_get, Option, Some, None, IfSome, option_and_then, unwrap_or, Result, Ok, Err}
use Rattle.std.specs.Option.{option_to_list}
use Rattle.axis_sets.specs.Positions.{position_of, stands}
use Rattle.coordination_words.specs.declared.asked.Request.{Request}
use Rattle.coordination_words.specs.declared.asked.Request.TheVariants.{Act, Switch}
use Rattle.block_effects.specs.Words.{values_in}
use Rattle.channel_machine.specs.CallLevels.{IsPlaced}
use Rattle.channel_machine.specs.Coordination.{request_in, setting_in}
use Rattle.frames.specs.Composition.{IsComposed}
use Rattle.frames.specs.declared.Frame.{Frame}
use Rattle.g_groups.specs.Modal.{IsAfter}
use Rattle.nc_blocks.specs.Indices.{StatementFits}
use Rattle.nc_blocks.specs.Statement.{BlockView, Statement}
use Rattle.nc_control_flow.specs.Parts.{statement_at}
use Rattle.nc_control_flow.specs.Structures.{opening}
use Rattle.nc_subprograms.specs.declared.Place.{Place}
use Rattle.sync_types.specs.declared.Action.{Action}
use Rattle.sync_types.specs.declared.Action.TheVariants.{End, Alarm}
use Rattle.sync_types.specs.declared.Grant.{Grant}
use Rattle.sync_types.specs.declared.Item.{Item}
use Rattle.sync_types.specs.declared.Step.{Step}
use Rattle.channel_machine.specs.declared.levels.Levels.{Levels}
use Rattle.channel_machine.specs.declared.local.State.{State}
use Rattle.job_types.specs.Job.{JobView, ProgramView, names_of}
use Rattle.channel_machine.specs.Levels.{lines_of, program_blocks}
use Rattle.channel_machine.specs.Run.{SurroundingsView, Executed, Deed, Did, Channel, SegmentView, block_at, item_of, parameters_after, chain_after, choices_after, edges_in, words_after, stands_after, line_after, blocks_of, grant_after, on_after, on_by_request, item_by, with_items_before, segment_of, step_at}
use Rattle.job_types.specs.Slots.{offset_of}
use Rattle.channel_machine.specs.Tools.{tools_of}
use Rattle.tool_offsets.specs.Choices.{in_use_after}
use Rattle.tool_offsets.specs.declared.in_use.ToolInUse.{ToolInUse}

-- where control is; how many blocks were executed, and the line of the last, or of the header; the parameters, the words of groups and the frame that hold, and the tool in use; where the axes stand; the channel and the axes in its slots, which do not change; and the axes that it owns, and the zones that are on
pub record StateView : Type 0 where
  pub levels : Option Levels
  pub count : ℕ
  pub last : ℕ
  pub parameters : List ℤ
  pub modal : List ℕ
  pub frame : Frame
  pub tool : ToolInUse
  pub at : List (Option ℤ)
  pub channel : ℕ
  pub slots : List (Option ℕ)
  pub axes : List Bool
  pub on : List Bool

-- the setting is one of this job, for the channel of which this is kept
pub record IsSettingIn (job : JobView) (setting : SurroundingsView) (kept : StateView) : Type 0 where
  pub version : setting.version ≡ job.version
  pub channel : setting.channel ≡ kept.channel
  pub channels : setting.channels ≡ job.channels
  pub programs : setting.programs ≡ job.programs
  pub axes : setting.axes ≡ job.axes
  pub zones : setting.zones ≡ job.zones
  pub offset : setting.offset ≡ offset_of job kept.channel
  pub tools : setting.tools ≡ tools_of job kept.channel
  pub skip : setting.skip ≡ job.skip

-- this is kept of a channel
pub record Keeps (setting : SurroundingsView) (channel : Channel) (kept : StateView) : Type 0 where
  pub levels : kept.levels ≡ channel.levels
  pub count : kept.count ≡ length (blocks_of channel.past)
  pub last : kept.last ≡ line_after setting channel.past
  pub parameters : kept.parameters ≡ parameters_after channel.past
  pub modal : IsAfter (words_after channel.past) kept.modal
  pub frame : IsComposed (chain_after channel.past) kept.frame
  pub tool : kept.tool ≡ in_use_after (edges_in setting) (choices_after channel.past)
  pub at : (axis : ℕ) → stands kept.at axis ≡ stands_after setting channel.past axis
  pub slots : kept.slots ≡ setting.slots
  pub axes : kept.axes ≡ (grant_after setting channel.past).axes
  pub on : kept.on ≡ on_after setting channel.past

-- the deed of a block, where it was executed
abbrev pub deeds_of : Option Executed → List Deed
deeds_of None = []
deeds_of (Some done) = Did done ∷ []

-- an executed block is the one that stood where control was
pub record StoodAtControl (setting : SurroundingsView) (channel : Channel) (done : Executed) : Type 0 where
  pub levels : Levels
  pub control : channel.levels ≡ Some levels
  pub found : block_at setting levels.here ≡ Some (done.line, done.block)

-- after these deeds and with these items the channel has executed the block at which control stood, or none where that alarms or there is none
pub record IsBlockMore (setting : SurroundingsView) (channel : Channel) (before after : List Item) (deeds : List Deed) : Type 0 where
  pub done : Option Executed
  pub past : deeds ≡ channel.past ++ deeds_of done
  pub items : after ≡ before ++ option_to_list (option_and_then item_of done)
  pub there : IfSome done (StoodAtControl setting channel)

-- a block on, with these items more, the channel goes on as this is kept of it
pub record GoesOn (setting : SurroundingsView) (channel : Channel) (before after : List Item) (kept : StateView) : Type 0 where
  pub next : Channel
  pub keeps : Keeps setting next kept
  pub placed : IsPlaced setting channel → IsPlaced setting next
  pub rest : with_items_before before (segment_of setting channel) ≡ with_items_before after (segment_of setting next)

-- a segment with what is kept of the channel after it
pub record KeptSegment : Type 0 where
  pub items : List Item
  pub step : Step
  pub after : StateView

-- a segment has these items and this step, and this is kept of the very channel after it
pub record IsSegment (setting : SurroundingsView) (segment : SegmentView) (kept : KeptSegment) : Type 0 where
  pub items : segment.items ≡ kept.items
  pub step : segment.step ≡ kept.step
  pub after : Keeps setting segment.after kept.after

-- a block on, with these items more, the segment ends with this step, and this is kept; before the block, where that alarms
pub record Halts (setting : SurroundingsView) (channel : Channel) (before : List Item) (step : Step) (after : List Item) (kept : StateView) : Type 0 where
  pub segment : IsSegment setting (with_items_before before (segment_of setting channel)) (record { items = after; step = step; after = kept })
  pub stays : (code : ℕ) → step.action ≡ Alarm code → (segment_of setting channel).after.past ≡ channel.past
  pub more : IsBlockMore setting channel before after (segment_of setting channel).after.past

-- a block on, which was executed, the channel goes on
pub record GoesOnBy (setting : SurroundingsView) (channel : Channel) (before after : List Item) (kept : StateView) : Type 0 where
  pub goes : GoesOn setting channel before after kept
  pub more : IsBlockMore setting channel before after goes.next.past

-- a block on, the segment ends with this step, or the channel goes on
abbrev pub Advances : SurroundingsView → Channel → List Item → Option Step → List Item → StateView → Type 0
Advances setting channel before (Some step) after kept = Halts setting channel before step after kept
Advances setting channel before None after kept = GoesOnBy setting channel before after kept

-- what a state keeps
abbrev pub state_view : State → StateView
state_view state = record {
  levels = state.levels;
  count = state.count;
  last = state.last;
  parameters = state.situation.parameters;
  modal = state.situation.modal;
  frame = state.situation.frame;
  tool = state.situation.tool;
  at = state.situation.at;
  channel = state.channel;
  slots = state.own.slots;
  axes = state.own.owned;
  on = state.on;
}

-- ---- answers

-- at a place stands this block on this line, with this beginning of the structure round it; both fit the names of the variables of the program
pub record IsThere (programs : List (List ℕ × ProgramView)) (here : Place) (line : ℕ) (block : BlockView) (opener : Statement) : Type 0 where
  pub found : slice_get (lines_of programs here.program) here.pc ≡ Some (line, block)
  pub opens : opener ≡ statement_at (opening here.pc (program_blocks programs here.program)) (program_blocks programs here.program)
  pub fits : StatementFits (names_of (lines_of programs here.program)) block.statement
  pub opener_fits : StatementFits (names_of (lines_of programs here.program)) opener

-- a block on, which stands where control is and asks for this, the segment ends with this step, or the channel goes on
abbrev pub AdvancesBy : JobView → StateView → ℕ → BlockView → Statement → Option Request → List Item → Option Step → List Item → StateView → Type 0
AdvancesBy job old line block opener request before halt after new =
    (s : SurroundingsView) (c : Channel) (levels : Levels) → IsSettingIn job s old → Keeps s c old → old.levels ≡ Some levels → IsThere job.programs levels.here line block opener
    → request_in (setting_in job old.channel old.slots old.axes) (values_in old.parameters) block.statement ≡ Ok request
    → Advances s c before halt after new

-- the segment ends on this line, where the axes stand
abbrev pub Stops : StateView → ℕ → Action → Option Step → Type 0
Stops kept line action halt = halt ≡ Some (step_at kept.axes kept.on (stands kept.at) line action)

-- what is kept after a block on this line that asks for this, with control there
abbrev pub after_block : StateView → ℕ → Option Request → Option Levels → StateView
after_block old line request levels = record old { levels = levels; count = old.count + 1; last = line; on = on_by_request old.on request }

-- what a block on this line asks of the other channels ends the segment
abbrev pub IsHeld : StateView → ℕ → Option Request → Option Step → Type 0
IsHeld new line (Some (Act action)) halt = Stops new line action halt
IsHeld new line (Some (Switch zone on)) halt = halt ≡ None
IsHeld new line None halt = halt ≡ None

-- where a block on this line with this motion leads that asks for this: after an alarm of that the words of groups are those before the block
abbrev pub IsLed : StateView → List ℕ → List Item → Option Item → ℕ → Option Request → Result (Option Levels) ℕ → Option Step → List Item → StateView → Type 0
IsLed old modal items item line request (Err code) halt after new = Stops old line (Alarm code) halt × (after ≡ items) × (new ≡ record old { modal = modal })
IsLed old modal items item line request (Ok levels) halt after new =
    IsHeld (after_block old line request levels) line request halt × (after ≡ items ++ option_to_list (item_by line request item)) × (new ≡ after_block old line request levels)

-- after a block: it ends the main program, or leads on
abbrev pub IsFollowing : StateView → List ℕ → List Item → Option Item → ℕ → Option Request → Bool → Result (Option Levels) ℕ → Option Step → List Item → StateView → Type 0
IsFollowing old modal items item line request true led halt after new =
    Stops (after_block old line request None) line End halt × (after ≡ items ++ option_to_list (item_by line request item)) × (new ≡ after_block old line request None)
IsFollowing old modal items item line request false led halt after new = IsLed old modal items item line request led halt after new

-- what is kept after a grant: the channel owns those axes and has those zones on, and an axis of its positions stands there
pub record IsAfterGrant (old : StateView) (grant : Grant) (new : StateView) : Type 0 where
  pub same : new ≡ record old { axes = grant.axes; on = grant.on; at = new.at }
  pub at : (axis : ℕ) → stands new.at axis ≡ unwrap_or (position_of grant.at axis) (stands old.at axis)
