-- Meaning. What a run takes for granted, by the remarks on its channels.
use Rattle.std.specs.Prelude.{ℕ, ◌==◌, Bool, if◌then◌else◌, List, [], ◌∷◌, ◌++◌, find, is_some, length, map, slice_get, slice_index_or, Option, Some, None}
use Rattle.std.specs.List.{count_by, flat_map, list_any, range_with_len}
use Rattle.std.specs.Option.{option_and_then, option_map, option_or}
use Rattle.axis_sets.specs.declared.limits.TheConstants.{AXIS_LIMIT}
use Rattle.job_types.specs.Job.{JobView}
use Rattle.job_types.specs.Slots.{slot_axis}
use Rattle.job_types.specs.declared.job.OffsetLine.{OffsetLine}
use Rattle.nc_expressions.specs.declared.limits.TheConstants.{PARAMETER_LIMIT}
use Rattle.sync_types.specs.Items.{end_in}
use Rattle.sync_types.specs.Views.{EntryView, RunView}
use Rattle.sync_types.specs.declared.Item.{Item}
use Rattle.explain_assumptions.specs.Firsts.{first_with, is_of_tool, is_of_tool_offset, is_of_x, parameter_of, word_of}
use Rattle.explain_assumptions.specs.declared.remarks.Remark.{Remark}
use Rattle.explain_assumptions.specs.declared.remarks.RemarkKind.{RemarkKind}
use Rattle.explain_assumptions.specs.declared.remarks.RemarkKind.TheVariants.{ProgramsX, Reads}
use Rattle.explain_assumptions.specs.declared.rows.Assumed.{Assumed}
use Rattle.explain_assumptions.specs.declared.rows.Assumption.{Assumption}
use Rattle.explain_assumptions.specs.declared.rows.Assumption.TheVariants.{Radius, NoOffset, UnusedOffset, Zero, Standing, Tools, ToolOffsets}
use Rattle.explain_assumptions.specs.declared.movers.Mover.{Mover}
use Rattle.explain_assumptions.specs.declared.rows.TheConstants.{NO_OFFSET}

abbrev pub assumed : ℕ → Assumption → List Assumed
assumed c what = record { channel = c; what = what } ∷ []

-- ---- values of X

-- X is programmed before a block says what its values are
abbrev pub radius_kind : ℕ → ℕ → RemarkKind → List Assumed
radius_kind c line ProgramsX = assumed c (Radius line)
radius_kind c line other = []

abbrev pub radius_by : ℕ → Option Remark → List Assumed
radius_by c (Some remark) = radius_kind c remark.line remark.kind
radius_by c None = []

-- where the channel has an axis in slot X
abbrev pub radius_rows : JobView → ℕ → List Remark → List Assumed
radius_rows job c remarks = if is_some (slot_axis job c 0) then radius_by c (find is_of_x remarks) else []

-- ---- settable offsets

-- the job has an OFFSET line for a channel
unfoldable pub has_offsets : JobView → ℕ → Bool
has_offsets job c = list_any (λ line. line.channel == c) job.offsets

abbrev pub no_offset_by : ℕ → Option Remark → List Assumed
no_offset_by c (Some remark) = assumed c (NoOffset remark.line)
no_offset_by c None = []

-- the channel moves where no settable offset is chosen
abbrev pub no_offset_rows : JobView → ℕ → Option Remark → List Assumed
no_offset_rows job c first = if has_offsets job c then no_offset_by c first else []

abbrev pub unused_by : ℕ → ℕ → Option Remark → List Assumed
unused_by c line (Some remark) = []
unused_by c line None = assumed c (UnusedOffset line)

-- an OFFSET line of the channel under whose word it never moves
abbrev pub unused_rows : ℕ → OffsetLine → Option Remark → List Assumed
unused_rows c line first = if line.channel == c then unused_by c line.line first else []

-- ---- parameters

abbrev pub zero_kind : ℕ → ℕ → ℕ → RemarkKind → List Assumed
zero_kind c number line (Reads read) = assumed c (Zero number line)
zero_kind c number line other = []

-- a parameter is read before it gets a value
abbrev pub zero_rows : ℕ → ℕ → Option Remark → List Assumed
zero_rows c number (Some remark) = zero_kind c number remark.line remark.kind
zero_rows c number None = []

-- ---- positions

-- an item moves an axis
abbrev pub moves_axis : ℕ → Item → Bool
moves_axis axis item = is_some (end_in axis item)

-- the line of the first item that moves an axis
unfoldable pub line_moving : ℕ → List Item → Option ℕ
line_moving axis items = option_map (λ item. item.line) (find (moves_axis axis) items)

abbrev pub mover_in : EntryView → Option ℕ → Option Mover
mover_in entry (Some line) = Some (record { channel = entry.channel; line = line })
mover_in entry None = None

-- the channel of an entry, and the first line in which it moves an axis before it
abbrev pub mover_at : ℕ → RunView → ℕ → Option Mover
mover_at axis run place = option_and_then (λ entry. mover_in entry (line_moving axis (slice_index_or run.items place []))) (slice_get run.entries place)

-- the first of some numbers for which there is something, and what there is
abbrev pub first_in : {A : Type 0} → (ℕ → Option A) → List ℕ → Option A
first_in at [] = None
first_in at (number ∷ numbers) = option_or (at number) (first_in at numbers)

-- the channel that moves an axis first, and the line of the block
unfoldable pub first_mover : ℕ → RunView → Option Mover
first_mover axis run = first_in (mover_at axis run) (range_with_len 0 (length run.entries))

-- who moves each axis first
unfoldable pub movers_of : RunView → List (Option Mover)
movers_of run = map (λ axis. first_mover axis run) (range_with_len 0 AXIS_LIMIT)

-- the channel moves the axis first
abbrev pub standing_rows : ℕ → ℕ → Option Mover → List Assumed
standing_rows c axis (Some mover) = if mover.channel == c then assumed c (Standing axis mover.line) else []
standing_rows c axis None = []

-- ---- tools

-- the job has a TOOL line for a channel
unfoldable pub has_tools : JobView → ℕ → Bool
has_tools job c = list_any (λ tools. tools.0 == c) job.tools

-- so many blocks have a T word, and so many a D word
abbrev pub tool_rows : ℕ → ℕ → List Assumed
tool_rows c count = if count == 0 then [] else assumed c (Tools count)

abbrev pub tool_offset_rows : ℕ → ℕ → List Assumed
tool_offset_rows c count = if count == 0 then [] else assumed c (ToolOffsets count)

-- ---- a channel

abbrev pub offset_rows : JobView → ℕ → List Remark → List Assumed
offset_rows job c remarks =
    no_offset_rows job c (first_with word_of NO_OFFSET remarks) ++ flat_map (λ line. unused_rows c line (first_with word_of line.g remarks)) job.offsets

unfoldable pub parameter_rows : ℕ → List Remark → List Assumed
parameter_rows c remarks = flat_map (λ number. zero_rows c number (first_with parameter_of number remarks)) (range_with_len 0 PARAMETER_LIMIT)

unfoldable pub position_rows : List (Option Mover) → ℕ → List Assumed
position_rows firsts c = flat_map (λ axis. standing_rows c axis (slice_index_or firsts axis None)) (range_with_len 0 AXIS_LIMIT)

-- both move nothing where the channel has no TOOL line
abbrev pub count_rows : JobView → ℕ → List Remark → List Assumed
count_rows job c remarks =
    if has_tools job c then [] else tool_rows c (count_by is_of_tool remarks) ++ tool_offset_rows c (count_by is_of_tool_offset remarks)

-- what is taken for granted by what the blocks of a channel say, and by what moves
unfoldable pub said_rows : JobView → ℕ → List Remark → List Assumed
said_rows job c remarks = radius_rows job c remarks ++ (offset_rows job c remarks ++ parameter_rows c remarks)

unfoldable pub done_rows : JobView → List (Option Mover) → ℕ → List Remark → List Assumed
done_rows job firsts c remarks = position_rows firsts c ++ count_rows job c remarks

-- what is taken for granted of a channel on which these are the remarks
abbrev pub rows_of : JobView → RunView → ℕ → List Remark → List Assumed
rows_of job run c remarks = said_rows job c remarks ++ done_rows job (movers_of run) c remarks
