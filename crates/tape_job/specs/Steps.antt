-- Steps. The same, one line after the other.
use Rattle.std.specs.Prelude.{◌≡◌, ℕ, Bool, false, ◌||◌, ◌==◌, nat_le, nat_lt, if◌then◌else◌, List, [], ◌∷◌, ◌++◌, Result, Ok, Err, Option, Some, None, is_some, unwrap_or}
use Rattle.std.specs.Str.{bytes_eq}
use Rattle.nc_blocks.specs.Statement.{BlockView}
use Rattle.fault_codes.specs.declared.Refusal.{Refusal}
use Rattle.tape_job.specs.declared.fault.JobFault.{JobFault}
use Rattle.tape_job.specs.declared.fault.JobFault.TheVariants.{Refused, NoMemory}
use Rattle.tape_job.specs.declared.reading.LineFault.{LineFault}
use Rattle.tape_job.specs.declared.reading.LineFault.TheVariants as fault
use Rattle.tape_job.specs.declared.reading.Reading.{Reading}
use Rattle.tool_offsets.specs.declared.tools.ToolEdge.{ToolEdge}
use Rattle.tape_job.specs.Draft.{DraftView}
use Rattle.tape_job.specs.declared.draft.GivenOptions.{GivenOptions}
use Rattle.job_types.specs.Job.{JobView, ProgramView, program_of}
use Rattle.tape_job.specs.Lines.{Line, has_token, begins_with_percent}
use Rattle.tape_job.specs.Reading.{ReadingView, reading_view, reading_of}
use Rattle.tape_job.specs.Told.{Told, job_line_from, channel_from, axis_from, geo_from, offset_from, zone_from, tool_from, margin_from, depth_from, budget_from, says_compensation, says_skip, block_from, name_from}
use Rattle.tape_job.specs.Read.{line_trial, trial, end_trial, answer}
use Rattle.tape_job.specs.Rules.{rule_of, has_program, structure_fault}

-- a list with one more at its end, if there is one
abbrev pub with_entry : {A : Type 0} → List A → Option A → List A
with_entry xs None = xs
with_entry xs (Some x) = xs ++ x ∷ []

-- one more edge of a channel, among those of the channels in ascending order
unfoldable pub with_edge : List (ℕ × List ToolEdge) → ℕ → ToolEdge → List (ℕ × List ToolEdge)
with_edge [] channel edge = (channel, edge ∷ []) ∷ []
with_edge (one ∷ tools) channel edge =
    if nat_lt one.0 channel then one ∷ with_edge tools channel edge
    else if one.0 == channel then (one.0, one.1 ++ edge ∷ []) ∷ tools
    else (channel, edge ∷ []) ∷ one ∷ tools

-- the number of the channel is not below another's
abbrev pub is_due : ℕ → ℕ × List ToolEdge → Bool
is_due channel one = nat_le channel one.0

abbrev pub with_tool : List (ℕ × List ToolEdge) → Option (ℕ × ToolEdge) → List (ℕ × List ToolEdge)
with_tool tools None = tools
with_tool tools (Some line) = with_edge tools line.0 line.1

-- the last program with one more block
abbrev pub with_block : List (List ℕ × ProgramView) → ℕ × BlockView → List (List ℕ × ProgramView)
with_block [] block = []
with_block (program ∷ []) block = (program.0, program_of program.1.line (program.1.blocks ++ block ∷ [])) ∷ []
with_block (program ∷ next ∷ programs) block = program ∷ with_block (next ∷ programs) block

abbrev pub with_block_of : List (List ℕ × ProgramView) → Option (ℕ × BlockView) → List (List ℕ × ProgramView)
with_block_of programs None = programs
with_block_of programs (Some block) = with_block programs block

abbrev pub with_header : List (List ℕ × ProgramView) → ℕ → Option (List ℕ) → List (List ℕ × ProgramView)
with_header programs number None = programs
with_header programs number (Some name) = programs ++ (name, program_of number []) ∷ []

-- the job with what one more line says
unfoldable pub with_line : JobView → ℕ → Result ReadingView ℕ → JobView
with_line job number reading = record job {
  line = unwrap_or (job_line_from number reading) job.line;
  channels = with_entry job.channels (channel_from number reading);
  axes = with_entry job.axes (axis_from number reading);
  geo = with_entry job.geo (geo_from job.axes number reading);
  offsets = with_entry job.offsets (offset_from number reading);
  zones = with_entry job.zones (zone_from job.axes number reading);
  margin = unwrap_or (margin_from reading) job.margin;
  depth = unwrap_or (depth_from reading) job.depth;
  budget = unwrap_or (budget_from reading) job.budget;
  compensation = says_compensation reading || job.compensation;
  tools = with_tool job.tools (tool_from reading);
  skip = says_skip reading || job.skip;
  programs = with_header (with_block_of job.programs (block_from number reading)) number (name_from reading);
}

-- the options that lines gave, and those that one more line gives
abbrev pub options_with : GivenOptions → Result ReadingView ℕ → GivenOptions
options_with options reading = record {
  margin = is_some (margin_from reading) || options.margin;
  depth = is_some (depth_from reading) || options.depth;
  budget = is_some (budget_from reading) || options.budget;
}

-- both
abbrev pub draft_with : DraftView → ℕ → Result ReadingView ℕ → DraftView
draft_with draft number reading = record { options = options_with draft.options reading; job = with_line draft.job number reading }

unfoldable pub tell : Told → Line → Told
tell told line = record {
  seen = told.seen || has_token line.1;
  in_programs = told.in_programs || begins_with_percent line.1;
  options = options_with told.options (reading_of told.seen told.in_programs told.job.compensation line.1);
  job = with_line told.job line.0 (reading_of told.seen told.in_programs told.job.compensation line.1);
}

abbrev pub unless_refused : Option Refusal → Result Told Refusal → Result Told Refusal
unless_refused None next = next
unless_refused (Some refused) next = Err refused

abbrev pub run : Told → List Line → Result Told Refusal
run told [] = Ok told
run told (line ∷ lines) = unless_refused (trial told line) (run (tell told line) lines)

unfoldable pub finish : Result Told Refusal → Result JobView Refusal
finish (Ok told) = answer (end_trial told) told.job
finish (Err refused) = Err refused

-- the call adds what the code does not refuse, or gives the code; it may want memory at any time
abbrev pub Adds : {A : Type 0} → Option ℕ → A → Result (Unit {0}) LineFault → A → Type 0
Adds code next (Ok done) new = (code ≡ None) × (new ≡ next)
Adds code next (Err (fault.Broken shown)) new = code ≡ Some shown
Adds code next (Err fault.NoMemory) new = Unit {0}

-- the call gives what a line says that breaks no rule, or its refusal; it may want memory at any time
abbrev pub Admits : Told → Line → Result Reading JobFault → Type 0
Admits told line (Ok reading) =
    (reading_of told.seen told.in_programs told.job.compensation line.1 ≡ Ok (reading_view reading)) × (rule_of told.options told.job (reading_view reading) ≡ None)
Admits told line (Err (Refused refused)) = line_trial told line ≡ Some refused
Admits told line (Err NoMemory) = Unit {0}

-- the line is told, or is refused
abbrev pub Tells : Told → Line → Result (Unit {0}) JobFault → Told → Type 0
Tells told line (Ok done) new = (trial told line ≡ None) × (new ≡ tell told line)
Tells told line (Err (Refused refused)) new = trial told line ≡ Some refused
Tells told line (Err NoMemory) new = Unit {0}

-- programs that are resolved, each under a name of its own, and the one that is being read: the first of all, or with a new name
abbrev pub IsLibrary : List (List ℕ × ProgramView) → Option (List ℕ × ProgramView) → Type 0
IsLibrary resolved None = resolved ≡ []
IsLibrary resolved (Some last) = has_program resolved last.0 ≡ false

-- the program that is being read: whether it has this name, what one more block breaks in it, and it with that block
abbrev pub is_last : Option (List ℕ × ProgramView) → List ℕ → Bool
is_last None name = false
is_last (Some last) name = bytes_eq name last.0

abbrev pub last_fault : Option (List ℕ × ProgramView) → ℕ × BlockView → Option ℕ
last_fault None block = None
last_fault (Some last) block = structure_fault last.1.blocks block

abbrev pub last_with : Option (List ℕ × ProgramView) → ℕ × BlockView → Option (List ℕ × ProgramView)
last_with None block = None
last_with (Some last) block = Some (last.0, program_of last.1.line (last.1.blocks ++ block ∷ []))
