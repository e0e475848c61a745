-- Meaning. The job that an input is, or its first refusal: lines are tried one after the other, and each rule as soon as what was read shows that it is broken.
use Rattle.std.specs.Prelude.{◌≡◌, if◌then◌else◌, ℕ, List, [], ◌∷◌, ◌++◌, Result, Ok, Err, Option, Some, None}
use Rattle.std.specs.Option.{option_map, option_or}
use Rattle.job_lines.specs.Code.{refusal_code}
use Rattle.job_lines.specs.declared.code.Code.TheVariants.{NoJobLine}
use Rattle.fault_codes.specs.Codes.{IsRefusalCode}
use Rattle.fault_codes.specs.declared.Refusal.{Refusal}
use Rattle.tape_job.specs.declared.fault.JobFault.{JobFault}
use Rattle.tape_job.specs.declared.fault.JobFault.TheVariants.{Refused, NoMemory}
use Rattle.job_types.specs.declared.job.Job.{Job}
use Rattle.tape_job.specs.declared.draft.GivenOptions.{GivenOptions}
use Rattle.job_types.specs.Job.{JobView}
use Rattle.tape_job.specs.Lines.{Line, numbered_lines, begins_with_percent}
use Rattle.tape_job.specs.Reading.{ReadingView, BlockLine, reading_of}
use Rattle.tape_job.specs.Rules.{refusal, rule_of, structure_rule, open_structure_refusal, missing_program_refusal}
use Rattle.tape_job.specs.Told.{Told, facts_of}

-- the code that a line shows by itself, or else against what the lines before it told
abbrev pub code_by : GivenOptions → JobView → ℕ → Result ReadingView ℕ → Option ℕ
code_by options job number (Ok (BlockLine block)) = structure_rule job.programs (number, block)
code_by options job number (Ok reading) = option_map refusal_code (rule_of options job reading)
code_by options job number (Err code) = Some code

unfoldable pub line_trial : Told → Line → Option Refusal
line_trial facts_of line =
    option_map (λ code. record { code = code; line = line.0 }) (code_by facts_of.options facts_of.job line.0 (reading_of facts_of.seen facts_of.in_programs facts_of.job.compensation line.1))

-- a line that begins with '%' ends the program before it, ahead of all else
unfoldable pub end_of_program : JobView → List ℕ → Option Refusal
end_of_program job raw = if begins_with_percent raw then open_structure_refusal job else None

-- the refusal that a line gives after what the lines before it told
unfoldable pub trial : Told → Line → Option Refusal
trial facts_of line = option_or (end_of_program facts_of.job line.1) (line_trial facts_of line)

-- the refusal of the first line that gives one
abbrev pub first_trial : List Line → List Line → Option Refusal
first_trial before [] = None
first_trial before (line ∷ lines) = option_or (trial (facts_of before) line) (first_trial (before ++ line ∷ []) lines)

-- what is tried after the last line
unfoldable pub end_trial : Told → Option Refusal
end_trial facts_of = option_or (open_structure_refusal facts_of.job) (option_or (missing_program_refusal facts_of.job) (if facts_of.seen then None else Some (refusal NoJobLine 1)))

abbrev pub answer : Option Refusal → JobView → Result JobView Refusal
answer None job = Ok job
answer (Some refused) job = Err refused

abbrev pub read_lines : List Line → Result JobView Refusal
read_lines lines = answer (option_or (first_trial [] lines) (end_trial (facts_of lines))) (facts_of lines).job

-- what an input is: a job, or the first refusal
unfoldable pub read_of : List ℕ → Result JobView Refusal
read_of bytes = read_lines (numbered_lines bytes)

-- the call gives what is read, or its refusal; it may want memory at any time
abbrev pub GivesRead : Result Job JobFault → Result JobView Refusal → Type 0
GivesRead (Ok job) read = read ≡ Ok job
GivesRead (Err (Refused refused)) read = read ≡ Err refused
GivesRead (Err NoMemory) read = Unit {0}

-- the refusal that the call gives has a text
abbrev pub IsListed : JobFault → Type 0
IsListed (Refused refused) = IsRefusalCode refused.code
IsListed NoMemory = Unit {0}
