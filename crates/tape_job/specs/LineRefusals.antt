-- Meaning. The lines of an input that are refused by themselves.
use Rattle.std.specs.Prelude.{ℕ, ◌+◌, List, [], ◌∷◌, ◌++◌, Result, Ok, Err, Option, Some, None}
use Rattle.fault_codes.specs.declared.Refusal.{Refusal}
use Rattle.tape_job.specs.Lines.{Line, numbered_lines}
use Rattle.tape_job.specs.Reading.{ReadingView}
use Rattle.tape_job.specs.Told.{reading_after}

-- the code of a line that says this: that of its form, its words and its numbers
abbrev pub code_of : Result ReadingView ℕ → Option ℕ
code_of (Ok reading) = None
code_of (Err code) = Some code

-- the code of each line, which is read in the light of the lines before it, refused or not
abbrev pub codes_after : List Line → List Line → List (Option ℕ)
codes_after before [] = []
codes_after before (line ∷ lines) = code_of (reading_after before line.1) ∷ codes_after (before ++ line ∷ []) lines

-- for each line of an input the code by which it is refused by itself, or nothing
unfoldable pub line_codes_of : List ℕ → List (Option ℕ)
line_codes_of bytes = codes_after [] (numbered_lines bytes)

-- a refusal before others, where a line has a code
abbrev pub refusal_before : ℕ → Option ℕ → List Refusal → List Refusal
refusal_before line None refusals = refusals
refusal_before line (Some code) refusals = (record { code = code; line = line }) ∷ refusals

-- the refusals of lines with these codes, the first of which has this number
abbrev pub refusals_from : ℕ → List (Option ℕ) → List Refusal
refusals_from line [] = []
refusals_from line (code ∷ codes) = refusal_before line code (refusals_from (line + 1) codes)

-- the refusals of the lines of an input that are refused by themselves, in the order of the input
abbrev pub line_refusals_of : List ℕ → List Refusal
line_refusals_of bytes = refusals_from 1 (line_codes_of bytes)
