-- Meaning. Which line of which program is meant, and how it reads.
use Rattle.std.specs.Prelude.{ℕ, nat_le, List, [], ◌∷◌, ◌++◌, if◌then◌else◌, Option, None, Some, unwrap_or, codes}
use Rattle.std.specs.Fmt.{decimal}
use Rattle.std.specs.List.{filter_map, last_or}
use Rattle.explain_lines.specs.Lines.{line_text}
use Rattle.explain_lines.specs.Numbers.{block_number_of}
use Rattle.explain_lines.specs.Origins.{origin_text}
use Rattle.job_types.specs.Job.{JobView, ProgramView}

-- the name of a program whose header is not after a line
abbrev pub name_before : ℕ → List ℕ × ProgramView → Option (List ℕ)
name_before line program = if nat_le program.1.line line then Some program.0 else None

-- the name of the last program whose header is not after a line; nothing where there is none
unfoldable pub program_name : JobView → ℕ → List ℕ
program_name job line = unwrap_or (last_or None (filter_map (name_before line) job.programs)) []

-- the number of a block, if it has one
unfoldable pub number_text : List ℕ → List ℕ
number_text [] = []
number_text (letter ∷ digits) = codes " (" ++ ((letter ∷ digits) ++ codes ")")

-- the name of a program, if there is one
unfoldable pub of_text : List ℕ → List ℕ
of_text [] = []
of_text (first ∷ rest) = codes " of " ++ (first ∷ rest)

-- a line of an input: its number, the number of its block, its program, and the line of the file that it was
unfoldable pub line_place_text : List ℕ → JobView → ℕ → List ℕ
line_place_text input job line =
    codes "line " ++ (decimal line ++ (number_text (block_number_of (line_text input line)) ++ (of_text (program_name job line) ++ origin_text input line)))

-- and how it reads
unfoldable pub block_text : List ℕ → JobView → ℕ → List ℕ
block_text input job line = line_place_text input job line ++ (codes ": " ++ line_text input line)

-- a channel, and the same at the beginning of a sentence
unfoldable pub channel_text : ℕ → List ℕ
channel_text channel = codes "channel " ++ decimal channel

unfoldable pub channel_first_text : ℕ → List ℕ
channel_first_text channel = codes "Channel " ++ decimal channel
