-- Meaning. How a refused input is told.
use Rattle.std.specs.Prelude.{ℕ, List, [], ◌++◌, Option, None, Some, replicate, codes}
use Rattle.std.specs.Fmt.{decimal}
use Rattle.explain_advice.specs.Advice.{refusals, name_of, cause_of, advice_of}
use Rattle.explain_lines.specs.Lines.{line_text}
use Rattle.explain_lines.specs.Origins.{origin_text}
use Rattle.fault_codes.specs.declared.Refusal.{Refusal}
use Rattle.explain_refused.specs.Rows.{refused_line}
use Rattle.explain_refused.specs.SlipWords.{slip_advice}
use Rattle.explain_refused.specs.declared.rows.RefusedLine.{RefusedLine}
use Rattle.explain_refused.specs.declared.slips.Slip.{Slip}

-- the sign under the line
abbrev pub caret : Option ℕ → List ℕ
caret None = []
caret (Some place) = codes "    " ++ (replicate place 32 ++ codes "^\n")

-- which slip the line has
abbrev pub slip_text : Option Slip → List ℕ
slip_text None = []
slip_text (Some slip) = codes "    The slip: " ++ (slip_advice slip ++ codes "\n")

-- which line is refused
unfoldable pub place_text : List ℕ → ℕ → List ℕ
place_text input line = codes "REFUSED: line " ++ (decimal line ++ (origin_text input line ++ codes " is refused with "))

-- with which code, and what the refusal is called
unfoldable pub name_text : ℕ → List ℕ → List ℕ
name_text code name = decimal code ++ (codes ", " ++ (name ++ codes ".\n    "))

-- and how the line reads
unfoldable pub shown_line : List ℕ → RefusedLine → List ℕ
shown_line input row = name_text row.code (name_of refusals row.code) ++ (line_text input row.line ++ codes "\n")

-- with which code, how the line reads, at which place and by which slip
unfoldable pub line_body : List ℕ → RefusedLine → List ℕ
line_body input row = shown_line input row ++ (caret row.place ++ slip_text row.slip)

-- when a refusal comes, and what to do
unfoldable pub advice_text : List ℕ → List ℕ → List ℕ
advice_text cause advice = cause ++ (codes "\nWhat to do: " ++ (advice ++ codes "\n"))

-- the refusal of a line of which this is told, with when it comes and what to do
unfoldable pub row_text : List ℕ → RefusedLine → List ℕ
row_text input row = place_text input row.line ++ (line_body input row ++ advice_text (cause_of refusals row.code) (advice_of refusals row.code))

-- a refused input, told by its refusal
unfoldable pub refusal_text : List ℕ → Refusal → List ℕ
refusal_text input refusal = row_text input (refused_line input refusal)
