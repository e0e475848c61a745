-- Meaning. An input whose lines are left out that are refused and move nothing.
use Rattle.std.specs.Prelude.{◌≡◌, ℕ, ◌+◌, ◌==◌, ◌&&◌, Bool, not, List, [], ◌++◌, if◌then◌else◌, Option, None, Some, count_by, codes, is_some}
use Rattle.std.specs.Fmt.{decimal}
use Rattle.std.specs.List.{flat_map, zip}
use Rattle.explain_ready.specs.Marking.{is_left_out, mark_place, marked}
use Rattle.explain_ready.specs.declared.copying.Counts.{Counts}
use Rattle.explain_ready.specs.declared.copying.Ready.{Ready}
use Rattle.tape_job.specs.LineRefusals.{line_codes_of}
use Rattle.tape_job.specs.Lines.{raw_lines}

-- a line with the code by which it is refused by itself, or none
abbrev pub CodedLine : Type 0
CodedLine = Option ℕ × List ℕ

-- the lines of an input
abbrev pub coded_lines : List ℕ → List CodedLine
coded_lines input = zip (line_codes_of input) (raw_lines input)

-- a line is left out
abbrev pub is_marked : CodedLine → Bool
is_marked line = is_some (mark_place line.0 line.1)

-- a line is refused by itself, and stays
abbrev pub stays_refused : CodedLine → Bool
stays_refused line = is_some line.0 && not (is_marked line)

-- a line of the copy
abbrev pub copied_line : CodedLine → List ℕ
copied_line line = marked (mark_place line.0 line.1) line.1

-- a copy of an input: its text, how many lines are left out, and how many refused lines stay
pub record IsReady (input text : List ℕ) (left_out refused : ℕ) : Type 0 where
  pub copied : text ≡ flat_map copied_line (coded_lines input)
  pub left : left_out ≡ count_by is_marked (coded_lines input)
  pub stays : refused ≡ count_by stays_refused (coded_lines input)

-- how many lines of an input a copy has left out
abbrev pub left_out_count : List ℕ → ℕ
left_out_count input = count_by is_left_out (raw_lines input)

-- so many lines are left out
unfoldable pub count_text : ℕ → List ℕ
count_text count = codes "\nLines that this copy leaves out, as ;LEFT OUT says: " ++ (decimal count ++ codes "\n")

-- how many lines an input has left out; nothing where it has left out none
abbrev pub left_out_text : List ℕ → List ℕ
left_out_text input = if left_out_count input == 0 then [] else count_text (left_out_count input)

-- counts with one line more, which has the mark at a place or has it not, and is refused with a code or is not
abbrev pub counts_with : Counts → Option ℕ → Option ℕ → Counts
counts_with counts (Some place) code = record { left_out = counts.left_out + 1; refused = counts.refused }
counts_with counts None (Some code) = record { left_out = counts.left_out; refused = counts.refused + 1 }
counts_with counts None None = counts

-- the copy has this text and these counts
abbrev pub IsFinished : List ℕ → Counts → Ready → Type 0
IsFinished text counts ready = (ready.text.items ≡ text) × (ready.left_out ≡ counts.left_out) × (ready.refused ≡ counts.refused)
