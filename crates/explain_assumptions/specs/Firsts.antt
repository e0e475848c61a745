-- Meaning. Which remark is the first about a parameter, about X, or about a motion under a word.
use Rattle.std.specs.Prelude.{◌≡◌, ℕ, ◌==◌, ◌<◌, nat_lt, if◌then◌else◌, Bool, true, false, List, length, find, slice_index_or, slice_set, unwrap_or, Option, Some, None}
use Rattle.explain_assumptions.specs.declared.remarks.Remark.{Remark}
use Rattle.explain_assumptions.specs.declared.remarks.RemarkKind.{RemarkKind}
use Rattle.explain_assumptions.specs.declared.firsts.TheConstants.{NUMBERS}
use Rattle.explain_assumptions.specs.declared.remarks.RemarkKind.TheVariants.{SaysDiameters, ProgramsX, Reads, Sets, MovesUnder, HasTool, HasToolOffset}

-- what values of X are is said, or X is programmed
abbrev pub is_kind_of_x : RemarkKind → Bool
is_kind_of_x SaysDiameters = true
is_kind_of_x ProgramsX = true
is_kind_of_x other = false

abbrev pub is_of_x : Remark → Bool
is_of_x remark = is_kind_of_x remark.kind

-- the parameter that is read or gets a value
abbrev pub kind_parameter : RemarkKind → Option ℕ
kind_parameter (Reads number) = Some number
kind_parameter (Sets number) = Some number
kind_parameter other = None

abbrev pub parameter_of : Remark → Option ℕ
parameter_of remark = kind_parameter remark.kind

-- the word under which axes move
abbrev pub kind_word : RemarkKind → Option ℕ
kind_word (MovesUnder word) = Some word
kind_word other = None

abbrev pub word_of : Remark → Option ℕ
word_of remark = kind_word remark.kind

-- a T word, or a D word
abbrev pub is_kind_of_tool : RemarkKind → Bool
is_kind_of_tool HasTool = true
is_kind_of_tool other = false

abbrev pub is_of_tool : Remark → Bool
is_of_tool remark = is_kind_of_tool remark.kind

abbrev pub is_kind_of_tool_offset : RemarkKind → Bool
is_kind_of_tool_offset HasToolOffset = true
is_kind_of_tool_offset other = false

abbrev pub is_of_tool_offset : Remark → Bool
is_of_tool_offset remark = is_kind_of_tool_offset remark.kind

-- this is the number
abbrev pub is_number : ℕ → Option ℕ → Bool
is_number number (Some other) = other == number
is_number number None = false

-- the first remark about a number
abbrev pub first_with : (Remark → Option ℕ) → ℕ → List Remark → Option Remark
first_with key number remarks = find (λ remark. is_number number (key remark)) remarks

-- ---- answers

-- a remark takes its place among the first ones, where none is there
abbrev pub with_first : List (Option Remark) → Option ℕ → Remark → List (Option Remark)
with_first table (Some number) remark = if nat_lt number (length table) then slice_set table number (Some (unwrap_or (slice_index_or table number None) remark)) else table
with_first table None remark = table

-- these are the first remarks about each number
pub record AreFirsts (key : Remark → Option ℕ) (remarks : List Remark) (table : List (Option Remark)) : Type 0 where
  pub places : length table ≡ NUMBERS
  pub each : (number : ℕ) → number < NUMBERS → slice_index_or table number None ≡ first_with key number remarks
