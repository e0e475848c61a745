-- Meaning. How all refused lines of an input are told.
use Rattle.std.specs.Prelude.{ℕ, Bool, true, false, not, ◌==◌, List, [], ◌++◌, if◌then◌else◌, Option, None, Some, length, count_by, codes}
use Rattle.std.specs.Fmt.{decimal}
use Rattle.std.specs.List.{flat_map, list_any}
use Rattle.explain_advice.specs.Advice.{refusals, name_of}
use Rattle.explain_lines.specs.Origins.{origin_at, origin_text}
use Rattle.fault_codes.specs.declared.Refusal.{Refusal}
use Rattle.explain_refused.specs.Refusals.{line_body, refusal_text}
use Rattle.explain_refused.specs.SlipWords.{slip_advice}
use Rattle.explain_refused.specs.declared.effects.Effect.{Effect}
use Rattle.explain_refused.specs.declared.effects.Effect.TheVariants.{MayMove, MovesNothing}
use Rattle.explain_refused.specs.declared.rows.RefusedLine.{RefusedLine}
use Rattle.explain_refused.specs.declared.slips.Slip.{Slip}

abbrev pub is_quiet : Effect → Bool
is_quiet MovesNothing = true
is_quiet MayMove = false

-- the line is one of those that move nothing, or of the others
abbrev pub is_in : Bool → RefusedLine → Bool
is_in true row = is_quiet row.effect
is_in false row = not (is_quiet row.effect)

-- a refused line in the list
unfoldable pub entry_text : List ℕ → RefusedLine → List ℕ
entry_text input row = codes "  line " ++ (decimal row.line ++ (origin_text input row.line ++ (codes ": " ++ line_body input row)))

-- only where it is one of these
abbrev pub entry_of : Bool → List ℕ → RefusedLine → List ℕ
entry_of quiet input row = if is_in quiet row then entry_text input row else []

abbrev pub heading : Bool → List ℕ
heading true = codes "Lines that move nothing, which explain --ready leaves out: "
heading false = codes "Lines to be written otherwise: "

-- the lines that move nothing, or the others, with how many they are; nothing where there are none
unfoldable pub group_text : Bool → List ℕ → List RefusedLine → List ℕ
group_text quiet input rows =
    if count_by (is_in quiet) rows == 0 then []
    else heading quiet ++ (decimal (count_by (is_in quiet) rows) ++ (codes "\n" ++ flat_map (entry_of quiet input) rows))

-- how many lines are refused by themselves
unfoldable pub count_text : ℕ → List ℕ
count_text count = codes "\nAll lines that are refused by themselves: " ++ (decimal count ++ codes "\n")

-- all of them, in their two groups
unfoldable pub listing_text : List ℕ → List RefusedLine → List ℕ
listing_text input rows =
    count_text (length rows) ++ (group_text false input rows ++ (group_text true input rows
    ++ codes "Refusals that hang on other lines, as of a name that no line declares, come after these are mended.\n"))

-- a refused input: its first refusal, and where other lines are refused by themselves, the list of all these
unfoldable pub refusals_text : List ℕ → Refusal → List RefusedLine → List ℕ
refusals_text input refusal rows =
    if list_any (λ (row : RefusedLine). not (row.line == refusal.line)) rows then refusal_text input refusal ++ listing_text input rows else refusal_text input refusal

-- a file and a line as editors read them
abbrev pub file_line : List ℕ → ℕ → List ℕ
file_line name line = name ++ (codes ":" ++ decimal line)

abbrev pub place_by : List ℕ → ℕ → Option (List ℕ × ℕ) → List ℕ
place_by name line None = file_line name line
place_by name line (Some origin) = file_line origin.0 origin.1

-- where a line stands: in a joined file, or else in the file of this name
unfoldable pub file_place : List ℕ → List ℕ → ℕ → List ℕ
file_place name input line = place_by name line (origin_at input line)

abbrev pub slip_after : Option Slip → List ℕ
slip_after None = []
slip_after (Some slip) = codes ": " ++ slip_advice slip

-- with which code a line is refused, what that is called, and the slip
unfoldable pub refusal_words : RefusedLine → List ℕ
refusal_words row = decimal row.code ++ (codes " " ++ (name_of refusals row.code ++ slip_after row.slip))

-- a refused line in one line, as editors read it
unfoldable pub editor_line : List ℕ → List ℕ → RefusedLine → List ℕ
editor_line name input row = file_place name input row.line ++ (codes ": " ++ (refusal_words row ++ codes "\n"))
