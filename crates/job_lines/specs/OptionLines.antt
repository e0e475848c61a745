-- Meaning. What a job line says of an option of the whole job, from its words in upper case.
use Rattle.std.specs.Prelude.{ℕ, pos, ◌&&◌, if◌then◌else◌, int_le, codes, List, [], ◌∷◌, Result, Ok, Err}
use Rattle.std.specs.Str.{bytes_eq}
use Rattle.job_lines.specs.declared.code.Code.{Code}
use Rattle.job_lines.specs.declared.code.Code.TheVariants.{UnknownJobLine, OutOfRange}
use Rattle.job_lines.specs.declared.declaration.Declaration.{Declaration}
use Rattle.job_lines.specs.declared.declaration.Declaration.TheVariants.{Margin, Depth, Budget, Compensation, Skip}
use Rattle.job_lines.specs.Code.{◌>>=◌, or_code}
use Rattle.job_lines.specs.Numbers.{number_within}
use Rattle.job_lines.specs.Length.{length_of}
use Rattle.job_lines.specs.declared.limits.TheConstants.{MARGIN_LIMIT, DEPTH_LIMIT, BUDGET_LIMIT}

-- a length from 0 to the greatest margin
unfoldable pub margin_of : List ℕ → Result Declaration Code
margin_of word = length_of word >>= (λ margin. if int_le (pos 0) margin && int_le margin MARGIN_LIMIT then Ok (Margin margin) else Err OutOfRange)

unfoldable pub margin_line : List (List ℕ) → Result Declaration Code
margin_line (margin ∷ []) = margin_of margin
margin_line args = Err UnknownJobLine

unfoldable pub depth_of : List ℕ → Result Declaration Code
depth_of word = or_code OutOfRange (number_within 0 DEPTH_LIMIT word) >>= (λ depth. Ok (Depth depth))

unfoldable pub depth_line : List (List ℕ) → Result Declaration Code
depth_line (depth ∷ []) = depth_of depth
depth_line args = Err UnknownJobLine

unfoldable pub budget_of : List ℕ → Result Declaration Code
budget_of word = or_code OutOfRange (number_within 1 BUDGET_LIMIT word) >>= (λ budget. Ok (Budget budget))

unfoldable pub budget_line : List (List ℕ) → Result Declaration Code
budget_line (budget ∷ []) = budget_of budget
budget_line args = Err UnknownJobLine

-- the one word that may follow COMPENSATION, and the one that may follow SKIP
unfoldable pub compensation_of : List ℕ → Result Declaration Code
compensation_of word = if bytes_eq word (codes "CONTOUR") then Ok Compensation else Err UnknownJobLine

unfoldable pub compensation_line : List (List ℕ) → Result Declaration Code
compensation_line (word ∷ []) = compensation_of word
compensation_line args = Err UnknownJobLine

unfoldable pub skip_of : List ℕ → Result Declaration Code
skip_of word = if bytes_eq word (codes "ON") then Ok Skip else Err UnknownJobLine

unfoldable pub skip_line : List (List ℕ) → Result Declaration Code
skip_line (word ∷ []) = skip_of word
skip_line args = Err UnknownJobLine

-- what a line of an option says: its first word, and the others
unfoldable pub option_declaration_of : List ℕ → List (List ℕ) → Result Declaration Code
option_declaration_of kind args =
    if bytes_eq kind (codes "MARGIN") then margin_line args
    else if bytes_eq kind (codes "DEPTH") then depth_line args
    else if bytes_eq kind (codes "BUDGET") then budget_line args
    else if bytes_eq kind (codes "COMPENSATION") then compensation_line args
    else if bytes_eq kind (codes "SKIP") then skip_line args
    else Err UnknownJobLine
