-- Meaning. The parts of a file that are no programs.
use Rattle.std.specs.Prelude.{ℕ, ◌+◌, List, [], ◌∷◌, if◌then◌else◌}
use Rattle.explain_joins.specs.Lines.{first_word, is_other_part, lines_of, trimmed, without_mark}

-- the headers of parts that are no programs, each with the number of its line, where the first line has this number
abbrev pub parts_from : ℕ → List (List ℕ) → List (List ℕ × ℕ)
parts_from number [] = []
parts_from number (line ∷ lines) =
    if is_other_part (first_word (trimmed line)) then (first_word (trimmed line), number) ∷ parts_from (number + 1) lines
    else parts_from (number + 1) lines

-- those of a file
unfoldable pub parts_of : List ℕ → List (List ℕ × ℕ)
parts_of bytes = parts_from 1 (lines_of (without_mark bytes))
