-- Meaning. The lines of an input, and their texts.
use Rattle.std.specs.Prelude.{ℕ, zero, suc, ◌+◌, ◌==◌, List, [], ◌∷◌, if◌then◌else◌}
use Rattle.explain_lines.specs.Trimmed.{trimmed}

-- the line before which so many line feeds stand, with its own; nothing where there is none
abbrev pub nth_line : ℕ → List ℕ → List ℕ
nth_line n [] = []
nth_line zero (byte ∷ bytes) = if byte == 10 then byte ∷ [] else byte ∷ nth_line zero bytes
nth_line (suc n) (byte ∷ bytes) = if byte == 10 then nth_line n bytes else nth_line (suc n) bytes

-- the text of a line, counted from 1, without the white space around it; nothing where the input has no such line
unfoldable pub line_text : List ℕ → ℕ → List ℕ
line_text input zero = []
line_text input (suc n) = trimmed (nth_line n input)

-- where lines begin behind the line feeds of these bytes, which stand at a place
abbrev pub starts_from : ℕ → List ℕ → List ℕ
starts_from place [] = []
starts_from place (byte ∷ bytes) = if byte == 10 then (place + 1) ∷ starts_from (place + 1) bytes else starts_from (place + 1) bytes

-- where the lines of an input begin
abbrev pub line_starts : List ℕ → List ℕ
line_starts input = 0 ∷ starts_from 0 input
