-- Meaning. Words as they are written.
use Rattle.std.specs.Prelude.{ℕ, Bool, List, take, codes}
use Rattle.std.specs.List.{list_any}
use Rattle.std.specs.Str.{str_eq_ignore_ascii_case}

-- a text is this word, in upper or lower case
abbrev pub is_word : List ℕ → List ℕ → Bool
is_word text word = str_eq_ignore_ascii_case text word

-- a text is one of these words
abbrev pub is_one_of : List ℕ → List (List ℕ) → Bool
is_one_of text words = list_any (λ word. is_word text word) words

-- a name of a cycle: one that begins with CYCLE
abbrev pub is_cycle : List ℕ → Bool
is_cycle text = is_word (take 5 text) (codes "CYCLE")
