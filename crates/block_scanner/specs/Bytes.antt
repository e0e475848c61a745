-- Meaning. Classes of bytes.
use Rattle.std.specs.Prelude.{ℕ, Bool, false, ◌||◌, ◌==◌, List, [], ◌∷◌}
use Rattle.std.specs.Char.{is_ascii_alphabetic, is_ascii_alphanumeric}

-- ' ' and the tab
abbrev pub is_blank : ℕ → Bool
is_blank byte = (byte == 32) || (byte == 9)

-- a letter or '_'
abbrev pub is_name_start : ℕ → Bool
is_name_start byte = is_ascii_alphabetic byte || (byte == 95)

-- a letter, a digit or '_'
abbrev pub is_name_part : ℕ → Bool
is_name_part byte = is_ascii_alphanumeric byte || (byte == 95)

-- '"'
abbrev pub is_quote : ℕ → Bool
is_quote byte = byte == 34

-- '.'
abbrev pub is_point : ℕ → Bool
is_point byte = byte == 46

-- ';'
abbrev pub is_semicolon : ℕ → Bool
is_semicolon byte = byte == 59

-- the first byte passes
abbrev pub begins_with : (ℕ → Bool) → List ℕ → Bool
begins_with test [] = false
begins_with test (byte ∷ bytes) = test byte
