-- Meaning. Texts of the input in a drawing: what stands between the tags of XML.
use Rattle.std.specs.Prelude.{ℕ, ◌==◌, nat_lt, List, if◌then◌else◌, flat_map, codes, [], ◌∷◌}
use Rattle.std.specs.Str.{is_utf8}

-- a byte of a text: what would begin a tag or an entity by its name, and a blank for what no such text may have
unfoldable pub shown_byte : ℕ → List ℕ
shown_byte byte =
    if byte == 38 then codes "&amp;"
    else if byte == 60 then codes "&lt;"
    else if byte == 62 then codes "&gt;"
    else if byte == 34 then codes "&quot;"
    else if nat_lt byte 32 then codes " "
    else byte ∷ []

-- the same, and a question mark for what is not ASCII
unfoldable pub plain_byte : ℕ → List ℕ
plain_byte byte = if nat_lt byte 128 then shown_byte byte else codes "?"

-- a text byte by byte; one that is no text in UTF-8 keeps its ASCII alone
unfoldable pub shown_text : List ℕ → List ℕ
shown_text bytes = if is_utf8 bytes then flat_map shown_byte bytes else flat_map plain_byte bytes
