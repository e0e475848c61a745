-- Meaning. The words of the table of groups, by how they are written.
use Rattle.std.specs.Prelude.{ℕ, ◌+◌, ◌*◌, ◌/◌, ◌%◌, ◌==◌, ◌&&◌, nat_lt, ℤ, pos, negsuc, Bool, false, if◌then◌else◌, List, [], ◌∷◌, Option, Some, None}
use Rattle.std.specs.Option.{option_or}
use Rattle.g_groups.specs.declared.GWord.{GWord}
use Rattle.g_groups.specs.Groups.{Spelling, g, name, Group, code_of, groups}
use Rattle.name_tables.specs.Spelling.{is_word}
use Rattle.g_groups.specs.declared.numbers.TheConstants.{CODE_LIMIT}

-- the first of a group's words that passes a test, where they stand from a place on
abbrev pub word_among : (Spelling → Bool) → ℕ → ℕ → List Spelling → Option GWord
word_among test group place [] = None
word_among test group place (word ∷ words) =
    if test word then Some (record { group = group; code = code_of place word }) else word_among test group (place + 1) words

-- the first word of some groups that passes a test
abbrev pub word_in : (Spelling → Bool) → List Group → Option GWord
word_in test [] = None
word_in test (group ∷ more) = option_or (word_among test group.number 1 group.words) (word_in test more)

-- the word G with this number
abbrev pub is_g : ℕ → Spelling → Bool
is_g number (g other) = other == number
is_g number (name text) = false

-- the name that this text writes
abbrev pub is_name : List ℕ → Spelling → Bool
is_name text (g number) = false
is_name text (name other) = is_word text other

-- a whole number below the limit of codes, from its millionths; the table has no greater number
unfoldable pub small_whole : ℤ → Option ℕ
small_whole (pos millionths) =
    if millionths % 1000000 == 0 && nat_lt millionths (CODE_LIMIT * 1000000) then Some (millionths / 1000000) else None
small_whole (negsuc less) = None

-- the word of the table with this number after G
unfoldable pub g_word : ℕ → Option GWord
g_word number = word_in (is_g number) groups

abbrev pub small_word : Option ℕ → Option GWord
small_word (Some number) = g_word number
small_word None = None

-- the word of the table with this number after G, from its millionths
unfoldable pub word_by_number : ℤ → Option GWord
word_by_number millionths = small_word (small_whole millionths)

-- the word of the table with this name
unfoldable pub word_by_name : List ℕ → Option GWord
word_by_name text = word_in (is_name text) groups
