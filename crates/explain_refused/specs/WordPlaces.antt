-- Meaning. At which word a line is refused.
use Rattle.std.specs.Prelude.{ℕ, ◌==◌, ◌||◌, ◌&&◌, Bool, false, List, [], ◌∷◌, if◌then◌else◌, Option, None, Some, Result, Ok, Err, length, nat_le, slice_range}
use Rattle.block_scanner.specs.declared.ScanFault.{ScanFault}
use Rattle.block_scanner.specs.declared.Token.{Token}
use Rattle.block_scanner.specs.declared.limits.TheConstants.{LINE_LIMIT}
use Rattle.block_scanner.specs.Tokens.{tokens_of}
use Rattle.explain_refused.specs.Kinds.{is_some_letter, is_number, is_parenthesis, is_slash}
use Rattle.explain_refused.specs.declared.line_words.LineWord.{LineWord}
use Rattle.word_tables.specs.LargeNumbers.{has_large_number}
use Rattle.word_tables.specs.Refused.{refused_word}

abbrev pub is_code : ℕ → Option ℕ → Bool
is_code code None = false
is_code code (Some other) = other == code

-- a number out of range, 21, or a refused word with this code
abbrev pub refuses : ℕ → List ℕ → Result (List Token) ScanFault → Bool
refuses code text (Ok tokens) = if code == 21 then has_large_number text tokens else is_code code (refused_word false text tokens)
refuses code text (Err fault) = false

-- a text that is refused with this code where it stands alone
unfoldable pub is_refused_alone : ℕ → List ℕ → Bool
is_refused_alone code text = if nat_le (length text) LINE_LIMIT then refuses code text (tokens_of text) else false

-- where a word ends: a letter with the number after it
abbrev pub end_of : LineWord → List LineWord → ℕ
end_of word [] = word.end
end_of word (next ∷ words) = if is_some_letter word.kind && is_number next.kind then next.end else word.end

-- a part of a line, where it has one
abbrev pub part : List ℕ → ℕ → ℕ → List ℕ
part line start end = if nat_le start end && nat_le end (length line) then slice_range line start end else []

-- the first word that is refused with this code where it stands alone
abbrev pub refused_place : ℕ → List ℕ → List LineWord → Option ℕ
refused_place code line [] = None
refused_place code line (word ∷ words) =
    if is_refused_alone code (part line word.start (end_of word words)) then Some word.start else refused_place code line words

-- the first '('
abbrev pub parenthesis_place : List LineWord → Option ℕ
parenthesis_place [] = None
parenthesis_place (word ∷ words) = if is_parenthesis word.kind then Some word.start else parenthesis_place words

-- what stands after a '/' that begins a line
abbrev pub level_place : List LineWord → Option ℕ
level_place [] = None
level_place (skip ∷ []) = None
level_place (skip ∷ level ∷ words) = if is_slash skip.kind then Some level.start else None

-- the code of a number out of range, or of a refused word, 40 to 57
unfoldable pub is_word_code : ℕ → Bool
is_word_code code = code == 21 || (nat_le 40 code && nat_le code 57)

-- the word at which a line is refused with this code: the first refused word or number out of range with it; the arguments of a call, 58; the level of '/', 59
unfoldable pub word_place : ℕ → List ℕ → List LineWord → Option ℕ
word_place code line words =
    if is_word_code code then refused_place code line words
    else if code == 58 then parenthesis_place words
    else if code == 59 then level_place words
    else None
