-- Law. What a line says, apart from any scanner: its tokens, or the leftmost place at which nothing can begin.
use Rattle.std.specs.Prelude.{◌≡◌, ◌≢◌, ℕ, ◌+◌, ◌<◌, ◌≤◌, not, IsTrue, ◌⊎◌, List, [], ◌∷◌, ◌++◌, length, All, Result, Ok, Err}
use Rattle.std.specs.List.{list_all}
use Rattle.std.specs.Char.{is_ascii_alphabetic, is_ascii_digit, to_ascii_uppercase}
use Rattle.block_scanner.specs.declared.Kind.{Kind}
use Rattle.block_scanner.specs.declared.Kind.TheVariants.{Letter, Name, Number, Text, Sign}
use Rattle.block_scanner.specs.declared.ScanFault.{ScanFault}
use Rattle.block_scanner.specs.declared.ScanFault.TheVariants.{BadByte, OpenText, NoMemory}
use Rattle.block_scanner.specs.declared.Token.{Token}
use Rattle.block_scanner.specs.WordsView.{WordsView}
use Rattle.block_scanner.specs.Bytes.{is_blank, is_quote, is_name_start, is_name_part}
use Rattle.block_scanner.specs.Signs.{spelling}
use Rattle.block_scanner.specs.Texts.{text_of}

abbrev pub AreDigits : List ℕ → Type 0
AreDigits bytes = IsTrue (list_all is_ascii_digit bytes)

-- no quote is among these bytes
abbrev pub HasNoQuote : List ℕ → Type 0
HasNoQuote bytes = IsTrue (list_all (λ byte. not (is_quote byte)) bytes)

-- digits alone, or digits around a point ('.' is 46); at least one digit
abbrev pub IsNumber : List ℕ → Type 0
IsNumber text = (AreDigits text × (0 < length text))
    ⊎ ((whole : List ℕ) × (decimals : List ℕ) × (text ≡ whole ++ 46 ∷ decimals) × AreDigits whole × AreDigits decimals
    × (0 < length whole + length decimals))

-- two letters or underscores, and after them letters, digits and underscores
abbrev pub IsName : List ℕ → Type 0
IsName text = (first : ℕ) × (second : ℕ) × (more : List ℕ) × (text ≡ first ∷ second ∷ more)
    × IsTrue (is_name_start first) × IsTrue (is_name_start second) × IsTrue (list_all is_name_part more)

-- the one form that the language has for each kind of token
abbrev pub HasForm : Kind → List ℕ → Type 0
HasForm (Letter letter) text = (byte : ℕ) × (text ≡ byte ∷ []) × IsTrue (is_ascii_alphabetic byte) × (letter ≡ to_ascii_uppercase byte)
HasForm Name text = IsName text
HasForm Number text = IsNumber text
HasForm Text text = (inside : List ℕ) × (text ≡ 34 ∷ inside ++ 34 ∷ []) × HasNoQuote inside
HasForm (Sign sign) text = text ≡ spelling sign

-- no longer front of these bytes has the form of a token
abbrev pub IsLongest : List ℕ → List ℕ → Type 0
IsLongest text bytes = (kind : Kind) (longer tail : List ℕ) → bytes ≡ longer ++ tail → HasForm kind longer → length longer ≤ length text

-- no front of these bytes has the form of a token
abbrev pub BeginsNoToken : List ℕ → Type 0
BeginsNoToken bytes = (kind : Kind) (text tail : List ℕ) → bytes ≡ text ++ tail → HasForm kind text → ⊥

-- from a place on, the bytes are these tokens with nothing but blanks before and between them;
-- then come blanks, and from the next place on the rest
abbrev pub Leaves : ℕ → List ℕ → List Token → ℕ → List ℕ → Type 0
Leaves at bytes [] place rest = (gap : List ℕ) × (bytes ≡ gap ++ rest) × IsTrue (list_all is_blank gap) × (place ≡ at + length gap)
Leaves at bytes (token ∷ tokens) place rest = (gap : List ℕ) × (text : List ℕ) × (tail : List ℕ) × (bytes ≡ gap ++ (text ++ tail))
    × IsTrue (list_all is_blank gap) × (token.start ≡ at + length gap) × (token.end ≡ token.start + length text)
    × HasForm token.kind text × IsLongest text (text ++ tail) × Leaves token.end tail tokens place rest

-- nothing is left but a comment (';' is 59)
abbrev pub EndsLine : List ℕ → Type 0
EndsLine [] = Unit {0}
EndsLine (byte ∷ bytes) = byte ≡ 59

-- these tokens cover all of the line but blanks and a comment
abbrev pub IsTokenisation : List ℕ → List Token → Type 0
IsTokenisation line tokens = (place : ℕ) × (rest : List ℕ) × Leaves 0 line tokens place rest × EndsLine rest

-- tokens cover the line up to this place, where a byte stands that is no blank, begins no comment, opens no text ('"' is 34),
-- and with which no token begins
abbrev pub IsBadByte : List ℕ → ℕ → Type 0
IsBadByte line place = (tokens : List Token) × (byte : ℕ) × (rest : List ℕ) × Leaves 0 line tokens place (byte ∷ rest)
    × IsTrue (not (is_blank byte)) × (byte ≢ 59) × (byte ≢ 34) × BeginsNoToken (byte ∷ rest)

-- tokens cover the line up to this place, where a quote opens a text that nothing closes
abbrev pub IsOpenText : List ℕ → ℕ → Type 0
IsOpenText line place = (tokens : List Token) × (inside : List ℕ) × Leaves 0 line tokens place (34 ∷ inside) × HasNoQuote inside

-- what a line says
abbrev pub Says : List ℕ → Result (List Token) ScanFault → Type 0
Says line (Ok tokens) = IsTokenisation line tokens
Says line (Err (BadByte place)) = IsBadByte line place
Says line (Err (OpenText place)) = IsOpenText line place
Says line (Err NoMemory) = ⊥

-- the answer is what the line says, or memory ran out
abbrev pub Answers : List ℕ → Result WordsView ScanFault → Type 0
Answers line (Ok words) = IsTokenisation line words.tokens
Answers line (Err (BadByte place)) = IsBadByte line place
Answers line (Err (OpenText place)) = IsOpenText line place
Answers line (Err NoMemory) = Unit {0}

-- the slice of each token has the form of its kind
abbrev pub AreFormed : List ℕ → List Token → Type 0
AreFormed line tokens = All (λ token. HasForm token.kind (text_of line token)) tokens
