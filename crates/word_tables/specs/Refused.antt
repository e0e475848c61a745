-- Meaning. The refused words of a line: names, the sign $ and numbers after G, each with its code.
use Rattle.std.specs.Prelude.{◌≡◌, ℕ, ◌<◌, ◌==◌, ◌||◌, ◌&&◌, not, ℤ, Bool, if◌then◌else◌, List, [], ◌∷◌, length, drop, Option, Some, None, is_some}
use Rattle.std.specs.Option.{option_or}
use Rattle.block_scanner.specs.declared.Kind.{Kind}
use Rattle.block_scanner.specs.declared.Kind.TheVariants.{Letter, Name, Number, Text, Sign}
use Rattle.block_scanner.specs.declared.Sign.TheVariants.{Dollar}
use Rattle.block_scanner.specs.declared.Token.{Token}
use Rattle.block_scanner.specs.Texts.{text_of}
use Rattle.micro_units.specs.NumberText.{number_of}
use Rattle.word_tables.specs.GroupWords.{small_whole, g_word}
use Rattle.name_tables.specs.RefusedNames.{refused_name}

-- with tool radius compensation, or without it, the code of this number after G
unfoldable pub refused_g : Bool → ℕ → Option ℕ
refused_g compensation number =
    if (number == 70) || (number == 700) then Some 46
    else if (number == 110) || (number == 111) || (number == 112) then Some 47
    else if (number == 74) || (number == 75) then Some 49
    else if not compensation && ((number == 41) || (number == 42)) then Some 56
    else if is_some (g_word number) then None
    else Some 57

-- the code of a whole number below 1,000 after G, and of anything else
abbrev pub refused_whole : Bool → Option ℕ → Option ℕ
refused_whole compensation (Some number) = refused_g compensation number
refused_whole compensation None = Some 57

-- the code of a number after G, from its millionths
abbrev pub refused_value : Bool → Option ℤ → Option ℕ
refused_value compensation (Some millionths) = refused_whole compensation (small_whole millionths)
refused_value compensation None = Some 57

-- the code of the letter G before a token of this kind and text
unfoldable pub refused_before : Bool → Kind → List ℕ → Option ℕ
refused_before compensation Number text = refused_value compensation (number_of text)
refused_before compensation (Letter letter) text = None
refused_before compensation Name text = None
refused_before compensation Text text = None
refused_before compensation (Sign sign) text = None

-- the code of the letter G before these tokens
abbrev pub refused_following : Bool → List ℕ → List Token → Option ℕ
refused_following compensation line [] = None
refused_following compensation line (token ∷ tokens) = refused_before compensation token.kind (text_of line token)

-- the code of a token of this kind and text before these tokens; 71 is 'G'
unfoldable pub refused_kind : Bool → List ℕ → Kind → List ℕ → List Token → Option ℕ
refused_kind compensation line (Letter letter) text following = if letter == 71 then refused_following compensation line following else None
refused_kind compensation line Name text following = refused_name text
refused_kind compensation line (Sign Dollar) text following = Some 44
refused_kind compensation line (Sign sign) text following = None
refused_kind compensation line Number text following = None
refused_kind compensation line Text text following = None

-- the code of the first of some tokens
abbrev pub refused_first : Bool → List ℕ → List Token → Option ℕ
refused_first compensation line [] = None
refused_first compensation line (token ∷ following) = refused_kind compensation line token.kind (text_of line token) following

-- the code of the leftmost refused word of a line with these tokens
abbrev pub refused_word : Bool → List ℕ → List Token → Option ℕ
refused_word compensation line [] = None
refused_word compensation line (token ∷ tokens) =
    option_or (refused_first compensation line (token ∷ tokens)) (refused_word compensation line tokens)

-- the code is that of a refused word left of which no other stands, or there is none
abbrev pub IsLeftmost : Bool → List ℕ → List Token → Option ℕ → Type 0
IsLeftmost compensation line tokens (Some code) = (place : ℕ) × (place < length tokens)
    × (refused_first compensation line (drop place tokens) ≡ Some code)
    × ((before : ℕ) → before < place → refused_first compensation line (drop before tokens) ≡ None)
IsLeftmost compensation line tokens None = (place : ℕ) → refused_first compensation line (drop place tokens) ≡ None
