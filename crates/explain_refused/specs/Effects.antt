-- Meaning. What a refused line would do.
use Rattle.std.specs.Prelude.{ℕ, Bool, true, false, not, ◌==◌, ◌&&◌, ◌||◌, List, [], ◌∷◌, if◌then◌else◌, Option, None, Some}
use Rattle.std.specs.List.{list_any, list_all}
use Rattle.block_scanner.specs.declared.Kind.{Kind}
use Rattle.block_scanner.specs.declared.Kind.TheVariants as kind
use Rattle.block_scanner.specs.declared.Kind.TheVariants.{Letter, Name, Number, Text}
use Rattle.block_scanner.specs.declared.Sign.{Sign}
use Rattle.block_scanner.specs.declared.Sign.TheVariants.{Assign, OpenParenthesis, OpenBracket}
use Rattle.explain_refused.specs.Kinds.{is_letter, is_name, is_number, is_slash, is_colon, depth_after}
use Rattle.explain_refused.specs.LineWords.{words_of}
use Rattle.explain_refused.specs.declared.effects.Effect.{Effect}
use Rattle.explain_refused.specs.declared.effects.Effect.TheVariants.{MayMove, MovesNothing}
use Rattle.explain_refused.specs.declared.effects.TheConstants.{QUIET_CODES}
use Rattle.explain_refused.specs.declared.line_words.LineWord.{LineWord}
use Rattle.explain_refused.specs.declared.names.NameClass.{NameClass}
use Rattle.explain_refused.specs.declared.names.NameClass.TheVariants.{Quiet, Coupling}

-- a code of blocks with a word that is not known
abbrev pub is_quiet_code : ℕ → Bool
is_quiet_code code = list_any (λ other. other == code) QUIET_CODES

-- what follows the '/' of a block, where it has one
abbrev pub after_skip : List LineWord → List LineWord
after_skip [] = []
after_skip (skip ∷ words) = if is_slash skip.kind then words else skip ∷ words

-- what follows its number, where it has one: 78, 'N', and a number
abbrev pub after_number : List LineWord → List LineWord
after_number [] = []
after_number (letter ∷ []) = letter ∷ []
after_number (letter ∷ number ∷ words) = if is_letter letter.kind 78 && is_number number.kind then words else letter ∷ number ∷ words

-- what follows its label, where it has one: a name and ':'
abbrev pub after_label : List LineWord → List LineWord
after_label [] = []
after_label (name ∷ []) = name ∷ []
after_label (name ∷ colon ∷ words) = if is_name name.kind && is_colon colon.kind then words else name ∷ colon ∷ words

-- the words of a block after these
abbrev pub body_of : List LineWord → List LineWord
body_of words = after_label (after_number (after_skip words))

abbrev pub is_coupling : NameClass → Bool
is_coupling Coupling = true
is_coupling class = false

abbrev pub is_quiet_name : NameClass → Bool
is_quiet_name Quiet = true
is_quiet_name Coupling = true
is_quiet_name class = false

-- '=', and what opens arguments
abbrev pub is_quiet_sign : Sign → Bool
is_quiet_sign Assign = true
is_quiet_sign OpenParenthesis = true
is_quiet_sign OpenBracket = true
is_quiet_sign sign = false

-- a word of this kind and class outside arguments: a name that moves no axis, F, 70, or S, 83, a number, or such a sign
abbrev pub is_quiet : Kind → NameClass → Bool
is_quiet Name class = is_quiet_name class
is_quiet (Letter letter) class = letter == 70 || letter == 83
is_quiet Number class = true
is_quiet Text class = false
is_quiet (kind.Sign sign) class = is_quiet_sign sign

-- outside parentheses and brackets, of which so many are open, nothing stands but such words; and all that opens closes
abbrev pub stands_quiet : ℕ → List LineWord → Bool
stands_quiet depth [] = depth == 0
stands_quiet depth (word ∷ words) = (not (depth == 0) || is_quiet word.kind word.class) && stands_quiet (depth_after word.kind depth) words

-- a word of this kind and class where spindles are coupled: S, 83, a name that moves no axis, or no letter and no name
abbrev pub is_of_spindles : Kind → NameClass → Bool
is_of_spindles Name class = is_quiet_name class
is_of_spindles (Letter letter) class = letter == 83
is_of_spindles Number class = true
is_of_spindles Text class = true
is_of_spindles (kind.Sign sign) class = true

-- nothing stands outside arguments but words that move no axis, and what is coupled is spindles
unfoldable pub moves_nothing : List LineWord → Bool
moves_nothing words = stands_quiet 0 words && (not (list_any (λ word. is_coupling word.class) words) || list_all (λ word. is_of_spindles word.kind word.class) words)

-- the place of the first word
abbrev pub first_place : List LineWord → Option ℕ
first_place [] = None
first_place (word ∷ words) = Some word.start

-- the place of the body of a block that is refused with this code and moves nothing
unfoldable pub quiet_place_in : ℕ → List LineWord → Option ℕ
quiet_place_in code words = if is_quiet_code code && moves_nothing (body_of words) then first_place (body_of words) else None

unfoldable pub quiet_place : ℕ → List ℕ → Option ℕ
quiet_place code line = quiet_place_in code (words_of line)

-- what a line would do whose body so moves nothing, or does not
abbrev pub effect_by : Option ℕ → Effect
effect_by None = MayMove
effect_by (Some place) = MovesNothing
