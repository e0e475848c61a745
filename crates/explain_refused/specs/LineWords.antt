-- Meaning. The words of a refused line.
use Rattle.std.specs.Prelude.{ℕ, nat_le, List, [], if◌then◌else◌, length, map, Result, Ok, Err}
use Rattle.block_scanner.specs.declared.Kind.{Kind}
use Rattle.block_scanner.specs.declared.Kind.TheVariants.{Letter, Name, Number, Text, Sign}
use Rattle.block_scanner.specs.declared.ScanFault.{ScanFault}
use Rattle.block_scanner.specs.declared.Token.{Token}
use Rattle.block_scanner.specs.declared.limits.TheConstants.{LINE_LIMIT}
use Rattle.block_scanner.specs.Texts.{text_of}
use Rattle.block_scanner.specs.Tokens.{tokens_of}
use Rattle.explain_refused.specs.Names.{class_of}
use Rattle.explain_refused.specs.declared.line_words.LineWord.{LineWord}
use Rattle.explain_refused.specs.declared.names.NameClass.{NameClass}
use Rattle.explain_refused.specs.declared.names.NameClass.TheVariants.{Other}

-- what a token of this kind and text is as a name
abbrev pub class_in : Kind → List ℕ → NameClass
class_in Name text = class_of text
class_in (Letter letter) text = Other
class_in Number text = Other
class_in Text text = Other
class_in (Sign sign) text = Other

-- the word that a token of a line is
unfoldable pub word_of : List ℕ → Token → LineWord
word_of line token = record { kind = token.kind; class = class_in token.kind (text_of line token); start = token.start; end = token.end }

-- those of its tokens; none where it has a byte or a text that cannot be read
abbrev pub words_from : List ℕ → Result (List Token) ScanFault → List LineWord
words_from line (Ok tokens) = map (word_of line) tokens
words_from line (Err fault) = []

-- the words of a line; none of one that is too long
unfoldable pub words_of : List ℕ → List LineWord
words_of line = if nat_le (length line) LINE_LIMIT then words_from line (tokens_of line) else []
