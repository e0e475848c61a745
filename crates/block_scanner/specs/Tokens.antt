-- Meaning. The tokens of a line.
use Rattle.std.specs.Prelude.{◌≡◌, ℕ, zero, suc, ◌+◌, List, [], ◌∷◌, Result, Ok, Err}
use Rattle.block_scanner.specs.declared.ScanFault.{ScanFault}
use Rattle.block_scanner.specs.declared.ScanFault.TheVariants.{BadByte, OpenText, NoMemory}
use Rattle.block_scanner.specs.declared.Token.{Token}
use Rattle.block_scanner.specs.WordsView.{WordsView}
use Rattle.block_scanner.specs.declared.beginnings.Front.{Front}
use Rattle.block_scanner.specs.declared.beginnings.Front.TheVariants.{Blank, Comment, Stands, Forbidden, Unclosed}
use Rattle.block_scanner.specs.Front.{front}

-- a token before other tokens
abbrev pub before : Token → Result (List Token) ScanFault → Result (List Token) ScanFault
before token (Ok tokens) = Ok (token ∷ tokens)
before token (Err fault) = Err fault

-- what a line has from a place on, by what stands there, and by what it has when so many more bytes are passed
abbrev pub go_on : Front → ℕ → (ℕ → Result (List Token) ScanFault) → Result (List Token) ScanFault
go_on Blank at rest = rest 0
go_on Comment at rest = Ok []
go_on (Stands kind more) at rest = before (record { kind = kind; start = at; end = at + 1 + more }) (rest more)
go_on Forbidden at rest = Err (BadByte at)
go_on Unclosed at rest = Err (OpenText at)

-- the tokens of what a line has from a place on, where so many of its bytes still belong to the token before
unfoldable pub tokens_from : ℕ → List ℕ → ℕ → Result (List Token) ScanFault
tokens_from at [] more = Ok []
tokens_from at (byte ∷ bytes) zero = go_on (front byte bytes) at (tokens_from (at + 1) bytes)
tokens_from at (byte ∷ bytes) (suc more) = tokens_from (at + 1) bytes more

-- the tokens of a line, or the leftmost byte or quote for which it has none
abbrev pub tokens_of : List ℕ → Result (List Token) ScanFault
tokens_of line = tokens_from 0 line 0

-- the answer has the tokens or the fault of the line, or memory ran out
abbrev pub Scans : List ℕ → Result WordsView ScanFault → Type 0
Scans line (Ok words) = (words.line ≡ line) × (tokens_of line ≡ Ok words.tokens)
Scans line (Err (BadByte at)) = tokens_of line ≡ Err (BadByte at)
Scans line (Err (OpenText at)) = tokens_of line ≡ Err (OpenText at)
Scans line (Err NoMemory) = Unit {0}
