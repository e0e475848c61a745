-- Meaning. What a line says by itself.
use Rattle.std.specs.Prelude.{◌≡◌, ℕ, Bool, true, false, not, ◌&&◌, ◌||◌, if◌then◌else◌, ◌==◌, nat_lt, codes, List, [], ◌∷◌, length, Result, Ok, Err}
use Rattle.std.specs.List.{list_any}
use Rattle.std.specs.Str.{bytes_eq}
use Rattle.block_scanner.specs.Tokens.{tokens_of}
use Rattle.block_scanner.specs.declared.ScanFault.{ScanFault}
use Rattle.block_scanner.specs.declared.ScanFault.TheVariants as fault
use Rattle.block_scanner.specs.declared.Token.{Token}
use Rattle.block_scanner.specs.WordsView.{WordsView}
use Rattle.job_lines.specs.Code.{◌>>=◌, refusal_code}
use Rattle.job_lines.specs.Header.{header_of}
use Rattle.job_lines.specs.Declaration.{declaration_of}
use Rattle.job_lines.specs.Extent.{extent_of}
use Rattle.job_lines.specs.declared.code.Code.{Code}
use Rattle.job_lines.specs.declared.code.Code.TheVariants.{NoJobLine, LineTooLong, BadByte, UnknownJobLine, OpenText}
use Rattle.job_lines.specs.declared.declaration.Declaration.{Declaration}
use Rattle.fault_codes.specs.Codes.{IsRefusalCode}
use Rattle.nc_blocks.specs.Indices.{StatementIndicesFit}
use Rattle.nc_expressions.specs.NameTexts.{upper}
use Rattle.nc_blocks.specs.Statement.{BlockView, view_of}
use Rattle.nc_syntax.specs.Blocks.{statement_of}
use Rattle.tape_job.specs.declared.draft.TheConstants.{VERSION}
use Rattle.tape_job.specs.declared.reading.LineFault.{LineFault}
use Rattle.tape_job.specs.declared.reading.LineFault.TheVariants.{Broken, NoMemory}
use Rattle.tape_job.specs.declared.reading.Reading.{Reading}
use Rattle.tape_job.specs.declared.reading.Reading.TheVariants as reading
use Rattle.tape_job.specs.Lines.{text_of, before_comment, is_visible, words, begins_with_percent}

-- what a line says, with a block as contracts see it
pub data ReadingView : Type 0 where
  Blank : ReadingView
  First : ReadingView
  DeclarationLine : Declaration → ReadingView
  Header : List ℕ → ReadingView
  BlockLine : BlockView → ReadingView

abbrev pub reading_view : Reading → ReadingView
reading_view reading.Blank = Blank
reading_view reading.First = First
reading_view (reading.DeclarationLine declaration) = DeclarationLine declaration
reading_view (reading.Header name) = Header name
reading_view (reading.BlockLine block) = BlockLine (view_of block)

-- the words of the job line
unfoldable pub is_job_line : List (List ℕ) → Bool
is_job_line (job ∷ version ∷ []) = bytes_eq job (codes "JOB") && bytes_eq version (codes "1")
is_job_line words = false

-- outside the comment a line that is no block has no byte outside 32 to 126 but the tab
unfoldable pub is_bad_byte : ℕ → Bool
is_bad_byte byte = (nat_lt byte 32 && not (byte == 9)) || nat_lt 126 byte

unfoldable pub declaration_line : List (List ℕ) → Result ReadingView Code
declaration_line [] = Err UnknownJobLine
declaration_line (kind ∷ args) = declaration_of (extent_of VERSION).channels kind args >>= (λ declaration. Ok (DeclarationLine declaration))

unfoldable pub header_line : List (List ℕ) → Result ReadingView Code
header_line words = header_of words >>= (λ name. Ok (Header name))

-- what words say in upper case: the first words of all are the job line's; after '%' stands a header, else a job line
unfoldable pub form_of : Bool → Bool → List (List ℕ) → Result ReadingView Code
form_of false percent words = if is_job_line words then Ok First else Err NoJobLine
form_of true true words = header_line words
form_of true false words = declaration_line words

-- what a line says that is no block, from what stands before its comment
unfoldable pub entry_reading : Bool → Bool → List ℕ → Result ReadingView Code
entry_reading seen percent content =
    if list_any is_bad_byte content then Err BadByte
    else if is_visible content then form_of seen percent (words (upper content))
    else Ok Blank

-- a text with its tokens
abbrev pub words_of : List ℕ → List Token → WordsView
words_of text tokens = record { line = text; tokens = tokens }

-- a block of any form
unfoldable pub block_line : Result BlockView ℕ → Result ReadingView ℕ
block_line (Ok block) = Ok (BlockLine block)
block_line (Err code) = Err code

abbrev pub tokens_reading : Bool → List ℕ → Result (List Token) ScanFault → Result ReadingView ℕ
tokens_reading compensation text (Ok []) = Ok Blank
tokens_reading compensation text (Ok (token ∷ tokens)) = block_line (statement_of (words_of text (token ∷ tokens)) compensation)
tokens_reading compensation text (Err (fault.OpenText place)) = Err (refusal_code OpenText)
tokens_reading compensation text (Err _) = Err (refusal_code BadByte)

-- what a line of a program says, where the job accepts tool radius compensation or not
unfoldable pub block_reading : Bool → List ℕ → Result ReadingView ℕ
block_reading compensation text = tokens_reading compensation text (tokens_of text)

abbrev pub with_shown : Result ReadingView Code → Result ReadingView ℕ
with_shown (Ok reading) = Ok reading
with_shown (Err code) = Err (refusal_code code)

-- what a line says, where a line before it has a token or not, the programs have begun or not, and the job accepts tool radius compensation or not:
-- a reading, or the code of its refusal
unfoldable pub reading_of : Bool → Bool → Bool → List ℕ → Result ReadingView ℕ
reading_of seen in_programs compensation raw =
    if nat_lt 512 (length raw) then Err (refusal_code LineTooLong)
    else if in_programs && not (begins_with_percent raw) then block_reading compensation (text_of raw)
    else with_shown (entry_reading seen (begins_with_percent raw) (before_comment (text_of raw)))

-- the call gives what is read, or the rule that is broken
abbrev pub GivesForm : Result Reading Code → Result ReadingView Code → Type 0
GivesForm (Ok reading) read = read ≡ Ok (reading_view reading)
GivesForm (Err code) read = read ≡ Err code

-- the call gives what is read, or the code of the refusal; it may want memory at any time
abbrev pub Gives : Result Reading LineFault → Result ReadingView ℕ → Type 0
Gives (Ok reading) read = read ≡ Ok (reading_view reading)
Gives (Err (Broken code)) read = read ≡ Err code
Gives (Err NoMemory) read = Unit {0}

-- the parameter numbers of a block fit
abbrev pub ReadingFits : ReadingView → Type 0
ReadingFits (BlockLine block) = StatementIndicesFit block.statement
ReadingFits _ = Unit {0}

-- a refusal's code has a text
abbrev pub FaultIsListed : LineFault → Type 0
FaultIsListed (Broken code) = IsRefusalCode code
FaultIsListed NoMemory = Unit {0}
