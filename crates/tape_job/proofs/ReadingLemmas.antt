-- What a line of a program says, from its scanned tokens, and the codes by which it is refused.
use Rattle.job_types.specs.Job.{JobView}
use Rattle.std.proofs.Common.{◌≡◌, ◌∙◌, ℕ, Bool, true, false, ◌&&◌, ◌||◌, ◌==◌, List, [], ◌∷◌, Ok, Err, Some, length, ap, sym, subst, refl, true≢false, rules, arith}
use Rattle.std.specs.List.{list_any, list_all}
use Rattle.std.proofs.lemmas.Bool.{eqb-true}
use Rattle.block_scanner.specs.Tokens.{tokens_of}
use Rattle.block_scanner.specs.WordsView.{WordsView}
use Rattle.block_scanner.specs.declared.ScanFault.TheVariants as fault
use Rattle.block_scanner.specs.declared.Token.{Token}
use Rattle.job_lines.specs.Code.{refusal_code}
use Rattle.job_lines.specs.declared.code.Code.TheVariants.{BadByte, OpenText}
use Rattle.nc_blocks.specs.Refusals.{block_refusals, IsBlockRefusal}
use Rattle.fault_codes.specs.Codes.{refusal_codes, has_code, IsRefusalCode}
use Rattle.nc_syntax.specs.Blocks.{statement_of}
use Rattle.std.specs.Option.{option_map}
use Rattle.job_lines.specs.declared.code.Code.{Code}
use Rattle.tape_job.specs.declared.draft.GivenOptions.{GivenOptions}
use Rattle.tape_job.specs.Read.{code_by}
use Rattle.tape_job.specs.Rules.{rule_of}
use Rattle.tape_job.specs.Reading.{ReadingView, First, DeclarationLine, Header, BlockLine, Blank, words_of, block_line, tokens_reading, block_reading}

some_tokens : (compensation : Bool) (text : List ℕ) (tokens : List Token) → (length tokens == 0) ≡ false
    → tokens_reading compensation text (Ok tokens) ≡ block_line (statement_of (words_of text tokens) compensation)
some_tokens compensation text [] some = absurd (true≢false some)
some_tokens compensation text (token ∷ tokens) some = refl

no_tokens : (compensation : Bool) (text : List ℕ) (tokens : List Token) → (length tokens == 0) ≡ true → tokens_reading compensation text (Ok tokens) ≡ Ok Blank
no_tokens compensation text [] none = refl
no_tokens compensation text (token ∷ tokens) none =
    let empty : length (token ∷ tokens) ≡ 0 = search (rules, none) in
    absurd (omega arith)

-- a scanned line that has tokens says what they spell
pub block_from_scan : (compensation : Bool) (text : List ℕ) (words : WordsView) → words.line ≡ text → tokens_of text ≡ Ok words.tokens → (length words.tokens == 0) ≡ false
    → block_reading compensation text ≡ block_line (statement_of words compensation)
unfolding block_reading
block_from_scan compensation text words line tokens some =
    ap (tokens_reading compensation text) tokens ∙ some_tokens compensation text words.tokens some
    ∙ ap (λ line. block_line (statement_of (words_of line words.tokens) compensation)) (sym line)

pub block_without_tokens : (compensation : Bool) (text : List ℕ) (tokens : List Token) → tokens_of text ≡ Ok tokens → (length tokens == 0) ≡ true
    → block_reading compensation text ≡ Ok Blank
unfolding block_reading
block_without_tokens compensation text tokens scanned none = ap (tokens_reading compensation text) scanned ∙ no_tokens compensation text tokens none

pub block_with_bad_byte : (compensation : Bool) (text : List ℕ) (place : ℕ) → tokens_of text ≡ Err (fault.BadByte place)
    → block_reading compensation text ≡ Err (refusal_code BadByte)
unfolding block_reading
block_with_bad_byte compensation text place scanned = ap (tokens_reading compensation text) scanned

pub block_with_open_text : (compensation : Bool) (text : List ℕ) (place : ℕ) → tokens_of text ≡ Err (fault.OpenText place)
    → block_reading compensation text ≡ Err (refusal_code OpenText)
unfolding block_reading
block_with_open_text compensation text place scanned = ap (tokens_reading compensation text) scanned

one_of_codes : (code other : ℕ) (same found here all : Bool) → (other == code) ≡ same → here ≡ has_code refusal_codes other → here && all ≡ true → same || found ≡ true
    → (all ≡ true → found ≡ true → has_code refusal_codes code ≡ true) → has_code refusal_codes code ≡ true
one_of_codes code other true found true all same here each some rest = subst (λ c. has_code refusal_codes c ≡ true) (eqb-true other code same) (sym here)
one_of_codes code other true found false all same here each some rest = absurd (true≢false (sym each))
one_of_codes code other false found true all same here each some rest = rest each some
one_of_codes code other false found false all same here each some rest = absurd (true≢false (sym each))

one_has_text : (code : ℕ) (codes : List ℕ) → list_all (λ other. has_code refusal_codes other) codes ≡ true → list_any (λ other. other == code) codes ≡ true
    → has_code refusal_codes code ≡ true
one_has_text code [] each some = absurd (true≢false (sym some))
one_has_text code (other ∷ codes) each some =
    one_of_codes code other (other == code) (list_any (λ o. o == code) codes) (has_code refusal_codes other) (list_all (λ o. has_code refusal_codes o) codes)
    refl refl each some (one_has_text code codes)

-- each code by which a block is refused has a text
pub block_refusal_has_text : (code : ℕ) → IsBlockRefusal code → IsRefusalCode code
unfolding IsBlockRefusal IsRefusalCode block_refusals refusal_codes
block_refusal_has_text code is = one_has_text code block_refusals refl is

-- a rule that a line breaks gives its code
pub rule_breaks : (options : GivenOptions) (job : JobView) (number : ℕ) (reading : ReadingView) (code : Code) → rule_of options job reading ≡ Some code → code_by options job number (Ok reading) ≡ Some (refusal_code code)
unfolding rule_of
rule_breaks options job number (DeclarationLine declaration) code breaks = ap (option_map refusal_code) breaks
rule_breaks options job number (Header name) code breaks = ap (option_map refusal_code) breaks
rule_breaks options job number Blank code breaks = absurd cc
rule_breaks options job number First code breaks = absurd cc
rule_breaks options job number (BlockLine block) code breaks = absurd cc
