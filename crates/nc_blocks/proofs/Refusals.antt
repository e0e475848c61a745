-- Each refusal of a word block, and of what the forms have in common, has one of the codes of blocks.
use Rattle.std.proofs.Common.{◌≡◌, ℕ, zero, suc, ◌+◌, Bool, true, false, List, [], ◌∷◌, length, drop, Option, Some, None, Result, Ok, Err, cond, refl, sym, subst, inl, inr, arith}
use Rattle.std.specs.Prelude.{IfErr, ◌==◌}
use Rattle.std.specs.List.{list_all, list_any}
use Rattle.block_scanner.specs.declared.Token.{Token}
use Rattle.block_scanner.specs.WordsView.{WordsView}
use Rattle.name_tables.specs.Tables.{is_first_name}
use Rattle.nc_expressions.specs.declared.faults.SyntaxFault.{SyntaxFault}
use Rattle.nc_expressions.specs.declared.faults.SyntaxFault.TheVariants.{Refused, NoMemory}
use Rattle.nc_expressions.specs.declared.symbols.Symbol.{Symbol}
use Rattle.nc_expressions.specs.Fronts.{HasCode, Broken}
use Rattle.nc_expressions.specs.Limits.{all_limits}
use Rattle.nc_expressions.specs.Machine.{Reading, read}
use Rattle.nc_expressions.specs.Parsing.{reading_with_place, expr_at}
use Rattle.nc_expressions.specs.Symbols.{symbols_of}
use Rattle.nc_expressions.specs.Stops.{stop_at}
use Rattle.nc_expressions.specs.Tree.{Tree}
use Rattle.nc_expressions.specs.Value.{◌>>=◌}
use Rattle.nc_expressions.proofs.Leftmost.{leftmost}
use Rattle.nc_blocks.specs.declared.pieces.Piece.{Piece}
use Rattle.nc_blocks.specs.declared.pieces.Piece.TheVariants as piece
use Rattle.nc_blocks.specs.Pieces.{piece_at, text_at}
use Rattle.nc_blocks.specs.Marks.{code_of, code_at, word_code_of, word_code, end_or_refusal, end_at, assign_of, assign_at, open_of, open_at, close_of, close_at, close_bracket_of, close_bracket_at, comma_of, comma_at, keyword_at}
use Rattle.nc_blocks.specs.Reading.{Gives, expression_at, in_words, value_at, constant_of, constant_at, block_number, block_number_of, block_number_at, index_or, parameter_number, index_of_piece, index_at, label_of, label_at}
use Rattle.nc_blocks.specs.Lists.{Item, go_on, list_from, list_at}
use Rattle.nc_blocks.specs.Refusals.{block_refusals, IsBlockRefusal, IsListed}

-- what is refused has a code of a block
pub record Listed {A : Type 0} (r : Result A ℕ) : Type 0 where
  pub code : IfErr r IsBlockRefusal

pub found : {A : Type 0} (x : A) → Listed (Ok x)
found x = record { code = tt }

pub refuses : {A : Type 0} {code : ℕ} → IsBlockRefusal code → Listed {A = A} (Err code)
refuses h = record { code = h }

pub unreadable : IsBlockRefusal 22
unfolding IsBlockRefusal block_refusals
unreadable = refl

pub mixed : IsBlockRefusal 23
unfolding IsBlockRefusal block_refusals
mixed = refl

pub not_alone : IsBlockRefusal 24
unfolding IsBlockRefusal block_refusals
not_alone = refl

pub too_deep : IsBlockRefusal 26
unfolding IsBlockRefusal block_refusals
too_deep = refl

pub unknown : IsBlockRefusal 27
unfolding IsBlockRefusal block_refusals
unknown = refl

pub transformed : IsBlockRefusal 50
unfolding IsBlockRefusal block_refusals
transformed = refl

pub no_word : IsBlockRefusal 57
unfolding IsBlockRefusal block_refusals
no_word = refl

pub with_arguments : IsBlockRefusal 58
unfolding IsBlockRefusal block_refusals
with_arguments = refl

among : (p : ℕ → Bool) (xs : List ℕ) (code : ℕ) → list_all p xs ≡ true → list_any (λ other. other == code) xs ≡ true → p code ≡ true
among p [] code all h = cc
among p (x ∷ xs) code all h = grind (arith, among p xs code)

-- a test that each code passes is passed by this one
pub each_refusal : (p : ℕ → Bool) (code : ℕ) → list_all p block_refusals ≡ true → IsBlockRefusal code → p code ≡ true
unfolding IsBlockRefusal
each_refusal p code all h = among p block_refusals code all h

-- one step after another, and a choice

pub bound : {A B : Type 0} (r : Result A ℕ) (f : A → Result B ℕ) → Listed r → ((x : A) → Listed (f x)) → Listed (r >>= f)
bound (Ok x) f h k = k x
bound (Err code) f h k = refuses h.code

pub chosen : {A : Type 0} (b : Bool) (r s : Result A ℕ) → Listed r → Listed s → Listed (cond b r s)
chosen true r s h k = h
chosen false r s h k = k

pub chosen_code : (b : Bool) (m n : ℕ) → IsBlockRefusal m → IsBlockRefusal n → IsBlockRefusal (cond b m n)
chosen_code true m n h k = h
chosen_code false m n h k = k

-- an answer has the code of what it shows
pub given : {A B : Type 0} (view : B → A) (it : Result A ℕ) (r : Result B SyntaxFault) → Gives view it r → Listed it → IfErr r IsListed
given view it (Ok x) h all = tt
given {A = A} view it (Err (Refused code)) h all = let P : Result A ℕ → Type 0 = λ k. IfErr k IsBlockRefusal in subst P h all.code
given view it (Err NoMemory) h all = tt

-- signs and names

same_code : (m n : ℕ) → m ≡ n → IsBlockRefusal n → IsBlockRefusal m
same_code m n e h = let P : ℕ → Type 0 = λ k. IsBlockRefusal k in subst P (sym e) h

piece_code : (p : Piece) (code : ℕ) → IsBlockRefusal code → IsBlockRefusal (code_of p code)
piece_code piece.Broken code h = unreadable
piece_code one code h = h

pub code_listed : (words : WordsView) (at code : ℕ) → IsBlockRefusal code → IsBlockRefusal (code_at words at code)
unfolding code_at
code_listed words at code h = piece_code (piece_at words at) code h

piece_word_code : (p : Piece) (text : List ℕ) → IsBlockRefusal (word_code_of p text)
piece_word_code piece.Name text = chosen_code (is_first_name text) 24 22 not_alone unreadable
piece_word_code one text = unreadable

pub word_code_listed : (words : WordsView) (at : ℕ) → IsBlockRefusal (word_code words at)
unfolding word_code
word_code_listed words at = piece_word_code (piece_at words at) (text_at words at)

piece_ended : (p : Piece) → Listed (end_or_refusal p)
piece_ended piece.End = found _
piece_ended one = refuses (piece_code one 24 not_alone)

pub end_listed : (words : WordsView) (at : ℕ) → Listed (end_at words at)
unfolding end_at
end_listed words at = piece_ended (piece_at words at)

piece_assign : (p : Piece) (next code : ℕ) → IsBlockRefusal code → Listed (assign_of p next code)
piece_assign piece.Assign next code h = found _
piece_assign one next code h = refuses h

pub assign_listed : (words : WordsView) (at code : ℕ) → IsBlockRefusal code → Listed (assign_at words at code)
unfolding assign_at
assign_listed words at code h = piece_assign (piece_at words at) (at + 1) code h

piece_open : (p : Piece) (next code : ℕ) → IsBlockRefusal code → Listed (open_of p next code)
piece_open piece.Open next code h = found _
piece_open one next code h = refuses h

pub open_listed : (words : WordsView) (at code : ℕ) → IsBlockRefusal code → Listed (open_at words at code)
unfolding open_at
open_listed words at code h = piece_open (piece_at words at) (at + 1) code h

piece_close : (p : Piece) (next code : ℕ) → IsBlockRefusal code → Listed (close_of p next code)
piece_close piece.Close next code h = found _
piece_close one next code h = refuses h

pub close_listed : (words : WordsView) (at code : ℕ) → IsBlockRefusal code → Listed (close_at words at code)
unfolding close_at
close_listed words at code h = piece_close (piece_at words at) (at + 1) code h

piece_close_bracket : (p : Piece) (next code : ℕ) → IsBlockRefusal code → Listed (close_bracket_of p next code)
piece_close_bracket piece.CloseBracket next code h = found _
piece_close_bracket one next code h = refuses h

pub close_bracket_listed : (words : WordsView) (at code : ℕ) → IsBlockRefusal code → Listed (close_bracket_at words at code)
unfolding close_bracket_at
close_bracket_listed words at code h = piece_close_bracket (piece_at words at) (at + 1) code h

piece_comma : (p : Piece) (next : ℕ) → Listed (comma_of p next)
piece_comma piece.Comma next = found _
piece_comma one next = refuses unreadable

pub comma_listed : (words : WordsView) (at : ℕ) → Listed (comma_at words at)
unfolding comma_at
comma_listed words at = piece_comma (piece_at words at) (at + 1)

pub keyword_listed : (words : WordsView) (at : ℕ) (word : List ℕ) → Listed (keyword_at words at word)
unfolding keyword_at
keyword_listed words at word = chosen _ _ _ (found _) (refuses unreadable)

-- expressions, numbers and names

front_code : (symbols : List Symbol) (code : ℕ) → HasCode symbols code → IsBlockRefusal code
front_code symbols code h =
    elim h [
      | inl deep ↦ same_code code 26 deep.0 too_deep
      | inr other ↦ elim other [ inl mix ↦ same_code code 23 mix.0 mixed | inr none ↦ same_code code 22 none.0 unreadable ]
    ]

broken_code : (symbols : List Symbol) (code : ℕ) → Broken symbols code → IsBlockRefusal code
broken_code symbols code h = elim h [ inl at ↦ front_code _ code at.6 | inr end ↦ same_code code 22 end.2 unreadable ]

placed_listed : (all : ℕ) (symbols : List Symbol) (r : Reading) → read all_limits symbols ≡ r → Listed (reading_with_place all r)
placed_listed all symbols (Ok p) e = found _
placed_listed all symbols (Err code) e = refuses (broken_code symbols code (leftmost symbols code e))

pub expression_listed : (words : WordsView) (at : ℕ) → Listed (expression_at words at)
unfolding expression_at expr_at
expression_listed words at = placed_listed (length (symbols_of words)) (drop at (symbols_of words)) (read all_limits (drop at (symbols_of words))) refl

in_words_listed : (words : WordsView) (stop : ℕ) (r : Result (Tree × ℕ) ℕ) → Listed r → Listed (in_words words stop r)
in_words_listed words stop (Ok p) h = found _
in_words_listed words stop (Err code) h = refuses (chosen_code _ (word_code words stop) code (word_code_listed words stop) h.code)

pub value_listed : (words : WordsView) (at : ℕ) → Listed (value_at words at)
unfolding value_at
value_listed words at = in_words_listed words (stop_at (symbols_of words) at) (expression_at words at) (expression_listed words at)

piece_constant : (first p : Piece) (next code : ℕ) → IsBlockRefusal code → Listed (constant_of first p next code)
piece_constant first (piece.Number z) next code h = found _
piece_constant first one next code h = refuses h

pub constant_listed : (words : WordsView) (at code : ℕ) → IsBlockRefusal code → Listed (constant_at words at code)
unfolding constant_at
constant_listed words at code h = piece_constant (piece_at words at) _ _ code h

piece_block_number : (p : Piece) (text : List ℕ) → Listed (block_number_of p text)
unfolding block_number
piece_block_number (piece.Number z) text = chosen _ _ _ (found _) (refuses unreadable)
piece_block_number one text = refuses unreadable

pub block_number_listed : (words : WordsView) (at : ℕ) → Listed (block_number_at words at)
unfolding block_number_at
block_number_listed words at = piece_block_number (piece_at words at) (text_at words at)

index_or_listed : (o : Option ℕ) (code : ℕ) → IsBlockRefusal code → Listed (index_or o code)
index_or_listed (Some i) code h = found _
index_or_listed None code h = refuses h

piece_index : (p : Piece) (text : List ℕ) (code : ℕ) → IsBlockRefusal code → Listed (index_of_piece p text code)
unfolding parameter_number
piece_index (piece.Number z) text code h = chosen _ _ _ (index_or_listed _ 22 unreadable) (refuses unreadable)
piece_index one text code h = refuses h

pub index_listed : (words : WordsView) (at code : ℕ) → IsBlockRefusal code → Listed (index_at words at code)
unfolding index_at
index_listed words at code h = piece_index (piece_at words at) (text_at words at) code h

piece_label : (p : Piece) (text : List ℕ) → Listed (label_of p text)
piece_label piece.Name text = found _
piece_label one text = refuses unreadable

pub label_listed : (words : WordsView) (at : ℕ) → Listed (label_at words at)
unfolding label_at
label_listed words at = piece_label (piece_at words at) (text_at words at)

-- lists

go_on_listed : {A : Type 0} (before : List A) (at : ℕ) (one : Item A) (rest : List A → ℕ → Result (List A × ℕ) ℕ) →
    ((xs : List A) (more : ℕ) → Listed (rest xs more)) → Listed (go_on before at one rest)
go_on_listed before at (x, true, next) rest h = h _ _
go_on_listed before at (x, false, next) rest h = found _

items_listed : {A : Type 0} (item : List A → ℕ → Result (Item A) ℕ) → ((before : List A) (at : ℕ) → Listed (item before at)) →
    (before : List A) (at : ℕ) (tokens : List Token) (more : ℕ) → Listed (list_from item before at tokens more)
unfolding list_from
items_listed item h before at [] more = bound _ _ (h before at) (λ one. refuses unreadable)
items_listed item h before at (t ∷ tokens) zero = bound _ _ (h before at) (λ one. go_on_listed before at one _ (λ xs more. items_listed item h xs (at + 1) tokens more))
items_listed item h before at (t ∷ tokens) (suc more) = items_listed item h before (at + 1) tokens more

pub list_listed : {A : Type 0} (item : List A → ℕ → Result (Item A) ℕ) (words : WordsView) (at : ℕ) →
    ((before : List A) (at : ℕ) → Listed (item before at)) → Listed (list_at item words at)
unfolding list_at
list_listed item words at h = items_listed item h [] at (drop at words.tokens) 0
