-- A line that moves to two numbers spells a block of words.
use Rattle.std.proofs.Common.{◌≡◌, ◌∙◌, ℕ, ◌+◌, ◌-◌, ◌<◌, ℤ, pos, neg_ℤ, ◌||◌, not, nat_lt, Bool, true, false, inl, inr, List, [], ◌∷◌, ◌++◌, length, take, drop, get_or, slice_range, Option, Some, None, Ok, refl, sym, ap, append_assoc, append-nil, arith}
use Rattle.std.specs.List.{list_any}
use Rattle.std.specs.Int.RustNames.{unsigned_abs}
use Rattle.std.proofs.lemmas.List.{length-append, take_at, drop_at}
use Rattle.block_scanner.specs.declared.Kind.{Kind}
use Rattle.block_scanner.specs.declared.Kind.TheVariants as kind
use Rattle.block_scanner.specs.declared.Sign.TheVariants.{Minus}
use Rattle.block_scanner.specs.declared.Token.{Token}
use Rattle.block_scanner.specs.Texts.{text_of}
use Rattle.block_scanner.specs.WordsView.{WordsView}
use Rattle.g_groups.specs.declared.numbers.TheConstants.{MOTION_GROUP}
use Rattle.micro_units.specs.NumberText.{number_of}
use Rattle.micro_units.specs.Rounding.{half_away}
use Rattle.micro_units.specs.declared.limits.TheConstants.{NUMBER_LIMIT}
use Rattle.nc_blocks.specs.declared.blocks.Measure.TheVariants.{Modal}
use Rattle.nc_blocks.specs.declared.pieces.Piece.TheVariants as piece
use Rattle.nc_blocks.specs.Pieces.{plain_piece, number_piece, sign_piece, piece_at}
use Rattle.nc_blocks.specs.Statement.{BlockView, WordBlock, WordView, G, Axis}
use Rattle.nc_blocks.proofs.Places.{kind_read, number_read}
use Rattle.nc_expressions.specs.Symbols.{number_symbol}
use Rattle.nc_expressions.specs.Tree.{Number}
use Rattle.nc_forms.specs.Standing.{IsSignedNumber}
use Rattle.nc_syntax.specs.Blocks.{statement_of}
use Rattle.nc_syntax.specs.Spelled.{IsSpelled, Spells, IsAccepted}
use Rattle.nc_syntax.specs.SpelledWords.{IsGroupWord, IsAxisWord}
use Rattle.nc_syntax.proofs.BlockLaws.{block_only}
use Rattle.word_tables.specs.GroupWords.{small_whole, g_word, word_by_number}
use Rattle.word_tables.specs.LargeNumbers.{is_large, is_large_kind, is_large_token}
use Rattle.word_tables.specs.Refused.{refused_g, refused_before, refused_kind}
use Rattle.sample_laws.proofs.Numbers.{IsShort}
use Rattle.sample_laws.proofs.Scans.{token, tail_of, onto_move, first_move, second_move}

-- ---- the texts of the numbers

slice_at : (line front text following : List ℕ) (first last : ℕ) → line ≡ front ++ (text ++ following) → first ≡ length front → last ≡ first + length text
    → slice_range line first last ≡ text
slice_at line front text following first last whole begins ends =
    let long : last - first ≡ length text = omega arith in
    ap (λ (n : ℕ). take n (drop first line)) long
    ∙ ap (λ (n : ℕ). take (length text) (drop n line)) begins
    ∙ ap (λ (l : List ℕ). take (length text) (drop (length front) l)) whole
    ∙ ap (take (length text)) (drop_at front (text ++ following) (length front) refl)
    ∙ take_at text following (length text) refl

x_text : (front x z : List ℕ) → slice_range (front ++ (x ++ 32 ∷ 90 ∷ z)) (length front) (length front + length x) ≡ x
x_text front x z = slice_at (front ++ (x ++ 32 ∷ 90 ∷ z)) front x (32 ∷ 90 ∷ z) (length front) (length front + length x) refl refl refl

z_text : (front x z : List ℕ) → slice_range (front ++ (x ++ 32 ∷ 90 ∷ z)) (length front + length x + 1 + 1) (length front + length x + 1 + 1 + length z) ≡ z
z_text front x z =
    let first = length front + length x + 1 + 1 in
    let whole : front ++ (x ++ 32 ∷ 90 ∷ z) ≡ (front ++ (x ++ 32 ∷ 90 ∷ [])) ++ (z ++ []) =
    sym (append_assoc front (x ++ 32 ∷ 90 ∷ []) (z ++ [])
    ∙ ap (λ (l : List ℕ). front ++ l) (append_assoc x (32 ∷ 90 ∷ []) (z ++ []) ∙ ap (λ (l : List ℕ). x ++ 32 ∷ 90 ∷ l) (append-nil z))) in
    let begins : length front + length x + 1 + 1 ≡ length (front ++ (x ++ 32 ∷ 90 ∷ [])) =
    let outer = length-append front (x ++ 32 ∷ 90 ∷ []) in
    let inner = length-append x (32 ∷ 90 ∷ []) in
    omega (arith, outer, inner) in
    slice_at (front ++ (x ++ 32 ∷ 90 ∷ z)) (front ++ (x ++ 32 ∷ 90 ∷ [])) z [] first (first + length z) whole begins refl

-- ---- what stands at the place of a number

number_value : (value : ℤ) (digits : Bool) → nat_lt (unsigned_abs value) NUMBER_LIMIT ≡ true → piece.Number value ≡ number_piece (number_symbol (Some value) digits)
unfolding number_piece number_symbol
number_value value digits small = rw small refl

number_stands : (words : WordsView) (at : ℕ) (t : Token) (text : List ℕ) (is : IsShort text) → at < length words.tokens → t ≡ get_or words.tokens at t
    → t.kind ≡ kind.Number → text_of words.line t ≡ text → piece_at words at ≡ piece.Number is.value
number_stands words at t text is within there number text_is =
    let writes : number_of (text_of words.line t) ≡ Some is.value = ap number_of text_is ∙ is.writes in
    sym (number_read words at t (piece.Number is.value) within there number
    (λ digits. number_value is.value digits is.small ∙ sym (ap (λ (o : Option ℤ). number_piece (number_symbol o digits)) writes)))

is_in_range : (line text : List ℕ) (t : Token) → t.kind ≡ kind.Number → text_of line t ≡ text → IsShort text → is_large_token line t ≡ false
unfolding is_large_kind
is_in_range line text t number text_is is =
    ap (λ (k : Kind). is_large_kind k (text_of line t)) number
    ∙ ap (λ (l : List ℕ). is_large (number_of l)) text_is ∙ ap is_large is.writes ∙ ap not is.small

none_any : {A : Type 0} (test : A → Bool) (x : A) (xs : List A) → test x ≡ false → list_any test xs ≡ false → list_any test (x ∷ xs) ≡ false
none_any test x xs first others = ap (λ (b : Bool). b || list_any test xs) first ∙ others

-- ---- the block of the move

-- the words of a move to these positions
abbrev pub move_words : ℤ → ℤ → List WordView
move_words x z = G MOTION_GROUP 1 ∷ Axis (88 ∷ []) Modal (Number x) ∷ Axis (90 ∷ []) Modal (Number z) ∷ []

abbrev pub move_block : ℤ → ℤ → BlockView
move_block x z = record { skip = false; number = None; label = None; statement = WordBlock (move_words x z) }

-- a line of these pieces spells it, where a number from a place on is that of X
move_spelled : (words : WordsView) (x z : ℤ) (middle last : ℕ) → piece_at words 0 ≡ piece.Letter 71 → piece_at words 1 ≡ piece.Number (pos 1000000)
    → piece_at words 2 ≡ piece.Letter 88 → IsSignedNumber words 3 middle x → piece_at words middle ≡ piece.Letter 90 → IsSignedNumber words (middle + 1) last z
    → last ≡ length words.tokens → Spells words (move_block x z)
unfolding Spells IsSpelled word_by_number small_whole g_word
move_spelled words x z middle last g one letter_x at_x letter_z at_z all =
    let motion : IsGroupWord words 0 2 MOTION_GROUP 1 = inl (pos 1000000, g, one, refl, refl) in
    let to_x : IsAxisWord words 2 middle (88 ∷ []) Modal (Number x) = inl (88, x, (letter_x, refl), at_x, refl, refl, refl) in
    let to_z : IsAxisWord words middle last (90 ∷ []) Modal (Number z) = inl (90, z, (letter_z, refl), at_z, refl, refl, refl) in
    (0, 0, 0, refl, refl, refl, (2, motion, (middle, to_x, (last, to_z, sym all))))

accepted_read : (words : WordsView) (block : BlockView) → IsAccepted words false → Spells words block → statement_of words false ≡ Ok block
unfolding statement_of
accepted_read words block accepted spelled = rw (accepted.0, accepted.1) (block_only words block spelled)

-- ---- to positive X

abbrev pub first_words : List ℕ → List ℕ → WordsView
first_words x z = record { line = first_move x z; tokens = onto_move (tail_of 4 x z) }

first_accepted : (x z : List ℕ) → IsShort x → IsShort z → IsAccepted (first_words x z) false
unfolding refused_kind refused_before refused_g g_word small_whole number_of half_away is_large_kind
first_accepted x z is_x is_z =
    let line = first_move x z in
    let test = λ (t : Token). is_large_token line t in
    let t_x = token kind.Number 4 (4 + length x) in
    let t_z = token kind.Number (4 + length x + 1 + 1) (4 + length x + 1 + 1 + length z) in
    let large_x : test t_x ≡ false = is_in_range line x t_x refl (x_text (71 ∷ 49 ∷ 32 ∷ 88 ∷ []) x z) is_x in
    let large_z : test t_z ≡ false = is_in_range line z t_z refl (z_text (71 ∷ 49 ∷ 32 ∷ 88 ∷ []) x z) is_z in
    let from_z : list_any test (t_z ∷ []) ≡ false = none_any test t_z [] large_z refl in
    (refl, none_any test t_x (token (kind.Letter 90) (4 + length x + 1) (4 + length x + 1 + 1 + 0) ∷ t_z ∷ []) large_x from_z)

pub first_block : (x z : List ℕ) (is_x : IsShort x) (is_z : IsShort z) → statement_of (first_words x z) false ≡ Ok (move_block is_x.value is_z.value)
unfolding plain_piece number_piece number_symbol number_of half_away
first_block x z is_x is_z =
    let words = first_words x z in
    let t_x = token kind.Number 4 (4 + length x) in
    let t_z = token kind.Number (4 + length x + 1 + 1) (4 + length x + 1 + 1 + length z) in
    let g : piece_at words 0 ≡ piece.Letter 71 = sym (kind_read words 0 (token (kind.Letter 71) 0 1) (piece.Letter 71) (omega arith) refl refl refl) in
    let one : piece_at words 1 ≡ piece.Number (pos 1000000) =
    sym (number_read words 1 (token kind.Number 1 2) (piece.Number (pos 1000000)) (omega arith) refl refl (λ digits. refl)) in
    let letter_x : piece_at words 2 ≡ piece.Letter 88 = sym (kind_read words 2 (token (kind.Letter 88) 3 4) (piece.Letter 88) (omega arith) refl refl refl) in
    let at_x : piece_at words 3 ≡ piece.Number is_x.value = number_stands words 3 t_x x is_x (omega arith) refl refl (x_text (71 ∷ 49 ∷ 32 ∷ 88 ∷ []) x z) in
    let letter_z : piece_at words 4 ≡ piece.Letter 90 =
    sym (kind_read words 4 (token (kind.Letter 90) (4 + length x + 1) (4 + length x + 1 + 1 + 0)) (piece.Letter 90) (omega arith) refl refl refl) in
    let at_z : piece_at words 5 ≡ piece.Number is_z.value = number_stands words 5 t_z z is_z (omega arith) refl refl (z_text (71 ∷ 49 ∷ 32 ∷ 88 ∷ []) x z) in
    accepted_read words (move_block is_x.value is_z.value) (first_accepted x z is_x is_z)
    (move_spelled words is_x.value is_z.value 4 6 g one letter_x (inl (at_x, refl)) letter_z (inl (at_z, refl)) refl)

-- ---- to negative X

abbrev pub second_words : List ℕ → List ℕ → WordsView
second_words x z = record { line = second_move x z; tokens = onto_move (token (kind.Sign Minus) 4 5 ∷ tail_of 5 x z) }

second_accepted : (x z : List ℕ) → IsShort x → IsShort z → IsAccepted (second_words x z) false
unfolding refused_kind refused_before refused_g g_word small_whole number_of half_away is_large_kind
second_accepted x z is_x is_z =
    let line = second_move x z in
    let test = λ (t : Token). is_large_token line t in
    let t_x = token kind.Number 5 (5 + length x) in
    let t_z = token kind.Number (5 + length x + 1 + 1) (5 + length x + 1 + 1 + length z) in
    let large_x : test t_x ≡ false = is_in_range line x t_x refl (x_text (71 ∷ 49 ∷ 32 ∷ 88 ∷ 45 ∷ []) x z) is_x in
    let large_z : test t_z ≡ false = is_in_range line z t_z refl (z_text (71 ∷ 49 ∷ 32 ∷ 88 ∷ 45 ∷ []) x z) is_z in
    let from_z : list_any test (t_z ∷ []) ≡ false = none_any test t_z [] large_z refl in
    (refl, none_any test t_x (token (kind.Letter 90) (5 + length x + 1) (5 + length x + 1 + 1 + 0) ∷ t_z ∷ []) large_x from_z)

pub second_block : (x z : List ℕ) (is_x : IsShort x) (is_z : IsShort z) → statement_of (second_words x z) false ≡ Ok (move_block (neg_ℤ is_x.value) is_z.value)
unfolding plain_piece number_piece sign_piece number_symbol number_of half_away
second_block x z is_x is_z =
    let words = second_words x z in
    let t_x = token kind.Number 5 (5 + length x) in
    let t_z = token kind.Number (5 + length x + 1 + 1) (5 + length x + 1 + 1 + length z) in
    let g : piece_at words 0 ≡ piece.Letter 71 = sym (kind_read words 0 (token (kind.Letter 71) 0 1) (piece.Letter 71) (omega arith) refl refl refl) in
    let one : piece_at words 1 ≡ piece.Number (pos 1000000) =
    sym (number_read words 1 (token kind.Number 1 2) (piece.Number (pos 1000000)) (omega arith) refl refl (λ digits. refl)) in
    let letter_x : piece_at words 2 ≡ piece.Letter 88 = sym (kind_read words 2 (token (kind.Letter 88) 3 4) (piece.Letter 88) (omega arith) refl refl refl) in
    let minus : piece_at words 3 ≡ piece.Minus = sym (kind_read words 3 (token (kind.Sign Minus) 4 5) piece.Minus (omega arith) refl refl refl) in
    let at_x : piece_at words 4 ≡ piece.Number is_x.value = number_stands words 4 t_x x is_x (omega arith) refl refl (x_text (71 ∷ 49 ∷ 32 ∷ 88 ∷ 45 ∷ []) x z) in
    let letter_z : piece_at words 5 ≡ piece.Letter 90 =
    sym (kind_read words 5 (token (kind.Letter 90) (5 + length x + 1) (5 + length x + 1 + 1 + 0)) (piece.Letter 90) (omega arith) refl refl refl) in
    let at_z : piece_at words 6 ≡ piece.Number is_z.value = number_stands words 6 t_z z is_z (omega arith) refl refl (z_text (71 ∷ 49 ∷ 32 ∷ 88 ∷ 45 ∷ []) x z) in
    accepted_read words (move_block (neg_ℤ is_x.value) is_z.value) (second_accepted x z is_x is_z)
    (move_spelled words (neg_ℤ is_x.value) is_z.value 5 7 g one letter_x (inr (inr (is_x.value, minus, at_x, refl, refl))) letter_z (inl (at_z, refl)) refl)
