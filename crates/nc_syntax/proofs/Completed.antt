-- Some line that begins so spells a block, where what is wanted has room.
use Rattle.std.proofs.Common.{◌≡◌, ℕ, pos, zero, suc, ◌+◌, ◌<◌, ◌≤◌, List, [], ◌∷◌, ◌++◌, length, take, refl, ap, sym, ◌∙◌, subst, Option, Some, None, Result, Ok, Err, true, false, arith}
use Rattle.std.specs.Prelude.{codes, slice_get}
use Rattle.std.proofs.lemmas.Bool.{le-ltb}
use Rattle.std.proofs.lemmas.List.{length-append, length-take-le}
use Rattle.std.proofs.lemmas.Option.{slice_get_past}
use Rattle.block_scanner.specs.declared.Kind.TheVariants as kind
use Rattle.block_scanner.specs.declared.Sign.TheVariants as sign
use Rattle.block_scanner.specs.declared.Token.{Token}
use Rattle.block_scanner.specs.Scanned.{InOrder, IsScanned}
use Rattle.block_scanner.specs.WordsView.{WordsView}
use Rattle.micro_units.specs.NumberText.{number_of}
use Rattle.micro_units.specs.Rounding.{half_away}
use Rattle.nc_expressions.specs.declared.symbols.Symbol.{Symbol}
use Rattle.nc_expressions.specs.declared.symbols.Symbol.TheVariants as symbol
use Rattle.nc_expressions.specs.declared.stack.Bracket.{Bracket}
use Rattle.nc_expressions.specs.declared.stack.Bracket.TheVariants.{Parentheses, Argument, Index}
use Rattle.nc_expressions.specs.Machine as machine
use Rattle.nc_expressions.specs.Symbols.{symbols_of, symbols_after, symbol_of, name_symbol, value_symbol, is_exponent, kind_symbol, number_symbol, sign_symbol}
use Rattle.nc_blocks.specs.declared.pieces.Piece.{Piece}
use Rattle.nc_blocks.specs.declared.pieces.Piece.TheVariants as piece
use Rattle.nc_blocks.specs.Pieces.{found_piece, piece_of, plain_piece, number_piece, sign_piece, piece_at, found_text, text_at}
use Rattle.nc_blocks.specs.Statement.{BlockView}
use Rattle.nc_syntax.specs.Blocks.{block_of}
use Rattle.nc_syntax.specs.Places.{BeginsAs, GoesOn}
use Rattle.nc_syntax.proofs.BlockLaws.{block_found}
use Rattle.nc_syntax.specs.Wanted as wanted
use Rattle.nc_syntax.specs.Wanted.{Mark, mark_at, Wanted, Stack}
use Rattle.nc_syntax.proofs.Wanted.{follow}
use Rattle.nc_syntax.proofs.Stepping.{mark_past}
use Rattle.nc_syntax.specs.Forms.{Head, AtStart, AfterSlash, AfterN, AtLabel, Named, AtBody, Within, HeadNext, HeadOn, Over, Refused, head_step, state_of, state_next, state_at}
use Rattle.nc_syntax.proofs.Heads.{head_at, head_after, head_last, head_past, head_go, one_head}
use Rattle.nc_syntax.proofs.Breaking.{seen, HeadAlike, head_alike, same_state, comes, reads}
use Rattle.nc_syntax.proofs.Going.{number, name, assign, open_sign, close_sign, open_bracket, close_bracket, comma, quoted, letter_p, letter_x, letter_r, closer, closers, value_way, jump_way, way, ways, TidyItem, Tidy}
use Rattle.nc_syntax.proofs.Viable.{TidyHead, TidyOption, reached_tidy, RoomHead, head_way, head_ok, head_goes}
use Rattle.nc_syntax.proofs.Joined.{add, EndWithin, add_within, begins_added, Fits, added}

-- a token for each mark
fits_number : Fits number
unfolding is_exponent kind_symbol number_symbol number_of half_away piece_of plain_piece number_piece
fits_number = record { which = kind.Number; meaning = symbol.Number (pos 1000000) true; shown = refl; plain = refl; means = refl; stands = λ from. refl }

fits_assign : Fits assign
unfolding is_exponent kind_symbol sign_symbol piece_of plain_piece sign_piece
fits_assign = record { which = kind.Sign sign.Assign; meaning = symbol.Other; shown = refl; plain = refl; means = refl; stands = λ from. refl }

fits_open : Fits open_sign
unfolding is_exponent kind_symbol sign_symbol piece_of plain_piece sign_piece
fits_open = record { which = kind.Sign sign.OpenParenthesis; meaning = symbol.Open; shown = refl; plain = refl; means = refl; stands = λ from. refl }

fits_close : Fits close_sign
unfolding is_exponent kind_symbol sign_symbol piece_of plain_piece sign_piece
fits_close = record { which = kind.Sign sign.CloseParenthesis; meaning = symbol.Close; shown = refl; plain = refl; means = refl; stands = λ from. refl }

fits_open_bracket : Fits open_bracket
unfolding is_exponent kind_symbol sign_symbol piece_of plain_piece sign_piece
fits_open_bracket = record { which = kind.Sign sign.OpenBracket; meaning = symbol.OpenBracket; shown = refl; plain = refl; means = refl; stands = λ from. refl }

fits_close_bracket : Fits close_bracket
unfolding is_exponent kind_symbol sign_symbol piece_of plain_piece sign_piece
fits_close_bracket = record { which = kind.Sign sign.CloseBracket; meaning = symbol.CloseBracket; shown = refl; plain = refl; means = refl; stands = λ from. refl }

fits_comma : Fits comma
unfolding is_exponent kind_symbol sign_symbol piece_of plain_piece sign_piece
fits_comma = record { which = kind.Sign sign.Comma; meaning = symbol.Other; shown = refl; plain = refl; means = refl; stands = λ from. refl }

fits_colon : Fits (seen piece.Colon (codes ":") (Some symbol.Other) false false false 22)
unfolding is_exponent kind_symbol sign_symbol piece_of plain_piece sign_piece
fits_colon = record { which = kind.Sign sign.Colon; meaning = symbol.Other; shown = refl; plain = refl; means = refl; stands = λ from. refl }

fits_quoted : Fits quoted
unfolding is_exponent kind_symbol piece_of plain_piece
fits_quoted = record { which = kind.Text; meaning = symbol.Other; shown = refl; plain = refl; means = refl; stands = λ from. refl }

fits_p : Fits letter_p
unfolding is_exponent kind_symbol piece_of plain_piece
fits_p = record { which = kind.Letter 80; meaning = symbol.Other; shown = refl; plain = refl; means = refl; stands = λ from. refl }

fits_x : Fits letter_x
unfolding is_exponent kind_symbol piece_of plain_piece
fits_x = record { which = kind.Letter 88; meaning = symbol.Other; shown = refl; plain = refl; means = refl; stands = λ from. refl }

fits_r : Fits letter_r
unfolding is_exponent kind_symbol piece_of plain_piece
fits_r = record { which = kind.Letter 82; meaning = symbol.Letter; shown = refl; plain = refl; means = refl; stands = λ from. refl }

fits_name : (text : List ℕ) → length text ≤ 32 → name_symbol text ≡ symbol.Other → is_exponent kind.Name text ≡ false → Fits (name text)
unfolding kind_symbol piece_of plain_piece
fits_name text l s e =
    record {
      which = kind.Name;
      meaning = symbol.Other;
      shown = refl;
      plain = e;
      means = s;
      stands = λ from. rw (le-ltb (from + 32) (from + length text) (omega (arith, l))) refl;
    }

fits_aa : Fits (name (codes "AA"))
unfolding name_symbol value_symbol is_exponent
fits_aa = fits_name (codes "AA") (omega arith) refl refl

fits_goto : Fits (name (codes "GOTO"))
unfolding name_symbol value_symbol is_exponent
fits_goto = fits_name (codes "GOTO") (omega arith) refl refl

fits_cr : Fits (name (codes "CR"))
unfolding name_symbol value_symbol is_exponent
fits_cr = fits_name (codes "CR") (omega arith) refl refl

fits_default : Fits (name (codes "DEFAULT"))
unfolding name_symbol value_symbol is_exponent
fits_default = fits_name (codes "DEFAULT") (omega arith) refl refl

fits_displof : Fits (name (codes "DISPLOF"))
unfolding name_symbol value_symbol is_exponent
fits_displof = fits_name (codes "DISPLOF") (omega arith) refl refl

fits_rpl : Fits (name (codes "RPL"))
unfolding name_symbol value_symbol is_exponent
fits_rpl = fits_name (codes "RPL") (omega arith) refl refl

-- a row of them
abbrev pub AllFit : List Mark → Type 0
AllFit [] = Unit {0}
AllFit (m ∷ ms) = Fits m × AllFit ms

all_append : (ms ns : List Mark) → AllFit ms → AllFit ns → AllFit (ms ++ ns)
all_append [] ns f g = g
all_append (m ∷ ms) ns f g = (f.0, all_append ms ns f.1 g)

fit_closer : (b : Bracket) → Fits (closer b)
fit_closer Parentheses = fits_close
fit_closer (Argument f) = fits_close
fit_closer Index = fits_close_bracket

fit_closers : (st : machine.Stack) → AllFit (closers st)
fit_closers [] = tt
fit_closers (machine.Prefix op ∷ st) = fit_closers st
fit_closers (machine.Left a op ∷ st) = fit_closers st
fit_closers (machine.Opened b lv ∷ st) = (fit_closer b, fit_closers st)

fit_value : (state : machine.State) → AllFit (value_way state)
fit_value (machine.Wants st lv) = (fits_number, fit_closers st)
fit_value (machine.WantsIndex st lv) = (fits_number, fit_closers st)
fit_value (machine.WantsArgument f st lv) = (fits_open, (fits_number, (fits_close, fit_closers st)))
fit_value (machine.Has t st lv) = fit_closers st

fit_jump : AllFit jump_way
fit_jump = (fits_goto, (fits_aa, tt))

fit_way : (w : Wanted) (st : Stack) → TidyItem w st → AllFit (way w)
fit_way (wanted.Assigns w) st h = (fits_assign, tt)
fit_way (wanted.Opens w) st h = (fits_open, tt)
fit_way (wanted.Closes w) st h = (fits_close, tt)
fit_way wanted.ClosesBracket st h = (fits_close_bracket, tt)
fit_way (wanted.Constant w) st h = (fits_number, tt)
fit_way (wanted.Value w state) st h = fit_value state
fit_way wanted.Parameter st h = (fits_number, (fits_assign, (fits_number, tt)))
fit_way wanted.GNumber st h = (fits_number, tt)
fit_way wanted.Measured st h = (fits_number, tt)
fit_way wanted.AfterCentre st h = (fits_number, tt)
fit_way wanted.AfterSlot st h = (fits_assign, (fits_number, tt))
fit_way wanted.AfterDigits st h = (fits_assign, (fits_number, tt))
fit_way wanted.AfterAxis st h = (fits_number, (fits_assign, (fits_number, tt)))
fit_way wanted.AfterAux st h = (fits_assign, (fits_quoted, tt))
fit_way wanted.AfterAuxDigits st h = (fits_assign, (fits_number, tt))
fit_way wanted.ValueOrText st h = (fits_quoted, tt)
fit_way wanted.Bracket st h = (fits_open_bracket, (fits_number, (fits_close_bracket, tt)))
fit_way wanted.AWord st h = (fits_cr, (fits_assign, (fits_number, tt)))
fit_way wanted.MoreWords st h = tt
fit_way (wanted.Keyword word) st h = (fits_name word h.1 h.2 h.3, tt)
fit_way wanted.Commas st h = (fits_comma, tt)
fit_way wanted.ATarget st h = (fits_aa, tt)
fit_way wanted.BlockNumber st h = (fits_number, tt)
fit_way wanted.IfAfter st h = fit_jump
fit_way wanted.AJump st h = fit_jump
fit_way wanted.Signed st h = (fits_number, tt)
fit_way wanted.MorePairs st h = (fits_default, (fits_goto, (fits_aa, tt)))
fit_way wanted.CounterLetter st h = (fits_r, tt)
fit_way wanted.Counter st h = (fits_number, tt)
fit_way wanted.Times st h = (fits_p, (fits_assign, (fits_number, tt)))
fit_way wanted.RepeatAfter st h = (fits_aa, (fits_p, (fits_assign, (fits_number, tt))))
fit_way wanted.ALabel st h = (fits_aa, tt)
fit_way wanted.Parentheses st h = (fits_open, (fits_close, tt))
fit_way wanted.CloseOfCall st h = (fits_close, tt)
fit_way wanted.Passes st h = (fits_p, (fits_number, tt))
fit_way wanted.Count st h = (fits_number, tt)
fit_way wanted.Displof st h = (fits_displof, tt)
fit_way (wanted.MoreAxes used) st h = tt
fit_way wanted.FrameValue st h = (fits_number, tt)
fit_way wanted.Angle st h = (fits_rpl, (fits_assign, (fits_number, tt)))
fit_way wanted.TurnEnd st h = tt
fit_way wanted.MoreValues st h = (fits_close, tt)
fit_way wanted.AxisArgument st h = (fits_x, (fits_number, tt))
fit_way wanted.AfterArgument st h = (fits_number, tt)
fit_way wanted.ArgumentDigits st h = (fits_number, tt)
fit_way wanted.MoreArguments st h = (fits_close, tt)
fit_way wanted.ClearArguments st h = (fits_close, tt)
fit_way wanted.Quoted st h = (fits_quoted, tt)
fit_way wanted.InitLast st h = (fits_close, tt)
fit_way wanted.Wait st h = (fits_quoted, tt)
fit_way wanted.TextOrNot st h = (fits_quoted, tt)
fit_way wanted.SetmsAfter st h = (fits_open, (fits_number, (fits_close, tt)))
fit_way wanted.AfterL st h = (fits_number, (fits_open, (fits_close, (fits_p, (fits_number, tt)))))
fit_way (wanted.Anything closed) st h = (fits_close, tt)

fit_ways : (st : Stack) → Tidy st → AllFit (ways st)
fit_ways [] h = tt
fit_ways (w ∷ st) h = all_append (way w) (ways st) (fit_way w st h.0) (fit_ways st h.1)

fit_head : (h : Head) → TidyHead h → AllFit (head_way h)
fit_head AtStart t = tt
fit_head AfterSlash t = tt
fit_head AfterN t = (fits_number, tt)
fit_head AtLabel t = tt
fit_head (Named text) t = (fits_colon, tt)
fit_head AtBody t = tt
fit_head (Within st) t = fit_ways st t

-- what stands in the same way in two lines, and in a third
begins_through : (words middle other : WordsView) (count more : ℕ) → count ≤ more → BeginsAs words count middle → BeginsAs middle more other → BeginsAs words count other
begins_through words middle other count more l a b at h =
    let x = a at h in
    let y = b at (omega (arith, l, h)) in
    (x.0 ∙ y.0, x.1 ∙ y.1, x.2 ∙ y.2)

-- a line that begins so and is read to its end
abbrev IsCompleted : WordsView → ℕ → Type 0
IsCompleted words count = (other : WordsView) × BeginsAs words count other × (head_at other 0 AtStart ≡ None)

begins_alone : (words : WordsView) (count : ℕ) → BeginsAs words count words
begins_alone words count at h = (refl, refl, refl)

-- the end of the line
last_alike : (n m : HeadNext) → HeadAlike n m → head_last n ≡ None → head_last m ≡ None
last_alike (HeadOn h) m a e = cc
last_alike Over (HeadOn h) a e = absurd a
last_alike Over Over a e = refl
last_alike Over (Refused code) a e = absurd a
last_alike (Refused code) m a e = cc

no_text : (words : WordsView) (at : ℕ) → length words.tokens ≤ at → text_at words at ≡ []
unfolding text_at
no_text words at h = ap (found_text words.line) (slice_get_past words.tokens at h)

ends : (words : WordsView) (h : Head) → head_ok h [] ≡ None → head_at words (length words.tokens) h ≡ None
unfolding head_ok
ends words h e =
    let at = length words.tokens in
    let within : length words.tokens ≤ at = omega arith in
    let m = mark_at words at in
    let P : Mark → Type 0 = λ k. head_last (head_step h k) ≡ None in
    let T : List ℕ → Type 0 = λ text. P (seen piece.End text None m.closes m.axis m.later m.rest) in
    let alike = head_alike h piece.End [] None false false false 22 m.closes m.axis m.later m.rest in
    let empty : T [] = last_alike (head_step h (seen piece.End [] None false false false 22)) (head_step h (seen piece.End [] None m.closes m.axis m.later m.rest)) alike e in
    let past : T m.text = subst T (sym (no_text words at within)) empty in
    head_past words at h within ∙ subst P (sym (mark_past words at within)) past

-- a token that shows a mark does what the mark does
shown_step : (words : WordsView) (m : Mark) (at : ℕ) (h : Head) → (piece_at words at ≡ m.piece) × (text_at words at ≡ m.text) × (slice_get (symbols_of words) at ≡ m.symbol) →
    HeadAlike (head_step h m) (head_step h (mark_at words at))
shown_step words m at h e =
    let n = mark_at words at in
    let Same = λ (p : Piece). λ (t : List ℕ). λ (s : Option Symbol). HeadAlike (head_step h m) (head_step h (seen p t s n.closes n.axis n.later n.rest)) in
    let one : Same m.piece m.text m.symbol = head_alike h m.piece m.text m.symbol m.closes m.axis m.later m.rest n.closes n.axis n.later n.rest in
    let two : Same n.piece m.text m.symbol = subst (λ (p : Piece). Same p m.text m.symbol) (sym e.0) one in
    let three : Same n.piece n.text m.symbol = subst (λ (t : List ℕ). Same n.piece t m.symbol) (sym e.1) two in
    subst (λ (s : Option Symbol). Same n.piece n.text s) (sym e.2) three

on_alike : (n m : HeadNext) (h : Head) → n ≡ HeadOn h → HeadAlike n m → m ≡ HeadOn h
on_alike (HeadOn x) (HeadOn y) h e a = ap (λ (k : Head). HeadOn k) (sym a) ∙ e
on_alike (HeadOn x) Over h e a = absurd a
on_alike (HeadOn x) (Refused code) h e a = absurd a
on_alike Over m h e a = cc
on_alike (Refused code) m h e a = cc

over_alike : (n m : HeadNext) → n ≡ Over → HeadAlike n m → m ≡ Over
over_alike (HeadOn x) m e a = cc
over_alike Over (HeadOn y) e a = absurd a
over_alike Over Over e a = refl
over_alike Over (Refused code) e a = absurd a
over_alike (Refused code) m e a = cc

-- one mark more, by what it does
next_mark : (words : WordsView) (h : Head) (m : Mark) (ms : List Mark) (n : HeadNext) (f : Fits m) → EndWithin (length words.line) words.tokens →
    state_at words (length words.tokens) ≡ Some h → head_step h m ≡ n → head_go n (λ next. head_ok next ms) ≡ None →
    ((next : Head) → state_at (add words f.which m.text) (length (add words f.which m.text).tokens) ≡ Some next → head_ok next ms ≡ None → IsCompleted (add words f.which m.text) (length (add words f.which m.text).tokens)) →
    IsCompleted words (length words.tokens)
next_mark words h m ms (HeadOn next) f w s d e again =
    let other = add words f.which m.text in
    let at = length words.tokens in
    let begins = begins_added words f.which m.text w in
    let long : length other.tokens ≡ suc at = length-append words.tokens _ ∙ omega arith in
    let same : state_at other at ≡ Some h = sym (same_state words other at at begins (omega arith)) ∙ s in
    let step = on_alike (head_step h m) (head_step h (mark_at other at)) next d (shown_step other m at h (added words m f w)) in
    let state : state_at other (suc at) ≡ Some next = ap (λ (o : Option Head). state_next o (mark_at other at)) same ∙ ap state_of step in
    let found = again next (ap (state_at other) long ∙ state) e in
    (found.0, begins_through words other found.0 at (length other.tokens) (omega (arith, long)) begins found.1, found.2)
next_mark words h m ms Over f w s d e again =
    let other = add words f.which m.text in
    let at = length words.tokens in
    let begins = begins_added words f.which m.text w in
    let same : state_at other at ≡ Some h = sym (same_state words other at at begins (omega arith)) ∙ s in
    let step = over_alike (head_step h m) (head_step h (mark_at other at)) d (shown_step other m at h (added words m f w)) in
    (other, begins, comes other at h same ∙ one_head other at h ∙ ap (head_after other at) step)
next_mark words h m ms (Refused code) f w s d e again = cc

-- the marks of a row, one by one
completed : (ms : List Mark) (words : WordsView) (h : Head) → AllFit ms → EndWithin (length words.line) words.tokens → state_at words (length words.tokens) ≡ Some h → head_ok h ms ≡ None →
    IsCompleted words (length words.tokens)
unfolding head_ok
completed [] words h f w s e =
    (words, begins_alone words (length words.tokens), comes words (length words.tokens) h s ∙ ends words h e)
completed (m ∷ ms) words h f w s e =
    let other = add words f.0.which m.text in
    next_mark words h m ms (head_step h m) f.0 w s refl e
    (λ (next : Head) (t : state_at other (length other.tokens) ≡ Some next) (k : head_ok next ms ≡ None). completed ms other next f.1 (add_within words f.0.which m.text w) t k)

-- the tokens before a place
abbrev before : WordsView → ℕ → WordsView
before words at = record { line = words.line; tokens = take at words.tokens }

order_within : (from to : ℕ) (ts : List Token) → InOrder from ts to → from ≤ to
order_within from to [] h = h
order_within from to (t ∷ ts) h = omega (arith, h.0, h.1, order_within t.end to ts h.2)

all_within : (from to : ℕ) (ts : List Token) → InOrder from ts to → EndWithin to ts
all_within from to [] h = tt
all_within from to (t ∷ ts) h = (order_within t.end to ts h.2, all_within t.end to ts h.2)

take_within : (n at : ℕ) (ts : List Token) → EndWithin n ts → EndWithin n (take at ts)
take_within n zero ts w = tt
take_within n (suc at) [] w = tt
take_within n (suc at) (t ∷ ts) w = (w.0, take_within n at ts w.1)

get_taken : {A : Type 0} (xs : List A) (count at : ℕ) → at < count → slice_get xs at ≡ slice_get (take count xs) at
get_taken xs zero at h = absurd (omega (arith, h))
get_taken [] (suc count) at h = refl
get_taken (x ∷ xs) (suc count) zero h = refl
get_taken (x ∷ xs) (suc count) (suc at) h = get_taken xs count at (omega (arith, h))

symbols_taken : (line : List ℕ) (b : Option Token) (ts : List Token) (count : ℕ) → take count (symbols_after line b ts) ≡ symbols_after line b (take count ts)
symbols_taken line b ts zero = refl
symbols_taken line b [] (suc count) = refl
symbols_taken line b (t ∷ ts) (suc count) = ap (λ (ss : List Symbol). symbol_of line b t ∷ ss) (symbols_taken line (Some t) ts count)

begins_before : (words : WordsView) (count : ℕ) → BeginsAs words count (before words count)
unfolding piece_at text_at symbols_of
begins_before words count at l =
    let other = before words count in
    let tokens : slice_get words.tokens at ≡ slice_get other.tokens at = get_taken words.tokens count at l in
    let symbols : slice_get (symbols_of words) at ≡ slice_get (symbols_of other) at =
    get_taken (symbols_of words) count at l
    ∙ ap (λ (ss : List Symbol). slice_get ss at) (symbols_taken words.line None words.tokens count) in (
      ap (λ (t : Option Token). found_piece t (slice_get (symbols_of words) at)) tokens ∙ ap (found_piece (slice_get other.tokens at)) symbols,
      ap (found_text words.line) tokens,
      symbols,
    )

spelled_block : (r : Result BlockView ℕ) → follow r (λ b. None) ≡ None → (b : BlockView) × (r ≡ Ok b)
spelled_block (Ok b) h = (b, refl)
spelled_block (Err code) h = cc

-- where what is wanted has room, some line that begins so spells a block
pub goes_on : (words : WordsView) (at : ℕ) (h : Head) → IsScanned words → at ≤ length words.tokens → state_at words at ≡ Some h → RoomHead h → GoesOn words at
goes_on words at h scanned l s r =
    let other = before words at in
    let long : length other.tokens ≡ at = length-take-le at words.tokens l in
    let begins = begins_before words at in
    let same : state_at other (length other.tokens) ≡ Some h = ap (state_at other) long ∙ sym (same_state words other at at begins (omega arith)) ∙ s in
    let tidy : TidyHead h = subst TidyOption s (reached_tidy words at) in
    let within = take_within (length words.line) at words.tokens (all_within 0 (length words.line) words.tokens scanned.ordered) in
    let found = completed (head_way h) other h (fit_head h tidy) within same (head_goes h tidy r) in
    let block = spelled_block (block_of found.0) (sym (reads found.0) ∙ found.2) in
    (found.0, block.0, begins_through words other found.0 at (length other.tokens) (omega (arith, long)) begins found.1, block_found found.0 block.0 block.1)
