-- What is wanted can be given: to each thing some tokens that complete it.
use Rattle.std.proofs.Common.{◌≡◌, ℕ, pos, zero, suc, ◌≤◌, List, [], ◌∷◌, ◌++◌, length, refl, ap, sym, ◌∙◌, Option, Some, None, Bool, true, false, arith}
use Rattle.std.specs.Prelude.{codes}
use Rattle.nc_expressions.specs.declared.levels.Level.{Level}
use Rattle.nc_expressions.specs.declared.levels.Level.TheVariants.{Plain}
use Rattle.nc_expressions.specs.declared.symbols.Symbol.{Symbol}
use Rattle.nc_expressions.specs.declared.symbols.Symbol.TheVariants as symbol
use Rattle.nc_expressions.specs.declared.stack.Bracket.{Bracket}
use Rattle.nc_expressions.specs.declared.stack.Bracket.TheVariants.{Parentheses, Argument, Index}
use Rattle.nc_expressions.specs.Limits.{all_limits, has_room}
use Rattle.nc_expressions.specs.Machine as machine
use Rattle.block_scanner.specs.declared.Kind.TheVariants as kind
use Rattle.nc_expressions.specs.Symbols.{is_word, index_of, name_symbol, is_exponent}
use Rattle.std.proofs.lemmas.Bool.{le-leb}
use Rattle.nc_expressions.specs.declared.trees.BinaryOp.{BinaryOp}
use Rattle.nc_expressions.specs.Levels.{rank}
use Rattle.nc_expressions.specs.Tree.{Tree, Number, Parameter, Indexed, Unary, Binary}
use Rattle.word_tables.specs.GroupWords.{word_by_number, small_whole, g_word}
use Rattle.nc_blocks.specs.Wording.{is_spindle_word}
use Rattle.nc_syntax.specs.Structures.{pass_count}
use Rattle.nc_syntax.specs.Jumps.{way_of}
use Rattle.nc_blocks.specs.Texts.{text_within_quotes}
use Rattle.nc_blocks.specs.declared.pieces.Piece.{Piece}
use Rattle.nc_blocks.specs.declared.pieces.Piece.TheVariants as piece
use Rattle.nc_syntax.specs.Wanted as wanted
use Rattle.nc_syntax.specs.Wanted.{Mark, Wanted, Do, Stack, Refuse, want, on_mark}
use Rattle.nc_syntax.proofs.Wanted.{last, go}
use Rattle.nc_syntax.proofs.Stepping.{end_mark}
use Rattle.nc_syntax.proofs.Breaking.{seen}

-- tokens
abbrev pub token : Piece → List ℕ → Symbol → Mark
token p text s = seen p text (Some s) false false false 22

abbrev pub number : Mark
number = token (piece.Number (pos 1000000)) (codes "1") (symbol.Number (pos 1000000) true)

abbrev pub name : List ℕ → Mark
name text = token piece.Name text symbol.Other

abbrev pub assign : Mark
assign = token piece.Assign (codes "=") symbol.Other

abbrev pub open_sign : Mark
open_sign = token piece.Open (codes "(") symbol.Open

abbrev pub close_sign : Mark
close_sign = token piece.Close (codes ")") symbol.Close

abbrev pub open_bracket : Mark
open_bracket = token piece.OpenBracket (codes "[") symbol.OpenBracket

abbrev pub close_bracket : Mark
close_bracket = token piece.CloseBracket (codes "]") symbol.CloseBracket

abbrev pub comma : Mark
comma = token piece.Comma (codes ",") symbol.Other

abbrev pub quoted : Mark
quoted = token piece.Text (34 ∷ 78 ∷ 34 ∷ []) symbol.Other

abbrev pub letter_p : Mark
letter_p = token (piece.Letter 80) (codes "P") symbol.Other

abbrev pub letter_x : Mark
letter_x = token (piece.Letter 88) (codes "X") symbol.Other

abbrev pub letter_r : Mark
letter_r = token (piece.Letter 82) (codes "R") symbol.Letter

-- what closes the brackets that are open
abbrev pub closer : Bracket → Mark
closer Parentheses = close_sign
closer (Argument f) = close_sign
closer Index = close_bracket

abbrev pub closers : machine.Stack → List Mark
closers [] = []
closers (machine.Prefix op ∷ st) = closers st
closers (machine.Left a op ∷ st) = closers st
closers (machine.Opened b lv ∷ st) = closer b ∷ closers st

abbrev pub value_way : machine.State → List Mark
value_way (machine.Wants st lv) = number ∷ closers st
value_way (machine.WantsIndex st lv) = number ∷ closers st
value_way (machine.WantsArgument f st lv) = open_sign ∷ number ∷ close_sign ∷ closers st
value_way (machine.Has t st lv) = closers st

abbrev pub jump_way : List Mark
jump_way = name (codes "GOTO") ∷ name (codes "AA") ∷ []

-- what completes each thing that is wanted
abbrev pub way : Wanted → List Mark
way (wanted.Assigns w) = assign ∷ []
way (wanted.Opens w) = open_sign ∷ []
way (wanted.Closes w) = close_sign ∷ []
way wanted.ClosesBracket = close_bracket ∷ []
way (wanted.Constant w) = number ∷ []
way (wanted.Value w state) = value_way state
way wanted.Parameter = number ∷ assign ∷ number ∷ []
way wanted.GNumber = number ∷ []
way wanted.Measured = number ∷ []
way wanted.AfterCentre = number ∷ []
way wanted.AfterSlot = assign ∷ number ∷ []
way wanted.AfterDigits = assign ∷ number ∷ []
way wanted.AfterAxis = number ∷ assign ∷ number ∷ []
way wanted.AfterAux = assign ∷ quoted ∷ []
way wanted.AfterAuxDigits = assign ∷ number ∷ []
way wanted.ValueOrText = quoted ∷ []
way wanted.Bracket = open_bracket ∷ number ∷ close_bracket ∷ []
way wanted.AWord = name (codes "CR") ∷ assign ∷ number ∷ []
way wanted.MoreWords = []
way (wanted.Keyword word) = name word ∷ []
way wanted.Commas = comma ∷ []
way wanted.ATarget = name (codes "AA") ∷ []
way wanted.BlockNumber = number ∷ []
way wanted.IfAfter = jump_way
way wanted.AJump = jump_way
way wanted.Signed = number ∷ []
way wanted.MorePairs = name (codes "DEFAULT") ∷ jump_way
way wanted.CounterLetter = letter_r ∷ []
way wanted.Counter = number ∷ []
way wanted.Times = letter_p ∷ assign ∷ number ∷ []
way wanted.RepeatAfter = name (codes "AA") ∷ letter_p ∷ assign ∷ number ∷ []
way wanted.ALabel = name (codes "AA") ∷ []
way wanted.Parentheses = open_sign ∷ close_sign ∷ []
way wanted.CloseOfCall = close_sign ∷ []
way wanted.Passes = letter_p ∷ number ∷ []
way wanted.Count = number ∷ []
way wanted.Displof = name (codes "DISPLOF") ∷ []
way (wanted.MoreAxes used) = []
way wanted.FrameValue = number ∷ []
way wanted.Angle = name (codes "RPL") ∷ assign ∷ number ∷ []
way wanted.TurnEnd = []
way wanted.MoreValues = close_sign ∷ []
way wanted.AxisArgument = letter_x ∷ number ∷ []
way wanted.AfterArgument = number ∷ []
way wanted.ArgumentDigits = number ∷ []
way wanted.MoreArguments = close_sign ∷ []
way wanted.ClearArguments = close_sign ∷ []
way wanted.Quoted = quoted ∷ []
way wanted.InitLast = close_sign ∷ []
way wanted.Wait = quoted ∷ []
way wanted.TextOrNot = quoted ∷ []
way wanted.SetmsAfter = open_sign ∷ number ∷ close_sign ∷ []
way wanted.AfterL = number ∷ open_sign ∷ close_sign ∷ letter_p ∷ number ∷ []
way (wanted.Anything closed) = close_sign ∷ []

abbrev pub ways : Stack → List Mark
ways [] = []
ways (w ∷ st) = way w ++ ways st

-- what becomes of what is wanted, with these tokens and then the end of the line
unfoldable pub ok : Stack → List Mark → Option ℕ
ok st [] = last (on_mark st (end_mark [] false false false 22))
ok st (m ∷ ms) = go (on_mark st m) (λ next. ok next ms)

-- tokens that can stand after an expression
abbrev Clears : Option Symbol → Type 0
Clears None = ⊥
Clears (Some (symbol.Number z digits)) = Unit {0}
Clears (Some (symbol.Truth b)) = Unit {0}
Clears (Some (symbol.Operator op)) = ⊥
Clears (Some symbol.Not) = Unit {0}
Clears (Some (symbol.Function f)) = Unit {0}
Clears (Some symbol.Letter) = Unit {0}
Clears (Some symbol.Open) = Unit {0}
Clears (Some symbol.Close) = Unit {0}
Clears (Some symbol.OpenBracket) = Unit {0}
Clears (Some symbol.CloseBracket) = Unit {0}
Clears (Some symbol.Exponent) = ⊥
Clears (Some symbol.Other) = Unit {0}

abbrev Clear : List Mark → Type 0
Clear [] = Unit {0}
Clear (m ∷ ms) = Clears m.symbol

-- an expression that has ended is left to what is wanted after
ended_next : (t : Tree) (lv : Level) (s : Symbol) → Clears (Some s) → machine.step all_limits (machine.Has t [] lv) s ≡ machine.Ends t
unfolding machine.step machine.on_ended machine.on_other machine.on_close machine.on_close_bracket
ended_next t lv (symbol.Number z digits) h = refl
ended_next t lv (symbol.Truth b) h = refl
ended_next t lv (symbol.Operator op) h = absurd h
ended_next t lv symbol.Not h = refl
ended_next t lv (symbol.Function f) h = refl
ended_next t lv symbol.Letter h = refl
ended_next t lv symbol.Open h = refl
ended_next t lv symbol.Close h = refl
ended_next t lv symbol.OpenBracket h = refl
ended_next t lv symbol.CloseBracket h = refl
ended_next t lv symbol.Exponent h = absurd h
ended_next t lv symbol.Other h = refl

ended_want : (w : Bool) (t : Tree) (lv : Level) (m : Mark) (o : Option Symbol) → Clears o → wanted.value_want w (machine.Has t [] lv) m o ≡ wanted.Pass
ended_want w t lv m None h = absurd h
ended_want w t lv m (Some s) h = ap (wanted.value_next w m) (ended_next t lv s h)

passes : (w : Bool) (t : Tree) (lv : Level) (st : Stack) (ms : List Mark) → Clear ms → ok (wanted.Value w (machine.Has t [] lv) ∷ st) ms ≡ ok st ms
unfolding ok on_mark want machine.finish machine.on_other
passes w t lv st [] h = refl
passes w t lv st (m ∷ ms) h =
    ap (λ (d : Do). go (wanted.on_stack d st (on_mark st m)) (λ next. ok next ms)) (ended_want w t lv m m.symbol h)

-- no sign waits under what waits for an operand that has ended, or for the right operand of an operator
abbrev pub NoPrefix : machine.Stack → Type 0
NoPrefix [] = Unit {0}
NoPrefix (machine.Prefix op ∷ st) = ⊥
NoPrefix (machine.Left a op ∷ st) = Unit {0}
NoPrefix (machine.Opened b lv ∷ st) = Unit {0}

abbrev pub TidyStack : machine.Stack → Type 0
TidyStack [] = Unit {0}
TidyStack (machine.Prefix op ∷ st) = TidyStack st
TidyStack (machine.Left a op ∷ st) = NoPrefix st × TidyStack st
TidyStack (machine.Opened b lv ∷ st) = TidyStack st

abbrev pub TidyState : machine.State → Type 0
TidyState (machine.Wants st lv) = TidyStack st
TidyState (machine.WantsIndex st lv) = TidyStack st
TidyState (machine.WantsArgument f st lv) = TidyStack st
TidyState (machine.Has t st lv) = NoPrefix st × TidyStack st

-- no name of a function stands where its parenthesis would be one too many
abbrev pub HasRoom : machine.State → Type 0
HasRoom (machine.Wants st lv) = Unit {0}
HasRoom (machine.WantsIndex st lv) = Unit {0}
HasRoom (machine.WantsArgument f st lv) = has_room all_limits (machine.depth st) ≡ true
HasRoom (machine.Has t st lv) = Unit {0}

pub attached : (t : Tree) (st : machine.Stack) → TidyStack st →
    NoPrefix (machine.attach t st).1 × TidyStack (machine.attach t st).1 × (closers (machine.attach t st).1 ≡ closers st) × (length (machine.attach t st).1 ≤ length st)
attached t [] h = (tt, tt, refl, omega arith)
attached t (machine.Prefix op ∷ st) h =
    let r = attached (Unary op t) st h in (r.0, r.1, r.2, omega (arith, r.3))
attached t (machine.Left a op ∷ st) h = (tt, h, refl, omega arith)
attached t (machine.Opened b lv ∷ st) h = (tt, h, refl, omega arith)

joined : (t a : Tree) (op : BinaryOp) (st : machine.Stack) → machine.join 0 t (machine.Left a op ∷ st) ≡ machine.join 0 (Binary op a t) st
joined t a op st = rw (le-leb 0 (rank op) (omega arith)) refl

collapsed : (t a : Tree) (op : BinaryOp) (st : machine.Stack) (lv : Level) (s : Symbol) → Clears (Some s) →
    machine.step all_limits (machine.Has t (machine.Left a op ∷ st) lv) s ≡ machine.step all_limits (machine.Has (Binary op a t) st lv) s
unfolding machine.step machine.on_ended
collapsed t a op st lv (symbol.Number z digits) h = ap machine.on_other (joined t a op st)
collapsed t a op st lv (symbol.Truth b) h = ap machine.on_other (joined t a op st)
collapsed t a op st lv (symbol.Operator o) h = absurd h
collapsed t a op st lv symbol.Not h = ap machine.on_other (joined t a op st)
collapsed t a op st lv (symbol.Function f) h = ap machine.on_other (joined t a op st)
collapsed t a op st lv symbol.Letter h = ap machine.on_other (joined t a op st)
collapsed t a op st lv symbol.Open h = ap machine.on_other (joined t a op st)
collapsed t a op st lv symbol.Close h = ap machine.on_close (joined t a op st)
collapsed t a op st lv symbol.OpenBracket h = ap machine.on_other (joined t a op st)
collapsed t a op st lv symbol.CloseBracket h = ap machine.on_close_bracket (joined t a op st)
collapsed t a op st lv symbol.Exponent h = absurd h
collapsed t a op st lv symbol.Other h = ap machine.on_other (joined t a op st)

collapsed_want : (w : Bool) (t a : Tree) (op : BinaryOp) (st : machine.Stack) (lv : Level) (m : Mark) (o : Option Symbol) → Clears o →
    wanted.value_want w (machine.Has t (machine.Left a op ∷ st) lv) m o ≡ wanted.value_want w (machine.Has (Binary op a t) st lv) m o
collapsed_want w t a op st lv m None h = absurd h
collapsed_want w t a op st lv m (Some s) h = ap (wanted.value_next w m) (collapsed t a op st lv s h)

collapse : (w : Bool) (t a : Tree) (op : BinaryOp) (st : machine.Stack) (lv : Level) (rest : Stack) (ms : List Mark) → Clear ms →
    ok (wanted.Value w (machine.Has t (machine.Left a op ∷ st) lv) ∷ rest) ms ≡ ok (wanted.Value w (machine.Has (Binary op a t) st lv) ∷ rest) ms
unfolding ok on_mark want machine.finish
collapse w t a op st lv rest [] h =
    ap (λ (p : Tree × machine.Stack). last (wanted.on_stack (wanted.end_next (machine.on_other p)) rest (on_mark rest (end_mark [] false false false 22)))) (joined t a op st)
collapse w t a op st lv rest (m ∷ ms) h =
    ap (λ (d : Do). go (wanted.on_stack d rest (on_mark rest m)) (λ next. ok next ms)) (collapsed_want w t a op st lv m m.symbol h)

closer_clears : (b : Bracket) → Clears (closer b).symbol
closer_clears Parentheses = tt
closer_clears (Argument f) = tt
closer_clears Index = tt

clear_closers : (st : machine.Stack) (ms : List Mark) → Clear ms → Clear (closers st ++ ms)
clear_closers [] ms h = h
clear_closers (machine.Prefix op ∷ st) ms h = clear_closers st ms h
clear_closers (machine.Left a op ∷ st) ms h = clear_closers st ms h
clear_closers (machine.Opened b lv ∷ st) ms h = closer_clears b

closed_step : (w : Bool) (t : Tree) (b : Bracket) (outer lv : Level) (st : machine.Stack) (rest : Stack) (ms : List Mark) →
    (u : Tree) × (ok (wanted.Value w (machine.Has t (machine.Opened b outer ∷ st) lv) ∷ rest) (closer b ∷ ms) ≡ ok (wanted.Value w (machine.Has (machine.attach u st).0 (machine.attach u st).1 outer) ∷ rest) ms)
unfolding ok on_mark want machine.step machine.on_ended machine.on_close machine.on_close_bracket
closed_step w t Parentheses outer lv st rest ms = (t, refl)
closed_step w t (Argument f) outer lv st rest ms = (Unary f t, refl)
closed_step w t Index outer lv st rest ms = (Indexed t, refl)

value_ends : (n : ℕ) (w : Bool) (t : Tree) (lv : Level) (st : machine.Stack) (rest : Stack) (ms : List Mark) → length st ≤ n → NoPrefix st → TidyStack st → Clear ms →
    ok (wanted.Value w (machine.Has t st lv) ∷ rest) (closers st ++ ms) ≡ ok rest ms
value_ends n w t lv [] rest ms l p h c = passes w t lv rest ms c
value_ends n w t lv (machine.Prefix op ∷ st) rest ms l p h c = absurd p
value_ends zero w t lv (machine.Left a op ∷ st) rest ms l p h c = absurd (omega (arith, l))
value_ends (suc n) w t lv (machine.Left a op ∷ st) rest ms l p h c =
    collapse w t a op st lv rest (closers st ++ ms) (clear_closers st ms c) ∙ value_ends n w (Binary op a t) lv st rest ms (omega (arith, l)) h.0 h.1 c
value_ends zero w t lv (machine.Opened b outer ∷ st) rest ms l p h c = absurd (omega (arith, l))
value_ends (suc n) w t lv (machine.Opened b outer ∷ st) rest ms l p h c =
    let s = closed_step w t b outer lv st rest (closers st ++ ms) in
    let a = attached s.0 st h in
    s.1
    ∙ ap (λ (k : List Mark). ok (wanted.Value w (machine.Has (machine.attach s.0 st).0 (machine.attach s.0 st).1 outer) ∷ rest) (k ++ ms)) (sym a.2)
    ∙ value_ends n w (machine.attach s.0 st).0 outer (machine.attach s.0 st).1 rest ms (omega (arith, l, a.3)) a.0 a.1 c

attach_ends : (w : Bool) (t : Tree) (lv : Level) (st : machine.Stack) (rest : Stack) (ms : List Mark) → TidyStack st → Clear ms →
    ok (wanted.Value w (machine.Has (machine.attach t st).0 (machine.attach t st).1 lv) ∷ rest) (closers st ++ ms) ≡ ok rest ms
attach_ends w t lv st rest ms h c =
    let a = attached t st h in
    ap (λ (k : List Mark). ok (wanted.Value w (machine.Has (machine.attach t st).0 (machine.attach t st).1 lv) ∷ rest) (k ++ ms)) (sym a.2)
    ∙ value_ends (length (machine.attach t st).1) w (machine.attach t st).0 lv (machine.attach t st).1 rest ms (omega arith) a.0 a.1 c

pub value_goes : (w : Bool) (state : machine.State) (rest : Stack) (ms : List Mark) → TidyState state → HasRoom state → Clear ms →
    ok (wanted.Value w state ∷ rest) (value_way state ++ ms) ≡ ok rest ms
unfolding ok on_mark want machine.step machine.on_operand machine.on_index machine.on_argument machine.next_in_bracket index_of
value_goes w (machine.Wants st lv) rest ms h r c = attach_ends w (Number (pos 1000000)) lv st rest ms h c
value_goes w (machine.WantsIndex st lv) rest ms h r c = attach_ends w (Parameter 1) lv st rest ms h c
value_goes w (machine.WantsArgument f st lv) rest ms h r c =
    rw r (value_ends (suc (length st)) w (Number (pos 1000000)) Plain (machine.Opened (Argument f) lv ∷ st) rest ms (omega arith) tt h c)
value_goes w (machine.Has t st lv) rest ms h r c = value_ends (length st) w t lv st rest ms (omega arith) h.0 h.1 c

abbrev pub IsNil : Stack → Type 0
IsNil [] = Unit {0}
IsNil (w ∷ st) = ⊥

-- a keyword is a name, and nothing else to an expression
abbrev pub IsKey : List ℕ → Type 0
IsKey word = (is_word word word ≡ true) × (length word ≤ 32) × (name_symbol word ≡ symbol.Other) × (is_exponent kind.Name word ≡ false)

-- what may stand under a thing that is wanted
abbrev pub TidyItem : Wanted → Stack → Type 0
TidyItem (wanted.Assigns w) st = Unit {0}
TidyItem (wanted.Opens w) st = Unit {0}
TidyItem (wanted.Closes w) st = Unit {0}
TidyItem wanted.ClosesBracket st = Unit {0}
TidyItem (wanted.Constant w) st = Unit {0}
TidyItem (wanted.Value w state) st = TidyState state
TidyItem wanted.Parameter st = Unit {0}
TidyItem wanted.GNumber st = Unit {0}
TidyItem wanted.Measured st = Unit {0}
TidyItem wanted.AfterCentre st = Unit {0}
TidyItem wanted.AfterSlot st = Unit {0}
TidyItem wanted.AfterDigits st = Unit {0}
TidyItem wanted.AfterAxis st = Unit {0}
TidyItem wanted.AfterAux st = Unit {0}
TidyItem wanted.AfterAuxDigits st = Unit {0}
TidyItem wanted.ValueOrText st = Unit {0}
TidyItem wanted.Bracket st = Unit {0}
TidyItem wanted.AWord st = Unit {0}
TidyItem wanted.MoreWords st = IsNil st
TidyItem (wanted.Keyword word) st = IsKey word
TidyItem wanted.Commas st = Unit {0}
TidyItem wanted.ATarget st = Unit {0}
TidyItem wanted.BlockNumber st = Unit {0}
TidyItem wanted.IfAfter st = Unit {0}
TidyItem wanted.AJump st = Unit {0}
TidyItem wanted.Signed st = Unit {0}
TidyItem wanted.MorePairs st = Unit {0}
TidyItem wanted.CounterLetter st = Unit {0}
TidyItem wanted.Counter st = Unit {0}
TidyItem wanted.Times st = Unit {0}
TidyItem wanted.RepeatAfter st = Unit {0}
TidyItem wanted.ALabel st = Unit {0}
TidyItem wanted.Parentheses st = Unit {0}
TidyItem wanted.CloseOfCall st = Unit {0}
TidyItem wanted.Passes st = Unit {0}
TidyItem wanted.Count st = Unit {0}
TidyItem wanted.Displof st = Unit {0}
TidyItem (wanted.MoreAxes used) st = IsNil st
TidyItem wanted.FrameValue st = Unit {0}
TidyItem wanted.Angle st = Unit {0}
TidyItem wanted.TurnEnd st = IsNil st
TidyItem wanted.MoreValues st = Unit {0}
TidyItem wanted.AxisArgument st = Unit {0}
TidyItem wanted.AfterArgument st = Unit {0}
TidyItem wanted.ArgumentDigits st = Unit {0}
TidyItem wanted.MoreArguments st = Unit {0}
TidyItem wanted.ClearArguments st = Unit {0}
TidyItem wanted.Quoted st = Unit {0}
TidyItem wanted.InitLast st = Unit {0}
TidyItem wanted.Wait st = Unit {0}
TidyItem wanted.TextOrNot st = Unit {0}
TidyItem wanted.SetmsAfter st = Unit {0}
TidyItem wanted.AfterL st = Unit {0}
TidyItem (wanted.Anything closed) st = IsNil st

abbrev pub Tidy : Stack → Type 0
Tidy [] = Unit {0}
Tidy (w ∷ st) = TidyItem w st × Tidy st

abbrev pub RoomItem : Wanted → Type 0
RoomItem (wanted.Assigns w) = Unit {0}
RoomItem (wanted.Opens w) = Unit {0}
RoomItem (wanted.Closes w) = Unit {0}
RoomItem wanted.ClosesBracket = Unit {0}
RoomItem (wanted.Constant w) = Unit {0}
RoomItem (wanted.Value w state) = HasRoom state
RoomItem wanted.Parameter = Unit {0}
RoomItem wanted.GNumber = Unit {0}
RoomItem wanted.Measured = Unit {0}
RoomItem wanted.AfterCentre = Unit {0}
RoomItem wanted.AfterSlot = Unit {0}
RoomItem wanted.AfterDigits = Unit {0}
RoomItem wanted.AfterAxis = Unit {0}
RoomItem wanted.AfterAux = Unit {0}
RoomItem wanted.AfterAuxDigits = Unit {0}
RoomItem wanted.ValueOrText = Unit {0}
RoomItem wanted.Bracket = Unit {0}
RoomItem wanted.AWord = Unit {0}
RoomItem wanted.MoreWords = Unit {0}
RoomItem (wanted.Keyword word) = Unit {0}
RoomItem wanted.Commas = Unit {0}
RoomItem wanted.ATarget = Unit {0}
RoomItem wanted.BlockNumber = Unit {0}
RoomItem wanted.IfAfter = Unit {0}
RoomItem wanted.AJump = Unit {0}
RoomItem wanted.Signed = Unit {0}
RoomItem wanted.MorePairs = Unit {0}
RoomItem wanted.CounterLetter = Unit {0}
RoomItem wanted.Counter = Unit {0}
RoomItem wanted.Times = Unit {0}
RoomItem wanted.RepeatAfter = Unit {0}
RoomItem wanted.ALabel = Unit {0}
RoomItem wanted.Parentheses = Unit {0}
RoomItem wanted.CloseOfCall = Unit {0}
RoomItem wanted.Passes = Unit {0}
RoomItem wanted.Count = Unit {0}
RoomItem wanted.Displof = Unit {0}
RoomItem (wanted.MoreAxes used) = Unit {0}
RoomItem wanted.FrameValue = Unit {0}
RoomItem wanted.Angle = Unit {0}
RoomItem wanted.TurnEnd = Unit {0}
RoomItem wanted.MoreValues = Unit {0}
RoomItem wanted.AxisArgument = Unit {0}
RoomItem wanted.AfterArgument = Unit {0}
RoomItem wanted.ArgumentDigits = Unit {0}
RoomItem wanted.MoreArguments = Unit {0}
RoomItem wanted.ClearArguments = Unit {0}
RoomItem wanted.Quoted = Unit {0}
RoomItem wanted.InitLast = Unit {0}
RoomItem wanted.Wait = Unit {0}
RoomItem wanted.TextOrNot = Unit {0}
RoomItem wanted.SetmsAfter = Unit {0}
RoomItem wanted.AfterL = Unit {0}
RoomItem (wanted.Anything closed) = Unit {0}

abbrev pub Roomy : Stack → Type 0
Roomy [] = Unit {0}
Roomy (w ∷ st) = RoomItem w × Roomy st

clear_value : (state : machine.State) (ms : List Mark) → Clear ms → Clear (value_way state ++ ms)
clear_value (machine.Wants st lv) ms c = tt
clear_value (machine.WantsIndex st lv) ms c = tt
clear_value (machine.WantsArgument f st lv) ms c = tt
clear_value (machine.Has t st lv) ms c = clear_closers st ms c

clear_ways : (st : Stack) → Clear (ways st)
clear_ways [] = tt
clear_ways (wanted.Assigns w ∷ st) = tt
clear_ways (wanted.Opens w ∷ st) = tt
clear_ways (wanted.Closes w ∷ st) = tt
clear_ways (wanted.ClosesBracket ∷ st) = tt
clear_ways (wanted.Constant w ∷ st) = tt
clear_ways (wanted.Value w state ∷ st) = clear_value state (ways st) (clear_ways st)
clear_ways (wanted.Parameter ∷ st) = tt
clear_ways (wanted.GNumber ∷ st) = tt
clear_ways (wanted.Measured ∷ st) = tt
clear_ways (wanted.AfterCentre ∷ st) = tt
clear_ways (wanted.AfterSlot ∷ st) = tt
clear_ways (wanted.AfterDigits ∷ st) = tt
clear_ways (wanted.AfterAxis ∷ st) = tt
clear_ways (wanted.AfterAux ∷ st) = tt
clear_ways (wanted.AfterAuxDigits ∷ st) = tt
clear_ways (wanted.ValueOrText ∷ st) = tt
clear_ways (wanted.Bracket ∷ st) = tt
clear_ways (wanted.AWord ∷ st) = tt
clear_ways (wanted.MoreWords ∷ st) = clear_ways st
clear_ways (wanted.Keyword word ∷ st) = tt
clear_ways (wanted.Commas ∷ st) = tt
clear_ways (wanted.ATarget ∷ st) = tt
clear_ways (wanted.BlockNumber ∷ st) = tt
clear_ways (wanted.IfAfter ∷ st) = tt
clear_ways (wanted.AJump ∷ st) = tt
clear_ways (wanted.Signed ∷ st) = tt
clear_ways (wanted.MorePairs ∷ st) = tt
clear_ways (wanted.CounterLetter ∷ st) = tt
clear_ways (wanted.Counter ∷ st) = tt
clear_ways (wanted.Times ∷ st) = tt
clear_ways (wanted.RepeatAfter ∷ st) = tt
clear_ways (wanted.ALabel ∷ st) = tt
clear_ways (wanted.Parentheses ∷ st) = tt
clear_ways (wanted.CloseOfCall ∷ st) = tt
clear_ways (wanted.Passes ∷ st) = tt
clear_ways (wanted.Count ∷ st) = tt
clear_ways (wanted.Displof ∷ st) = tt
clear_ways (wanted.MoreAxes used ∷ st) = clear_ways st
clear_ways (wanted.FrameValue ∷ st) = tt
clear_ways (wanted.Angle ∷ st) = tt
clear_ways (wanted.TurnEnd ∷ st) = clear_ways st
clear_ways (wanted.MoreValues ∷ st) = tt
clear_ways (wanted.AxisArgument ∷ st) = tt
clear_ways (wanted.AfterArgument ∷ st) = tt
clear_ways (wanted.ArgumentDigits ∷ st) = tt
clear_ways (wanted.MoreArguments ∷ st) = tt
clear_ways (wanted.ClearArguments ∷ st) = tt
clear_ways (wanted.Quoted ∷ st) = tt
clear_ways (wanted.InitLast ∷ st) = tt
clear_ways (wanted.Wait ∷ st) = tt
clear_ways (wanted.TextOrNot ∷ st) = tt
clear_ways (wanted.SetmsAfter ∷ st) = tt
clear_ways (wanted.AfterL ∷ st) = tt
clear_ways (wanted.Anything closed ∷ st) = tt

keyword_given : (b : Bool) (st : Stack) (ms : List Mark) → b ≡ true → go (wanted.on_stack (wanted.only_if b) st (Refuse 22)) (λ next. ok next ms) ≡ ok st ms
keyword_given true st ms h = refl
keyword_given false st ms h = cc

number_word : (st : Stack) (ms : List Mark) → ok (wanted.GNumber ∷ st) (number ∷ ms) ≡ ok st ms
unfolding ok on_mark want word_by_number small_whole g_word
number_word st ms = refl

name_given : (word : List ℕ) (st : Stack) (ms : List Mark) → is_word word word ≡ true → ok (wanted.Keyword word ∷ st) (name word ∷ ms) ≡ ok st ms
unfolding ok on_mark want
name_given word st ms h = rw h refl

-- each thing is completed by its tokens
gives : (w : Wanted) (st : Stack) → TidyItem w st → RoomItem w → ok (w ∷ st) (way w ++ ways st) ≡ ok st (ways st)
unfolding ok on_mark want machine.step machine.on_operand machine.finish machine.on_other machine.on_ended machine.on_close machine.on_close_bracket index_of pass_count is_spindle_word way_of text_within_quotes
gives (wanted.Assigns w) st h r = refl
gives (wanted.Opens w) st h r = refl
gives (wanted.Closes w) st h r = refl
gives wanted.ClosesBracket st h r = refl
gives (wanted.Constant w) st h r = refl
gives (wanted.Value w state) st h r = value_goes w state st (ways st) h r (clear_ways st)
gives wanted.Parameter st h r = passes true (Number (pos 1000000)) Plain st (ways st) (clear_ways st)
gives wanted.GNumber st h r = number_word st (ways st)
gives wanted.Measured st h r = passes true (Number (pos 1000000)) Plain st (ways st) (clear_ways st)
gives wanted.AfterCentre st h r = refl
gives wanted.AfterSlot st h r = passes true (Number (pos 1000000)) Plain st (ways st) (clear_ways st)
gives wanted.AfterDigits st h r = passes true (Number (pos 1000000)) Plain st (ways st) (clear_ways st)
gives wanted.AfterAxis st h r = passes true (Number (pos 1000000)) Plain st (ways st) (clear_ways st)
gives wanted.AfterAux st h r = refl
gives wanted.AfterAuxDigits st h r = passes true (Number (pos 1000000)) Plain st (ways st) (clear_ways st)
gives wanted.ValueOrText st h r = refl
gives wanted.Bracket st h r = refl
gives wanted.AWord st h r = passes true (Number (pos 1000000)) Plain st (ways st) (clear_ways st)
gives wanted.MoreWords [] h r = refl
gives wanted.MoreWords (x ∷ st) h r = absurd h
gives (wanted.Keyword word) st h r = name_given word st (ways st) h.0
gives wanted.Commas st h r = refl
gives wanted.ATarget st h r = refl
gives wanted.BlockNumber st h r = refl
gives wanted.IfAfter st h r = refl
gives wanted.AJump st h r = refl
gives wanted.Signed st h r = refl
gives wanted.MorePairs st h r = refl
gives wanted.CounterLetter st h r = refl
gives wanted.Counter st h r = refl
gives wanted.Times st h r = passes false (Number (pos 1000000)) Plain st (ways st) (clear_ways st)
gives wanted.RepeatAfter st h r = passes false (Number (pos 1000000)) Plain st (ways st) (clear_ways st)
gives wanted.ALabel st h r = refl
gives wanted.Parentheses st h r = refl
gives wanted.CloseOfCall st h r = refl
gives wanted.Passes st h r = refl
gives wanted.Count st h r = refl
gives wanted.Displof st h r = refl
gives (wanted.MoreAxes used) [] h r = refl
gives (wanted.MoreAxes used) (x ∷ st) h r = absurd h
gives wanted.FrameValue st h r = refl
gives wanted.Angle st h r = passes false (Number (pos 1000000)) Plain st (ways st) (clear_ways st)
gives wanted.TurnEnd [] h r = refl
gives wanted.TurnEnd (x ∷ st) h r = absurd h
gives wanted.MoreValues st h r = refl
gives wanted.AxisArgument st h r = refl
gives wanted.AfterArgument st h r = refl
gives wanted.ArgumentDigits st h r = refl
gives wanted.MoreArguments st h r = refl
gives wanted.ClearArguments st h r = refl
gives wanted.Quoted st h r = refl
gives wanted.InitLast st h r = refl
gives wanted.Wait st h r = refl
gives wanted.TextOrNot st h r = refl
gives wanted.SetmsAfter st h r = refl
gives wanted.AfterL st h r = refl
gives (wanted.Anything closed) [] h r = refl
gives (wanted.Anything closed) (x ∷ st) h r = absurd h

-- what is wanted can be given
pub goes : (st : Stack) → Tidy st → Roomy st → ok st (ways st) ≡ None
unfolding ok on_mark
goes [] h r = refl
goes (w ∷ st) h r = gives w st h.0 r.0 ∙ goes st h.1 r.1
