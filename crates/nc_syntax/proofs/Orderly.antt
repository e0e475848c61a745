-- What is wanted stays in good order, so it can be given at every place that is reached.
use Rattle.std.proofs.Common.{◌≡◌, ℕ, List, [], ◌∷◌, ◌++◌, length, refl, sym, subst, Option, Some, None, Result, Ok, Err, Bool, true, false, cond, append_assoc}
use Rattle.std.specs.Prelude.{◌&&◌, ◌||◌, ◌==◌, nat_le, codes}
use Rattle.std.specs.List.{list_any}
use Rattle.g_groups.specs.declared.GWord.{GWord}
use Rattle.word_tables.specs.GroupWords.{word_by_number, word_by_name}
use Rattle.nc_expressions.specs.declared.levels.Level.{Level}
use Rattle.nc_expressions.specs.declared.levels.Level.TheVariants.{Plain}
use Rattle.nc_expressions.specs.declared.symbols.Symbol.{Symbol}
use Rattle.nc_expressions.specs.declared.symbols.Symbol.TheVariants as symbol
use Rattle.nc_expressions.specs.declared.stack.Bracket.{Bracket}
use Rattle.nc_expressions.specs.declared.stack.Bracket.TheVariants.{Parentheses, Argument, Index}
use Rattle.nc_expressions.specs.declared.trees.BinaryOp.{BinaryOp}
use Rattle.nc_expressions.specs.declared.trees.BinaryOp.TheVariants as binary
use Rattle.nc_expressions.specs.declared.trees.UnaryOp.{UnaryOp}
use Rattle.nc_expressions.specs.Levels.{rank, kind, joint_level, clash}
use Rattle.nc_expressions.specs.Limits.{all_limits, has_room}
use Rattle.nc_expressions.specs.Machine as machine
use Rattle.nc_expressions.specs.Symbols.{truth, is_word, index_of, is_digits}
use Rattle.nc_expressions.specs.Tree.{Tree, Number, Parameter, Indexed, Unary, Binary}
use Rattle.nc_blocks.specs.declared.blocks.Way.{Way}
use Rattle.nc_blocks.specs.declared.pieces.Piece.{Piece}
use Rattle.nc_blocks.specs.declared.pieces.Piece.TheVariants as piece
use Rattle.nc_blocks.specs.Pieces.{is_name, is_text, is_assign}
use Rattle.nc_blocks.specs.Texts.{text_within_quotes}
use Rattle.nc_blocks.specs.AxisNames.{is_axis_letter, is_digits_piece}
use Rattle.nc_blocks.specs.Wording.{is_open_bracket, is_slot_letter, is_centre_letter, is_aux_letter, is_spindle_word, name_code}
use Rattle.nc_syntax.specs.Jumps.{way_of_piece, is_n}
use Rattle.nc_syntax.specs.Structures.{is_letter, count_of_piece}
use Rattle.nc_forms.specs.Parentheses.{is_open}
use Rattle.nc_forms.specs.Frames.{axis_of, is_slot}
use Rattle.nc_forms.specs.Coordination.{is_wait}
use Rattle.nc_syntax.specs.Wanted as wanted
use Rattle.nc_syntax.specs.Wanted.{Mark, Wanted, Do, Push, Pass, No, Stack, Next, On, Done, Refuse, want, on_mark}
use Rattle.nc_syntax.proofs.Going.{NoPrefix, TidyStack, TidyState, attached, IsKey, TidyItem, Tidy}

-- things under which anything may stand
abbrev pub FreeItem : (machine.State → Type 0) → Wanted → Type 0
FreeItem Free (wanted.Assigns w) = Unit {0}
FreeItem Free (wanted.Opens w) = Unit {0}
FreeItem Free (wanted.Closes w) = Unit {0}
FreeItem Free wanted.ClosesBracket = Unit {0}
FreeItem Free (wanted.Constant w) = Unit {0}
FreeItem Free (wanted.Value w state) = Free state
FreeItem Free wanted.Parameter = Unit {0}
FreeItem Free wanted.GNumber = Unit {0}
FreeItem Free wanted.Measured = Unit {0}
FreeItem Free wanted.AfterCentre = Unit {0}
FreeItem Free wanted.AfterSlot = Unit {0}
FreeItem Free wanted.AfterDigits = Unit {0}
FreeItem Free wanted.AfterAxis = Unit {0}
FreeItem Free wanted.AfterAux = Unit {0}
FreeItem Free wanted.AfterAuxDigits = Unit {0}
FreeItem Free wanted.ValueOrText = Unit {0}
FreeItem Free wanted.Bracket = Unit {0}
FreeItem Free wanted.AWord = Unit {0}
FreeItem Free wanted.MoreWords = ⊥
FreeItem Free (wanted.Keyword word) = IsKey word
FreeItem Free wanted.Commas = Unit {0}
FreeItem Free wanted.ATarget = Unit {0}
FreeItem Free wanted.BlockNumber = Unit {0}
FreeItem Free wanted.IfAfter = Unit {0}
FreeItem Free wanted.AJump = Unit {0}
FreeItem Free wanted.Signed = Unit {0}
FreeItem Free wanted.MorePairs = Unit {0}
FreeItem Free wanted.CounterLetter = Unit {0}
FreeItem Free wanted.Counter = Unit {0}
FreeItem Free wanted.Times = Unit {0}
FreeItem Free wanted.RepeatAfter = Unit {0}
FreeItem Free wanted.ALabel = Unit {0}
FreeItem Free wanted.Parentheses = Unit {0}
FreeItem Free wanted.CloseOfCall = Unit {0}
FreeItem Free wanted.Passes = Unit {0}
FreeItem Free wanted.Count = Unit {0}
FreeItem Free wanted.Displof = Unit {0}
FreeItem Free (wanted.MoreAxes used) = ⊥
FreeItem Free wanted.FrameValue = Unit {0}
FreeItem Free wanted.Angle = Unit {0}
FreeItem Free wanted.TurnEnd = ⊥
FreeItem Free wanted.MoreValues = Unit {0}
FreeItem Free wanted.AxisArgument = Unit {0}
FreeItem Free wanted.AfterArgument = Unit {0}
FreeItem Free wanted.ArgumentDigits = Unit {0}
FreeItem Free wanted.MoreArguments = Unit {0}
FreeItem Free wanted.ClearArguments = Unit {0}
FreeItem Free wanted.Quoted = Unit {0}
FreeItem Free wanted.InitLast = Unit {0}
FreeItem Free wanted.Wait = Unit {0}
FreeItem Free wanted.TextOrNot = Unit {0}
FreeItem Free wanted.SetmsAfter = Unit {0}
FreeItem Free wanted.AfterL = Unit {0}
FreeItem Free (wanted.Anything closed) = ⊥

-- a state in good order, which wants the argument of a function only after its name
abbrev pub FreeState : Option Symbol → machine.State → Type 0
FreeState s (machine.Wants st lv) = TidyStack st
FreeState s (machine.WantsIndex st lv) = TidyStack st
FreeState s (machine.WantsArgument f st lv) = TidyStack st × (s ≡ Some (symbol.Function f))
FreeState s (machine.Has t st lv) = NoPrefix st × TidyStack st

state_tidy : (s : Option Symbol) (state : machine.State) → FreeState s state → TidyState state
state_tidy s (machine.Wants st lv) h = h
state_tidy s (machine.WantsIndex st lv) h = h
state_tidy s (machine.WantsArgument f st lv) h = h.0
state_tidy s (machine.Has t st lv) h = h

-- what is wanted after a token of this symbol
abbrev pub Free : Option Symbol → Stack → Type 0
Free s [] = Unit {0}
Free s (w ∷ st) = FreeItem (FreeState s) w × Free None st

free_item : (s : Option Symbol) (w : Wanted) (st : Stack) → FreeItem (FreeState s) w → TidyItem w st
free_item s (wanted.Assigns w) st h = h
free_item s (wanted.Opens w) st h = h
free_item s (wanted.Closes w) st h = h
free_item s wanted.ClosesBracket st h = h
free_item s (wanted.Constant w) st h = h
free_item s (wanted.Value w state) st h = state_tidy s state h
free_item s wanted.Parameter st h = h
free_item s wanted.GNumber st h = h
free_item s wanted.Measured st h = h
free_item s wanted.AfterCentre st h = h
free_item s wanted.AfterSlot st h = h
free_item s wanted.AfterDigits st h = h
free_item s wanted.AfterAxis st h = h
free_item s wanted.AfterAux st h = h
free_item s wanted.AfterAuxDigits st h = h
free_item s wanted.ValueOrText st h = h
free_item s wanted.Bracket st h = h
free_item s wanted.AWord st h = h
free_item s wanted.MoreWords st h = absurd h
free_item s (wanted.Keyword word) st h = h
free_item s wanted.Commas st h = h
free_item s wanted.ATarget st h = h
free_item s wanted.BlockNumber st h = h
free_item s wanted.IfAfter st h = h
free_item s wanted.AJump st h = h
free_item s wanted.Signed st h = h
free_item s wanted.MorePairs st h = h
free_item s wanted.CounterLetter st h = h
free_item s wanted.Counter st h = h
free_item s wanted.Times st h = h
free_item s wanted.RepeatAfter st h = h
free_item s wanted.ALabel st h = h
free_item s wanted.Parentheses st h = h
free_item s wanted.CloseOfCall st h = h
free_item s wanted.Passes st h = h
free_item s wanted.Count st h = h
free_item s wanted.Displof st h = h
free_item s (wanted.MoreAxes used) st h = absurd h
free_item s wanted.FrameValue st h = h
free_item s wanted.Angle st h = h
free_item s wanted.TurnEnd st h = absurd h
free_item s wanted.MoreValues st h = h
free_item s wanted.AxisArgument st h = h
free_item s wanted.AfterArgument st h = h
free_item s wanted.ArgumentDigits st h = h
free_item s wanted.MoreArguments st h = h
free_item s wanted.ClearArguments st h = h
free_item s wanted.Quoted st h = h
free_item s wanted.InitLast st h = h
free_item s wanted.Wait st h = h
free_item s wanted.TextOrNot st h = h
free_item s wanted.SetmsAfter st h = h
free_item s wanted.AfterL st h = h
free_item s (wanted.Anything closed) st h = absurd h

pub free_tidy : (s : Option Symbol) (ws st : Stack) → Free s ws → Tidy st → Tidy (ws ++ st)
free_tidy s [] st h t = t
free_tidy s (w ∷ ws) st h t = (free_item s w (ws ++ st) h.0, free_tidy None ws st h.1 t)

abbrev pub FreeDo : Option Symbol → Do → Type 0
FreeDo s (Push ws) = Free s ws
FreeDo s Pass = Unit {0}
FreeDo s (No code) = Unit {0}

abbrev TidyNext : Option Symbol → machine.Next → Type 0
TidyNext s (machine.On state) = FreeState s state
TidyNext s (machine.Ends t) = Unit {0}
TidyNext s (machine.Refuse code) = Unit {0}

-- an expression stays in good order
abbrev Good : Tree × machine.Stack → Type 0
Good p = NoPrefix p.1 × TidyStack p.1

good_or : (b : Bool) (p q : Tree × machine.Stack) → Good p → Good q → Good (cond b p q)
good_or true p q h k = h
good_or false p q h k = k

joined : (r : ℕ) (t : Tree) (st : machine.Stack) → NoPrefix st → TidyStack st → Good (machine.join r t st)
joined r t [] n h = (tt, tt)
joined r t (machine.Prefix op ∷ st) n h = absurd n
joined r t (machine.Left a op ∷ st) n h =
    good_or (nat_le r (rank op)) (machine.join r (Binary op a t) st) (t, machine.Left a op ∷ st) (joined r (Binary op a t) st h.0 h.1) (tt, h)
joined r t (machine.Opened b lv ∷ st) n h = (tt, h)

ended : (t : Tree) (lv : Level) (st : machine.Stack) → TidyStack st → TidyState (machine.state_with_tree lv (machine.attach t st))
ended t lv st h = let a = attached t st h in (a.0, a.1)

with_left : (s : Option Symbol) (o : Option Level) (code : ℕ) (op : BinaryOp) (p : Tree × machine.Stack) → Good p → TidyNext s (machine.with_left o code op p)
with_left s (Some lv) code op p h = h
with_left s None code op p h = tt

with_prefix : (s : Option Symbol) (o : Option Level) (code : ℕ) (op : UnaryOp) (st : machine.Stack) → TidyStack st → TidyNext s (machine.with_prefix o code op st)
with_prefix s (Some lv) code op st h = h
with_prefix s None code op st h = tt

with_parameter : (s : Option Symbol) (o : Option ℕ) (st : machine.Stack) (lv : Level) → TidyStack st → TidyNext s (machine.with_parameter o st lv)
with_parameter s (Some i) st lv h = ended (Parameter i) lv st h
with_parameter s None st lv h = tt

opened_or : (s : Option Symbol) (b : Bool) (k : Bracket) (st : machine.Stack) (lv : Level) → TidyStack st → TidyNext s (cond b (machine.On (machine.Wants (machine.Opened k lv ∷ st) Plain)) (machine.Refuse 26))
opened_or s true k st lv h = h
opened_or s false k st lv h = tt

opened : (s : Option Symbol) (k : Bracket) (st : machine.Stack) (lv : Level) → TidyStack st → TidyNext s (machine.next_in_bracket all_limits k st lv)
unfolding machine.next_in_bracket
opened s k st lv h = opened_or s (has_room all_limits (machine.depth st)) k st lv h

sign : (s : Option Symbol) (op : BinaryOp) (st : machine.Stack) (lv : Level) → TidyStack st → TidyNext s (machine.on_sign op st lv)
unfolding machine.on_sign
sign s binary.Add st lv h = h
sign s binary.Sub st lv h = h
sign s binary.Mul st lv h = tt
sign s binary.Div st lv h = tt
sign s binary.WholeDiv st lv h = tt
sign s binary.Modulo st lv h = tt
sign s binary.And st lv h = tt
sign s binary.Or st lv h = tt
sign s binary.Xor st lv h = tt
sign s binary.Equal st lv h = tt
sign s binary.NotEqual st lv h = tt
sign s binary.Greater st lv h = tt
sign s binary.Less st lv h = tt
sign s binary.GreaterEqual st lv h = tt
sign s binary.LessEqual st lv h = tt

stop_case : (s : Option Symbol) (t : Tree) (st : machine.Stack) → TidyNext s (machine.stop t st)
stop_case s t [] = tt
stop_case s t (one ∷ st) = tt

close_case : (s : Option Symbol) (t : Tree) (st : machine.Stack) → TidyStack st → TidyNext s (machine.close_parenthesis t st)
close_case s t [] h = tt
close_case s t (machine.Prefix op ∷ st) h = tt
close_case s t (machine.Left a op ∷ st) h = tt
close_case s t (machine.Opened Parentheses lv ∷ st) h = ended t lv st h
close_case s t (machine.Opened (Argument f) lv ∷ st) h = ended (Unary f t) lv st h
close_case s t (machine.Opened Index lv ∷ st) h = tt

close_bracket_case : (s : Option Symbol) (t : Tree) (st : machine.Stack) → TidyStack st → TidyNext s (machine.close_bracket t st)
close_bracket_case s t [] h = tt
close_bracket_case s t (machine.Prefix op ∷ st) h = tt
close_bracket_case s t (machine.Left a op ∷ st) h = tt
close_bracket_case s t (machine.Opened Parentheses lv ∷ st) h = tt
close_bracket_case s t (machine.Opened (Argument f) lv ∷ st) h = tt
close_bracket_case s t (machine.Opened Index lv ∷ st) h = ended (Indexed t) lv st h

stops : (s : Option Symbol) (p : Tree × machine.Stack) → TidyNext s (machine.on_other p)
unfolding machine.on_other
stops s p = stop_case s p.0 p.1

closes : (s : Option Symbol) (p : Tree × machine.Stack) → Good p → TidyNext s (machine.on_close p)
unfolding machine.on_close
closes s p h = close_case s p.0 p.1 h.1

closes_bracket : (s : Option Symbol) (p : Tree × machine.Stack) → Good p → TidyNext s (machine.on_close_bracket p)
unfolding machine.on_close_bracket
closes_bracket s p h = close_bracket_case s p.0 p.1 h.1

step_tidy : (state : machine.State) (s : Symbol) → TidyState state → TidyNext (Some s) (machine.step all_limits state s)
unfolding machine.step machine.on_operand machine.on_index machine.on_argument machine.on_ended machine.on_operator
step_tidy (machine.Wants st lv) (symbol.Number z digits) h = ended (Number z) lv st h
step_tidy (machine.Wants st lv) (symbol.Truth b) h = ended (Number (truth b)) lv st h
step_tidy (machine.Wants st lv) (symbol.Operator op) h = sign (Some (symbol.Operator op)) op st lv h
step_tidy (machine.Wants st lv) symbol.Not h = with_prefix (Some symbol.Not) _ _ _ st h
step_tidy (machine.Wants st lv) (symbol.Function f) h = (h, refl)
step_tidy (machine.Wants st lv) symbol.Letter h = h
step_tidy (machine.Wants st lv) symbol.Open h = opened (Some symbol.Open) Parentheses st lv h
step_tidy (machine.Wants st lv) symbol.Close h = tt
step_tidy (machine.Wants st lv) symbol.OpenBracket h = tt
step_tidy (machine.Wants st lv) symbol.CloseBracket h = tt
step_tidy (machine.Wants st lv) symbol.Exponent h = tt
step_tidy (machine.Wants st lv) symbol.Other h = tt
step_tidy (machine.WantsIndex st lv) (symbol.Number z true) h = with_parameter (Some (symbol.Number z true)) (index_of z) st lv h
step_tidy (machine.WantsIndex st lv) (symbol.Number z false) h = tt
step_tidy (machine.WantsIndex st lv) (symbol.Truth b) h = tt
step_tidy (machine.WantsIndex st lv) (symbol.Operator op) h = tt
step_tidy (machine.WantsIndex st lv) symbol.Not h = tt
step_tidy (machine.WantsIndex st lv) (symbol.Function f) h = tt
step_tidy (machine.WantsIndex st lv) symbol.Letter h = tt
step_tidy (machine.WantsIndex st lv) symbol.Open h = tt
step_tidy (machine.WantsIndex st lv) symbol.Close h = tt
step_tidy (machine.WantsIndex st lv) symbol.OpenBracket h = h
step_tidy (machine.WantsIndex st lv) symbol.CloseBracket h = tt
step_tidy (machine.WantsIndex st lv) symbol.Exponent h = tt
step_tidy (machine.WantsIndex st lv) symbol.Other h = tt
step_tidy (machine.WantsArgument f st lv) (symbol.Number z digits) h = tt
step_tidy (machine.WantsArgument f st lv) (symbol.Truth b) h = tt
step_tidy (machine.WantsArgument f st lv) (symbol.Operator op) h = tt
step_tidy (machine.WantsArgument f st lv) symbol.Not h = tt
step_tidy (machine.WantsArgument f st lv) (symbol.Function g) h = tt
step_tidy (machine.WantsArgument f st lv) symbol.Letter h = tt
step_tidy (machine.WantsArgument f st lv) symbol.Open h = opened (Some symbol.Open) (Argument f) st lv h
step_tidy (machine.WantsArgument f st lv) symbol.Close h = tt
step_tidy (machine.WantsArgument f st lv) symbol.OpenBracket h = tt
step_tidy (machine.WantsArgument f st lv) symbol.CloseBracket h = tt
step_tidy (machine.WantsArgument f st lv) symbol.Exponent h = tt
step_tidy (machine.WantsArgument f st lv) symbol.Other h = tt
step_tidy (machine.Has t st lv) (symbol.Number z digits) h = stops (Some (symbol.Number z digits)) (machine.join 0 t st)
step_tidy (machine.Has t st lv) (symbol.Truth b) h = stops (Some (symbol.Truth b)) (machine.join 0 t st)
step_tidy (machine.Has t st lv) (symbol.Operator op) h = with_left (Some (symbol.Operator op)) (joint_level lv (kind all_limits op)) (clash lv (kind all_limits op)) op (machine.join (rank op) t st) (joined (rank op) t st h.0 h.1)
step_tidy (machine.Has t st lv) symbol.Not h = stops (Some symbol.Not) (machine.join 0 t st)
step_tidy (machine.Has t st lv) (symbol.Function f) h = stops (Some (symbol.Function f)) (machine.join 0 t st)
step_tidy (machine.Has t st lv) symbol.Letter h = stops (Some symbol.Letter) (machine.join 0 t st)
step_tidy (machine.Has t st lv) symbol.Open h = stops (Some symbol.Open) (machine.join 0 t st)
step_tidy (machine.Has t st lv) symbol.Close h = closes (Some symbol.Close) (machine.join 0 t st) (joined 0 t st h.0 h.1)
step_tidy (machine.Has t st lv) symbol.OpenBracket h = stops (Some symbol.OpenBracket) (machine.join 0 t st)
step_tidy (machine.Has t st lv) symbol.CloseBracket h = closes_bracket (Some symbol.CloseBracket) (machine.join 0 t st) (joined 0 t st h.0 h.1)
step_tidy (machine.Has t st lv) symbol.Exponent h = tt
step_tidy (machine.Has t st lv) symbol.Other h = stops (Some symbol.Other) (machine.join 0 t st)

finish_tidy : (state : machine.State) → TidyNext None (machine.finish state)
unfolding machine.finish
finish_tidy (machine.Wants st lv) = tt
finish_tidy (machine.WantsIndex st lv) = tt
finish_tidy (machine.WantsArgument f st lv) = tt
finish_tidy (machine.Has t st lv) = stops None (machine.join 0 t st)

next_free : (s : Option Symbol) (w : Bool) (m : Mark) (n : machine.Next) → TidyNext s n → FreeDo s (wanted.value_next w m n)
next_free s w m (machine.On state) h = (h, tt)
next_free s w m (machine.Ends t) h = tt
next_free s w m (machine.Refuse code) h = tt

end_free : (s : Option Symbol) (n : machine.Next) → FreeDo s (wanted.end_next n)
end_free s (machine.On state) = tt
end_free s (machine.Ends t) = tt
end_free s (machine.Refuse code) = tt

value_free : (w : Bool) (state : machine.State) (m : Mark) (o : Option Symbol) → TidyState state → FreeDo o (wanted.value_want w state m o)
value_free w state m (Some s) h = next_free (Some s) w m (machine.step all_limits state s) (step_tidy state s h)
value_free w state m None h = end_free None (machine.finish state)

-- each thing wants such things again
free_or : (s : Option Symbol) (b : Bool) (x y : Do) → FreeDo s x → FreeDo s y → FreeDo s (cond b x y)
free_or s true x y h k = h
free_or s false x y h k = k

start_free : (w : Bool) (m : Mark) (o : Option Symbol) → FreeDo o (wanted.value_want w (machine.Wants [] Plain) m o)
start_free w m o = value_free w (machine.Wants [] Plain) m o tt

assign_free : (s : Option Symbol) (p : Piece) (code : ℕ) → FreeDo s (wanted.assign_want p code)
assign_free s piece.Assign code = tt
assign_free s p code = tt

open_free : (s : Option Symbol) (p : Piece) (code : ℕ) → FreeDo s (wanted.open_want p code)
open_free s piece.Open code = tt
open_free s p code = tt

close_free : (s : Option Symbol) (p : Piece) (code : ℕ) → FreeDo s (wanted.close_want p code)
close_free s piece.Close code = tt
close_free s p code = tt

close_bracket_free : (s : Option Symbol) (p : Piece) (code : ℕ) → FreeDo s (wanted.close_bracket_want p code)
close_bracket_free s piece.CloseBracket code = tt
close_bracket_free s p code = tt

number_free : (s : Option Symbol) (p : Piece) (code : ℕ) → FreeDo s (wanted.number_want p code)
number_free s (piece.Number z) code = tt
number_free s p code = tt

index_found : (s : Option Symbol) (o : Option ℕ) → FreeDo s (wanted.assign_index o)
index_found s (Some i) = (tt, (tt, tt))
index_found s None = tt

index_free : (s : Option Symbol) (p : Piece) (text : List ℕ) (code : ℕ) → FreeDo s (wanted.index_want p text code)
index_free s (piece.Number z) text code = free_or s (is_digits text) (wanted.assign_index (index_of z)) (No 22) (index_found s (index_of z)) tt
index_free s p text code = tt

group_free : (s : Option Symbol) (o : Option GWord) (code : ℕ) → FreeDo s (wanted.group_want o code)
group_free s (Some g) code = tt
group_free s None code = tt

g_free : (s : Option Symbol) (p : Piece) (code : ℕ) → FreeDo s (wanted.g_want p code)
g_free s (piece.Number z) code = group_free s (word_by_number z) 57
g_free s p code = tt

signed_free : (s : Option Symbol) (w : Bool) (p : Piece) (code : ℕ) → FreeDo s (wanted.signed_want w p code)
signed_free s w (piece.Number z) code = tt
signed_free s w piece.Plus code = (tt, tt)
signed_free s w piece.Minus code = (tt, tt)
signed_free s w p code = tt

centre_free : (s : Option Symbol) (p : Piece) (code : ℕ) → FreeDo s (wanted.centre_want p code)
centre_free s p code = free_or s (is_assign p) (Push (wanted.Measured ∷ [])) (wanted.signed_want true p code) (tt, tt) (signed_free s true p code)

slot_number_free : (s : Option Symbol) (b : Bool) → FreeDo s (wanted.slot_number b)
slot_number_free s true = (tt, tt)
slot_number_free s false = tt

slot_free : (s : Option Symbol) (p : Piece) (text : List ℕ) (code : ℕ) → FreeDo s (wanted.slot_want p text code)
slot_free s (piece.Number z) text code = slot_number_free s (is_digits text)
slot_free s p text code = centre_free s p code

assign_then : (s : Option Symbol) (ws : Stack) (p : Piece) → Free s ws → FreeDo s (wanted.then_assign ws p)
assign_then s ws piece.Assign h = h
assign_then s ws p h = tt

axis_digits_free : (s : Option Symbol) (b : Bool) → FreeDo s (wanted.axis_digits b)
axis_digits_free s true = (tt, (tt, tt))
axis_digits_free s false = tt

axis_free : (s : Option Symbol) (p : Piece) (text : List ℕ) → FreeDo s (wanted.axis_want p text)
axis_free s (piece.Number z) text = axis_digits_free s (is_digits text)
axis_free s p text = tt

aux_digits_free : (s : Option Symbol) (b : Bool) → FreeDo s (wanted.aux_digits b)
aux_digits_free s true = (tt, tt)
aux_digits_free s false = tt

aux_free : (s : Option Symbol) (p : Piece) (text : List ℕ) (code : ℕ) → FreeDo s (wanted.aux_want p text code)
aux_free s (piece.Number z) text code = aux_digits_free s (is_digits text)
aux_free s piece.Assign text code = (tt, tt)
aux_free s p text code = tt

bracket_free : (s : Option Symbol) (p : Piece) → FreeDo s (wanted.bracket_want p)
bracket_free s piece.OpenBracket = (tt, (tt, tt))
bracket_free s p = tt

parameter_free : (s : Option Symbol) (p : Piece) (text : List ℕ) (code : ℕ) → FreeDo s (wanted.parameter_want p text code)
parameter_free s p text code = free_or s (is_open_bracket p) (Push (wanted.start true ∷ wanted.ClosesBracket ∷ wanted.Assigns true ∷ wanted.start true ∷ [])) (wanted.index_want p text code) (tt, (tt, (tt, (tt, tt)))) (index_free s p text code)

measured_free : (m : Mark) → FreeDo m.symbol (wanted.measured_want m)
measured_free m =
    let v = wanted.value_want true (machine.Wants [] Plain) m m.symbol in
    free_or m.symbol (wanted.is_keyword_mark m (codes "AC")) (Push wanted.in_parentheses) (cond (wanted.is_keyword_mark m (codes "IC")) (Push wanted.in_parentheses) v) (tt, (tt, (tt, tt)))
    (free_or m.symbol (wanted.is_keyword_mark m (codes "IC")) (Push wanted.in_parentheses) v (tt, (tt, (tt, tt))) (start_free true m m.symbol))

text_free : (m : Mark) → FreeDo m.symbol (wanted.text_want m)
text_free m = free_or m.symbol (is_text m.piece) (Push []) (wanted.value_want true (machine.Wants [] Plain) m m.symbol) tt (start_free true m m.symbol)

pub letter_free : (s : Option Symbol) (b : ℕ) → FreeDo s (wanted.letter_want b)
letter_free s b =
    let f = cond (is_axis_letter b) (Push (wanted.AfterAxis ∷ [])) (No 27) in
    let e = cond (is_aux_letter b) (Push (wanted.AfterAux ∷ [])) f in
    let d = cond (is_centre_letter b) (Push (wanted.AfterCentre ∷ [])) e in
    let c = cond (is_slot_letter b) (Push (wanted.AfterSlot ∷ [])) d in
    let a = cond (b == 71) (Push (wanted.GNumber ∷ [])) c in
    free_or s (b == 82) (Push (wanted.Parameter ∷ [])) a (tt, tt)
    (free_or s (b == 71) (Push (wanted.GNumber ∷ [])) c (tt, tt)
    (free_or s (is_slot_letter b) (Push (wanted.AfterSlot ∷ [])) d (tt, tt)
    (free_or s (is_centre_letter b) (Push (wanted.AfterCentre ∷ [])) e (tt, tt)
    (free_or s (is_aux_letter b) (Push (wanted.AfterAux ∷ [])) f (tt, tt)
    (free_or s (is_axis_letter b) (Push (wanted.AfterAxis ∷ [])) (No 27) (tt, tt) tt)))))

pub name_free : (s : Option Symbol) (text : List ℕ) → FreeDo s (wanted.name_want text)
name_free s text =
    let g = wanted.group_want (word_by_name text) (name_code text) in
    let k = cond (is_spindle_word text) (Push (wanted.Bracket ∷ wanted.Assigns true ∷ wanted.start true ∷ [])) g in
    free_or s (is_word text (codes "CR")) (Push (wanted.Assigns true ∷ wanted.start true ∷ [])) k (tt, (tt, tt))
    (free_or s (is_spindle_word text) (Push (wanted.Bracket ∷ wanted.Assigns true ∷ wanted.start true ∷ [])) g (tt, (tt, (tt, tt))) (group_free s (word_by_name text) (name_code text)))

pub word_free : (s : Option Symbol) (p : Piece) (text : List ℕ) → FreeDo s (wanted.word_want p text)
word_free s (piece.Letter b) text = letter_free s b
word_free s piece.Name text = name_free s text
word_free s p text = tt

sure_free : (s : Option Symbol) (b : Bool) → FreeDo s (wanted.only_if b)
sure_free s true = tt
sure_free s false = tt

perhaps_free : (s : Option Symbol) (b : Bool) (ws : Stack) → Free s ws → FreeDo s (wanted.push_if b ws)
perhaps_free s true ws h = h
perhaps_free s false ws h = tt

comma_free : (s : Option Symbol) (p : Piece) → FreeDo s (wanted.comma_want p)
comma_free s piece.Comma = tt
comma_free s p = tt

block_number_free : (s : Option Symbol) (p : Piece) (text : List ℕ) → FreeDo s (wanted.block_number_want p text)
block_number_free s (piece.Number z) text = sure_free s (is_digits text && nat_le (length text) 8)
block_number_free s p text = tt

target_free : (s : Option Symbol) (p : Piece) → FreeDo s (wanted.target_want p)
target_free s piece.Name = tt
target_free s p = free_or s (is_n p) (Push (wanted.BlockNumber ∷ [])) (No 22) (tt, tt) tt

if_free : (s : Option Symbol) (o : Option Way) → FreeDo s (wanted.if_want o)
if_free s (Some way) = (tt, tt)
if_free s None = tt

jump_free : (s : Option Symbol) (o : Option Way) → FreeDo s (wanted.jump_want o)
jump_free s (Some way) = (tt, tt)
jump_free s None = tt

pairs_free : (s : Option Symbol) (d : Bool) (p : Piece) → FreeDo s (wanted.more_pairs d p)
pairs_free s d (piece.Number z) = (tt, (tt, tt))
pairs_free s d piece.Plus = (tt, (tt, (tt, tt)))
pairs_free s d piece.Minus = (tt, (tt, (tt, tt)))
pairs_free s d p = perhaps_free s d (wanted.AJump ∷ []) (tt, tt)

counter_index_free : (s : Option Symbol) (o : Option ℕ) → FreeDo s (wanted.counter_index o)
counter_index_free s (Some i) = tt
counter_index_free s None = tt

counter_free : (s : Option Symbol) (p : Piece) (text : List ℕ) → FreeDo s (wanted.counter_want p text)
counter_free s (piece.Number z) text = free_or s (is_digits text) (wanted.counter_index (index_of z)) (No 22) (counter_index_free s (index_of z)) tt
counter_free s p text = tt

label_free : (s : Option Symbol) (p : Piece) → FreeDo s (wanted.label_want p)
label_free s piece.Name = tt
label_free s p = tt

call_close_free : (s : Option Symbol) (p : Piece) (c : Bool) → FreeDo s (wanted.call_close p c)
call_close_free s piece.Close c = tt
call_close_free s p c = tt

counted_free : (s : Option Symbol) (r : Result ℕ ℕ) → FreeDo s (wanted.count_want r)
counted_free s (Ok n) = tt
counted_free s (Err code) = tt

turn_free : (s : Option Symbol) (b : Bool) (p : Piece) → FreeDo s (wanted.turn_want b p)
turn_free s b piece.End = tt
turn_free s b p = tt

separator_free : (s : Option Symbol) (ws : Stack) (p : Piece) → Free s ws → FreeDo s (wanted.separator_want ws p)
separator_free s ws piece.Comma h = h
separator_free s ws piece.Close h = tt
separator_free s ws p h = tt

digits_free : (s : Option Symbol) (b : Bool) → FreeDo s (wanted.only_digits b)
digits_free s true = (tt, tt)
digits_free s false = tt

argument_free : (s : Option Symbol) (p : Piece) → FreeDo s (wanted.axis_argument p)
argument_free s (piece.Letter b) = free_or s (is_slot_letter b) (Push (wanted.AfterArgument ∷ [])) (wanted.only_digits (is_axis_letter b)) (tt, tt) (digits_free s (is_axis_letter b))
argument_free s p = tt

free_append : (s : Option Symbol) (ws vs : Stack) → Free s ws → Free s vs → Free None vs → Free s (ws ++ vs)
free_append s [] vs h k n = k
free_append s (w ∷ ws) vs h k n = (h.0, free_append None ws vs h.1 n n)

and_then_free : (s : Option Symbol) (vs : Stack) (d : Do) → Free s vs → Free None vs → FreeDo s d → FreeDo s (wanted.and_then vs d)
and_then_free s vs (Push ws) h n k = free_append s ws vs k h n
and_then_free s vs Pass h n k = tt
and_then_free s vs (No code) h n k = tt

clear_free : (m : Mark) (p : Piece) → FreeDo m.symbol (wanted.clear_want m p)
clear_free m piece.Close = tt
clear_free m p = and_then_free m.symbol (wanted.MoreValues ∷ []) (wanted.value_want false (machine.Wants [] Plain) m m.symbol) (tt, tt) (tt, tt) (start_free false m m.symbol)

text_or_free : (s : Option Symbol) (p : Piece) → FreeDo s (wanted.text_or_not p)
text_or_free s piece.Text = tt
text_or_free s p = tt

quoted_free : (s : Option Symbol) (p : Piece) → FreeDo s (wanted.quoted_want p)
quoted_free s piece.Text = tt
quoted_free s p = tt

wait_free : (s : Option Symbol) (p : Piece) (text : List ℕ) → FreeDo s (wanted.wait_want p text)
wait_free s piece.Text text = sure_free s (is_wait (text_within_quotes text))
wait_free s p text = tt

setms_free : (s : Option Symbol) (p : Piece) → FreeDo s (wanted.setms_want p)
setms_free s piece.Open = (tt, (tt, tt))
setms_free s p = tt

call_name_free : (s : Option Symbol) (b : Bool) → FreeDo s (wanted.call_name b)
call_name_free s true = (tt, (tt, tt))
call_name_free s false = tt

call_free : (s : Option Symbol) (p : Piece) (text : List ℕ) → FreeDo s (wanted.call_want p text)
call_free s (piece.Number z) text = call_name_free s (is_digits text && nat_le (length text) 31)
call_free s p text = tt

pub want_free : (w : Wanted) (m : Mark) → FreeItem TidyState w → FreeDo m.symbol (want w m)
unfolding want
want_free (wanted.Assigns w) m h = assign_free m.symbol m.piece (wanted.fail w m)
want_free (wanted.Opens w) m h = open_free m.symbol m.piece (wanted.fail w m)
want_free (wanted.Closes w) m h = close_free m.symbol m.piece (wanted.fail w m)
want_free wanted.ClosesBracket m h = close_bracket_free m.symbol m.piece (wanted.fail true m)
want_free (wanted.Constant w) m h = number_free m.symbol m.piece (wanted.fail w m)
want_free (wanted.Value w state) m h = value_free w state m m.symbol h
want_free wanted.Parameter m h = parameter_free m.symbol m.piece m.text (wanted.fail true m)
want_free wanted.GNumber m h = g_free m.symbol m.piece (wanted.fail true m)
want_free wanted.Measured m h = measured_free m
want_free wanted.AfterCentre m h = centre_free m.symbol m.piece (wanted.fail true m)
want_free wanted.AfterSlot m h = slot_free m.symbol m.piece m.text (wanted.fail true m)
want_free wanted.AfterDigits m h = assign_then m.symbol (wanted.Measured ∷ []) m.piece (tt, tt)
want_free wanted.AfterAxis m h = axis_free m.symbol m.piece m.text
want_free wanted.AfterAux m h = aux_free m.symbol m.piece m.text (wanted.fail true m)
want_free wanted.AfterAuxDigits m h = assign_then m.symbol (wanted.start true ∷ []) m.piece (tt, tt)
want_free wanted.ValueOrText m h = text_free m
want_free wanted.Bracket m h = bracket_free m.symbol m.piece
want_free wanted.AWord m h = word_free m.symbol m.piece m.text
want_free wanted.MoreWords m h = absurd h
want_free (wanted.Keyword word) m h = sure_free m.symbol (wanted.is_keyword_mark m word)
want_free wanted.Commas m h = comma_free m.symbol m.piece
want_free wanted.ATarget m h = target_free m.symbol m.piece
want_free wanted.BlockNumber m h = block_number_free m.symbol m.piece m.text
want_free wanted.IfAfter m h = if_free m.symbol (way_of_piece m.piece m.text)
want_free wanted.AJump m h = jump_free m.symbol (way_of_piece m.piece m.text)
want_free wanted.Signed m h = signed_free m.symbol false m.piece 22
want_free wanted.MorePairs m h = pairs_free m.symbol (wanted.is_keyword_mark m (codes "DEFAULT")) m.piece
want_free wanted.CounterLetter m h = sure_free m.symbol (is_letter m.piece 82)
want_free wanted.Counter m h = counter_free m.symbol m.piece m.text
want_free wanted.Times m h = perhaps_free m.symbol (is_letter m.piece 80) (wanted.Assigns false ∷ wanted.start false ∷ []) (tt, (tt, tt))
want_free wanted.RepeatAfter m h = perhaps_free m.symbol (is_name m.piece) (wanted.Times ∷ []) (tt, tt)
want_free wanted.ALabel m h = label_free m.symbol m.piece
want_free wanted.Parentheses m h = perhaps_free m.symbol (is_open m.piece) (wanted.CloseOfCall ∷ []) (tt, tt)
want_free wanted.CloseOfCall m h = call_close_free m.symbol m.piece m.closes
want_free wanted.Passes m h = perhaps_free m.symbol (is_letter m.piece 80) (wanted.Count ∷ []) (tt, tt)
want_free wanted.Count m h = counted_free m.symbol (count_of_piece m.piece)
want_free wanted.Displof m h = perhaps_free m.symbol (wanted.is_keyword_mark m (codes "DISPLOF")) [] tt
want_free (wanted.MoreAxes used) m h = absurd h
want_free wanted.FrameValue m h = free_or m.symbol (is_assign m.piece) (Push (wanted.start false ∷ [])) (wanted.signed_want false m.piece 22) (tt, tt) (signed_free m.symbol false m.piece 22)
want_free wanted.Angle m h = perhaps_free m.symbol (wanted.is_keyword_mark m (codes "RPL")) (wanted.Assigns false ∷ wanted.start false ∷ []) (tt, (tt, tt))
want_free wanted.TurnEnd m h = absurd h
want_free wanted.MoreValues m h = separator_free m.symbol (wanted.start false ∷ wanted.MoreValues ∷ []) m.piece (tt, (tt, tt))
want_free wanted.AxisArgument m h = argument_free m.symbol m.piece
want_free wanted.AfterArgument m h = perhaps_free m.symbol (is_digits_piece m.piece m.text) [] tt
want_free wanted.ArgumentDigits m h = sure_free m.symbol (is_digits_piece m.piece m.text)
want_free wanted.MoreArguments m h = separator_free m.symbol (wanted.AxisArgument ∷ wanted.MoreArguments ∷ []) m.piece (tt, (tt, tt))
want_free wanted.ClearArguments m h = clear_free m m.piece
want_free wanted.Quoted m h = quoted_free m.symbol m.piece
want_free wanted.InitLast m h = separator_free m.symbol (wanted.Wait ∷ wanted.Closes false ∷ []) m.piece (tt, (tt, tt))
want_free wanted.Wait m h = wait_free m.symbol m.piece m.text
want_free wanted.TextOrNot m h = text_or_free m.symbol m.piece
want_free wanted.SetmsAfter m h = setms_free m.symbol m.piece
want_free wanted.AfterL m h = call_free m.symbol m.piece m.text
want_free (wanted.Anything closed) m h = absurd h

abbrev TidyDo : Do → Stack → Type 0
TidyDo (Push ws) st = Tidy (ws ++ st)
TidyDo Pass st = Unit {0}
TidyDo (No code) st = Unit {0}

free_do : (s : Option Symbol) (d : Do) (st : Stack) → FreeDo s d → Tidy st → TidyDo d st
free_do s (Push ws) st h t = free_tidy s ws st h t
free_do s Pass st h t = tt
free_do s (No code) st h t = tt

more_do : (s : Option Symbol) (d : Do) → FreeDo s d → TidyDo (wanted.and_more d) []
more_do s (Push ws) h =
    let P = λ (k : Stack). Tidy k in
    subst P (sym (append_assoc ws (wanted.MoreWords ∷ []) [])) (free_tidy s ws (wanted.MoreWords ∷ []) h (tt, tt))
more_do s Pass h = tt
more_do s (No code) h = tt

more_words_do : (p : Piece) (text : List ℕ) → TidyDo (wanted.more_words p text) []
more_words_do piece.End text = tt
more_words_do p text = more_do None (wanted.word_want p text) (word_free None p text)

axes_or : (b : Bool) (used : List ℕ) → TidyDo (cond b (No 22) (Push (wanted.FrameValue ∷ wanted.MoreAxes used ∷ []))) []
axes_or true used = tt
axes_or false used = (tt, (tt, tt))

axes_do : (used : List ℕ) (o : Option ℕ) (p : Piece) → TidyDo (wanted.axes_want used o p) []
axes_do used (Some axis) p = axes_or (list_any (λ n. n == axis) used) (used ++ axis ∷ [])
axes_do used None p = tt

more_axes_do : (used : List ℕ) (p : Piece) → TidyDo (wanted.more_axes used p) []
more_axes_do used piece.End = tt
more_axes_do used p = axes_do used (axis_of p) p

end_or : (b : Bool) (code : ℕ) → TidyDo (cond b Pass (No code)) []
end_or true code = tt
end_or false code = tt

anything_do : (closed : Bool) (m : Mark) (p : Piece) → TidyDo (wanted.anything_want closed m p) []
anything_do closed m piece.End = end_or closed m.rest
anything_do closed m piece.Close = (tt, tt)
anything_do closed m piece.Broken = tt
anything_do closed m p = (tt, tt)

turn_do : (b : Bool) (p : Piece) → TidyDo (wanted.turn_want b p) []
turn_do b piece.End = tt
turn_do b p = tt

want_tidy : (w : Wanted) (m : Mark) (st : Stack) → TidyItem w st → Tidy st → TidyDo (want w m) st
unfolding want
want_tidy (wanted.Assigns w) m st h t = free_do m.symbol (want (wanted.Assigns w) m) st (want_free (wanted.Assigns w) m h) t
want_tidy (wanted.Opens w) m st h t = free_do m.symbol (want (wanted.Opens w) m) st (want_free (wanted.Opens w) m h) t
want_tidy (wanted.Closes w) m st h t = free_do m.symbol (want (wanted.Closes w) m) st (want_free (wanted.Closes w) m h) t
want_tidy wanted.ClosesBracket m st h t = free_do m.symbol (want wanted.ClosesBracket m) st (want_free wanted.ClosesBracket m h) t
want_tidy (wanted.Constant w) m st h t = free_do m.symbol (want (wanted.Constant w) m) st (want_free (wanted.Constant w) m h) t
want_tidy (wanted.Value w state) m st h t = free_do m.symbol (want (wanted.Value w state) m) st (want_free (wanted.Value w state) m h) t
want_tidy wanted.Parameter m st h t = free_do m.symbol (want wanted.Parameter m) st (want_free wanted.Parameter m h) t
want_tidy wanted.GNumber m st h t = free_do m.symbol (want wanted.GNumber m) st (want_free wanted.GNumber m h) t
want_tidy wanted.Measured m st h t = free_do m.symbol (want wanted.Measured m) st (want_free wanted.Measured m h) t
want_tidy wanted.AfterCentre m st h t = free_do m.symbol (want wanted.AfterCentre m) st (want_free wanted.AfterCentre m h) t
want_tidy wanted.AfterSlot m st h t = free_do m.symbol (want wanted.AfterSlot m) st (want_free wanted.AfterSlot m h) t
want_tidy wanted.AfterDigits m st h t = free_do m.symbol (want wanted.AfterDigits m) st (want_free wanted.AfterDigits m h) t
want_tidy wanted.AfterAxis m st h t = free_do m.symbol (want wanted.AfterAxis m) st (want_free wanted.AfterAxis m h) t
want_tidy wanted.AfterAux m st h t = free_do m.symbol (want wanted.AfterAux m) st (want_free wanted.AfterAux m h) t
want_tidy wanted.AfterAuxDigits m st h t = free_do m.symbol (want wanted.AfterAuxDigits m) st (want_free wanted.AfterAuxDigits m h) t
want_tidy wanted.ValueOrText m st h t = free_do m.symbol (want wanted.ValueOrText m) st (want_free wanted.ValueOrText m h) t
want_tidy wanted.Bracket m st h t = free_do m.symbol (want wanted.Bracket m) st (want_free wanted.Bracket m h) t
want_tidy wanted.AWord m st h t = free_do m.symbol (want wanted.AWord m) st (want_free wanted.AWord m h) t
want_tidy wanted.MoreWords m [] h t = more_words_do m.piece m.text
want_tidy wanted.MoreWords m (x ∷ st) h t = absurd h
want_tidy (wanted.Keyword word) m st h t = free_do m.symbol (want (wanted.Keyword word) m) st (want_free (wanted.Keyword word) m h) t
want_tidy wanted.Commas m st h t = free_do m.symbol (want wanted.Commas m) st (want_free wanted.Commas m h) t
want_tidy wanted.ATarget m st h t = free_do m.symbol (want wanted.ATarget m) st (want_free wanted.ATarget m h) t
want_tidy wanted.BlockNumber m st h t = free_do m.symbol (want wanted.BlockNumber m) st (want_free wanted.BlockNumber m h) t
want_tidy wanted.IfAfter m st h t = free_do m.symbol (want wanted.IfAfter m) st (want_free wanted.IfAfter m h) t
want_tidy wanted.AJump m st h t = free_do m.symbol (want wanted.AJump m) st (want_free wanted.AJump m h) t
want_tidy wanted.Signed m st h t = free_do m.symbol (want wanted.Signed m) st (want_free wanted.Signed m h) t
want_tidy wanted.MorePairs m st h t = free_do m.symbol (want wanted.MorePairs m) st (want_free wanted.MorePairs m h) t
want_tidy wanted.CounterLetter m st h t = free_do m.symbol (want wanted.CounterLetter m) st (want_free wanted.CounterLetter m h) t
want_tidy wanted.Counter m st h t = free_do m.symbol (want wanted.Counter m) st (want_free wanted.Counter m h) t
want_tidy wanted.Times m st h t = free_do m.symbol (want wanted.Times m) st (want_free wanted.Times m h) t
want_tidy wanted.RepeatAfter m st h t = free_do m.symbol (want wanted.RepeatAfter m) st (want_free wanted.RepeatAfter m h) t
want_tidy wanted.ALabel m st h t = free_do m.symbol (want wanted.ALabel m) st (want_free wanted.ALabel m h) t
want_tidy wanted.Parentheses m st h t = free_do m.symbol (want wanted.Parentheses m) st (want_free wanted.Parentheses m h) t
want_tidy wanted.CloseOfCall m st h t = free_do m.symbol (want wanted.CloseOfCall m) st (want_free wanted.CloseOfCall m h) t
want_tidy wanted.Passes m st h t = free_do m.symbol (want wanted.Passes m) st (want_free wanted.Passes m h) t
want_tidy wanted.Count m st h t = free_do m.symbol (want wanted.Count m) st (want_free wanted.Count m h) t
want_tidy wanted.Displof m st h t = free_do m.symbol (want wanted.Displof m) st (want_free wanted.Displof m h) t
want_tidy (wanted.MoreAxes used) m [] h t = more_axes_do used m.piece
want_tidy (wanted.MoreAxes used) m (x ∷ st) h t = absurd h
want_tidy wanted.FrameValue m st h t = free_do m.symbol (want wanted.FrameValue m) st (want_free wanted.FrameValue m h) t
want_tidy wanted.Angle m st h t = free_do m.symbol (want wanted.Angle m) st (want_free wanted.Angle m h) t
want_tidy wanted.TurnEnd m [] h t = turn_do (is_slot m.piece || m.axis) m.piece
want_tidy wanted.TurnEnd m (x ∷ st) h t = absurd h
want_tidy wanted.MoreValues m st h t = free_do m.symbol (want wanted.MoreValues m) st (want_free wanted.MoreValues m h) t
want_tidy wanted.AxisArgument m st h t = free_do m.symbol (want wanted.AxisArgument m) st (want_free wanted.AxisArgument m h) t
want_tidy wanted.AfterArgument m st h t = free_do m.symbol (want wanted.AfterArgument m) st (want_free wanted.AfterArgument m h) t
want_tidy wanted.ArgumentDigits m st h t = free_do m.symbol (want wanted.ArgumentDigits m) st (want_free wanted.ArgumentDigits m h) t
want_tidy wanted.MoreArguments m st h t = free_do m.symbol (want wanted.MoreArguments m) st (want_free wanted.MoreArguments m h) t
want_tidy wanted.ClearArguments m st h t = free_do m.symbol (want wanted.ClearArguments m) st (want_free wanted.ClearArguments m h) t
want_tidy wanted.Quoted m st h t = free_do m.symbol (want wanted.Quoted m) st (want_free wanted.Quoted m h) t
want_tidy wanted.InitLast m st h t = free_do m.symbol (want wanted.InitLast m) st (want_free wanted.InitLast m h) t
want_tidy wanted.Wait m st h t = free_do m.symbol (want wanted.Wait m) st (want_free wanted.Wait m h) t
want_tidy wanted.TextOrNot m st h t = free_do m.symbol (want wanted.TextOrNot m) st (want_free wanted.TextOrNot m h) t
want_tidy wanted.SetmsAfter m st h t = free_do m.symbol (want wanted.SetmsAfter m) st (want_free wanted.SetmsAfter m h) t
want_tidy wanted.AfterL m st h t = free_do m.symbol (want wanted.AfterL m) st (want_free wanted.AfterL m h) t
want_tidy (wanted.Anything closed) m [] h t = anything_do closed m m.piece
want_tidy (wanted.Anything closed) m (x ∷ st) h t = absurd h

abbrev pub TidyStep : Next → Type 0
TidyStep (On st) = Tidy st
TidyStep Done = Unit {0}
TidyStep (Refuse code) = Unit {0}

act_tidy : (d : Do) (st : Stack) (n : Next) → TidyDo d st → TidyStep n → TidyStep (wanted.on_stack d st n)
act_tidy (Push ws) st n h k = h
act_tidy Pass st n h k = k
act_tidy (No code) st n h k = tt

end_tidy : (p : Piece) → TidyStep (wanted.line_end p)
end_tidy piece.End = tt
end_tidy p = tt

pub take_tidy : (st : Stack) (m : Mark) → Tidy st → TidyStep (on_mark st m)
unfolding on_mark
take_tidy [] m t = end_tidy m.piece
take_tidy (w ∷ st) m t = act_tidy (want w m) st (on_mark st m) (want_tidy w m st t.0 t.1) (take_tidy st m t.1)
