-- Law. What may stand at a place of a line, and what a token that may not is refused with.
use Rattle.std.specs.Prelude.{ℕ, nat_le, ◌==◌, Bool, true, false, ◌&&◌, ◌||◌, List, [], ◌∷◌, ◌++◌, length, drop, slice_get, Option, Some, None, Result, Ok, Err, if◌then◌else◌, codes}
use Rattle.std.specs.List.{list_any}
use Rattle.block_scanner.specs.WordsView.{WordsView}
use Rattle.g_groups.specs.declared.GWord.{GWord}
use Rattle.word_tables.specs.GroupWords.{word_by_number, word_by_name}
use Rattle.nc_expressions.specs.declared.symbols.Symbol.{Symbol}
use Rattle.nc_expressions.specs.declared.levels.Level.TheVariants.{Plain}
use Rattle.nc_expressions.specs.Limits.{all_limits}
use Rattle.nc_expressions.specs.Machine as machine
use Rattle.nc_expressions.specs.Symbols.{symbols_of, is_word, index_of, is_digits}
use Rattle.nc_blocks.specs.declared.pieces.Piece.{Piece}
use Rattle.nc_blocks.specs.declared.pieces.Piece.TheVariants as piece
use Rattle.nc_blocks.specs.Pieces.{piece_at, text_at, is_name, is_text, is_assign}
use Rattle.nc_blocks.specs.Marks.{code_of, word_code_of}
use Rattle.nc_blocks.specs.AxisNames.{is_axis_letter, is_digits_piece, has_axis_word}
use Rattle.nc_blocks.specs.Texts.{text_within_quotes}
use Rattle.nc_blocks.specs.declared.blocks.Way.{Way}
use Rattle.nc_syntax.specs.Jumps.{way_of_piece, is_n}
use Rattle.nc_syntax.specs.Structures.{is_letter, has_close, count_of_piece}
use Rattle.nc_forms.specs.Parentheses.{is_close_kind, is_open}
use Rattle.nc_forms.specs.Frames.{axis_of, is_slot}
use Rattle.nc_forms.specs.Coordination.{is_wait, last_close}
use Rattle.nc_blocks.specs.Wording.{is_open_bracket, is_slot_letter, is_centre_letter, is_aux_letter, is_spindle_word, name_code}

-- what a place of a line shows: the piece, the text and the symbol that stand there. What stands elsewhere changes the code of
-- a refusal alone: whether some ) stands in the line, whether an axis name and = stand there, whether some ) stands there or
-- after it, and the refusal of what stands after the last )
pub record Mark : Type 0 where
  pub piece : Piece
  pub text : List ℕ
  pub symbol : Option Symbol
  pub closes : Bool
  pub axis : Bool
  pub later : Bool
  pub rest : ℕ

-- the refusal of what stands after the last ) of a line
abbrev pub rest_of : WordsView → Result ℕ ℕ → ℕ
rest_of words (Ok end) = code_of (piece_at words end) 24
rest_of words (Err code) = 22

-- some ) stands at a place or after it
unfoldable pub has_close_from : WordsView → ℕ → Bool
has_close_from words at = list_any (λ token. is_close_kind token.kind) (drop at words.tokens)

-- what a place of a line shows
abbrev pub mark_at : WordsView → ℕ → Mark
mark_at words at =
    record {
      piece = piece_at words at;
      text = text_at words at;
      symbol = slice_get (symbols_of words) at;
      closes = has_close words;
      axis = has_axis_word words at;
      later = has_close_from words at;
      rest = rest_of words (last_close words.tokens);
    }

-- what may be wanted at a place: each has its row in `want`. A Boolean says whether it is a part of a word block, where the
-- first name of another form is 24; that of Anything says whether ) came last
pub data Wanted : Type 0 where
  Assigns : Bool → Wanted
  Opens : Bool → Wanted
  Closes : Bool → Wanted
  ClosesBracket : Wanted
  Constant : Bool → Wanted
  Value : Bool → machine.State → Wanted
  Parameter : Wanted
  GNumber : Wanted
  Measured : Wanted
  AfterCentre : Wanted
  AfterSlot : Wanted
  AfterDigits : Wanted
  AfterAxis : Wanted
  AfterAux : Wanted
  AfterAuxDigits : Wanted
  ValueOrText : Wanted
  Bracket : Wanted
  AWord : Wanted
  MoreWords : Wanted
  Keyword : List ℕ → Wanted
  Commas : Wanted
  ATarget : Wanted
  BlockNumber : Wanted
  IfAfter : Wanted
  AJump : Wanted
  Signed : Wanted
  MorePairs : Wanted
  CounterLetter : Wanted
  Counter : Wanted
  Times : Wanted
  RepeatAfter : Wanted
  ALabel : Wanted
  Parentheses : Wanted
  CloseOfCall : Wanted
  Passes : Wanted
  Count : Wanted
  Displof : Wanted
  MoreAxes : List ℕ → Wanted
  FrameValue : Wanted
  Angle : Wanted
  TurnEnd : Wanted
  MoreValues : Wanted
  AxisArgument : Wanted
  AfterArgument : Wanted
  ArgumentDigits : Wanted
  MoreArguments : Wanted
  ClearArguments : Wanted
  Quoted : Wanted
  InitLast : Wanted
  Wait : Wanted
  TextOrNot : Wanted
  SetmsAfter : Wanted
  Anything : Bool → Wanted
  AfterL : Wanted

-- what a token does to what is wanted: it is taken, and these are wanted next; it is left to what is wanted after; or it is
-- refused with this code
pub data Do : Type 0 where
  Push : List Wanted → Do
  Pass : Do
  No : ℕ → Do

-- an expression, of which nothing is read
abbrev pub start : Bool → Wanted
start w = Value w (machine.Wants [] Plain)

-- the refusal of what is not wanted: 22, and 24 of the first name of another form in a word block
abbrev pub fail_of : Bool → Piece → List ℕ → ℕ
fail_of true p text = word_code_of p text
fail_of false p text = 22

-- the same, of what a place shows
abbrev pub fail : Bool → Mark → ℕ
fail w m = fail_of w m.piece m.text

-- =
abbrev pub assign_want : Piece → ℕ → Do
assign_want piece.Assign code = Push []
assign_want one code = No code

-- (
abbrev pub open_want : Piece → ℕ → Do
open_want piece.Open code = Push []
open_want one code = No code

-- )
abbrev pub close_want : Piece → ℕ → Do
close_want piece.Close code = Push []
close_want one code = No code

-- ]
abbrev pub close_bracket_want : Piece → ℕ → Do
close_bracket_want piece.CloseBracket code = Push []
close_bracket_want one code = No code

-- a number
abbrev pub number_want : Piece → ℕ → Do
number_want (piece.Number z) code = Push []
number_want one code = No code

-- a symbol goes on in the expression, is no more of it, or is refused by it
abbrev pub value_next : Bool → Mark → machine.Next → Do
value_next w m (machine.On state) = Push (Value w state ∷ [])
value_next w m (machine.Ends t) = Pass
value_next w m (machine.Refuse code) = No (if w then (if code == 22 then word_code_of m.piece m.text else code) else code)

-- at the end of the line an expression is over, or refused
abbrev pub end_next : machine.Next → Do
end_next (machine.On state) = No 22
end_next (machine.Ends t) = Pass
end_next (machine.Refuse code) = No code

-- a symbol of the expression that is being read
abbrev pub value_want : Bool → machine.State → Mark → Option Symbol → Do
value_want w state m (Some s) = value_next w m (machine.step all_limits state s)
value_want w state m None = end_next (machine.finish state)

-- a parameter of this number, and its value
abbrev pub assign_index : Option ℕ → Do
assign_index (Some i) = Push (Assigns true ∷ start true ∷ [])
assign_index None = No 22

-- the number of a parameter: digits alone, 0 to 999 by their value
abbrev pub index_want : Piece → List ℕ → ℕ → Do
index_want (piece.Number z) text code = if is_digits text then assign_index (index_of z) else No 22
index_want one text code = No code

-- a word of a group, or this refusal
abbrev pub group_want : Option GWord → ℕ → Do
group_want (Some g) code = Push []
group_want None code = No code

-- a number that names a word of a group: any other is 57
abbrev pub g_want : Piece → ℕ → Do
g_want (piece.Number z) code = group_want (word_by_number z) 57
g_want one code = No code

-- a number, or a sign and then a number
abbrev pub signed_want : Bool → Piece → ℕ → Do
signed_want w (piece.Number z) code = Push []
signed_want w piece.Plus code = Push (Constant w ∷ [])
signed_want w piece.Minus code = Push (Constant w ∷ [])
signed_want w one code = No code

-- this name stands there
abbrev pub is_keyword_mark : Mark → List ℕ → Bool
is_keyword_mark m word = is_name m.piece && is_word m.text word

-- ( expr )
abbrev pub in_parentheses : List Wanted
in_parentheses = Opens true ∷ start true ∷ Closes true ∷ []

-- a value of an axis: AC or IC with parentheses, or an expression
abbrev pub measured_want : Mark → Do
measured_want m =
    if is_keyword_mark m (codes "AC") then Push in_parentheses
    else if is_keyword_mark m (codes "IC") then Push in_parentheses
    else value_want true (machine.Wants [] Plain) m m.symbol

-- = and a value of an axis, or a number with its sign if it has one
abbrev pub centre_want : Piece → ℕ → Do
centre_want p code = if is_assign p then Push (Measured ∷ []) else signed_want true p code

-- digits alone may be those of an axis name, with = after them
abbrev pub slot_number : Bool → Do
slot_number true = Push (AfterDigits ∷ [])
slot_number false = Push []

-- after the letter of a slot: a number, a sign and a number, or = and a value of an axis
abbrev pub slot_want : Piece → List ℕ → ℕ → Do
slot_want (piece.Number z) text code = slot_number (is_digits text)
slot_want one text code = centre_want one code

-- = and then these, or nothing
abbrev pub then_assign : List Wanted → Piece → Do
then_assign ws piece.Assign = Push ws
then_assign ws one = Pass

-- digits alone, = and a value of an axis
abbrev pub axis_digits : Bool → Do
axis_digits true = Push (Assigns true ∷ Measured ∷ [])
axis_digits false = No 27

-- after the letter of an axis that is no slot: digits, = and a value of an axis; anything else is 27
abbrev pub axis_want : Piece → List ℕ → Do
axis_want (piece.Number z) text = axis_digits (is_digits text)
axis_want one text = No 27

-- digits alone may be those of an address, with = and an expression after them
abbrev pub aux_digits : Bool → Do
aux_digits true = Push (AfterAuxDigits ∷ [])
aux_digits false = Push []

-- after the letter of an auxiliary function: a number, or = and an expression or a text
abbrev pub aux_want : Piece → List ℕ → ℕ → Do
aux_want (piece.Number z) text code = aux_digits (is_digits text)
aux_want piece.Assign text code = Push (ValueOrText ∷ [])
aux_want one text code = No code

-- a text, or an expression
abbrev pub text_want : Mark → Do
text_want m = if is_text m.piece then Push [] else value_want true (machine.Wants [] Plain) m m.symbol

-- [ expr ], or nothing
abbrev pub bracket_want : Piece → Do
bracket_want piece.OpenBracket = Push (start true ∷ ClosesBracket ∷ [])
bracket_want one = Pass

-- after R: its number or [ expr ], and then = and an expression
abbrev pub parameter_want : Piece → List ℕ → ℕ → Do
parameter_want p text code =
    if is_open_bracket p then Push (start true ∷ ClosesBracket ∷ Assigns true ∷ start true ∷ []) else index_want p text code

-- a letter that begins a word, or 27; 82 is 'R', 71 is 'G'
abbrev pub letter_want : ℕ → Do
letter_want letter =
    if letter == 82 then Push (Parameter ∷ [])
    else if letter == 71 then Push (GNumber ∷ [])
    else if is_slot_letter letter then Push (AfterSlot ∷ [])
    else if is_centre_letter letter then Push (AfterCentre ∷ [])
    else if is_aux_letter letter then Push (AfterAux ∷ [])
    else if is_axis_letter letter then Push (AfterAxis ∷ [])
    else No 27

-- a name that begins a word: CR, a spindle word or a word of a group. Another has its own refusal
abbrev pub name_want : List ℕ → Do
name_want text =
    if is_word text (codes "CR") then Push (Assigns true ∷ start true ∷ [])
    else if is_spindle_word text then Push (Bracket ∷ Assigns true ∷ start true ∷ [])
    else group_want (word_by_name text) (name_code text)

-- what begins a word: a letter, or a name
abbrev pub word_want : Piece → List ℕ → Do
word_want (piece.Letter b) text = letter_want b
word_want piece.Name text = name_want text
word_want one text = No 22

-- and further words after it
abbrev pub and_more : Do → Do
and_more (Push ws) = Push (ws ++ MoreWords ∷ [])
and_more Pass = Pass
and_more (No code) = No code

-- further words, or the end of the line
abbrev pub more_words : Piece → List ℕ → Do
more_words piece.End text = Pass
more_words one text = and_more (word_want one text)

-- this, or 22
abbrev pub only_if : Bool → Do
only_if true = Push []
only_if false = No 22

-- this, or nothing
abbrev pub push_if : Bool → List Wanted → Do
push_if true ws = Push ws
push_if false ws = Pass

-- , or 22
abbrev pub comma_want : Piece → Do
comma_want piece.Comma = Push []
comma_want one = No 22

-- the number of a block: one to eight digits alone
abbrev pub block_number_want : Piece → List ℕ → Do
block_number_want (piece.Number z) text = only_if (is_digits text && nat_le (length text) 8)
block_number_want one text = No 22

-- the target of a jump: a name, or N and the number of a block
abbrev pub target_want : Piece → Do
target_want piece.Name = Push []
target_want one = if is_n one then Push (BlockNumber ∷ []) else No 22

-- a jump, or nothing
abbrev pub if_want : Option Way → Do
if_want (Some way) = Push (ATarget ∷ [])
if_want None = Pass

-- a jump
abbrev pub jump_want : Option Way → Do
jump_want (Some way) = Push (ATarget ∷ [])
jump_want None = No 22

-- a further number of CASE and its jump, DEFAULT and its jump, or nothing
abbrev pub more_pairs : Bool → Piece → Do
more_pairs default (piece.Number z) = Push (AJump ∷ MorePairs ∷ [])
more_pairs default piece.Plus = Push (Constant false ∷ AJump ∷ MorePairs ∷ [])
more_pairs default piece.Minus = Push (Constant false ∷ AJump ∷ MorePairs ∷ [])
more_pairs default one = push_if default (AJump ∷ [])

-- the number of a parameter, or 22
abbrev pub counter_index : Option ℕ → Do
counter_index (Some i) = Push []
counter_index None = No 22

-- the number of the parameter of FOR
abbrev pub counter_want : Piece → List ℕ → Do
counter_want (piece.Number z) text = if is_digits text then counter_index (index_of z) else No 22
counter_want one text = No 22

-- a name
abbrev pub label_want : Piece → Do
label_want piece.Name = Push []
label_want one = No 22

-- the ) of a call: anything else is 58 where a ) stands in the line, else 22
abbrev pub call_close : Piece → Bool → Do
call_close piece.Close closes = Push []
call_close one closes = No (if closes then code_of one 58 else 22)

-- the number of times that a program is called, or its refusal
abbrev pub count_want : Result ℕ ℕ → Do
count_want (Ok n) = Push []
count_want (Err code) = No code

-- an axis of a frame that is not one of those before it, and its value; a second one is 22, and what is no axis 24
abbrev pub axes_want : List ℕ → Option ℕ → Piece → Do
axes_want used (Some axis) p = if list_any (λ n. n == axis) used then No 22 else Push (FrameValue ∷ MoreAxes (used ++ axis ∷ []) ∷ [])
axes_want used None p = No (code_of p 24)

-- further axes of a frame, or the end of the line
abbrev pub more_axes : List ℕ → Piece → Do
more_axes used piece.End = Pass
more_axes used one = axes_want used (axis_of one) one

-- = and an expression, or a number with its sign if it has one
abbrev pub frame_value_want : Piece → Do
frame_value_want p = if is_assign p then Push (start false ∷ []) else signed_want false p 22

-- the end of the line after a rotation: an axis is 50, anything else 24
abbrev pub turn_want : Bool → Piece → Do
turn_want b piece.End = Pass
turn_want b one = No (if b then 50 else code_of one 24)

-- , and then these, or ), or 22
abbrev pub separator_want : List Wanted → Piece → Do
separator_want ws piece.Comma = Push ws
separator_want ws piece.Close = Push []
separator_want ws one = No 22

-- digits alone after the letter of an axis that is no slot
abbrev pub only_digits : Bool → Do
only_digits true = Push (ArgumentDigits ∷ [])
only_digits false = No 22

-- the letter of a slot, with digits or without, or the letter of another axis and digits
abbrev pub argument_letter : ℕ → Do
argument_letter b = if is_slot_letter b then Push (AfterArgument ∷ []) else only_digits (is_axis_letter b)

-- an axis as an argument
abbrev pub axis_argument : Piece → Do
axis_argument (piece.Letter b) = argument_letter b
axis_argument one = No 22

-- and then these
abbrev pub and_then : List Wanted → Do → Do
and_then vs (Push ws) = Push (ws ++ vs)
and_then vs Pass = Pass
and_then vs (No code) = No code

-- ) at once, or an expression and further ones
abbrev pub clear_want : Mark → Piece → Do
clear_want m piece.Close = Push []
clear_want m one = and_then (MoreValues ∷ []) (value_want false (machine.Wants [] Plain) m m.symbol)

-- a text, or nothing
abbrev pub text_or_not : Piece → Do
text_or_not piece.Text = Push []
text_or_not one = Pass

-- a text
abbrev pub quoted_want : Piece → Do
quoted_want piece.Text = Push []
quoted_want one = No 22

-- a text that is one of the ways to wait
abbrev pub wait_want : Piece → List ℕ → Do
wait_want piece.Text text = only_if (is_wait (text_within_quotes text))
wait_want one text = No 22

-- ( expr ), or nothing
abbrev pub setms_want : Piece → Do
setms_want piece.Open = Push (start false ∷ Closes false ∷ [])
setms_want one = Pass

-- anything up to a ) that ends the line: what stands after the last ) is refused, and 22 where there is none
abbrev pub anything_want : Bool → Mark → Piece → Do
anything_want closed m piece.End = if closed then Pass else No m.rest
anything_want closed m piece.Close = Push (Anything true ∷ [])
anything_want closed m piece.Broken = No (if closed || m.later then 22 else m.rest)
anything_want closed m one = Push (Anything false ∷ [])

-- the digits of the name of a program, and what stands after it
abbrev pub call_name : Bool → Do
call_name true = Push (Parentheses ∷ Passes ∷ [])
call_name false = No 22

-- after L: one to 31 digits alone; anything that is no number is 27
abbrev pub call_want : Piece → List ℕ → Do
call_want (piece.Number z) text = call_name (is_digits text && nat_le (length text) 31)
call_want one text = No 27

-- what a token does to each thing that may be wanted: the definition that a row cites says what is taken, and the code of
-- anything else
unfoldable pub want : Wanted → Mark → Do
want (Assigns w) m = assign_want m.piece (fail w m)
want (Opens w) m = open_want m.piece (fail w m)
want (Closes w) m = close_want m.piece (fail w m)
want ClosesBracket m = close_bracket_want m.piece (fail true m)
want (Constant w) m = number_want m.piece (fail w m)
want (Value w state) m = value_want w state m m.symbol
want Parameter m = parameter_want m.piece m.text (fail true m)
want GNumber m = g_want m.piece (fail true m)
want Measured m = measured_want m
want AfterCentre m = centre_want m.piece (fail true m)
want AfterSlot m = slot_want m.piece m.text (fail true m)
want AfterDigits m = then_assign (Measured ∷ []) m.piece
want AfterAxis m = axis_want m.piece m.text
want AfterAux m = aux_want m.piece m.text (fail true m)
want AfterAuxDigits m = then_assign (start true ∷ []) m.piece
want ValueOrText m = text_want m
want Bracket m = bracket_want m.piece
want AWord m = word_want m.piece m.text
want MoreWords m = more_words m.piece m.text
want (Keyword word) m = only_if (is_keyword_mark m word)
want Commas m = comma_want m.piece
want ATarget m = target_want m.piece
want BlockNumber m = block_number_want m.piece m.text
want IfAfter m = if_want (way_of_piece m.piece m.text)
want AJump m = jump_want (way_of_piece m.piece m.text)
want Signed m = signed_want false m.piece 22
want MorePairs m = more_pairs (is_keyword_mark m (codes "DEFAULT")) m.piece
want CounterLetter m = only_if (is_letter m.piece 82)
want Counter m = counter_want m.piece m.text
want Times m = push_if (is_letter m.piece 80) (Assigns false ∷ start false ∷ [])
want RepeatAfter m = push_if (is_name m.piece) (Times ∷ [])
want ALabel m = label_want m.piece
want Parentheses m = push_if (is_open m.piece) (CloseOfCall ∷ [])
want CloseOfCall m = call_close m.piece m.closes
want Passes m = push_if (is_letter m.piece 80) (Count ∷ [])
want Count m = count_want (count_of_piece m.piece)
want Displof m = push_if (is_keyword_mark m (codes "DISPLOF")) []
want (MoreAxes used) m = more_axes used m.piece
want FrameValue m = frame_value_want m.piece
want Angle m = push_if (is_keyword_mark m (codes "RPL")) (Assigns false ∷ start false ∷ [])
want TurnEnd m = turn_want (is_slot m.piece || m.axis) m.piece
want MoreValues m = separator_want (start false ∷ MoreValues ∷ []) m.piece
want AxisArgument m = axis_argument m.piece
want AfterArgument m = push_if (is_digits_piece m.piece m.text) []
want ArgumentDigits m = only_if (is_digits_piece m.piece m.text)
want MoreArguments m = separator_want (AxisArgument ∷ MoreArguments ∷ []) m.piece
want ClearArguments m = clear_want m m.piece
want Quoted m = quoted_want m.piece
want InitLast m = separator_want (Wait ∷ Closes false ∷ []) m.piece
want Wait m = wait_want m.piece m.text
want TextOrNot m = text_or_not m.piece
want SetmsAfter m = setms_want m.piece
want AfterL m = call_want m.piece m.text
want (Anything closed) m = anything_want closed m m.piece

-- what is wanted next, and after that, in order
abbrev pub Stack : Type 0
Stack = List Wanted

-- what is wanted after a token; or the line was over; or the token is refused
pub data Next : Type 0 where
  On : Stack → Next
  Done : Next
  Refuse : ℕ → Next

-- what a token does to the first thing that is wanted it does to them all
abbrev pub on_stack : Do → Stack → Next → Next
on_stack (Push ws) st rest = On (ws ++ st)
on_stack Pass st rest = rest
on_stack (No code) st rest = Refuse code

-- where nothing more is wanted the line ends: anything else is 24
abbrev pub line_end : Piece → Next
line_end piece.End = Done
line_end one = Refuse (code_of one 24)

-- a token goes to what is wanted first, and where that leaves it, to what is wanted after
unfoldable pub on_mark : Stack → Mark → Next
on_mark [] m = line_end m.piece
on_mark (w ∷ st) m = on_stack (want w m) st (on_mark st m)
