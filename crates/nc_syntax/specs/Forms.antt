-- Law. What each form wants after its name, and what the tokens before a place leave wanted.
use Rattle.std.specs.Prelude.{ℕ, zero, suc, nat_le, ◌==◌, Bool, true, false, ◌&&◌, List, [], ◌∷◌, ◌++◌, length, Option, Some, None, codes}
use Rattle.block_scanner.specs.WordsView.{WordsView}
use Rattle.name_tables.specs.Tables.{is_table_word}
use Rattle.nc_expressions.specs.Symbols.{is_digits}
use Rattle.nc_blocks.specs.declared.blocks.CoordWord.{CoordWord}
use Rattle.nc_blocks.specs.declared.blocks.CoordWord.TheVariants as coord
use Rattle.nc_blocks.specs.declared.pieces.Piece.{Piece}
use Rattle.nc_blocks.specs.declared.pieces.Piece.TheVariants as piece
use Rattle.nc_syntax.specs.declared.bodies.Control.{Control}
use Rattle.nc_syntax.specs.declared.bodies.Control.TheVariants as control
use Rattle.nc_syntax.specs.declared.bodies.Form.{Form}
use Rattle.nc_syntax.specs.declared.bodies.Form.TheVariants as form
use Rattle.nc_syntax.specs.Structures.{is_letter}
use Rattle.nc_syntax.specs.Bodies.{form_of, is_number}
use Rattle.nc_syntax.specs.Blocks.{is_slash, is_colon}
use Rattle.nc_syntax.specs.Wanted.{Mark, mark_at, Opens, Closes, Commas, Assigns, Keyword, ATarget, IfAfter, AJump, Signed, MorePairs, CounterLetter, Counter, Times, RepeatAfter, ALabel, Parentheses, Passes, Displof, MoreAxes, Angle, TurnEnd, MoreValues, AxisArgument, MoreArguments, ClearArguments, Quoted, InitLast, TextOrNot, SetmsAfter, Anything, AfterL, AWord, MoreWords, start, Do, Push, Pass, No, name_want, Stack, Next, On, Done, Refuse, on_mark}

-- what each form of control wants after its name, in order
abbrev pub control_stack : Control → Stack
control_stack control.If = start false ∷ IfAfter ∷ []
control_stack control.Else = []
control_stack control.EndIf = []
control_stack control.While = start false ∷ []
control_stack control.EndWhile = []
control_stack control.Until = start false ∷ []
control_stack control.Loop = []
control_stack control.EndLoop = []
control_stack control.For = CounterLetter ∷ Counter ∷ Assigns false ∷ start false ∷ Keyword (codes "TO") ∷ start false ∷ []
control_stack control.EndFor = []
control_stack control.Case = Opens false ∷ start false ∷ Closes false ∷ Keyword (codes "OF") ∷ Signed ∷ AJump ∷ MorePairs ∷ []
control_stack control.Repeat = RepeatAfter ∷ []
control_stack control.RepeatBlock = ALabel ∷ Times ∷ []
control_stack control.Return = []
control_stack control.Proc = ALabel ∷ Displof ∷ []

-- ( and one expression or more, and )
abbrev pub values_stack : Stack
values_stack = Opens false ∷ start false ∷ MoreValues ∷ []

-- ( and one axis or more, and )
abbrev pub axes_stack : Stack
axes_stack = Opens false ∷ AxisArgument ∷ MoreArguments ∷ []

-- what each form of coordination wants after its name
abbrev pub coordination_stack : CoordWord → Stack
coordination_stack coord.WaitM = values_stack
coordination_stack coord.WaitMC = values_stack
coordination_stack coord.SetM = values_stack
coordination_stack coord.ClearM = Opens false ∷ ClearArguments ∷ []
coordination_stack coord.Init = Opens false ∷ start false ∷ Commas ∷ Quoted ∷ InitLast ∷ []
coordination_stack coord.Start = values_stack
coordination_stack coord.WaitE = values_stack
coordination_stack coord.Release = axes_stack
coordination_stack coord.Get = axes_stack
coordination_stack coord.CProt = Opens false ∷ start false ∷ Commas ∷ start false ∷ Closes false ∷ []

-- what each form wants after its name
abbrev pub form_stack : Form → Stack
form_stack (form.Jump way) = ATarget ∷ []
form_stack (form.Control which) = control_stack which
form_stack (form.Shape which) = MoreAxes [] ∷ []
form_stack (form.Turn more) = Angle ∷ TurnEnd ∷ []
form_stack (form.Coord which) = coordination_stack which
form_stack form.Msg = Opens false ∷ TextOrNot ∷ Closes false ∷ []
form_stack form.Stopre = []
form_stack form.Setms = SetmsAfter ∷ []
form_stack form.Workpiece = Opens false ∷ Anything false ∷ []

-- what a name that begins a body leaves wanted, or its refusal
pub data Beginning : Type 0 where
  Goes : Stack → Beginning
  Stops : ℕ → Beginning

-- after the name of a word further words are wanted
abbrev pub word_beginning : Do → Beginning
word_beginning (Push ws) = Goes (ws ++ MoreWords ∷ [])
word_beginning Pass = Stops 22
word_beginning (No code) = Stops code

-- a name that begins no form of its own is that of a word where it stands in a table, and of a program that is called where
-- it does not
abbrev pub plain_beginning : Bool → List ℕ → Beginning
plain_beginning true text = word_beginning (name_want text)
plain_beginning false text = Goes (Parentheses ∷ Passes ∷ [])

-- a form wants its own
abbrev pub form_beginning : Option Form → List ℕ → Beginning
form_beginning (Some which) text = Goes (form_stack which)
form_beginning None text = plain_beginning (is_table_word text) text

-- what a name that begins a body leaves wanted
unfoldable pub beginning : List ℕ → Beginning
beginning text = form_beginning (form_of text) text

-- how far a line is: at its start, after /, after N, before its label, after a name that may be one, before its body, or in its
-- body, where these are wanted
pub data Head : Type 0 where
  AtStart : Head
  AfterSlash : Head
  AfterN : Head
  AtLabel : Head
  Named : List ℕ → Head
  AtBody : Head
  Within : Stack → Head

-- how far the line is after a token; or it was over; or the token is refused
pub data HeadNext : Type 0 where
  HeadOn : Head → HeadNext
  Over : HeadNext
  Refused : ℕ → HeadNext

-- in the body: what is wanted after a token
abbrev pub body_next : Next → HeadNext
body_next (On st) = HeadOn (Within st)
body_next Done = Over
body_next (Refuse code) = Refused code

-- after the name of a body
abbrev pub beginning_next : Beginning → HeadNext
beginning_next (Goes st) = HeadOn (Within st)
beginning_next (Stops code) = Refused code

-- the token after the name of a body
abbrev pub beginning_more : Beginning → Mark → HeadNext
beginning_more (Goes st) m = body_next (on_mark st m)
beginning_more (Stops code) m = Refused code

-- a letter that begins a body: L begins a call, any other a word
abbrev pub letter_body : Bool → Mark → HeadNext
letter_body true m = HeadOn (Within (AfterL ∷ []))
letter_body false m = body_next (on_mark (AWord ∷ MoreWords ∷ []) m)

-- what begins a body: a name, a letter, or nothing at the end of the line
abbrev pub body_step : Piece → Mark → HeadNext
body_step piece.End m = Over
body_step piece.Name m = beginning_next (beginning m.text)
body_step (piece.Letter b) m = letter_body (b == 76) m
body_step one m = body_next (on_mark (AWord ∷ MoreWords ∷ []) m)

-- a label may come first
abbrev pub label_step : Piece → Mark → HeadNext
label_step piece.Name m = HeadOn (Named m.text)
label_step one m = body_step one m

-- N may come first
abbrev pub number_step : Bool → Mark → HeadNext
number_step true m = HeadOn AfterN
number_step false m = label_step m.piece m

-- the number of a block, or 22
abbrev pub block_number_step : Bool → HeadNext
block_number_step true = HeadOn AtLabel
block_number_step false = Refused 22

-- after N: one to eight digits alone; anything that is no number is 27
abbrev pub after_n : Piece → List ℕ → HeadNext
after_n (piece.Number z) text = block_number_step (is_digits text && nat_le (length text) 8)
after_n one text = Refused 27

-- after /: a number is 59
abbrev pub after_slash : Bool → Mark → HeadNext
after_slash true m = Refused 59
after_slash false m = number_step (is_letter m.piece 78) m

-- / may come first
abbrev pub start_step : Bool → Mark → HeadNext
start_step true m = HeadOn AfterSlash
start_step false m = number_step (is_letter m.piece 78) m

-- after a name: a colon makes it a label, else it begins the body
abbrev pub named_step : Bool → List ℕ → Mark → HeadNext
named_step true text m = HeadOn AtBody
named_step false text m = beginning_more (beginning text) m

-- what a token does to a line that is so far: in its body, what `want` says of the things that are wanted
unfoldable pub head_step : Head → Mark → HeadNext
head_step AtStart m = start_step (is_slash m.piece) m
head_step AfterSlash m = after_slash (is_number m.piece) m
head_step AfterN m = after_n m.piece m.text
head_step AtLabel m = label_step m.piece m
head_step (Named text) m = named_step (is_colon m.piece) text m
head_step AtBody m = body_step m.piece m
head_step (Within st) m = body_next (on_mark st m)

-- how far the line is after a token, if it goes on
abbrev pub state_of : HeadNext → Option Head
state_of (HeadOn h) = Some h
state_of Over = None
state_of (Refused code) = None

-- how far it is after one token more
abbrev pub state_next : Option Head → Mark → Option Head
state_next (Some h) m = state_of (head_step h m)
state_next None m = None

-- how far the tokens before a place lead
abbrev pub state_at : WordsView → ℕ → Option Head
state_at words zero = Some AtStart
state_at words (suc at) = state_next (state_at words at) (mark_at words at)
