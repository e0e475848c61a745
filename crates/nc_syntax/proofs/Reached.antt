-- At each place that is reached some tokens can come, but after the name of a function that has no room.
use Rattle.std.proofs.Common.{◌≡◌, ℕ, zero, suc, ◌+◌, List, [], ◌∷◌, subst, inl, inr, Option, Some, None, Bool, true, false, arith}
use Rattle.std.specs.Prelude.{◌⊎◌, ◌==◌, ◌&&◌, nat_le, length, slice_get}
use Rattle.block_scanner.specs.WordsView.{WordsView}
use Rattle.name_tables.specs.Tables.{is_table_word}
use Rattle.nc_expressions.specs.declared.symbols.Symbol.{Symbol}
use Rattle.nc_expressions.specs.declared.symbols.Symbol.TheVariants as symbol
use Rattle.nc_expressions.specs.declared.trees.UnaryOp.{UnaryOp}
use Rattle.nc_expressions.specs.Symbols.{symbols_of, is_digits}
use Rattle.nc_blocks.specs.declared.blocks.CoordWord.{CoordWord}
use Rattle.nc_blocks.specs.declared.blocks.CoordWord.TheVariants as coord
use Rattle.nc_blocks.specs.declared.pieces.Piece.{Piece}
use Rattle.nc_blocks.specs.declared.pieces.Piece.TheVariants as piece
use Rattle.nc_syntax.specs.declared.bodies.Control.{Control}
use Rattle.nc_syntax.specs.declared.bodies.Control.TheVariants as control
use Rattle.nc_syntax.specs.declared.bodies.Form.{Form}
use Rattle.nc_syntax.specs.declared.bodies.Form.TheVariants as form
use Rattle.nc_syntax.specs.Structures.{is_letter}
use Rattle.nc_syntax.specs.Bodies.{is_number, form_of}
use Rattle.nc_syntax.specs.Blocks.{is_slash, is_colon}
use Rattle.nc_syntax.specs.Wanted.{Mark, mark_at, Do, Push, Pass, No, AWord, MoreWords, Stack, Next, On, Done, Refuse, on_mark, name_want}
use Rattle.nc_syntax.specs.Forms.{control_stack, coordination_stack, form_stack, Beginning, Goes, Stops, word_beginning, plain_beginning, form_beginning, beginning, Head, AtStart, AfterSlash, AfterN, AtLabel, Named, AtBody, Within, HeadNext, HeadOn, Over, Refused, body_next, beginning_next, beginning_more, letter_body, body_step, label_step, number_step, block_number_step, after_n, after_slash, start_step, named_step, head_step, state_of, state_next, state_at}
use Rattle.nc_syntax.proofs.Breaking.{state_is}
use Rattle.nc_syntax.proofs.Going.{Tidy, Roomy}
use Rattle.nc_syntax.proofs.Orderly.{FreeDo, name_free}
use Rattle.nc_syntax.proofs.Viable.{TidyBegun, begun_tidy, TidyHead, TidyOption, reached_tidy, RoomHead}
use Rattle.nc_syntax.proofs.Rooms.{IsFunction, free_roomy, Settled, roomy_settled, both_roomy, StepLeaves, mark_leaves, Lives, mark_before}

-- what a form wants after its name can be given
control_roomy : (which : Control) → Roomy (control_stack which)
control_roomy control.If = (tt, (tt, tt))
control_roomy control.Else = tt
control_roomy control.EndIf = tt
control_roomy control.While = (tt, tt)
control_roomy control.EndWhile = tt
control_roomy control.Until = (tt, tt)
control_roomy control.Loop = tt
control_roomy control.EndLoop = tt
control_roomy control.For = (tt, (tt, (tt, (tt, (tt, (tt, tt))))))
control_roomy control.EndFor = tt
control_roomy control.Case = (tt, (tt, (tt, (tt, (tt, (tt, (tt, tt)))))))
control_roomy control.Repeat = (tt, tt)
control_roomy control.RepeatBlock = (tt, (tt, tt))
control_roomy control.Return = tt
control_roomy control.Proc = (tt, (tt, tt))

coordination_roomy : (which : CoordWord) → Roomy (coordination_stack which)
coordination_roomy coord.WaitM = (tt, (tt, (tt, tt)))
coordination_roomy coord.WaitMC = (tt, (tt, (tt, tt)))
coordination_roomy coord.SetM = (tt, (tt, (tt, tt)))
coordination_roomy coord.ClearM = (tt, (tt, tt))
coordination_roomy coord.Init = (tt, (tt, (tt, (tt, (tt, tt)))))
coordination_roomy coord.Start = (tt, (tt, (tt, tt)))
coordination_roomy coord.WaitE = (tt, (tt, (tt, tt)))
coordination_roomy coord.Release = (tt, (tt, (tt, tt)))
coordination_roomy coord.Get = (tt, (tt, (tt, tt)))
coordination_roomy coord.CProt = (tt, (tt, (tt, (tt, (tt, tt)))))

form_roomy : (which : Form) → Roomy (form_stack which)
form_roomy (form.Jump way) = (tt, tt)
form_roomy (form.Control which) = control_roomy which
form_roomy (form.Shape which) = (tt, tt)
form_roomy (form.Turn more) = (tt, (tt, tt))
form_roomy (form.Coord which) = coordination_roomy which
form_roomy form.Msg = (tt, (tt, (tt, tt)))
form_roomy form.Stopre = tt
form_roomy form.Setms = (tt, tt)
form_roomy form.Workpiece = (tt, (tt, tt))

abbrev RoomBeginning : Beginning → Type 0
RoomBeginning (Goes st) = Roomy st
RoomBeginning (Stops code) = Unit {0}

word_roomy : (d : Do) → FreeDo None d → RoomBeginning (word_beginning d)
word_roomy (Push ws) h = both_roomy ws (MoreWords ∷ []) (free_roomy ws h) (tt, tt)
word_roomy Pass h = tt
word_roomy (No code) h = tt

plain_roomy : (b : Bool) (text : List ℕ) → RoomBeginning (plain_beginning b text)
plain_roomy true text = word_roomy (name_want text) (name_free None text)
plain_roomy false text = (tt, (tt, tt))

option_roomy : (o : Option Form) (text : List ℕ) → RoomBeginning (form_beginning o text)
option_roomy (Some which) text = form_roomy which
option_roomy None text = plain_roomy (is_table_word text) text

beginning_roomy : (text : List ℕ) → RoomBeginning (beginning text)
unfolding beginning
beginning_roomy text = option_roomy (form_of text) text

-- what a token leaves of a line
abbrev SettledHead : Head → Type 0
SettledHead AtStart = Unit {0}
SettledHead AfterSlash = Unit {0}
SettledHead AfterN = Unit {0}
SettledHead AtLabel = Unit {0}
SettledHead (Named text) = Unit {0}
SettledHead AtBody = Unit {0}
SettledHead (Within st) = Settled st

abbrev HeadLeaves : Option Symbol → HeadNext → Type 0
HeadLeaves s (HeadOn h) = SettledHead h × (RoomHead h ⊎ IsFunction s)
HeadLeaves s Over = Unit {0}
HeadLeaves s (Refused code) = Unit {0}

inside_leaves : (s : Option Symbol) (n : Next) → StepLeaves s n → HeadLeaves s (body_next n)
inside_leaves s (On st) h = h
inside_leaves s Done h = tt
inside_leaves s (Refuse code) h = tt

stack_leaves : (st : Stack) (m : Mark) → Tidy st → Settled st → HeadLeaves m.symbol (body_next (on_mark st m))
stack_leaves st m t h = inside_leaves m.symbol (on_mark st m) (mark_leaves st m t h)

words_leave : (m : Mark) → HeadLeaves m.symbol (body_next (on_mark (AWord ∷ MoreWords ∷ []) m))
words_leave m = stack_leaves (AWord ∷ MoreWords ∷ []) m (tt, (tt, tt)) (tt, tt)

next_leaves : (s : Option Symbol) (b : Beginning) → RoomBeginning b → HeadLeaves s (beginning_next b)
next_leaves s (Goes st) h = (roomy_settled st h, inl h)
next_leaves s (Stops code) h = tt

more_leaves : (b : Beginning) (m : Mark) → TidyBegun b → RoomBeginning b → HeadLeaves m.symbol (beginning_more b m)
more_leaves (Goes st) m t h = stack_leaves st m t (roomy_settled st h)
more_leaves (Stops code) m t h = tt

letter_leaves : (b : Bool) (m : Mark) → HeadLeaves m.symbol (letter_body b m)
letter_leaves true m = (tt, inl (tt, tt))
letter_leaves false m = words_leave m

body_leaves : (p : Piece) (m : Mark) → HeadLeaves m.symbol (body_step p m)
body_leaves piece.End m = tt
body_leaves piece.Name m = next_leaves m.symbol (beginning m.text) (beginning_roomy m.text)
body_leaves (piece.Letter b) m = letter_leaves (b == 76) m
body_leaves p m = words_leave m

label_leaves : (p : Piece) (m : Mark) → HeadLeaves m.symbol (label_step p m)
label_leaves piece.Name m = (tt, inl tt)
label_leaves p m = body_leaves p m

number_leaves : (b : Bool) (m : Mark) → HeadLeaves m.symbol (number_step b m)
number_leaves true m = (tt, inl tt)
number_leaves false m = label_leaves m.piece m

block_number_leaves : (s : Option Symbol) (b : Bool) → HeadLeaves s (block_number_step b)
block_number_leaves s true = (tt, inl tt)
block_number_leaves s false = tt

n_leaves : (s : Option Symbol) (p : Piece) (text : List ℕ) → HeadLeaves s (after_n p text)
n_leaves s (piece.Number z) text = block_number_leaves s (is_digits text && nat_le (length text) 8)
n_leaves s p text = tt

slash_leaves : (b : Bool) (m : Mark) → HeadLeaves m.symbol (after_slash b m)
slash_leaves true m = tt
slash_leaves false m = number_leaves (is_letter m.piece 78) m

start_leaves : (b : Bool) (m : Mark) → HeadLeaves m.symbol (start_step b m)
start_leaves true m = (tt, inl tt)
start_leaves false m = number_leaves (is_letter m.piece 78) m

named_leaves : (b : Bool) (text : List ℕ) (m : Mark) → HeadLeaves m.symbol (named_step b text m)
named_leaves true text m = (tt, inl tt)
named_leaves false text m = more_leaves (beginning text) m (begun_tidy text) (beginning_roomy text)

head_leaves : (h : Head) (m : Mark) → TidyHead h → SettledHead h → HeadLeaves m.symbol (head_step h m)
unfolding head_step
head_leaves AtStart m t s = start_leaves (is_slash m.piece) m
head_leaves AfterSlash m t s = slash_leaves (is_number m.piece) m
head_leaves AfterN m t s = n_leaves m.symbol m.piece m.text
head_leaves AtLabel m t s = label_leaves m.piece m
head_leaves (Named text) m t s = named_leaves (is_colon m.piece) text m
head_leaves AtBody m t s = body_leaves m.piece m
head_leaves (Within st) m t s = stack_leaves st m t s

abbrev SettledOption : Option Head → Type 0
SettledOption (Some h) = SettledHead h
SettledOption None = Unit {0}

of_settled : (s : Option Symbol) (n : HeadNext) → HeadLeaves s n → SettledOption (state_of n)
of_settled s (HeadOn h) l = l.0
of_settled s Over l = tt
of_settled s (Refused code) l = tt

next_settled : (o : Option Head) (m : Mark) → TidyOption o → SettledOption o → SettledOption (state_next o m)
next_settled (Some h) m t s = of_settled m.symbol (head_step h m) (head_leaves h m t s)
next_settled None m t s = tt

reached_settled : (words : WordsView) (at : ℕ) → SettledOption (state_at words at)
reached_settled words zero = tt
reached_settled words (suc at) = next_settled (state_at words at) (mark_at words at) (reached_tidy words at) (reached_settled words at)

-- where a token goes on, what was wanted before could be given
inside_lives : (n : Next) (h : Head) → body_next n ≡ HeadOn h → Lives n
inside_lives (On st) h e = tt
inside_lives Done h e = cc
inside_lives (Refuse code) h e = cc

room_before : (h : Head) (m : Mark) (next : Head) → SettledHead h → head_step h m ≡ HeadOn next → RoomHead h
unfolding head_step
room_before AtStart m next s e = tt
room_before AfterSlash m next s e = tt
room_before AfterN m next s e = tt
room_before AtLabel m next s e = tt
room_before (Named text) m next s e = tt
room_before AtBody m next s e = tt
room_before (Within st) m next s e = mark_before st m s (inside_lives (on_mark st m) next e)

-- the state before the name of a function
pub record Before (words : WordsView) (at : ℕ) : Type 0 where
  pub place : ℕ
  pub state : Head
  pub function : UnaryOp
  pub next : at ≡ place + 1
  pub reached : state_at words place ≡ Some state
  pub room : RoomHead state
  pub named : slice_get (symbols_of words) place ≡ Some (symbol.Function function)

room_or : (words : WordsView) (at : ℕ) (h before : Head) → state_at words at ≡ Some before → RoomHead before → RoomHead h ⊎ IsFunction (slice_get (symbols_of words) at) →
    RoomHead h ⊎ Before words (suc at)
room_or words at h before e r (inl room) = inl room
room_or words at h before e r (inr f) =
    inr (record { place = at; state = before; function = f.0; next = omega arith; reached = e; room = r; named = f.1 })

pub room_at : (words : WordsView) (at : ℕ) (h : Head) → state_at words at ≡ Some h → RoomHead h ⊎ Before words at
room_at words zero h e =
    let same : AtStart ≡ h = cc in
    inl (subst RoomHead same tt)
room_at words (suc at) h e =
    let b = state_is (state_at words at) (mark_at words at) h e in
    let settled = subst SettledOption b.1 (reached_settled words at) in
    let tidy = subst TidyOption b.1 (reached_tidy words at) in
    let leaves = subst (HeadLeaves (slice_get (symbols_of words) at)) b.2 (head_leaves b.0 (mark_at words at) tidy settled) in
    room_or words at h b.0 b.1 (room_before b.0 (mark_at words at) h settled b.2) leaves.1
