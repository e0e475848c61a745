-- At every place that is reached some tokens complete the block.
use Rattle.std.proofs.Common.{◌≡◌, ℕ, zero, suc, List, [], ◌∷◌, refl, ◌∙◌, Option, Some, None, Bool, true, false, arith}
use Rattle.std.specs.Prelude.{codes, ◌==◌, ◌&&◌, nat_le, length}
use Rattle.block_scanner.specs.WordsView.{WordsView}
use Rattle.name_tables.specs.Tables.{is_table_word}
use Rattle.nc_expressions.specs.declared.symbols.Symbol.TheVariants as symbol
use Rattle.nc_expressions.specs.Symbols.{is_digits, name_symbol, value_symbol, is_exponent}
use Rattle.nc_blocks.specs.declared.blocks.CoordWord.{CoordWord}
use Rattle.nc_blocks.specs.declared.blocks.CoordWord.TheVariants as coord
use Rattle.nc_blocks.specs.declared.pieces.Piece.{Piece}
use Rattle.nc_blocks.specs.declared.pieces.Piece.TheVariants as piece
use Rattle.nc_syntax.specs.declared.bodies.Control.{Control}
use Rattle.nc_syntax.specs.declared.bodies.Control.TheVariants as control
use Rattle.nc_syntax.specs.declared.bodies.Form.{Form}
use Rattle.nc_syntax.specs.declared.bodies.Form.TheVariants as form
use Rattle.nc_syntax.specs.Structures.{is_letter}
use Rattle.nc_syntax.specs.Bodies.{is_number, form_of}
use Rattle.nc_syntax.specs.Blocks.{is_slash, is_colon}
use Rattle.nc_syntax.specs.Wanted as wanted
use Rattle.nc_syntax.specs.Wanted.{Mark, mark_at, Do, Push, Pass, No, Stack, Next, On, Done, Refuse, on_mark, name_want}
use Rattle.nc_syntax.proofs.Wanted.{last, go}
use Rattle.nc_syntax.proofs.Stepping.{end_mark}
use Rattle.nc_syntax.specs.Forms.{control_stack, coordination_stack, form_stack, Beginning, Goes, Stops, word_beginning, plain_beginning, form_beginning, beginning, Head, AtStart, AfterSlash, AfterN, AtLabel, Named, AtBody, Within, HeadNext, HeadOn, Over, Refused, body_next, beginning_next, beginning_more, letter_body, body_step, label_step, number_step, block_number_step, after_n, after_slash, start_step, named_step, head_step, state_of, state_next, state_at}
use Rattle.nc_syntax.proofs.Heads.{head_last, head_go}
use Rattle.nc_syntax.proofs.Breaking.{seen}
use Rattle.nc_syntax.proofs.Going.{number, ways, ok, IsKey, Tidy, Roomy, goes}
use Rattle.nc_syntax.proofs.Orderly.{FreeDo, free_tidy, name_free, TidyStep, take_tidy}

to_key : IsKey (codes "TO")
unfolding name_symbol value_symbol is_exponent
to_key = (refl, omega arith, refl, refl)

of_key : IsKey (codes "OF")
unfolding name_symbol value_symbol is_exponent
of_key = (refl, omega arith, refl, refl)

control_tidy : (which : Control) → Tidy (control_stack which)
control_tidy control.If = (tt, (tt, tt))
control_tidy control.Else = tt
control_tidy control.EndIf = tt
control_tidy control.While = (tt, tt)
control_tidy control.EndWhile = tt
control_tidy control.Until = (tt, tt)
control_tidy control.Loop = tt
control_tidy control.EndLoop = tt
control_tidy control.For = (tt, (tt, (tt, (tt, (to_key, (tt, tt))))))
control_tidy control.EndFor = tt
control_tidy control.Case = (tt, (tt, (tt, (of_key, (tt, (tt, (tt, tt)))))))
control_tidy control.Repeat = (tt, tt)
control_tidy control.RepeatBlock = (tt, (tt, tt))
control_tidy control.Return = tt
control_tidy control.Proc = (tt, (tt, tt))

coordination_tidy : (which : CoordWord) → Tidy (coordination_stack which)
coordination_tidy coord.WaitM = (tt, (tt, (tt, tt)))
coordination_tidy coord.WaitMC = (tt, (tt, (tt, tt)))
coordination_tidy coord.SetM = (tt, (tt, (tt, tt)))
coordination_tidy coord.ClearM = (tt, (tt, tt))
coordination_tidy coord.Init = (tt, (tt, (tt, (tt, (tt, tt)))))
coordination_tidy coord.Start = (tt, (tt, (tt, tt)))
coordination_tidy coord.WaitE = (tt, (tt, (tt, tt)))
coordination_tidy coord.Release = (tt, (tt, (tt, tt)))
coordination_tidy coord.Get = (tt, (tt, (tt, tt)))
coordination_tidy coord.CProt = (tt, (tt, (tt, (tt, (tt, tt)))))

form_tidy : (which : Form) → Tidy (form_stack which)
form_tidy (form.Jump way) = (tt, tt)
form_tidy (form.Control which) = control_tidy which
form_tidy (form.Shape which) = (tt, tt)
form_tidy (form.Turn more) = (tt, (tt, tt))
form_tidy (form.Coord which) = coordination_tidy which
form_tidy form.Msg = (tt, (tt, (tt, tt)))
form_tidy form.Stopre = tt
form_tidy form.Setms = (tt, tt)
form_tidy form.Workpiece = (tt, (tt, tt))

abbrev pub TidyBegun : Beginning → Type 0
TidyBegun (Goes st) = Tidy st
TidyBegun (Stops code) = Unit {0}

word_tidy : (d : Do) → FreeDo None d → TidyBegun (word_beginning d)
word_tidy (Push ws) h = free_tidy None ws (wanted.MoreWords ∷ []) h (tt, tt)
word_tidy Pass h = tt
word_tidy (No code) h = tt

plain_tidy : (b : Bool) (text : List ℕ) → TidyBegun (plain_beginning b text)
plain_tidy true text = word_tidy (name_want text) (name_free None text)
plain_tidy false text = (tt, (tt, tt))

option_tidy : (o : Option Form) (text : List ℕ) → TidyBegun (form_beginning o text)
option_tidy (Some which) text = form_tidy which
option_tidy None text = plain_tidy (is_table_word text) text

pub begun_tidy : (text : List ℕ) → TidyBegun (beginning text)
unfolding beginning
begun_tidy text = option_tidy (form_of text) text

abbrev pub TidyHead : Head → Type 0
TidyHead AtStart = Unit {0}
TidyHead AfterSlash = Unit {0}
TidyHead AfterN = Unit {0}
TidyHead AtLabel = Unit {0}
TidyHead (Named text) = Unit {0}
TidyHead AtBody = Unit {0}
TidyHead (Within st) = Tidy st

abbrev TidyNext : HeadNext → Type 0
TidyNext (HeadOn h) = TidyHead h
TidyNext Over = Unit {0}
TidyNext (Refused code) = Unit {0}

inside_tidy : (n : Next) → TidyStep n → TidyNext (body_next n)
inside_tidy (On st) h = h
inside_tidy Done h = tt
inside_tidy (Refuse code) h = tt

stack_tidy : (st : Stack) (m : Mark) → Tidy st → TidyNext (body_next (on_mark st m))
stack_tidy st m h = inside_tidy (on_mark st m) (take_tidy st m h)

begun_next_tidy : (b : Beginning) → TidyBegun b → TidyNext (beginning_next b)
begun_next_tidy (Goes st) h = h
begun_next_tidy (Stops code) h = tt

begun_more_tidy : (b : Beginning) (m : Mark) → TidyBegun b → TidyNext (beginning_more b m)
begun_more_tidy (Goes st) m h = stack_tidy st m h
begun_more_tidy (Stops code) m h = tt

letter_tidy : (b : Bool) (m : Mark) → TidyNext (letter_body b m)
letter_tidy true m = (tt, tt)
letter_tidy false m = stack_tidy (wanted.AWord ∷ wanted.MoreWords ∷ []) m (tt, (tt, tt))

body_tidy : (p : Piece) (m : Mark) → TidyNext (body_step p m)
body_tidy piece.End m = tt
body_tidy piece.Name m = begun_next_tidy (beginning m.text) (begun_tidy m.text)
body_tidy (piece.Letter b) m = letter_tidy (b == 76) m
body_tidy p m = stack_tidy (wanted.AWord ∷ wanted.MoreWords ∷ []) m (tt, (tt, tt))

label_tidy : (p : Piece) (m : Mark) → TidyNext (label_step p m)
label_tidy piece.Name m = tt
label_tidy p m = body_tidy p m

number_tidy : (b : Bool) (m : Mark) → TidyNext (number_step b m)
number_tidy true m = tt
number_tidy false m = label_tidy m.piece m

block_number_tidy : (b : Bool) → TidyNext (block_number_step b)
block_number_tidy true = tt
block_number_tidy false = tt

n_tidy : (p : Piece) (text : List ℕ) → TidyNext (after_n p text)
n_tidy (piece.Number z) text = block_number_tidy (is_digits text && nat_le (length text) 8)
n_tidy p text = tt

slash_tidy : (b : Bool) (m : Mark) → TidyNext (after_slash b m)
slash_tidy true m = tt
slash_tidy false m = number_tidy (is_letter m.piece 78) m

begin_tidy : (b : Bool) (m : Mark) → TidyNext (start_step b m)
begin_tidy true m = tt
begin_tidy false m = number_tidy (is_letter m.piece 78) m

named_tidy : (b : Bool) (text : List ℕ) (m : Mark) → TidyNext (named_step b text m)
named_tidy true text m = tt
named_tidy false text m = begun_more_tidy (beginning text) m (begun_tidy text)

pub head_tidy : (h : Head) (m : Mark) → TidyHead h → TidyNext (head_step h m)
unfolding head_step
head_tidy AtStart m t = begin_tidy (is_slash m.piece) m
head_tidy AfterSlash m t = slash_tidy (is_number m.piece) m
head_tidy AfterN m t = n_tidy m.piece m.text
head_tidy AtLabel m t = label_tidy m.piece m
head_tidy (Named text) m t = named_tidy (is_colon m.piece) text m
head_tidy AtBody m t = body_tidy m.piece m
head_tidy (Within st) m t = stack_tidy st m t

abbrev pub TidyOption : Option Head → Type 0
TidyOption (Some h) = TidyHead h
TidyOption None = Unit {0}

of_tidy : (n : HeadNext) → TidyNext n → TidyOption (state_of n)
of_tidy (HeadOn h) t = t
of_tidy Over t = tt
of_tidy (Refused code) t = tt

next_tidy : (o : Option Head) (m : Mark) → TidyOption o → TidyOption (state_next o m)
next_tidy (Some h) m t = of_tidy (head_step h m) (head_tidy h m t)
next_tidy None m t = tt

-- every state that is reached is in good order
pub reached_tidy : (words : WordsView) (at : ℕ) → TidyOption (state_at words at)
reached_tidy words zero = tt
reached_tidy words (suc at) = next_tidy (state_at words at) (mark_at words at) (reached_tidy words at)

-- some tokens complete the block
abbrev pub RoomHead : Head → Type 0
RoomHead AtStart = Unit {0}
RoomHead AfterSlash = Unit {0}
RoomHead AfterN = Unit {0}
RoomHead AtLabel = Unit {0}
RoomHead (Named text) = Unit {0}
RoomHead AtBody = Unit {0}
RoomHead (Within st) = Roomy st

abbrev pub head_way : Head → List Mark
head_way AtStart = []
head_way AfterSlash = []
head_way AfterN = number ∷ []
head_way AtLabel = []
head_way (Named text) = seen piece.Colon (codes ":") (Some symbol.Other) false false false 22 ∷ []
head_way AtBody = []
head_way (Within st) = ways st

unfoldable pub head_ok : Head → List Mark → Option ℕ
head_ok h [] = head_last (head_step h (end_mark [] false false false 22))
head_ok h (m ∷ ms) = head_go (head_step h m) (λ next. head_ok next ms)

inside_last : (n : Next) → head_last (body_next n) ≡ last n
inside_last (On st) = refl
inside_last Done = refl
inside_last (Refuse code) = refl

inside_go : (n : Next) (f : Head → Option ℕ) (g : Stack → Option ℕ) → ((st : Stack) → f (Within st) ≡ g st) → head_go (body_next n) f ≡ go n g
inside_go (On st) f g h = h st
inside_go Done f g h = refl
inside_go (Refuse code) f g h = refl

within_ok : (ms : List Mark) (st : Stack) → head_ok (Within st) ms ≡ ok st ms
unfolding head_ok head_step ok
within_ok [] st = inside_last (on_mark st (end_mark [] false false false 22))
within_ok (m ∷ ms) st = inside_go (on_mark st m) (λ h. head_ok h ms) (λ s. ok s ms) (λ (s : Stack). within_ok ms s)

pub head_goes : (h : Head) → TidyHead h → RoomHead h → head_ok h (head_way h) ≡ None
unfolding head_ok head_step
head_goes AtStart t r = refl
head_goes AfterSlash t r = refl
head_goes AfterN t r = refl
head_goes AtLabel t r = refl
head_goes (Named text) t r = refl
head_goes AtBody t r = refl
head_goes (Within st) t r = within_ok (ways st) st ∙ goes st t r
