-- Where no token goes on, though none is wrong: after the name of a function whose parenthesis is one too many.
use Rattle.std.proofs.Common.{◌≡◌, List, [], ◌∷◌, ◌++◌, refl, inl, inr, Option, Some, None, Bool, true, false, cond, ℕ}
use Rattle.std.specs.Prelude.{◌⊎◌, ◌==◌, ◌||◌}
use Rattle.std.specs.List.{list_any}
use Rattle.nc_expressions.specs.declared.levels.Level.{Level}
use Rattle.nc_expressions.specs.declared.levels.Level.TheVariants.{Plain}
use Rattle.nc_expressions.specs.declared.symbols.Symbol.{Symbol}
use Rattle.nc_expressions.specs.declared.symbols.Symbol.TheVariants as symbol
use Rattle.nc_expressions.specs.declared.stack.Bracket.TheVariants.{Argument}
use Rattle.nc_expressions.specs.declared.trees.UnaryOp.{UnaryOp}
use Rattle.nc_expressions.specs.Limits.{all_limits, has_room}
use Rattle.nc_expressions.specs.Machine as machine
use Rattle.nc_blocks.specs.declared.pieces.Piece.{Piece}
use Rattle.nc_blocks.specs.declared.pieces.Piece.TheVariants as piece
use Rattle.nc_forms.specs.Frames.{axis_of, is_slot}
use Rattle.nc_syntax.specs.Wanted as wanted
use Rattle.nc_syntax.specs.Wanted.{Mark, Wanted, Do, Push, Pass, No, Stack, Next, On, Done, Refuse, want, on_mark}
use Rattle.nc_syntax.proofs.Going.{TidyItem, Tidy, HasRoom, RoomItem, Roomy}
use Rattle.nc_syntax.proofs.Orderly.{FreeItem, FreeState, Free, FreeDo, want_free, word_free}

-- the last token is the name of a function
abbrev pub IsFunction : Option Symbol → Type 0
IsFunction s = (f : UnaryOp) × (s ≡ Some (symbol.Function f))

state_room : (s : Option Symbol) (state : machine.State) → FreeState s state → HasRoom state ⊎ IsFunction s
state_room s (machine.Wants st lv) h = inl tt
state_room s (machine.WantsIndex st lv) h = inl tt
state_room s (machine.WantsArgument f st lv) h = inr (f, h.1)
state_room s (machine.Has t st lv) h = inl tt

item_room : (s : Option Symbol) (w : Wanted) → FreeItem (FreeState s) w → RoomItem w ⊎ IsFunction s
item_room s (wanted.Value w state) h = state_room s state h
item_room s w h = inl tt

no_function : {A : Type 0} → A ⊎ IsFunction None → A
no_function (inl a) = a
no_function (inr (f, h)) = cc

-- all of these can be given
pub free_roomy : (ws : Stack) → Free None ws → Roomy ws
free_roomy [] h = tt
free_roomy (w ∷ ws) h = (no_function (item_room None w h.0), free_roomy ws h.1)

-- all but the first
abbrev pub Settled : Stack → Type 0
Settled [] = Unit {0}
Settled (w ∷ st) = Roomy st

pub roomy_settled : (st : Stack) → Roomy st → Settled st
roomy_settled [] h = tt
roomy_settled (w ∷ st) h = h.1

pub both_roomy : (ws st : Stack) → Roomy ws → Roomy st → Roomy (ws ++ st)
both_roomy [] st h k = k
both_roomy (w ∷ ws) st h k = (h.0, both_roomy ws st h.1 k)

both_settled : (ws st : Stack) → Settled ws → Roomy st → Settled (ws ++ st)
both_settled [] st h k = roomy_settled st k
both_settled (w ∷ ws) st h k = both_roomy ws st h k

-- what a token leaves
abbrev pub Leaves : Option Symbol → Stack → Type 0
Leaves s st = Settled st × (Roomy st ⊎ IsFunction s)

both_leave : (s : Option Symbol) (ws st : Stack) → Leaves s ws → Roomy st → Leaves s (ws ++ st)
both_leave s ws st (h, inl r) k = (both_settled ws st h k, inl (both_roomy ws st r k))
both_leave s ws st (h, inr f) k = (both_settled ws st h k, inr f)

first_leaves : (s : Option Symbol) (w : Wanted) (ws : Stack) → Roomy ws → RoomItem w ⊎ IsFunction s → Leaves s (w ∷ ws)
first_leaves s w ws h (inl r) = (h, inl (r, h))
first_leaves s w ws h (inr f) = (h, inr f)

free_leaves : (s : Option Symbol) (ws : Stack) → Free s ws → Leaves s ws
free_leaves s [] h = (tt, inl tt)
free_leaves s (w ∷ ws) h = first_leaves s w ws (free_roomy ws h.1) (item_room s w h.0)

abbrev pub DoLeaves : Option Symbol → Do → Type 0
DoLeaves s (Push ws) = Leaves s ws
DoLeaves s Pass = Unit {0}
DoLeaves s (No code) = Unit {0}

do_leaves : (s : Option Symbol) (d : Do) → FreeDo s d → DoLeaves s d
do_leaves s (Push ws) h = free_leaves s ws h
do_leaves s Pass h = tt
do_leaves s (No code) h = tt

more_leaves : (s : Option Symbol) (d : Do) → FreeDo s d → DoLeaves s (wanted.and_more d)
more_leaves s (Push ws) h = both_leave s ws (wanted.MoreWords ∷ []) (free_leaves s ws h) (tt, tt)
more_leaves s Pass h = tt
more_leaves s (No code) h = tt

more_words_leave : (s : Option Symbol) (p : Piece) (text : List ℕ) → DoLeaves s (wanted.more_words p text)
more_words_leave s piece.End text = tt
more_words_leave s p text = more_leaves s (wanted.word_want p text) (word_free s p text)

axes_or : (s : Option Symbol) (b : Bool) (used : List ℕ) → DoLeaves s (cond b (No 22) (Push (wanted.FrameValue ∷ wanted.MoreAxes used ∷ [])))
axes_or s true used = tt
axes_or s false used = ((tt, tt), inl (tt, (tt, tt)))

axes_leave : (s : Option Symbol) (used : List ℕ) (o : Option ℕ) (p : Piece) → DoLeaves s (wanted.axes_want used o p)
axes_leave s used (Some axis) p = axes_or s (list_any (λ n. n == axis) used) (used ++ axis ∷ [])
axes_leave s used None p = tt

more_axes_leave : (s : Option Symbol) (used : List ℕ) (p : Piece) → DoLeaves s (wanted.more_axes used p)
more_axes_leave s used piece.End = tt
more_axes_leave s used p = axes_leave s used (axis_of p) p

end_or : (s : Option Symbol) (b : Bool) (code : ℕ) → DoLeaves s (cond b Pass (No code))
end_or s true code = tt
end_or s false code = tt

anything_leaves : (s : Option Symbol) (closed : Bool) (m : Mark) (p : Piece) → DoLeaves s (wanted.anything_want closed m p)
anything_leaves s closed m piece.End = end_or s closed m.rest
anything_leaves s closed m piece.Close = (tt, inl (tt, tt))
anything_leaves s closed m piece.Broken = tt
anything_leaves s closed m p = (tt, inl (tt, tt))

turn_leaves : (s : Option Symbol) (b : Bool) (p : Piece) → DoLeaves s (wanted.turn_want b p)
turn_leaves s b piece.End = tt
turn_leaves s b p = tt

want_leaves : (w : Wanted) (m : Mark) (st : Stack) → TidyItem w st → DoLeaves m.symbol (want w m)
unfolding want
want_leaves wanted.MoreWords m st h = more_words_leave m.symbol m.piece m.text
want_leaves (wanted.MoreAxes used) m st h = more_axes_leave m.symbol used m.piece
want_leaves wanted.TurnEnd m st h = turn_leaves m.symbol (is_slot m.piece || m.axis) m.piece
want_leaves (wanted.Anything closed) m st h = anything_leaves m.symbol closed m m.piece
want_leaves w m st h = do_leaves m.symbol (want w m) (want_free w m h)

abbrev pub StepLeaves : Option Symbol → Next → Type 0
StepLeaves s (On st) = Leaves s st
StepLeaves s Done = Unit {0}
StepLeaves s (Refuse code) = Unit {0}

stack_leaves : (s : Option Symbol) (d : Do) (st : Stack) (n : Next) → DoLeaves s d → Roomy st → StepLeaves s n → StepLeaves s (wanted.on_stack d st n)
stack_leaves s (Push ws) st n h r k = both_leave s ws st h r
stack_leaves s Pass st n h r k = k
stack_leaves s (No code) st n h r k = tt

end_leaves : (s : Option Symbol) (p : Piece) → StepLeaves s (wanted.line_end p)
end_leaves s piece.End = tt
end_leaves s p = tt

pub mark_leaves : (st : Stack) (m : Mark) → Tidy st → Settled st → StepLeaves m.symbol (on_mark st m)
unfolding on_mark
mark_leaves [] m t h = end_leaves m.symbol m.piece
mark_leaves (w ∷ st) m t h =
    stack_leaves m.symbol (want w m) st (on_mark st m) (want_leaves w m st t.0) h (mark_leaves st m t.1 (roomy_settled st h))

-- where a token goes on what was wanted before could be given
abbrev Accepts : Do → Type 0
Accepts (Push ws) = Unit {0}
Accepts Pass = Unit {0}
Accepts (No code) = ⊥

abbrev pub Lives : Next → Type 0
Lives (On st) = Unit {0}
Lives Done = ⊥
Lives (Refuse code) = ⊥

room_or : (w : Bool) (m : Mark) (b : Bool) (state : machine.State) → Accepts (wanted.value_next w m (cond b (machine.On state) (machine.Refuse 26))) → b ≡ true
room_or w m true state h = refl
room_or w m false state h = absurd h

argument_room : (w : Bool) (m : Mark) (f : UnaryOp) (st : machine.Stack) (lv : Level) (o : Option Symbol) → Accepts (wanted.value_want w (machine.WantsArgument f st lv) m o) →
    has_room all_limits (machine.depth st) ≡ true
unfolding machine.step machine.on_argument machine.next_in_bracket machine.finish
argument_room w m f st lv (Some (symbol.Number z digits)) h = absurd h
argument_room w m f st lv (Some (symbol.Truth b)) h = absurd h
argument_room w m f st lv (Some (symbol.Operator op)) h = absurd h
argument_room w m f st lv (Some symbol.Not) h = absurd h
argument_room w m f st lv (Some (symbol.Function g)) h = absurd h
argument_room w m f st lv (Some symbol.Letter) h = absurd h
argument_room w m f st lv (Some symbol.Open) h = room_or w m (has_room all_limits (machine.depth st)) (machine.Wants (machine.Opened (Argument f) lv ∷ st) Plain) h
argument_room w m f st lv (Some symbol.Close) h = absurd h
argument_room w m f st lv (Some symbol.OpenBracket) h = absurd h
argument_room w m f st lv (Some symbol.CloseBracket) h = absurd h
argument_room w m f st lv (Some symbol.Exponent) h = absurd h
argument_room w m f st lv (Some symbol.Other) h = absurd h
argument_room w m f st lv None h = absurd h

room_before : (w : Wanted) (m : Mark) → Accepts (want w m) → RoomItem w
unfolding want
room_before (wanted.Value w (machine.WantsArgument f st lv)) m h = argument_room w m f st lv m.symbol h
room_before (wanted.Value w (machine.Wants st lv)) m h = tt
room_before (wanted.Value w (machine.WantsIndex st lv)) m h = tt
room_before (wanted.Value w (machine.Has t st lv)) m h = tt
room_before w m h = tt

accepts : (d : Do) (st : Stack) (n : Next) → Lives (wanted.on_stack d st n) → Accepts d
accepts (Push ws) st n h = tt
accepts Pass st n h = tt
accepts (No code) st n h = absurd h

pub mark_before : (st : Stack) (m : Mark) → Settled st → Lives (on_mark st m) → Roomy st
unfolding on_mark
mark_before [] m h l = tt
mark_before (w ∷ st) m h l = (room_before w m (accepts (want w m) st (on_mark st m) l), h)
