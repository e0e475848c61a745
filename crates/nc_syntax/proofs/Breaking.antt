-- A refusal by tokens depends on the tokens up to its place alone.
use Rattle.std.proofs.Common.{◌≡◌, ℕ, zero, suc, ◌+◌, ◌<◌, ◌≤◌, List, [], ◌∷◌, ◌++◌, length, refl, ap, sym, ◌∙◌, subst, Option, Some, None, Result, Err, Bool, true, false, cond, arith}
use Rattle.block_scanner.specs.WordsView.{WordsView}
use Rattle.nc_expressions.specs.declared.symbols.Symbol.{Symbol}
use Rattle.nc_blocks.specs.declared.pieces.Piece.{Piece}
use Rattle.nc_blocks.specs.declared.pieces.Piece.TheVariants as piece
use Rattle.nc_blocks.specs.Pieces.{text_at}
use Rattle.nc_blocks.specs.Statement.{BlockView}
use Rattle.std.specs.Prelude.{◌||◌, ◌==◌}
use Rattle.nc_forms.specs.Frames.{is_slot}
use Rattle.nc_syntax.specs.Structures.{is_letter}
use Rattle.nc_syntax.specs.Bodies.{is_number}
use Rattle.nc_syntax.specs.Blocks.{is_slash, is_colon, block_of}
use Rattle.nc_syntax.specs.Spelled.{Spells}
use Rattle.nc_syntax.specs.Places.{IsSameAt, BeginsAs, GoesOn}
use Rattle.nc_syntax.proofs.BlockLaws.{block_only}
use Rattle.nc_syntax.specs.Wanted.{Mark, mark_at, Wanted, Assigns, Opens, Closes, ClosesBracket, Constant, Value, Parameter, GNumber, Measured, AfterCentre, AfterSlot, AfterDigits, AfterAxis, AfterAux, AfterAuxDigits, ValueOrText, Bracket, AWord, MoreWords, Keyword, Commas, ATarget, BlockNumber, IfAfter, AJump, Signed, MorePairs, CounterLetter, Counter, Times, RepeatAfter, ALabel, Parentheses, CloseOfCall, Passes, Count, Displof, MoreAxes, FrameValue, Angle, TurnEnd, MoreValues, AxisArgument, AfterArgument, ArgumentDigits, MoreArguments, ClearArguments, Quoted, InitLast, Wait, TextOrNot, SetmsAfter, AfterL, Anything, Do, Push, Pass, No, want, call_close, turn_want, anything_want, on_stack, Stack, Next, On, Done, Refuse, line_end, on_mark}
use Rattle.nc_syntax.proofs.Wanted.{follow}
use Rattle.nc_syntax.proofs.Stepping.{mark_past}
use Rattle.nc_syntax.proofs.Workpieces.{workpieces}
use Rattle.nc_syntax.specs.Forms.{Head, AtStart, AfterSlash, AfterN, AtLabel, Named, AtBody, Within, HeadNext, HeadOn, Over, Refused, Beginning, Goes, Stops, beginning, beginning_more, beginning_next, body_next, letter_body, body_step, label_step, number_step, after_n, after_slash, start_step, named_step, head_step, state_at, state_next, state_of}
use Rattle.nc_syntax.proofs.Heads.{head_at, head_after, head_last, head_past, HeadStays, head_stays, one_head, blocks}

-- what the tokens themselves show; what stands elsewhere in the line changes the code of a refusal alone
abbrev pub seen : Piece → List ℕ → Option Symbol → Bool → Bool → Bool → ℕ → Mark
seen p text s c a l r = record { piece = p; text = text; symbol = s; closes = c; axis = a; later = l; rest = r }

-- the same is done, but for the code
abbrev pub Alike : Do → Do → Type 0
Alike (Push ws) (Push vs) = ws ≡ vs
Alike (Push ws) Pass = ⊥
Alike (Push ws) (No code) = ⊥
Alike Pass (Push vs) = ⊥
Alike Pass Pass = Unit {0}
Alike Pass (No code) = ⊥
Alike (No code) (Push vs) = ⊥
Alike (No code) Pass = ⊥
Alike (No code) (No other) = Unit {0}

alike : (d : Do) → Alike d d
alike (Push ws) = refl
alike Pass = tt
alike (No code) = tt

close_alike : (p : Piece) (c d : Bool) → Alike (call_close p c) (call_close p d)
close_alike piece.Close c d = refl
close_alike p c d = tt

turn_alike : (p : Piece) (a b : Bool) → Alike (turn_want a p) (turn_want b p)
turn_alike piece.End a b = tt
turn_alike p a b = tt

pass_alike : (closed : Bool) (x y : ℕ) → Alike (cond closed Pass (No x)) (cond closed Pass (No y))
pass_alike true x y = tt
pass_alike false x y = tt

anything_alike : (closed : Bool) (p : Piece) (text : List ℕ) (s : Option Symbol) (c a l : Bool) (r : ℕ) (d b k : Bool) (q : ℕ) →
    Alike (anything_want closed (seen p text s c a l r) p) (anything_want closed (seen p text s d b k q) p)
anything_alike closed piece.End text s c a l r d b k q = pass_alike closed r q
anything_alike closed piece.Close text s c a l r d b k q = refl
anything_alike closed piece.Broken text s c a l r d b k q = tt
anything_alike closed p text s c a l r d b k q = refl

pub want_alike : (w : Wanted) (p : Piece) (text : List ℕ) (s : Option Symbol) (c a l : Bool) (r : ℕ) (d b k : Bool) (q : ℕ) → Alike (want w (seen p text s c a l r)) (want w (seen p text s d b k q))
unfolding want
want_alike (Assigns w) p text s c a l r d b k q = alike (want (Assigns w) (seen p text s c a l r))
want_alike (Opens w) p text s c a l r d b k q = alike (want (Opens w) (seen p text s c a l r))
want_alike (Closes w) p text s c a l r d b k q = alike (want (Closes w) (seen p text s c a l r))
want_alike ClosesBracket p text s c a l r d b k q = alike (want ClosesBracket (seen p text s c a l r))
want_alike (Constant w) p text s c a l r d b k q = alike (want (Constant w) (seen p text s c a l r))
want_alike (Value w state) p text s c a l r d b k q = alike (want (Value w state) (seen p text s c a l r))
want_alike Parameter p text s c a l r d b k q = alike (want Parameter (seen p text s c a l r))
want_alike GNumber p text s c a l r d b k q = alike (want GNumber (seen p text s c a l r))
want_alike Measured p text s c a l r d b k q = alike (want Measured (seen p text s c a l r))
want_alike AfterCentre p text s c a l r d b k q = alike (want AfterCentre (seen p text s c a l r))
want_alike AfterSlot p text s c a l r d b k q = alike (want AfterSlot (seen p text s c a l r))
want_alike AfterDigits p text s c a l r d b k q = alike (want AfterDigits (seen p text s c a l r))
want_alike AfterAxis p text s c a l r d b k q = alike (want AfterAxis (seen p text s c a l r))
want_alike AfterAux p text s c a l r d b k q = alike (want AfterAux (seen p text s c a l r))
want_alike AfterAuxDigits p text s c a l r d b k q = alike (want AfterAuxDigits (seen p text s c a l r))
want_alike ValueOrText p text s c a l r d b k q = alike (want ValueOrText (seen p text s c a l r))
want_alike Bracket p text s c a l r d b k q = alike (want Bracket (seen p text s c a l r))
want_alike AWord p text s c a l r d b k q = alike (want AWord (seen p text s c a l r))
want_alike MoreWords p text s c a l r d b k q = alike (want MoreWords (seen p text s c a l r))
want_alike (Keyword word) p text s c a l r d b k q = alike (want (Keyword word) (seen p text s c a l r))
want_alike Commas p text s c a l r d b k q = alike (want Commas (seen p text s c a l r))
want_alike ATarget p text s c a l r d b k q = alike (want ATarget (seen p text s c a l r))
want_alike BlockNumber p text s c a l r d b k q = alike (want BlockNumber (seen p text s c a l r))
want_alike IfAfter p text s c a l r d b k q = alike (want IfAfter (seen p text s c a l r))
want_alike AJump p text s c a l r d b k q = alike (want AJump (seen p text s c a l r))
want_alike Signed p text s c a l r d b k q = alike (want Signed (seen p text s c a l r))
want_alike MorePairs p text s c a l r d b k q = alike (want MorePairs (seen p text s c a l r))
want_alike CounterLetter p text s c a l r d b k q = alike (want CounterLetter (seen p text s c a l r))
want_alike Counter p text s c a l r d b k q = alike (want Counter (seen p text s c a l r))
want_alike Times p text s c a l r d b k q = alike (want Times (seen p text s c a l r))
want_alike RepeatAfter p text s c a l r d b k q = alike (want RepeatAfter (seen p text s c a l r))
want_alike ALabel p text s c a l r d b k q = alike (want ALabel (seen p text s c a l r))
want_alike Parentheses p text s c a l r d b k q = alike (want Parentheses (seen p text s c a l r))
want_alike CloseOfCall p text s c a l r d b k q = close_alike p c d
want_alike Passes p text s c a l r d b k q = alike (want Passes (seen p text s c a l r))
want_alike Count p text s c a l r d b k q = alike (want Count (seen p text s c a l r))
want_alike Displof p text s c a l r d b k q = alike (want Displof (seen p text s c a l r))
want_alike (MoreAxes used) p text s c a l r d b k q = alike (want (MoreAxes used) (seen p text s c a l r))
want_alike FrameValue p text s c a l r d b k q = alike (want FrameValue (seen p text s c a l r))
want_alike Angle p text s c a l r d b k q = alike (want Angle (seen p text s c a l r))
want_alike TurnEnd p text s c a l r d b k q = turn_alike p (is_slot p || a) (is_slot p || b)
want_alike MoreValues p text s c a l r d b k q = alike (want MoreValues (seen p text s c a l r))
want_alike AxisArgument p text s c a l r d b k q = alike (want AxisArgument (seen p text s c a l r))
want_alike AfterArgument p text s c a l r d b k q = alike (want AfterArgument (seen p text s c a l r))
want_alike ArgumentDigits p text s c a l r d b k q = alike (want ArgumentDigits (seen p text s c a l r))
want_alike MoreArguments p text s c a l r d b k q = alike (want MoreArguments (seen p text s c a l r))
want_alike ClearArguments p text s c a l r d b k q = alike (want ClearArguments (seen p text s c a l r))
want_alike Quoted p text s c a l r d b k q = alike (want Quoted (seen p text s c a l r))
want_alike InitLast p text s c a l r d b k q = alike (want InitLast (seen p text s c a l r))
want_alike Wait p text s c a l r d b k q = alike (want Wait (seen p text s c a l r))
want_alike TextOrNot p text s c a l r d b k q = alike (want TextOrNot (seen p text s c a l r))
want_alike SetmsAfter p text s c a l r d b k q = alike (want SetmsAfter (seen p text s c a l r))
want_alike AfterL p text s c a l r d b k q = alike (want AfterL (seen p text s c a l r))
want_alike (Anything closed) p text s c a l r d b k q = anything_alike closed p text s c a l r d b k q

abbrev pub AlikeNext : Next → Next → Type 0
AlikeNext (On st) (On other) = st ≡ other
AlikeNext (On st) Done = ⊥
AlikeNext (On st) (Refuse code) = ⊥
AlikeNext Done (On other) = ⊥
AlikeNext Done Done = Unit {0}
AlikeNext Done (Refuse code) = ⊥
AlikeNext (Refuse code) (On other) = ⊥
AlikeNext (Refuse code) Done = ⊥
AlikeNext (Refuse code) (Refuse other) = Unit {0}

act_alike : (x y : Do) (st : Stack) (n m : Next) → Alike x y → AlikeNext n m → AlikeNext (on_stack x st n) (on_stack y st m)
act_alike (Push ws) (Push vs) st n m h k = ap (λ (u : Stack). u ++ st) h
act_alike (Push ws) Pass st n m h k = absurd h
act_alike (Push ws) (No code) st n m h k = absurd h
act_alike Pass (Push vs) st n m h k = absurd h
act_alike Pass Pass st n m h k = k
act_alike Pass (No code) st n m h k = absurd h
act_alike (No code) (Push vs) st n m h k = absurd h
act_alike (No code) Pass st n m h k = absurd h
act_alike (No code) (No other) st n m h k = tt

next_alike : (n : Next) → AlikeNext n n
next_alike (On st) = refl
next_alike Done = tt
next_alike (Refuse code) = tt

pub take_alike : (st : Stack) (p : Piece) (text : List ℕ) (s : Option Symbol) (c a l : Bool) (r : ℕ) (d b k : Bool) (q : ℕ) → AlikeNext (on_mark st (seen p text s c a l r)) (on_mark st (seen p text s d b k q))
unfolding on_mark
take_alike [] p text s c a l r d b k q = next_alike (line_end p)
take_alike (w ∷ st) p text s c a l r d b k q =
    act_alike (want w (seen p text s c a l r)) (want w (seen p text s d b k q)) st (on_mark st (seen p text s c a l r)) (on_mark st (seen p text s d b k q))
    (want_alike w p text s c a l r d b k q) (take_alike st p text s c a l r d b k q)

abbrev pub HeadAlike : HeadNext → HeadNext → Type 0
HeadAlike (HeadOn h) (HeadOn other) = h ≡ other
HeadAlike (HeadOn h) Over = ⊥
HeadAlike (HeadOn h) (Refused code) = ⊥
HeadAlike Over (HeadOn other) = ⊥
HeadAlike Over Over = Unit {0}
HeadAlike Over (Refused code) = ⊥
HeadAlike (Refused code) (HeadOn other) = ⊥
HeadAlike (Refused code) Over = ⊥
HeadAlike (Refused code) (Refused other) = Unit {0}

same_head : (n : HeadNext) → HeadAlike n n
same_head (HeadOn h) = refl
same_head Over = tt
same_head (Refused code) = tt

inside_alike : (n m : Next) → AlikeNext n m → HeadAlike (body_next n) (body_next m)
inside_alike (On st) (On other) h = ap (λ (u : Stack). Within u) h
inside_alike (On st) Done h = absurd h
inside_alike (On st) (Refuse code) h = absurd h
inside_alike Done (On other) h = absurd h
inside_alike Done Done h = tt
inside_alike Done (Refuse code) h = absurd h
inside_alike (Refuse code) (On other) h = absurd h
inside_alike (Refuse code) Done h = absurd h
inside_alike (Refuse code) (Refuse other) h = tt

words_alike : (p : Piece) (text : List ℕ) (s : Option Symbol) (c a l : Bool) (r : ℕ) (d b k : Bool) (q : ℕ) →
    HeadAlike (body_next (on_mark (AWord ∷ MoreWords ∷ []) (seen p text s c a l r))) (body_next (on_mark (AWord ∷ MoreWords ∷ []) (seen p text s d b k q)))
words_alike p text s c a l r d b k q =
    inside_alike (on_mark (AWord ∷ MoreWords ∷ []) (seen p text s c a l r)) (on_mark (AWord ∷ MoreWords ∷ []) (seen p text s d b k q)) (take_alike (AWord ∷ MoreWords ∷ []) p text s c a l r d b k q)

letter_alike : (is_l : Bool) (p : Piece) (text : List ℕ) (s : Option Symbol) (c a l : Bool) (r : ℕ) (d b k : Bool) (q : ℕ) → HeadAlike (letter_body is_l (seen p text s c a l r)) (letter_body is_l (seen p text s d b k q))
letter_alike true p text s c a l r d b k q = refl
letter_alike false p text s c a l r d b k q = words_alike p text s c a l r d b k q

body_alike : (p o : Piece) (text : List ℕ) (s : Option Symbol) (c a l : Bool) (r : ℕ) (d b k : Bool) (q : ℕ) → HeadAlike (body_step p (seen o text s c a l r)) (body_step p (seen o text s d b k q))
body_alike piece.End o text s c a l r d b k q = tt
body_alike piece.Name o text s c a l r d b k q = same_head (beginning_next (beginning text))
body_alike (piece.Letter x) o text s c a l r d b k q = letter_alike (x == 76) o text s c a l r d b k q
body_alike p o text s c a l r d b k q = words_alike o text s c a l r d b k q

label_alike : (p o : Piece) (text : List ℕ) (s : Option Symbol) (c a l : Bool) (r : ℕ) (d b k : Bool) (q : ℕ) → HeadAlike (label_step p (seen o text s c a l r)) (label_step p (seen o text s d b k q))
label_alike piece.Name o text s c a l r d b k q = refl
label_alike p o text s c a l r d b k q = body_alike p o text s c a l r d b k q

number_alike : (n : Bool) (p : Piece) (text : List ℕ) (s : Option Symbol) (c a l : Bool) (r : ℕ) (d b k : Bool) (q : ℕ) → HeadAlike (number_step n (seen p text s c a l r)) (number_step n (seen p text s d b k q))
number_alike true p text s c a l r d b k q = refl
number_alike false p text s c a l r d b k q = label_alike p p text s c a l r d b k q

slash_alike : (n : Bool) (p : Piece) (text : List ℕ) (s : Option Symbol) (c a l : Bool) (r : ℕ) (d b k : Bool) (q : ℕ) → HeadAlike (after_slash n (seen p text s c a l r)) (after_slash n (seen p text s d b k q))
slash_alike true p text s c a l r d b k q = tt
slash_alike false p text s c a l r d b k q = number_alike (is_letter p 78) p text s c a l r d b k q

start_alike : (n : Bool) (p : Piece) (text : List ℕ) (s : Option Symbol) (c a l : Bool) (r : ℕ) (d b k : Bool) (q : ℕ) → HeadAlike (start_step n (seen p text s c a l r)) (start_step n (seen p text s d b k q))
start_alike true p text s c a l r d b k q = refl
start_alike false p text s c a l r d b k q = number_alike (is_letter p 78) p text s c a l r d b k q

begun_alike : (x : Beginning) (p : Piece) (text : List ℕ) (s : Option Symbol) (c a l : Bool) (r : ℕ) (d b k : Bool) (q : ℕ) → HeadAlike (beginning_more x (seen p text s c a l r)) (beginning_more x (seen p text s d b k q))
begun_alike (Goes st) p text s c a l r d b k q = inside_alike (on_mark st (seen p text s c a l r)) (on_mark st (seen p text s d b k q)) (take_alike st p text s c a l r d b k q)
begun_alike (Stops code) p text s c a l r d b k q = tt

named_alike : (n : Bool) (name : List ℕ) (p : Piece) (text : List ℕ) (s : Option Symbol) (c a l : Bool) (r : ℕ) (d b k : Bool) (q : ℕ) → HeadAlike (named_step n name (seen p text s c a l r)) (named_step n name (seen p text s d b k q))
named_alike true name p text s c a l r d b k q = refl
named_alike false name p text s c a l r d b k q = begun_alike (beginning name) p text s c a l r d b k q

pub head_alike : (h : Head) (p : Piece) (text : List ℕ) (s : Option Symbol) (c a l : Bool) (r : ℕ) (d b k : Bool) (q : ℕ) → HeadAlike (head_step h (seen p text s c a l r)) (head_step h (seen p text s d b k q))
unfolding head_step
head_alike AtStart p text s c a l r d b k q = start_alike (is_slash p) p text s c a l r d b k q
head_alike AfterSlash p text s c a l r d b k q = slash_alike (is_number p) p text s c a l r d b k q
head_alike AfterN p text s c a l r d b k q = same_head (after_n p text)
head_alike AtLabel p text s c a l r d b k q = label_alike p p text s c a l r d b k q
head_alike (Named name) p text s c a l r d b k q = named_alike (is_colon p) name p text s c a l r d b k q
head_alike AtBody p text s c a l r d b k q = body_alike p p text s c a l r d b k q
head_alike (Within st) p text s c a l r d b k q = inside_alike (on_mark st (seen p text s c a l r)) (on_mark st (seen p text s d b k q)) (take_alike st p text s c a l r d b k q)

-- where the same stands, the same is done
pub same_step : (words other : WordsView) (at : ℕ) (h : Head) → IsSameAt words other at → HeadAlike (head_step h (mark_at words at)) (head_step h (mark_at other at))
same_step words other at h e =
    let m = mark_at words at in
    let n = mark_at other at in
    let Same = λ (p : Piece). λ (t : List ℕ). λ (s : Option Symbol). HeadAlike (head_step h m) (head_step h (seen p t s n.closes n.axis n.later n.rest)) in
    let one : Same m.piece m.text m.symbol = head_alike h m.piece m.text m.symbol m.closes m.axis m.later m.rest n.closes n.axis n.later n.rest in
    let two : Same n.piece m.text m.symbol = subst (λ (p : Piece). Same p m.text m.symbol) e.0 one in
    let three : Same n.piece n.text m.symbol = subst (λ (t : List ℕ). Same n.piece t m.symbol) e.1 two in
    subst (λ (s : Option Symbol). Same n.piece n.text s) e.2 three

same_state_of : (n m : HeadNext) → HeadAlike n m → state_of n ≡ state_of m
same_state_of (HeadOn h) (HeadOn other) e = ap (λ (x : Head). Some x) e
same_state_of (HeadOn h) Over e = absurd e
same_state_of (HeadOn h) (Refused code) e = absurd e
same_state_of Over (HeadOn other) e = absurd e
same_state_of Over Over e = refl
same_state_of Over (Refused code) e = absurd e
same_state_of (Refused code) (HeadOn other) e = absurd e
same_state_of (Refused code) Over e = absurd e
same_state_of (Refused code) (Refused other) e = refl

same_next : (o : Option Head) (words other : WordsView) (at : ℕ) → IsSameAt words other at → state_next o (mark_at words at) ≡ state_next o (mark_at other at)
same_next (Some h) words other at e = same_state_of (head_step h (mark_at words at)) (head_step h (mark_at other at)) (same_step words other at h e)
same_next None words other at e = refl

pub same_state : (words other : WordsView) (count at : ℕ) → BeginsAs words count other → at ≤ count → state_at words at ≡ state_at other at
same_state words other count zero b l = refl
same_state words other count (suc at) b l =
    same_next (state_at words at) words other at (b at (omega (arith, l)))
    ∙ ap (λ (o : Option Head). state_next o (mark_at other at)) (same_state words other count at b (omega (arith, l)))

-- the reader comes to this state
state_on : (n : HeadNext) (h : Head) → state_of n ≡ Some h → n ≡ HeadOn h
state_on (HeadOn x) h e = let same : x ≡ h = cc in ap (λ (y : Head). HeadOn y) same
state_on Over h e = cc
state_on (Refused code) h e = cc

pub state_is : (o : Option Head) (m : Mark) (h : Head) → state_next o m ≡ Some h → (before : Head) × (o ≡ Some before) × (head_step before m ≡ HeadOn h)
state_is (Some before) m h e = (before, refl, state_on (head_step before m) h e)
state_is None m h e = cc

pub comes : (words : WordsView) (at : ℕ) (h : Head) → state_at words at ≡ Some h → head_at words 0 AtStart ≡ head_at words at h
comes words zero h e = let same : AtStart ≡ h = cc in ap (λ (x : Head). head_at words 0 x) same
comes words (suc at) h e =
    let b = state_is (state_at words at) (mark_at words at) h e in
    let next : at + 1 ≡ suc at = omega arith in
    comes words at b.0 b.1 ∙ one_head words at b.0 ∙ ap (head_after words at) b.2 ∙ ap (λ (n : ℕ). head_at words n h) next

refused_other : (n m : HeadNext) (code : ℕ) → n ≡ Refused code → HeadAlike n m → (other : ℕ) × (m ≡ Refused other)
refused_other (HeadOn h) m code e a = cc
refused_other Over m code e a = cc
refused_other (Refused c) (HeadOn h) code e a = absurd a
refused_other (Refused c) Over code e a = absurd a
refused_other (Refused c) (Refused other) code e a = (other, refl)

-- the reader by tokens refuses as the reader of the line does
pub reads : (words : WordsView) → head_at words 0 AtStart ≡ follow (block_of words) (λ b. None)
reads words = blocks words (λ (at : ℕ). workpieces words at)

spelled_none : (words : WordsView) (b : BlockView) → Spells words b → head_at words 0 AtStart ≡ None
spelled_none words b s = reads words ∙ ap (λ (r : Result BlockView ℕ). follow r (λ b. None)) (block_only words b s)

-- no line that begins so up to and with a token that is refused spells a block
pub no_further : (words : WordsView) (at : ℕ) (h : Head) (code : ℕ) → state_at words at ≡ Some h → head_step h (mark_at words at) ≡ Refused code → ¬ (GoesOn words (at + 1))
no_further words at h code e r goes =
    let other = goes.0 in
    let begins = goes.2 in
    let same : state_at other at ≡ Some h = sym (same_state words other (at + 1) at begins (omega arith)) ∙ e in
    let no = refused_other (head_step h (mark_at words at)) (head_step h (mark_at other at)) code r (same_step words other at h (begins at (omega arith))) in
    let refused : head_at other 0 AtStart ≡ Some no.0 = comes other at h same ∙ one_head other at h ∙ ap (head_after other at) no.1 in
    let found : head_at other 0 AtStart ≡ None = spelled_none other goes.1 goes.3 in
    let both : ◌≡◌ {A = Option ℕ} (Some no.0) None = sym refused ∙ found in cc

-- the place and the state at which a line is refused
pub record Refusal (words : WordsView) (code : ℕ) : Type 0 where
  pub place : ℕ
  pub state : Head
  pub within : place ≤ length words.tokens
  pub comes : state_at words place ≡ Some state
  pub refused : head_step state (mark_at words place) ≡ Refused code

refusal_case : (words : WordsView) (at code : ℕ) (h : Head) (n : HeadNext) → at < length words.tokens → state_at words at ≡ Some h → head_step h (mark_at words at) ≡ n →
    head_after words at n ≡ Some code →
    ((next : Head) → state_at words (at + 1) ≡ Some next → head_at words (at + 1) next ≡ Some code → Refusal words code) → Refusal words code
refusal_case words at code h (HeadOn next) l e s r again =
    let place : suc at ≡ at + 1 = omega arith in
    let step : state_at words (suc at) ≡ Some next = ap (λ (o : Option Head). state_next o (mark_at words at)) e ∙ ap state_of s in
    again next (sym (ap (state_at words) place) ∙ step) r
refusal_case words at code h Over l e s r again = cc
refusal_case words at code h (Refused other) l e s r again =
    let same : other ≡ code = cc in
    record { place = at; state = h; within = omega (arith, l); comes = e; refused = s ∙ ap (λ (k : ℕ). Refused k) same }

refusal_last : (words : WordsView) (at code : ℕ) (h : Head) (n : HeadNext) → at ≡ length words.tokens → state_at words at ≡ Some h → head_step h (mark_at words at) ≡ n →
    head_last n ≡ Some code → HeadStays n → Refusal words code
refusal_last words at code h (HeadOn next) l e s r t = absurd t
refusal_last words at code h Over l e s r t = cc
refusal_last words at code h (Refused other) l e s r t =
    let same : other ≡ code = cc in
    record { place = at; state = h; within = omega (arith, l); comes = e; refused = s ∙ ap (λ (k : ℕ). Refused k) same }

refusal_from : (n : ℕ) (words : WordsView) (at code : ℕ) (h : Head) → at + n ≡ length words.tokens → state_at words at ≡ Some h → head_at words at h ≡ Some code → Refusal words code
refusal_from zero words at code h l e r =
    let past : length words.tokens ≤ at = omega (arith, l) in
    let m = mark_past words at past in
    let S : Mark → Type 0 = λ k. HeadStays (head_step h k) in
    let stays = subst S (sym m) (head_stays (text_at words at) (mark_at words at).closes (mark_at words at).axis (mark_at words at).later (mark_at words at).rest h) in
    refusal_last words at code h (head_step h (mark_at words at)) (omega (arith, l)) e refl (sym (head_past words at h past) ∙ r) stays
refusal_from (suc n) words at code h l e r =
    refusal_case words at code h (head_step h (mark_at words at)) (omega (arith, l)) e refl (sym (one_head words at h) ∙ r)
    (λ (next : Head) (s : state_at words (at + 1) ≡ Some next) (k : head_at words (at + 1) next ≡ Some code). refusal_from n words (at + 1) code next (omega (arith, l)) s k)

-- a line that is read into no block is refused at a place
pub refusal : (words : WordsView) (code : ℕ) → block_of words ≡ Err code → Refusal words code
refusal words code h =
    refusal_from (length words.tokens) words 0 code AtStart (omega arith) refl (reads words ∙ ap (λ (r : Result BlockView ℕ). follow r (λ b. None)) h)
