-- One token: what it does to what is wanted.
use Rattle.std.proofs.Common.{◌≡◌, ℕ, ◌+◌, ◌<◌, ◌≤◌, List, ◌∷◌, ◌++◌, length, refl, sym, ◌∙◌, subst, inl, inr, Option, Some, None, Result, Ok, Err, Bool, true, false, cond, arith}
use Rattle.std.proofs.lemmas.Bool.{cases_lt}
use Rattle.std.proofs.lemmas.List.{drop_more, drop_all}
use Rattle.std.proofs.lemmas.Option.{slice_get_past}
use Rattle.block_scanner.specs.declared.Kind.TheVariants as kind
use Rattle.block_scanner.specs.declared.Token.{Token}
use Rattle.block_scanner.specs.WordsView.{WordsView}
use Rattle.nc_expressions.specs.Machine as machine
use Rattle.nc_expressions.specs.Symbols.{symbols_of}
use Rattle.nc_expressions.specs.Value.{◌>>=◌}
use Rattle.nc_expressions.proofs.Beginnings.{length-symbols_of}
use Rattle.nc_blocks.specs.declared.pieces.Piece.TheVariants as piece
use Rattle.nc_blocks.specs.Pieces.{text_at}
use Rattle.nc_blocks.proofs.Places.{piece_past}
use Rattle.nc_blocks.specs.AxisNames.{has_axis_word}
use Rattle.nc_syntax.specs.Structures.{has_close}
use Rattle.nc_forms.specs.Coordination.{last_close}
use Rattle.nc_syntax.specs.Wanted.{Mark, mark_at, Wanted, Assigns, Opens, Closes, ClosesBracket, Constant, Value, Parameter, GNumber, Measured, AfterCentre, AfterSlot, AfterDigits, AfterAxis, AfterAux, AfterAuxDigits, ValueOrText, Bracket, AWord, MoreWords, Keyword, Commas, ATarget, BlockNumber, IfAfter, AJump, Signed, MorePairs, CounterLetter, Counter, Times, RepeatAfter, ALabel, Parentheses, CloseOfCall, Passes, Count, Displof, MoreAxes, FrameValue, Angle, TurnEnd, MoreValues, AxisArgument, AfterArgument, ArgumentDigits, MoreArguments, ClearArguments, Quoted, InitLast, Wait, TextOrNot, SetmsAfter, Anything, AfterL, has_close_from, rest_of, Do, Push, Pass, No, want, Stack, on_stack, on_mark, end_next}
use Rattle.nc_syntax.proofs.Wanted.{last, go, run, run_at, follow}

pub follow_bind : {A B : Type 0} (r : Result A ℕ) (f : A → Result B ℕ) (g : B → Option ℕ) → follow (r >>= f) g ≡ follow r (λ x. follow (f x) g)
follow_bind (Ok x) f g = refl
follow_bind (Err code) f g = refl

pub follow_same : {A : Type 0} (r : Result A ℕ) (f g : A → Option ℕ) → ((x : A) → f x ≡ g x) → follow r f ≡ follow r g
follow_same (Ok x) f g h = h x
follow_same (Err code) f g h = refl

pub run_on : (words : WordsView) (at : ℕ) (st : Stack) → at < length words.tokens → run_at words at st ≡ go (on_mark st (mark_at words at)) (λ next. run_at words (at + 1) next)
unfolding run_at run
run_on words at st h =
    let d : Token = record { kind = kind.Name; start = 0; end = 0 } in
    rw (drop_more words.tokens at d h) refl

pub run_past : (words : WordsView) (at : ℕ) (st : Stack) → length words.tokens ≤ at → run_at words at st ≡ last (on_mark st (mark_at words at))
unfolding run_at run
run_past words at st h = rw (drop_all at words.tokens h) refl

-- nothing is taken at the end of the line
abbrev pub Takes : Do → Type 0
Takes (Push ws) = ⊥
Takes Pass = Unit {0}
Takes (No code) = Unit {0}

end_takes : (n : machine.Next) → Takes (end_next n)
end_takes (machine.On state) = tt
end_takes (machine.Ends t) = tt
end_takes (machine.Refuse code) = tt

abbrev pub end_mark : List ℕ → Bool → Bool → Bool → ℕ → Mark
end_mark text c a l r = record { piece = piece.End; text = text; symbol = None; closes = c; axis = a; later = l; rest = r }

closed_takes : (b : Bool) (c : ℕ) → Takes (cond b Pass (No c))
closed_takes true c = tt
closed_takes false c = tt

pub at_end : (text : List ℕ) (c a l : Bool) (r : ℕ) (w : Wanted) → Takes (want w (end_mark text c a l r))
unfolding want machine.finish
at_end text c a l r (Assigns w) = tt
at_end text c a l r (Opens w) = tt
at_end text c a l r (Closes w) = tt
at_end text c a l r ClosesBracket = tt
at_end text c a l r (Constant w) = tt
at_end text c a l r (Value w state) = end_takes (machine.finish state)
at_end text c a l r Parameter = tt
at_end text c a l r GNumber = tt
at_end text c a l r Measured = tt
at_end text c a l r AfterCentre = tt
at_end text c a l r AfterSlot = tt
at_end text c a l r AfterDigits = tt
at_end text c a l r AfterAxis = tt
at_end text c a l r AfterAux = tt
at_end text c a l r AfterAuxDigits = tt
at_end text c a l r ValueOrText = tt
at_end text c a l r Bracket = tt
at_end text c a l r AWord = tt
at_end text c a l r MoreWords = tt
at_end text c a l r (Keyword word) = tt
at_end text c a l r Commas = tt
at_end text c a l r ATarget = tt
at_end text c a l r BlockNumber = tt
at_end text c a l r IfAfter = tt
at_end text c a l r AJump = tt
at_end text c a l r Signed = tt
at_end text c a l r MorePairs = tt
at_end text c a l r CounterLetter = tt
at_end text c a l r Counter = tt
at_end text c a l r Times = tt
at_end text c a l r RepeatAfter = tt
at_end text c a l r ALabel = tt
at_end text c a l r Parentheses = tt
at_end text c a l r CloseOfCall = tt
at_end text c a l r Passes = tt
at_end text c a l r Count = tt
at_end text c a l r Displof = tt
at_end text c a l r (MoreAxes used) = tt
at_end text c a l r FrameValue = tt
at_end text c a l r Angle = tt
at_end text c a l r TurnEnd = tt
at_end text c a l r MoreValues = tt
at_end text c a l r AxisArgument = tt
at_end text c a l r AfterArgument = tt
at_end text c a l r ArgumentDigits = tt
at_end text c a l r MoreArguments = tt
at_end text c a l r ClearArguments = tt
at_end text c a l r Quoted = tt
at_end text c a l r InitLast = tt
at_end text c a l r Wait = tt
at_end text c a l r TextOrNot = tt
at_end text c a l r SetmsAfter = tt
at_end text c a l r AfterL = tt
at_end text c a l r (Anything closed) = closed_takes closed r

-- what becomes of the line when this is done with the token at a place
abbrev pub after : WordsView → ℕ → Do → Stack → Option ℕ
after words at (Push ws) st = run_at words (at + 1) (ws ++ st)
after words at Pass st = run_at words at st
after words at (No code) st = Some code

on_token : (words : WordsView) (at : ℕ) (st : Stack) (d : Do) → at < length words.tokens →
    go (on_stack d st (on_mark st (mark_at words at))) (λ next. run_at words (at + 1) next) ≡ after words at d st
on_token words at st (Push ws) h = refl
on_token words at st Pass h = sym (run_on words at st h)
on_token words at st (No code) h = refl

on_end : (words : WordsView) (at : ℕ) (st : Stack) (d : Do) → length words.tokens ≤ at → Takes d → last (on_stack d st (on_mark st (mark_at words at))) ≡ after words at d st
on_end words at st (Push ws) h t = absurd t
on_end words at st Pass h t = sym (run_past words at st h)
on_end words at st (No code) h t = refl

pub mark_past : (words : WordsView) (at : ℕ) → length words.tokens ≤ at → mark_at words at ≡ end_mark (text_at words at) (has_close words) (has_axis_word words at) (has_close_from words at) (rest_of words (last_close words.tokens))
mark_past words at h =
    let s = slice_get_past (symbols_of words) at (omega (arith, h, length-symbols_of words)) in
    let p = piece_past words at h in
    rw (sym p, s) refl

pub one_step : (words : WordsView) (at : ℕ) (w : Wanted) (st : Stack) → run_at words at (w ∷ st) ≡ after words at (want w (mark_at words at)) st
unfolding on_mark
one_step words at w st =
    elim (cases_lt at (length words.tokens)) [
      | inl h ↦ run_on words at (w ∷ st) h ∙ on_token words at st (want w (mark_at words at)) h
      | inr h ↦
          let m = mark_past words at h in
          let T : Mark → Type 0 = λ k. Takes (want w k) in
          run_past words at (w ∷ st) h ∙ on_end words at st (want w (mark_at words at)) h (subst T (sym m) (at_end (text_at words at) (has_close words) (has_axis_word words at) (has_close_from words at) (rest_of words (last_close words.tokens)) w))
    ]
