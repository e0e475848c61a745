-- Coordination words: what is read is spelled so, and what is spelled so is read.
use Rattle.std.proofs.Common.{◌≡◌, ℕ, ◌+◌, ◌<◌, List, [], ◌∷◌, ◌++◌, length, drop, refl, ap, sym, ◌∙◌, subst, inl, inr, Option, Some, None, Result, Ok, Bool, true, false, cond, arith}
use Rattle.std.specs.Prelude.{◌⊎◌, ◌==◌, ◌||◌, IsTrue}
use Rattle.block_scanner.specs.WordsView.{WordsView}
use Rattle.nc_expressions.specs.Symbols.{symbols_of}
use Rattle.nc_expressions.specs.Syntax.{Follows}
use Rattle.nc_expressions.specs.Tree.{Tree}
use Rattle.nc_blocks.specs.declared.blocks.CoordWord.{CoordWord}
use Rattle.nc_blocks.specs.declared.blocks.CoordWord.TheVariants as coord
use Rattle.nc_blocks.specs.declared.pieces.Piece.{Piece}
use Rattle.nc_blocks.specs.declared.pieces.Piece.TheVariants as piece
use Rattle.nc_blocks.specs.Pieces.{piece_at, text_at}
use Rattle.nc_blocks.specs.Texts.{text_within_quotes}
use Rattle.nc_blocks.specs.Marks.{open_at}
use Rattle.nc_blocks.specs.AxisNames.{is_axis_start, has_digits, has_axis_name}
use Rattle.nc_blocks.specs.Lists.{Item, list_at}
use Rattle.nc_blocks.specs.Statement.{OperandView, Value, Text, AxisName, Statement, Coord}
use Rattle.nc_forms.specs.declared.coordination.ArgumentKind.{ArgumentKind}
use Rattle.nc_forms.specs.declared.coordination.ArgumentKind.TheVariants as argument
use Rattle.nc_forms.specs.Frames.{axis_of}
use Rattle.nc_forms.specs.LineEnds.{statement_alone}
use Rattle.nc_forms.specs.Parentheses.{is_close}
use Rattle.nc_forms.specs.Coordination.{separator_of, separator_at, value_argument_at, argument_at, axis_of_piece, axis_at, axis_argument_at, arguments_form, clear_form, quoted_at, is_wait, wait_at, wait_after, last_of_init, third, opened_value, init_form, cprot_form, coordination_form}
use Rattle.nc_forms.specs.Standing.{IsKeyword, IsExpressionText, IsAxisName, AreSeparated}
use Rattle.nc_forms.specs.SpelledForms.{coordination_name, IsValue, IsAxis, IsText, IsInit, IsZoneState, AreArguments, IsCoordination}
use Rattle.nc_forms.proofs.Standings.{piece_within, follows_piece, expression_within, expression_begins, expression_found, expression_only}
use Rattle.nc_forms.proofs.Marked.{bound, taken, one_of, same_pair, open_found, open_only, close_found, close_only, comma_found, comma_only}
use Rattle.nc_forms.proofs.Chained.{not_empty, Steps, list_found, list_only}
use Rattle.nc_forms.proofs.PieceLaws.{moved, text_is, axis_name_found, false_of, or_cases, letter_case, last_false, no_digits, axis_name_only, close_piece}
use Rattle.nc_forms.proofs.LineEnds.{at_line_end, alone_found, alone_only, after_last}

-- after an argument stands a comma, where another one follows, or `)`
abbrev Parted : WordsView → ℕ → Bool → Type 0
Parted words at true = piece_at words at ≡ piece.Comma
Parted words at false = piece_at words at ≡ piece.Close

separator_cases : (words : WordsView) (at next : ℕ) (more : Bool) (p : Piece) → piece_at words at ≡ p → separator_of p (at + 1) ≡ Ok (more, next) → Parted words at more × (next ≡ at + 1)
separator_cases words at next more piece.Comma e h =
    let s = same_pair true more (at + 1) next h in
    let P : Bool → Type 0 = λ b. Parted words at b in (subst P s.0 e, sym s.1)
separator_cases words at next more piece.Close e h =
    let s = same_pair false more (at + 1) next h in
    let P : Bool → Type 0 = λ b. Parted words at b in (subst P s.0 e, sym s.1)
separator_cases words at next more p e h = cc

separator_found : (words : WordsView) (at next : ℕ) (more : Bool) → separator_at words at ≡ Ok (more, next) → Parted words at more × (next ≡ at + 1)
unfolding separator_at
separator_found words at next more h = separator_cases words at next more (piece_at words at) refl h

separator_only : (words : WordsView) (at : ℕ) (more : Bool) → Parted words at more → separator_at words at ≡ Ok (more, at + 1)
unfolding separator_at
separator_only words at true h = ap (λ p. separator_of p (at + 1)) h
separator_only words at false h = ap (λ p. separator_of p (at + 1)) h

parted_follows : (words : WordsView) (at : ℕ) (more : Bool) → Parted words at more → Follows (drop at (symbols_of words))
parted_follows words at true h = follows_piece words at piece.Comma h tt tt
parted_follows words at false h = follows_piece words at piece.Close h tt tt

parted_digits : (words : WordsView) (at : ℕ) (more : Bool) → Parted words at more → has_digits words at ≡ false
parted_digits words at true h = no_digits words at piece.Comma h (λ text. refl)
parted_digits words at false h = no_digits words at piece.Close h (λ text. refl)

-- an argument of some sort is read
abbrev Found : WordsView → (ℕ → Result (Item OperandView) ℕ) → (ℕ → ℕ → OperandView → Type 0) → Type 0
Found words item R = (at next : ℕ) (x : OperandView) (more : Bool) → item at ≡ Ok (x, more, next) →
    (middle : ℕ) × R at middle x × Parted words middle more × (next ≡ middle + 1)

abbrev Only : WordsView → (ℕ → Result (Item OperandView) ℕ) → (ℕ → ℕ → OperandView → Type 0) → Type 0
Only words item R = (at middle : ℕ) (x : OperandView) (more : Bool) → R at middle x → Parted words middle more → item at ≡ Ok (x, more, middle + 1)

abbrev Forward : (ℕ → ℕ → OperandView → Type 0) → Type 0
Forward R = (at middle : ℕ) (x : OperandView) → R at middle x → at < middle

abbrev Parted_list : WordsView → (ℕ → ℕ → OperandView → Type 0) → ℕ → ℕ → List OperandView → Type 0
Parted_list words R at end xs = (close : ℕ) × AreSeparated words R at close xs × (piece_at words close ≡ piece.Close) × (end ≡ close + 1)

steps_list : (words : WordsView) (item : ℕ → Result (Item OperandView) ℕ) (R : ℕ → ℕ → OperandView → Type 0) → Found words item R →
    (xs before : List OperandView) (at end : ℕ) → IsTrue (not_empty xs) → Steps (λ ys. item) before at end xs → Parted_list words R at end xs
steps_list words item R f [] before at end some h = cc
steps_list words item R f (x ∷ []) before at end some h =
    let i = f at h.0 x false h.2 in
    (i.0, (i.0, i.1, refl), i.2, h.3 ∙ i.3)
steps_list words item R f (x ∷ (y ∷ ys)) before at end some h =
    let i = f at h.0 x true h.2 in
    let r = steps_list words item R f (y ∷ ys) (before ++ x ∷ []) h.0 end refl h.3 in
    let P = λ (n : ℕ). R n r.1.0 y in
    (r.0, (i.0, i.1, (r.1.0, i.2, subst P i.3 r.1.1, r.1.2)), r.2, r.3)

list_steps : (words : WordsView) (item : ℕ → Result (Item OperandView) ℕ) (R : ℕ → ℕ → OperandView → Type 0) → Only words item R → Forward R →
    (xs before : List OperandView) (at close : ℕ) → AreSeparated words R at close xs → piece_at words close ≡ piece.Close → Steps (λ ys. item) before at (close + 1) xs
list_steps words item R o w [] before at close h e = absurd h
list_steps words item R o w (x ∷ []) before at close h e =
    let P = λ (n : ℕ). piece_at words n ≡ piece.Close in
    (h.0 + 1, (let k = w at h.0 x h.1 in omega (arith, k)), o at h.0 x false h.1 (subst P h.2 e), ap (λ n. n + 1) h.2)
list_steps words item R o w (x ∷ (y ∷ ys)) before at close h e = (
  h.0 + 1,
  (let k = w at h.0 x h.1 in omega (arith, k)),
  o at h.0 x true h.1 h.2.1,
  list_steps words item R o w (y ∷ ys) (before ++ x ∷ []) (h.0 + 1) close (h.2.0, h.2.2, h.2.3) e,
)

some_list : (words : WordsView) (R : ℕ → ℕ → OperandView → Type 0) (at end : ℕ) (xs : List OperandView) → AreSeparated words R at end xs → IsTrue (not_empty xs)
some_list words R at end [] h = absurd h
some_list words R at end (x ∷ xs) h = refl

-- the values of items
item_same : (x y : OperandView) (b c : Bool) (n m : ℕ) → ◌≡◌ {A = Result (Item OperandView) ℕ} (Ok (x, b, n)) (Ok (y, c, m)) → (x ≡ y) × (b ≡ c) × (n ≡ m)
item_same x y b c n m h =
    let same : (x, b, n) ≡ (y, c, m) = cc in
    (ap (λ (q : OperandView × Bool × ℕ). q.0) same, ap (λ (q : OperandView × Bool × ℕ). q.1) same, ap (λ (q : OperandView × Bool × ℕ). q.2) same)

value_argument_found : (words : WordsView) → Found words (value_argument_at words) (IsValue words)
unfolding value_argument_at
value_argument_found words at next x more h =
    let a = bound _ _ _ h in
    let b = bound _ _ _ a.2 in
    let s = item_same (Value a.0.0) x b.0.0 more b.0.1 next b.2 in
    let d = separator_found words a.0.1 b.0.1 b.0.0 b.1 in
    let P = λ (y : OperandView). IsValue words at a.0.1 y in
    let Q : Bool → Type 0 = λ c. Parted words a.0.1 c in
    (a.0.1, subst P s.0 (expression_found words at a.0.1 a.0.0 a.1), subst Q s.1 d.0, sym s.2 ∙ d.1)

value_argument_only : (words : WordsView) → Only words (value_argument_at words) (IsValue words)
unfolding value_argument_at
value_argument_only words at middle (Value t) more h p =
    rw (expression_only words at middle t h (parted_follows words middle more p), separator_only words middle more p) refl
value_argument_only words at middle (Text bytes) more h p = absurd h
value_argument_only words at middle (AxisName name) more h p = absurd h

value_forward : (words : WordsView) → Forward (IsValue words)
value_forward words at middle (Value t) h = (expression_within words at middle t h).0
value_forward words at middle (Text bytes) h = absurd h
value_forward words at middle (AxisName name) h = absurd h

slot_named : (b : ℕ) → ((b == 88) || (b == 89) || (b == 90)) ≡ true → (slot : ℕ) × (axis_of (piece.Letter b) ≡ Some slot)
slot_named b h =
    let P : ℕ → Type 0 = λ k. (slot : ℕ) × (axis_of (piece.Letter k) ≡ Some slot) in
    or_cases _ _ h (λ h. or_cases _ _ h (λ h. letter_case P b 88 h (0, refl)) (λ h. letter_case P b 89 h (1, refl))) (λ h. letter_case P b 90 h (2, refl))

slot_chosen : (x y z : Bool) (slot : ℕ) → cond x (Some 0) (cond y (Some 1) (cond z (Some 2) None)) ≡ Some slot → (x || y || z) ≡ true
slot_chosen true y z slot h = refl
slot_chosen false true z slot h = refl
slot_chosen false false true slot h = refl
slot_chosen false false false slot h = cc

axis_cases : (words : WordsView) (at end : ℕ) (name : List ℕ) (p : Piece) → piece_at words at ≡ p → axis_of_piece words at p ≡ Ok (name, end) → IsAxis words at end (AxisName name)
axis_cases words at end name (piece.Letter b) e h =
    let P = λ (n : ℕ) (y : List ℕ). IsAxis words at n (AxisName y) in
    one_of _ _ _ _ h
    (λ t f. moved P (b ∷ text_at words (at + 1)) name (at + 2) end f (inl (axis_name_found words at b e t, refl)))
    (λ t f. let c = taken _ _ _ _ f in
    let s = slot_named b c.0 in
    moved P (b ∷ []) name (at + 1) end c.1 (inr (b, s.0, e, s.1, refl, refl)))
axis_cases words at end name p e h = cc

axis_found : (words : WordsView) (at end : ℕ) (name : List ℕ) → axis_at words at ≡ Ok (name, end) → IsAxis words at end (AxisName name)
unfolding axis_at
axis_found words at end name h = axis_cases words at end name (piece_at words at) refl h

named_axis : (words : WordsView) (at end : ℕ) (name : List ℕ) → IsAxisName words at name → has_axis_name words at ≡ true → end ≡ at + 2 → axis_of_piece words at (piece_at words at) ≡ Ok (name, end)
named_axis words at end name h t e = ap (λ p. axis_of_piece words at p) h.1 ∙ rw (t, h.4, e) refl

axis_only : (words : WordsView) (at end : ℕ) (name : List ℕ) → IsAxis words at end (AxisName name) → has_digits words end ≡ false → axis_at words at ≡ Ok (name, end)
unfolding axis_at has_axis_name
axis_only words at end name h n =
    elim h [
      | inl a ↦ let t = axis_name_only words at name a.0 in named_axis words at end name a.0 t a.1
      | inr a ↦ let P = λ (k : ℕ). has_digits words k ≡ false in
          let d = subst P a.5 n in
          let t = slot_chosen (a.0 == 88) (a.0 == 89) (a.0 == 90) a.1 a.3 in
          ap (λ p. axis_of_piece words at p) a.2 ∙ rw (d, last_false (is_axis_start (piece_at words at)) false refl, t, a.4, a.5) refl
    ]

axis_argument_found : (words : WordsView) → Found words (axis_argument_at words) (IsAxis words)
unfolding axis_argument_at
axis_argument_found words at next x more h =
    let a = bound _ _ _ h in
    let b = bound _ _ _ a.2 in
    let s = item_same (AxisName a.0.0) x b.0.0 more b.0.1 next b.2 in
    let d = separator_found words a.0.1 b.0.1 b.0.0 b.1 in
    let P = λ (y : OperandView). IsAxis words at a.0.1 y in
    let Q : Bool → Type 0 = λ c. Parted words a.0.1 c in
    (a.0.1, subst P s.0 (axis_found words at a.0.1 a.0.0 a.1), subst Q s.1 d.0, sym s.2 ∙ d.1)

axis_argument_only : (words : WordsView) → Only words (axis_argument_at words) (IsAxis words)
unfolding axis_argument_at
axis_argument_only words at middle (Value t) more h p = absurd h
axis_argument_only words at middle (Text bytes) more h p = absurd h
axis_argument_only words at middle (AxisName name) more h p =
    rw (axis_only words at middle name h (parted_digits words middle more p), separator_only words middle more p) refl

pub axis_forward : (words : WordsView) → Forward (IsAxis words)
axis_forward words at middle (Value t) h = absurd h
axis_forward words at middle (Text bytes) h = absurd h
axis_forward words at middle (AxisName name) h =
    elim h [
      | inl a ↦ omega (arith, a.1)
      | inr a ↦ omega (arith, a.5)
    ]

-- words with a list of arguments
listed_found : (words : WordsView) (item : ℕ → Result (Item OperandView) ℕ) (R : ℕ → ℕ → OperandView → Type 0) → Found words item R → Forward R →
    (at end : ℕ) (xs : List OperandView) → list_at (λ ys. item) words at ≡ Ok (xs, end) → Parted_list words R at end xs
listed_found words item R f w at end xs h =
    let l = list_found (λ ys. item) (λ ys n x more next e. let i = f n next x more e in let k = w n i.0 x i.1 in omega (arith, k, i.3)) words at xs end h in
    steps_list words item R f xs [] at end l.0 l.1

listed_only : (words : WordsView) (item : ℕ → Result (Item OperandView) ℕ) (R : ℕ → ℕ → OperandView → Type 0) → Only words item R → Forward R →
    (at close : ℕ) (xs : List OperandView) → AreSeparated words R at close xs → piece_at words close ≡ piece.Close → list_at (λ ys. item) words at ≡ Ok (xs, close + 1)
listed_only words item R o w at close xs h e =
    list_only (λ ys. item) words xs at (close + 1) (list_steps words item R o w xs [] at close h e) (some_list words R at close xs h)
    (let k = piece_within words close piece.Close e tt in omega (arith, k))

-- the end of a form after its parenthesis
pub close_last : (words : WordsView) (close : ℕ) → piece_at words close ≡ piece.Close → piece_at words (close + 1) ≡ piece.End → length words.tokens ≡ close + 1
close_last words close h e = after_last words close (piece_within words close piece.Close h tt) e

abbrev Listed : WordsView → (ℕ → ℕ → OperandView → Type 0) → ℕ → CoordWord → Statement → Type 0
Listed words R at which s =
    (xs : List OperandView) × (close : ℕ) × (piece_at words (at + 1) ≡ piece.Open) × AreSeparated words R (at + 2) close xs
    × (piece_at words close ≡ piece.Close) × (length words.tokens ≡ close + 1) × (s ≡ Coord which xs)

moved_start : (words : WordsView) (R : ℕ → ℕ → OperandView → Type 0) (from to close : ℕ) (xs : List OperandView) → from ≡ to → AreSeparated words R from close xs → AreSeparated words R to close xs
moved_start words R from to close xs e h = let P = λ (n : ℕ). AreSeparated words R n close xs in subst P e h

-- arguments of either kind
abbrev IsArgument : WordsView → ArgumentKind → ℕ → ℕ → OperandView → Type 0
IsArgument words argument.Value = IsValue words
IsArgument words argument.Axis = IsAxis words

kind_found : (words : WordsView) (kind : ArgumentKind) → Found words (argument_at words kind) (IsArgument words kind)
kind_found words argument.Value = value_argument_found words
kind_found words argument.Axis = axis_argument_found words

kind_only : (words : WordsView) (kind : ArgumentKind) → Only words (argument_at words kind) (IsArgument words kind)
kind_only words argument.Value = value_argument_only words
kind_only words argument.Axis = axis_argument_only words

kind_forward : (words : WordsView) (kind : ArgumentKind) → Forward (IsArgument words kind)
kind_forward words argument.Value = value_forward words
kind_forward words argument.Axis = axis_forward words

arguments_found : (words : WordsView) (kind : ArgumentKind) (at : ℕ) (which : CoordWord) (s : Statement) → arguments_form words kind which (at + 1) ≡ Ok s →
    Listed words (IsArgument words kind) at which s
unfolding arguments_form
arguments_found words kind at which s h =
    let a = bound _ _ _ h in
    let b = bound _ _ _ a.2 in
    let o = open_found words (at + 1) 22 a.0 a.1 in
    let l = listed_found words (argument_at words kind) (IsArgument words kind) (kind_found words kind) (kind_forward words kind) a.0 b.0.1 b.0.0 b.1 in
    let e = alone_found words b.0.1 (Coord which b.0.0) s b.2 in
    let P = λ (n : ℕ). piece_at words n ≡ piece.End in
    (b.0.0, l.0, o.0, moved_start words (IsArgument words kind) a.0 (at + 2) l.0 b.0.0 (omega (arith, o.1)) l.1, l.2, close_last words l.0 l.2 (subst P l.3 e.0), sym e.1)

arguments_only : (words : WordsView) (kind : ArgumentKind) (at close : ℕ) (which : CoordWord) (xs : List OperandView) → piece_at words (at + 1) ≡ piece.Open →
    AreSeparated words (IsArgument words kind) (at + 2) close xs → piece_at words close ≡ piece.Close → length words.tokens ≡ close + 1 →
    arguments_form words kind which (at + 1) ≡ Ok (Coord which xs)
unfolding arguments_form
arguments_only words kind at close which xs o h c e =
    let l = listed_only words (argument_at words kind) (IsArgument words kind) (kind_only words kind) (kind_forward words kind) (at + 1 + 1) close xs
    (moved_start words (IsArgument words kind) (at + 2) (at + 1 + 1) close xs (omega arith) h) c in
    rw (open_only words (at + 1) 22 o, l) (alone_only words (close + 1) (Coord which xs) (at_line_end words (close + 1) (sym e)))

-- CLEARM
clear_found : (words : WordsView) (at : ℕ) (which : CoordWord) (s : Statement) → clear_form words which (at + 1) ≡ Ok s →
    (xs : List OperandView) × (close : ℕ) × (piece_at words (at + 1) ≡ piece.Open)
    × (((xs ≡ []) × (close ≡ at + 2)) ⊎ AreSeparated words (IsValue words) (at + 2) close xs)
    × (piece_at words close ≡ piece.Close) × (length words.tokens ≡ close + 1) × (s ≡ Coord which xs)
unfolding clear_form
clear_found words at which s h =
    one_of _ _ _ _ h
    (λ c e. let a = bound (open_at words (at + 1) 22) (λ (n : ℕ). statement_alone words (at + 1 + 2) (Coord which [])) s e in
    let o = open_found words (at + 1) 22 a.0 a.1 in
    let f = alone_found words (at + 1 + 2) (Coord which []) s a.2 in
    let place : at + 1 + 1 ≡ at + 2 = omega arith in
    let further : at + 1 + 2 ≡ at + 2 + 1 = omega arith in
    let P = λ (n : ℕ). piece_at words n ≡ piece.Close in
    let Q = λ (n : ℕ). piece_at words n ≡ piece.End in
    let k = subst P place (close_piece (piece_at words (at + 1 + 1)) c) in
    ([], at + 2, o.0, inl (refl, refl), k, close_last words (at + 2) k (subst Q further f.0), sym f.1))
    (λ c e. let l = arguments_found words argument.Value at which s e in (l.0, l.1, l.2, inr l.3, l.4, l.5, l.6))

value_no_close : (words : WordsView) (at end : ℕ) (x : OperandView) → IsValue words at end x → is_close (piece_at words at) ≡ false
value_no_close words at end (Value t) h = false_of (is_close (piece_at words at)) (λ k. expression_begins words at end t piece.Close h (close_piece (piece_at words at) k) tt)
value_no_close words at end (Text bytes) h = absurd h
value_no_close words at end (AxisName name) h = absurd h

no_close : (words : WordsView) (at close : ℕ) (xs : List OperandView) → AreSeparated words (IsValue words) at close xs → is_close (piece_at words at) ≡ false
no_close words at close [] h = absurd h
no_close words at close (x ∷ xs) h = value_no_close words at h.0 x h.1

clear_only : (words : WordsView) (at close : ℕ) (which : CoordWord) (xs : List OperandView) → piece_at words (at + 1) ≡ piece.Open →
    ((xs ≡ []) × (close ≡ at + 2)) ⊎ AreSeparated words (IsValue words) (at + 2) close xs → piece_at words close ≡ piece.Close → length words.tokens ≡ close + 1 →
    clear_form words which (at + 1) ≡ Ok (Coord which xs)
unfolding clear_form
clear_only words at close which xs o h c e =
    elim h [
      | inl a ↦ let place : close ≡ at + 1 + 1 = omega (arith, a.1) in
          let last : length words.tokens ≡ at + 1 + 2 = omega (arith, e, a.1) in
          let P = λ (n : ℕ). piece_at words n ≡ piece.Close in
          rw (subst P place c, open_only words (at + 1) 22 o, a.0) (alone_only words (at + 1 + 2) (Coord which []) (at_line_end words (at + 1 + 2) (sym last)))
      | inr a ↦ let place : at + 2 ≡ at + 1 + 1 = omega arith in
          let P = λ (n : ℕ). is_close (piece_at words n) ≡ false in
          rw (subst P place (no_close words (at + 2) close xs a)) (arguments_only words argument.Value at close which xs o a c e)
    ]

-- INIT
quoted_found : (words : WordsView) (at : ℕ) (text : List ℕ) → quoted_at words at ≡ Ok text → IsText words at text
unfolding quoted_at
quoted_found words at text h =
    let t = taken _ _ _ _ h in
    let e : ◌≡◌ {A = Result (List ℕ) ℕ} (Ok (text_within_quotes (text_at words at))) (Ok text) = t.1 in
    let same : text_within_quotes (text_at words at) ≡ text = cc in
    (text_is (piece_at words at) t.0, sym same)

quoted_only : (words : WordsView) (at : ℕ) (text : List ℕ) → IsText words at text → quoted_at words at ≡ Ok text
unfolding quoted_at
quoted_only words at text h = rw (h.0, h.1) refl

opened_found : (words : WordsView) (at end : ℕ) (o : OperandView) → opened_value words at ≡ Ok (o, end) →
    (t : Tree) × (middle : ℕ) × (piece_at words at ≡ piece.Open) × IsExpressionText words (at + 1) middle t × (piece_at words middle ≡ piece.Comma) × (end ≡ middle + 1) × (o ≡ Value t)
unfolding opened_value
opened_found words at end o h =
    let a = bound _ _ _ h in
    let b = bound _ _ _ a.2 in
    let c = bound _ _ _ b.2 in
    let p = open_found words at 22 a.0 a.1 in
    let k = comma_found words b.0.1 c.0 c.1 in
    let s = same_pair (Value b.0.0) o c.0 end c.2 in
    let P = λ (n : ℕ). IsExpressionText words n b.0.1 b.0.0 in
    (b.0.0, b.0.1, p.0, subst P p.1 (expression_found words a.0 b.0.1 b.0.0 b.1), k.0, sym s.1 ∙ k.1, sym s.0)

opened_only : (words : WordsView) (at middle : ℕ) (t : Tree) → piece_at words at ≡ piece.Open → IsExpressionText words (at + 1) middle t → piece_at words middle ≡ piece.Comma →
    opened_value words at ≡ Ok (Value t, middle + 1)
unfolding opened_value
opened_only words at middle t o h c =
    rw (open_only words at 22 o, expression_only words (at + 1) middle t h (follows_piece words middle piece.Comma c tt tt), comma_only words middle c) refl

wait_found : (words : WordsView) (at : ℕ) (text : List ℕ) → wait_at words at ≡ Ok text → IsText words at text × IsTrue (is_wait text)
unfolding wait_at
wait_found words at text h =
    let a = bound _ _ _ h in
    let t = taken _ _ _ _ a.2 in
    let same : a.0 ≡ text = cc in
    let P = λ (x : List ℕ). IsText words at x × IsTrue (is_wait x) in
    subst P same (quoted_found words at a.0 a.1, t.0)

wait_only : (words : WordsView) (at : ℕ) (text : List ℕ) → IsText words at text → IsTrue (is_wait text) → wait_at words at ≡ Ok text
unfolding wait_at
wait_only words at text h w = rw (quoted_only words at text h, w) refl

-- `)`, or a comma, a text and `)`
abbrev IsThird : WordsView → ℕ → ℕ → Option (List ℕ) → Type 0
IsThird words at close None = (close ≡ at) × (piece_at words close ≡ piece.Close)
IsThird words at close (Some text) =
    (piece_at words at ≡ piece.Comma) × IsText words (at + 1) text × IsTrue (is_wait text) × (close ≡ at + 2) × (piece_at words close ≡ piece.Close)

after_found : (words : WordsView) (at end next : ℕ) (more : Bool) (o : Option (List ℕ)) → Parted words at more → next ≡ at + 1 → wait_after words (more, next) ≡ Ok (o, end) →
    (close : ℕ) × IsThird words at close o × (end ≡ close + 1)
after_found words at end next false o p e h =
    let s = same_pair None o next end h in
    let P = λ (x : Option (List ℕ)). IsThird words at at x in
    (at, subst P s.0 (refl, p), sym s.1 ∙ e)
after_found words at end next true o p e h =
    let a = bound _ _ _ h in
    let b = bound _ _ _ a.2 in
    let w = wait_found words next a.0 a.1 in
    let c = close_found words (next + 1) 22 b.0 b.1 in
    let s = same_pair (Some a.0) o b.0 end b.2 in
    let place : next + 1 ≡ at + 2 = omega (arith, e) in
    let P = λ (x : Option (List ℕ)). IsThird words at (at + 2) x in
    let Q = λ (n : ℕ). IsText words n a.0 in
    let R = λ (n : ℕ). piece_at words n ≡ piece.Close in
    (at + 2, subst P s.0 (p, subst Q e w.0, w.1, refl, subst R place c.0), omega (arith, s.1, c.1, e))

third_found : (words : WordsView) (at end : ℕ) (o : Option (List ℕ)) → last_of_init words at ≡ Ok (o, end) → (close : ℕ) × IsThird words at close o × (end ≡ close + 1)
unfolding last_of_init
third_found words at end o h =
    let a = bound _ _ _ h in
    let p = separator_found words at a.0.1 a.0.0 a.1 in
    after_found words at end a.0.1 a.0.0 o p.0 p.1 a.2

third_only : (words : WordsView) (at close : ℕ) (o : Option (List ℕ)) → IsThird words at close o → last_of_init words at ≡ Ok (o, close + 1)
unfolding last_of_init
third_only words at close None h =
    let P = λ (n : ℕ). piece_at words n ≡ piece.Close in
    rw (separator_only words at false (subst P h.0 h.1), h.0) refl
third_only words at close (Some text) h =
    let place : close ≡ at + 1 + 1 = omega (arith, h.3) in
    let P = λ (n : ℕ). piece_at words n ≡ piece.Close in
    rw (separator_only words at true h.0, wait_only words (at + 1) text h.1 h.2, close_only words (at + 1 + 1) 22 (subst P place h.4), place) refl

init_arguments : (words : WordsView) (at middle close : ℕ) (t : Tree) (program : List ℕ) (o : Option (List ℕ)) → IsExpressionText words at middle t → piece_at words middle ≡ piece.Comma →
    IsText words (middle + 1) program → IsThird words (middle + 2) close o → IsInit words at close (Value t ∷ Text program ∷ third o)
init_arguments words at middle close t program None h c p w = (t, program, middle, h, c, p, inl (refl, w.0))
init_arguments words at middle close t program (Some text) h c p w =
    let one : middle + 2 + 1 ≡ middle + 3 = omega arith in
    let two : middle + 2 + 2 ≡ middle + 4 = omega arith in
    let P = λ (n : ℕ). IsText words n text in
    (t, program, middle, h, c, p, inr (text, w.0, subst P one w.1, w.2, refl, w.3 ∙ two))

init_third : (words : WordsView) (at close : ℕ) (xs : List OperandView) → IsInit words at close xs → piece_at words close ≡ piece.Close →
    (t : Tree) × (program : List ℕ) × (middle : ℕ) × (o : Option (List ℕ)) × IsExpressionText words at middle t × (piece_at words middle ≡ piece.Comma)
    × IsText words (middle + 1) program × IsThird words (middle + 2) close o × (xs ≡ Value t ∷ Text program ∷ third o)
init_third words at close xs h c =
    elim h.6 [
      | inl a ↦ (h.0, h.1, h.2, None, h.3, h.4, h.5, (a.1, c), a.0)
      | inr a ↦ let one : h.2 + 3 ≡ h.2 + 2 + 1 = omega arith in
          let two : h.2 + 4 ≡ h.2 + 2 + 2 = omega arith in
          let P = λ (n : ℕ). IsText words n a.0 in
          (h.0, h.1, h.2, Some a.0, h.3, h.4, h.5, (a.1, subst P one a.2, a.3, a.5 ∙ two, c), a.4)
    ]

third_close : (words : WordsView) (at close : ℕ) (o : Option (List ℕ)) → IsThird words at close o → piece_at words close ≡ piece.Close
third_close words at close None h = h.1
third_close words at close (Some text) h = h.4

init_found : (words : WordsView) (at : ℕ) (which : CoordWord) (s : Statement) → init_form words which (at + 1) ≡ Ok s →
    (xs : List OperandView) × (close : ℕ) × (piece_at words (at + 1) ≡ piece.Open) × IsInit words (at + 2) close xs
    × (piece_at words close ≡ piece.Close) × (length words.tokens ≡ close + 1) × (s ≡ Coord which xs)
unfolding init_form
init_found words at which s h =
    let a = bound _ _ _ h in
    let b = bound _ _ _ a.2 in
    let c = bound _ _ _ b.2 in
    let v = opened_found words (at + 1) a.0.1 a.0.0 a.1 in
    let q = quoted_found words a.0.1 b.0 b.1 in
    let w = third_found words (a.0.1 + 1) c.0.1 c.0.0 c.1 in
    let e = alone_found words c.0.1 (Coord which (a.0.0 ∷ Text b.0 ∷ third c.0.0)) s c.2 in
    let one : at + 1 + 1 ≡ at + 2 = omega arith in
    let two : a.0.1 + 1 ≡ v.1 + 2 = omega (arith, v.5) in
    let X = λ (n : ℕ). IsExpressionText words n v.1 v.0 in
    let Q = λ (n : ℕ). IsText words n b.0 in
    let T = λ (n : ℕ). IsThird words n w.0 c.0.0 in
    let E = λ (n : ℕ). piece_at words n ≡ piece.End in
    let last = subst T two w.1 in
    let k = third_close words (v.1 + 2) w.0 c.0.0 last in (
      Value v.0 ∷ Text b.0 ∷ third c.0.0,
      w.0,
      v.2,
      init_arguments words (at + 2) v.1 w.0 v.0 b.0 c.0.0 (subst X one v.3) v.4 (subst Q v.5 q) last,
      k,
      close_last words w.0 k (subst E w.2 e.0),
      sym e.1 ∙ ap (λ (o : OperandView). Coord which (o ∷ Text b.0 ∷ third c.0.0)) v.6,
    )

init_read : (words : WordsView) (at middle close : ℕ) (which : CoordWord) (t : Tree) (program : List ℕ) (o : Option (List ℕ)) → piece_at words (at + 1) ≡ piece.Open →
    IsExpressionText words (at + 2) middle t → piece_at words middle ≡ piece.Comma → IsText words (middle + 1) program → IsThird words (middle + 2) close o →
    length words.tokens ≡ close + 1 → init_form words which (at + 1) ≡ Ok (Coord which (Value t ∷ Text program ∷ third o))
unfolding init_form
init_read words at middle close which t program o p x c q w e =
    let one : at + 2 ≡ at + 1 + 1 = omega arith in
    let two : middle + 2 ≡ middle + 1 + 1 = omega arith in
    let X = λ (n : ℕ). IsExpressionText words n middle t in
    let T = λ (n : ℕ). IsThird words n close o in
    rw (opened_only words (at + 1) middle t p (subst X one x) c, quoted_only words (middle + 1) program q, third_only words (middle + 1 + 1) close o (subst T two w))
    (alone_only words (close + 1) (Coord which (Value t ∷ Text program ∷ third o)) (at_line_end words (close + 1) (sym e)))

init_only : (words : WordsView) (at close : ℕ) (which : CoordWord) (xs : List OperandView) → piece_at words (at + 1) ≡ piece.Open → IsInit words (at + 2) close xs →
    piece_at words close ≡ piece.Close → length words.tokens ≡ close + 1 → init_form words which (at + 1) ≡ Ok (Coord which xs)
init_only words at close which xs o h c e =
    let i = init_third words (at + 2) close xs h c in
    init_read words at i.2 close which i.0 i.1 i.3 o i.4 i.5 i.6 i.7 e ∙ ap (λ (ys : List OperandView). Ok (Coord which ys)) (sym i.8)

-- CPROT
cprot_found : (words : WordsView) (at : ℕ) (which : CoordWord) (s : Statement) → cprot_form words which (at + 1) ≡ Ok s →
    (xs : List OperandView) × (close : ℕ) × (piece_at words (at + 1) ≡ piece.Open) × IsZoneState words (at + 2) close xs
    × (piece_at words close ≡ piece.Close) × (length words.tokens ≡ close + 1) × (s ≡ Coord which xs)
unfolding cprot_form
cprot_found words at which s h =
    let a = bound _ _ _ h in
    let b = bound _ _ _ a.2 in
    let c = bound _ _ _ b.2 in
    let v = opened_found words (at + 1) a.0.1 a.0.0 a.1 in
    let x = expression_found words a.0.1 b.0.1 b.0.0 b.1 in
    let k = close_found words b.0.1 22 c.0 c.1 in
    let e = alone_found words c.0 (Coord which (a.0.0 ∷ Value b.0.0 ∷ [])) s c.2 in
    let one : at + 1 + 1 ≡ at + 2 = omega arith in
    let X = λ (n : ℕ). IsExpressionText words n v.1 v.0 in
    let Y = λ (n : ℕ). IsExpressionText words n b.0.1 b.0.0 in
    let E = λ (n : ℕ). piece_at words n ≡ piece.End in (
      Value v.0 ∷ Value b.0.0 ∷ [],
      b.0.1,
      v.2,
      (v.0, b.0.0, v.1, subst X one v.3, v.4, subst Y v.5 x, refl),
      k.0,
      close_last words b.0.1 k.0 (subst E k.1 e.0),
      sym e.1 ∙ ap (λ (o : OperandView). Coord which (o ∷ Value b.0.0 ∷ [])) v.6,
    )

cprot_only : (words : WordsView) (at close : ℕ) (which : CoordWord) (xs : List OperandView) → piece_at words (at + 1) ≡ piece.Open → IsZoneState words (at + 2) close xs →
    piece_at words close ≡ piece.Close → length words.tokens ≡ close + 1 → cprot_form words which (at + 1) ≡ Ok (Coord which xs)
unfolding cprot_form
cprot_only words at close which xs o h c e =
    let one : at + 2 ≡ at + 1 + 1 = omega arith in
    let X = λ (n : ℕ). IsExpressionText words n h.2 h.0 in
    rw (opened_only words (at + 1) h.2 h.0 o (subst X one h.3) h.4, expression_only words (h.2 + 1) close h.1 h.5 (follows_piece words close piece.Close c tt tt), close_only words close 22 c, h.6)
    (alone_only words (close + 1) (Coord which (Value h.0 ∷ Value h.1 ∷ [])) (at_line_end words (close + 1) (sym e)))

-- a coordination word with its arguments
abbrev IsRead : WordsView → ℕ → CoordWord → Statement → Type 0
IsRead words at which s =
    (xs : List OperandView) × (close : ℕ) × (piece_at words (at + 1) ≡ piece.Open) × AreArguments words which (at + 2) close xs
    × (piece_at words close ≡ piece.Close) × (length words.tokens ≡ close + 1) × (s ≡ Coord which xs)

read_found : (words : WordsView) (at : ℕ) (which : CoordWord) (s : Statement) → coordination_form words which (at + 1) ≡ Ok s → IsRead words at which s
unfolding coordination_form
read_found words at coord.WaitM s h = arguments_found words argument.Value at coord.WaitM s h
read_found words at coord.WaitMC s h = arguments_found words argument.Value at coord.WaitMC s h
read_found words at coord.SetM s h = arguments_found words argument.Value at coord.SetM s h
read_found words at coord.ClearM s h = clear_found words at coord.ClearM s h
read_found words at coord.Init s h = init_found words at coord.Init s h
read_found words at coord.Start s h = arguments_found words argument.Value at coord.Start s h
read_found words at coord.WaitE s h = arguments_found words argument.Value at coord.WaitE s h
read_found words at coord.Release s h = arguments_found words argument.Axis at coord.Release s h
read_found words at coord.Get s h = arguments_found words argument.Axis at coord.Get s h
read_found words at coord.CProt s h = cprot_found words at coord.CProt s h

pub coordination_form_found : (words : WordsView) (at : ℕ) (which : CoordWord) (s : Statement) → IsKeyword words at (coordination_name which) →
    coordination_form words which (at + 1) ≡ Ok s → (xs : List OperandView) × (s ≡ Coord which xs) × IsCoordination words at (length words.tokens) which xs
coordination_form_found words at which s k h =
    let r = read_found words at which s h in (r.0, r.6, (r.1, k, r.2, r.3, r.4, r.5))

pub coordination_form_only : (words : WordsView) (at : ℕ) (which : CoordWord) (xs : List OperandView) → IsCoordination words at (length words.tokens) which xs →
    coordination_form words which (at + 1) ≡ Ok (Coord which xs)
unfolding coordination_form
coordination_form_only words at coord.WaitM xs h = arguments_only words argument.Value at h.0 coord.WaitM xs h.2 h.3 h.4 h.5
coordination_form_only words at coord.WaitMC xs h = arguments_only words argument.Value at h.0 coord.WaitMC xs h.2 h.3 h.4 h.5
coordination_form_only words at coord.SetM xs h = arguments_only words argument.Value at h.0 coord.SetM xs h.2 h.3 h.4 h.5
coordination_form_only words at coord.ClearM xs h = clear_only words at h.0 coord.ClearM xs h.2 h.3 h.4 h.5
coordination_form_only words at coord.Init xs h = init_only words at h.0 coord.Init xs h.2 h.3 h.4 h.5
coordination_form_only words at coord.Start xs h = arguments_only words argument.Value at h.0 coord.Start xs h.2 h.3 h.4 h.5
coordination_form_only words at coord.WaitE xs h = arguments_only words argument.Value at h.0 coord.WaitE xs h.2 h.3 h.4 h.5
coordination_form_only words at coord.Release xs h = arguments_only words argument.Axis at h.0 coord.Release xs h.2 h.3 h.4 h.5
coordination_form_only words at coord.Get xs h = arguments_only words argument.Axis at h.0 coord.Get xs h.2 h.3 h.4 h.5
coordination_form_only words at coord.CProt xs h = cprot_only words at h.0 coord.CProt xs h.2 h.3 h.4 h.5
