-- Frames: what is read is spelled so, and what is spelled so is read.
use Rattle.std.proofs.Common.{◌≡◌, ℕ, ◌+◌, ◌<◌, ◌≤◌, List, [], ◌∷◌, ◌++◌, length, map, drop, refl, ap, sym, ◌∙◌, subst, inl, inr, Option, Some, None, Result, Ok, Bool, true, false, arith}
use Rattle.std.specs.Prelude.{ℤ, ◌⊎◌, ◌==◌, ◌||◌, not, IsTrue}
use Rattle.std.specs.List.{IsDistinct, AllByRecursion}
use Rattle.std.proofs.lemmas.Bool.{eqb-true, eq-eqb}
use Rattle.block_scanner.specs.WordsView.{WordsView}
use Rattle.nc_expressions.specs.Symbols.{symbols_of}
use Rattle.nc_expressions.specs.Syntax.{Follows}
use Rattle.nc_expressions.specs.Tree.{Tree, Number}
use Rattle.nc_blocks.specs.declared.blocks.FrameWord.{FrameWord}
use Rattle.nc_blocks.specs.declared.pieces.Piece.{Piece}
use Rattle.nc_blocks.specs.declared.pieces.Piece.TheVariants as piece
use Rattle.nc_blocks.specs.Pieces.{piece_at, is_end}
use Rattle.nc_blocks.specs.Marks.{is_keyword}
use Rattle.nc_blocks.specs.AxisNames.{has_axis_name, has_axis_word}
use Rattle.nc_blocks.specs.Lists.{Item}
use Rattle.nc_blocks.specs.Statement.{Statement, Shape, Turn}
use Rattle.nc_forms.specs.Frames.{axis_of, frame_value, has_axis, frame_word, frame_word_at, shape_form, turn_end, angle_at, turn_form}
use Rattle.nc_forms.specs.Standing.{IsKeyword, IsExpressionText, IsSignedNumber, IsAssigned, AreListed}
use Rattle.nc_forms.specs.SpelledForms.{frame_name, turn_name, IsFrameAxis, IsShape, IsAngle}
use Rattle.nc_forms.proofs.Standings.{follows_letter, follows_end, expression_found, expression_only}
use Rattle.nc_forms.proofs.Marked.{bound, refused, one_of, same_pair, end_found, end_only, assign_found, assign_only, constant_found, constant_only}
use Rattle.nc_forms.proofs.Chained.{not_empty, Steps, list_found, list_only}
use Rattle.nc_forms.proofs.PieceLaws.{moved, assign_is, or_parts, or_both, false_of, signed_no_assign}
use Rattle.nc_forms.proofs.LineEnds.{signed_within, assigned_within, line_end, at_line_end, end_is, keyword_within, after_last}

-- axes that come once
abbrev keys : List (ℕ × Tree) → List ℕ
keys xs = map (λ x. x.0) xs

-- none of those before comes again, and each comes once
abbrev pub Once : List (ℕ × Tree) → List (ℕ × Tree) → Type 0
Once before [] = Unit {0}
Once before (x ∷ xs) = (has_axis before x.0 ≡ false) × Once (before ++ x ∷ []) xs

-- the axes of a list are other than those before
abbrev Others : List (ℕ × Tree) → List (ℕ × Tree) → Type 0
Others before [] = Unit {0}
Others before (x ∷ xs) = (has_axis before x.0 ≡ false) × Others before xs

last_or : (b : Bool) → (b || false) ≡ b
last_or true = refl
last_or false = refl

or_assoc : (a b c : Bool) → ((a || b) || c) ≡ (a || (b || c))
or_assoc true b c = refl
or_assoc false b c = refl

any_append : (before : List (ℕ × Tree)) (x : ℕ × Tree) (axis : ℕ) → has_axis (before ++ x ∷ []) axis ≡ (has_axis before axis || (x.0 == axis))
any_append [] x axis = last_or (x.0 == axis)
any_append (y ∷ ys) x axis = ap (λ b. (y.0 == axis) || b) (any_append ys x axis) ∙ sym (or_assoc (y.0 == axis) (has_axis ys axis) (x.0 == axis))

same_back : (a b : ℕ) → (a == b) ≡ false → (b == a) ≡ false
same_back a b h = false_of (b == a) (λ t. let e : (a == b) ≡ true = eq-eqb a b (sym (eqb-true b a t)) in let no : true ≡ false = sym e ∙ h in cc)

others_more : (before : List (ℕ × Tree)) (x : ℕ × Tree) (xs : List (ℕ × Tree)) → Others before xs → AllByRecursion (λ y. (x.0 == y) ≡ false) (keys xs) → Others (before ++ x ∷ []) xs
others_more before x [] h d = tt
others_more before x (y ∷ ys) h d =
    (any_append before x y.0 ∙ or_both (has_axis before y.0) (x.0 == y.0) h.0 d.0, others_more before x ys h.1 d.1)

others_less : (before : List (ℕ × Tree)) (x : ℕ × Tree) (xs : List (ℕ × Tree)) → Others (before ++ x ∷ []) xs → Others before xs × AllByRecursion (λ y. (x.0 == y) ≡ false) (keys xs)
others_less before x [] h = (tt, tt)
others_less before x (y ∷ ys) h =
    let p = or_parts (has_axis before y.0) (x.0 == y.0) (sym (any_append before x y.0) ∙ h.0) in
    let r = others_less before x ys h.1 in
    ((p.0, r.0), (p.1, r.1))

others_once : (before xs : List (ℕ × Tree)) → Others before xs → IsDistinct ◌==◌ (keys xs) → Once before xs
unfolding IsDistinct
others_once before [] h d = tt
others_once before (x ∷ xs) h d = (h.0, others_once (before ++ x ∷ []) xs (others_more before x xs h.1 d.0) d.1)

once_others : (before xs : List (ℕ × Tree)) → Once before xs → Others before xs × IsDistinct ◌==◌ (keys xs)
unfolding IsDistinct
once_others before [] h = (tt, tt)
once_others before (x ∷ xs) h =
    let r = once_others (before ++ x ∷ []) xs h.1 in
    let f = others_less before x xs r.0 in
    ((h.0, f.0), (f.1, r.1))

no_others : (xs : List (ℕ × Tree)) → Others [] xs
no_others [] = tt
no_others (x ∷ xs) = (refl, no_others xs)

-- a value of an axis
value_read : (words : WordsView) (at end : ℕ) (t : Tree) → frame_value words at ≡ Ok (t, end) → IsAssigned words at end t ⊎ ((z : ℤ) × IsSignedNumber words at end z × (t ≡ Number z))
unfolding frame_value
value_read words at end t h =
    one_of _ _ _ _ h
    (λ a e. inl (assign_is (piece_at words at) a, expression_found words (at + 1) end t e))
    (λ a e. let b = bound _ _ _ e in
    let p = same_pair (Number b.0.0) t b.0.1 end b.2 in
    let P = λ (n : ℕ). IsSignedNumber words at n b.0.0 in
    inr (b.0.0, subst P p.1 (constant_found words at 22 b.0.0 b.0.1 b.1), sym p.0))

value_only : (words : WordsView) (at end : ℕ) (t : Tree) → IsAssigned words at end t ⊎ ((z : ℤ) × IsSignedNumber words at end z × (t ≡ Number z)) → Follows (drop end (symbols_of words)) →
    frame_value words at ≡ Ok (t, end)
unfolding frame_value
value_only words at end t h f =
    elim h [
      | inl a ↦ rw (a.0, expression_only words (at + 1) end t a.1 f) refl
      | inr a ↦ rw (signed_no_assign words at end a.0 a.1, constant_only words at 22 a.0 end a.1, a.2) refl
    ]

axis_within : (words : WordsView) (at end : ℕ) (x : ℕ × Tree) → IsFrameAxis words at end x → (at < end) × (end ≤ length words.tokens)
axis_within words at end x h =
    elim h.1 [
      | inl a ↦ let w = assigned_within words (at + 1) end x.1 a in (omega (arith, w.0), w.1)
      | inr a ↦ let w = signed_within words (at + 1) end a.0 a.1 in (omega (arith, w.0), w.1)
    ]

-- X, Y or Z
pub axis_letter : (p : Piece) (axis : ℕ) → axis_of p ≡ Some axis → (b : ℕ) × (p ≡ piece.Letter b)
axis_letter (piece.Letter b) axis h = (b, refl)
axis_letter p axis h = cc

item_same : (axis n next : ℕ) (t : Tree) (words : WordsView) (more : Bool) (x : ℕ × Tree) →
    ◌≡◌ {A = Result (Item (ℕ × Tree)) ℕ} (Ok ((axis, t), not (is_end (piece_at words n)), n)) (Ok (x, more, next)) →
    ((axis, t) ≡ x) × (n ≡ next) × (not (is_end (piece_at words next)) ≡ more)
item_same axis n next t words more x h =
    let same : ((axis, t), not (is_end (piece_at words n)), n) ≡ (x, more, next) = cc in
    let c : n ≡ next = ap (λ (q : (ℕ × Tree) × Bool × ℕ). q.2) same in (
      ap (λ (q : (ℕ × Tree) × Bool × ℕ). q.0) same,
      c,
      ap (λ (m : ℕ). not (is_end (piece_at words m))) (sym c) ∙ ap (λ (q : (ℕ × Tree) × Bool × ℕ). q.1) same,
    )

item_cases : (words : WordsView) (before : List (ℕ × Tree)) (at next : ℕ) (x : ℕ × Tree) (more : Bool) (o : Option ℕ) → axis_of (piece_at words at) ≡ o →
    frame_word words before at o ≡ Ok (x, more, next) → IsFrameAxis words at next x × (has_axis before x.0 ≡ false) × (not (is_end (piece_at words next)) ≡ more)
item_cases words before at next x more None e h = cc
item_cases words before at next x more (Some axis) e h =
    one_of _ _ _ _ h
    (λ b f. refused 22 (x, more, next) f)
    (λ b f. let c = bound _ _ _ f in
    let s = item_same axis c.0.1 next c.0.0 words more x c.2 in
    let P = λ (n : ℕ). IsFrameAxis words at n (axis, c.0.0) × (has_axis before axis ≡ false) in
    let Q = λ (y : ℕ × Tree). IsFrameAxis words at next y × (has_axis before y.0 ≡ false) in
    let r = subst Q s.0 (subst P s.1 ((e, value_read words (at + 1) c.0.1 c.0.0 c.1), b)) in
    (r.0, r.1, s.2))

item_found : (words : WordsView) (before : List (ℕ × Tree)) (at next : ℕ) (x : ℕ × Tree) (more : Bool) → frame_word_at words before at ≡ Ok (x, more, next) →
    IsFrameAxis words at next x × (has_axis before x.0 ≡ false) × (not (is_end (piece_at words next)) ≡ more)
unfolding frame_word_at
item_found words before at next x more h = item_cases words before at next x more (axis_of (piece_at words at)) refl h

axis_stands : (words : WordsView) (at end : ℕ) (x : ℕ × Tree) → IsFrameAxis words at end x → (is_end (piece_at words at) ≡ false) × Follows (drop at (symbols_of words))
axis_stands words at end x h =
    let l = axis_letter (piece_at words at) x.0 h.0 in (ap is_end l.1, follows_letter words at l.0 l.1)

axes_flag : (words : WordsView) (at end : ℕ) (xs : List (ℕ × Tree)) → AreListed (IsFrameAxis words) at end xs → piece_at words end ≡ piece.End →
    (not (is_end (piece_at words at)) ≡ not_empty xs) × Follows (drop at (symbols_of words))
axes_flag words at end [] h e =
    let P = λ (n : ℕ). piece_at words n ≡ piece.End in
    let f = subst P h e in (ap (λ p. not (is_end p)) f, follows_end words at f)
axes_flag words at end (x ∷ xs) h e = let s = axis_stands words at h.0 x h.1 in (ap not s.0, s.1)

axes_steps : (words : WordsView) (xs before : List (ℕ × Tree)) (at end : ℕ) → AreListed (IsFrameAxis words) at end xs → Once before xs → piece_at words end ≡ piece.End →
    Steps (frame_word_at words) before at end xs
unfolding frame_word_at
axes_steps words [] before at end h o e = h
axes_steps words (x ∷ xs) before at end h o e =
    let f = axes_flag words h.0 end xs h.2 e in (
      h.0,
      (axis_within words at h.0 x h.1).0,
      rw (h.1.0, o.0, value_only words (at + 1) h.0 x.1 h.1.1 f.1, f.0) refl,
      axes_steps words xs (before ++ x ∷ []) h.0 end h.2 o.1 e,
    )

steps_axes : (words : WordsView) (xs before : List (ℕ × Tree)) (at end : ℕ) → Steps (frame_word_at words) before at end xs →
    AreListed (IsFrameAxis words) at end xs × Once before xs × (IsTrue (not_empty xs) → (piece_at words end ≡ piece.End) × (end ≤ length words.tokens))
steps_axes words [] before at end h = (h, tt, λ i. cc)
steps_axes words (x ∷ []) before at end h =
    let i = item_found words before at h.0 x false h.2 in
    let w = axis_within words at h.0 x i.0 in
    let P = λ (n : ℕ). (piece_at words n ≡ piece.End) × (n ≤ length words.tokens) in
    ((h.0, i.0, h.3), (i.1, tt), λ k. subst P (sym h.3) (end_is (piece_at words h.0) i.2, w.1))
steps_axes words (x ∷ (y ∷ ys)) before at end h =
    let i = item_found words before at h.0 x true h.2 in
    let r = steps_axes words (y ∷ ys) (before ++ x ∷ []) h.0 end h.3 in
    ((h.0, i.0, r.0), (i.1, r.1), λ k. r.2 refl)

end_piece : (p : Piece) → is_end p ≡ true → p ≡ piece.End
end_piece piece.End h = refl
end_piece p h = cc

pub shape_form_found : (words : WordsView) (at : ℕ) (which : FrameWord) (s : Statement) → IsKeyword words at (frame_name which) → shape_form words which (at + 1) ≡ Ok s →
    (xs : List (ℕ × Tree)) × (s ≡ Shape which xs) × IsShape words at (length words.tokens) which xs
unfolding shape_form IsDistinct
shape_form_found words at which s k h =
    one_of _ _ _ _ h
    (λ e f. let same : Shape which [] ≡ s = cc in
    ([], sym same, (k, after_last words at (keyword_within words at (frame_name which) k) (end_piece (piece_at words (at + 1)) e), tt)))
    (λ e f. let b = bound _ _ _ f in
    let same : Shape which b.0.0 ≡ s = cc in
    let l = list_found (frame_word_at words) (λ ys n x more next g. (axis_within words n next x (item_found words ys n next x more g).0).0) words (at + 1) b.0.0 b.0.1 b.1 in
    let r = steps_axes words b.0.0 [] (at + 1) b.0.1 l.1 in
    let g = r.2 l.0 in
    let Q = λ (n : ℕ). AreListed (IsFrameAxis words) (at + 1) n b.0.0 in
    (b.0.0, sym same, (k, subst Q (line_end words b.0.1 g.0 g.1) r.0, (once_others [] b.0.0 r.1).1)))

axes_some : (words : WordsView) (at end : ℕ) (x : ℕ × Tree) (xs : List (ℕ × Tree)) → AreListed (IsFrameAxis words) at end (x ∷ xs) → is_end (piece_at words at) ≡ false
axes_some words at end x xs h = (axis_stands words at h.0 x h.1).0

pub shape_form_only : (words : WordsView) (at : ℕ) (which : FrameWord) (xs : List (ℕ × Tree)) → IsShape words at (length words.tokens) which xs →
    shape_form words which (at + 1) ≡ Ok (Shape which xs)
unfolding shape_form
shape_form_only words at which [] h = rw (at_line_end words (at + 1) (sym h.1)) refl
shape_form_only words at which (x ∷ xs) h =
    let all = length words.tokens in
    let once = others_once [] (x ∷ xs) (no_others (x ∷ xs)) h.2 in
    let s = axes_steps words (x ∷ xs) [] (at + 1) all h.1 once (at_line_end words all refl) in
    rw (axes_some words (at + 1) all x xs h.1, list_only (frame_word_at words) words (x ∷ xs) (at + 1) all s refl (omega arith)) refl

-- ROT and AROT
turn_end_found : (words : WordsView) (at n : ℕ) → turn_end words at ≡ Ok n → piece_at words at ≡ piece.End
unfolding turn_end
turn_end_found words at n h =
    one_of _ _ _ _ h
    (λ b e. refused 50 n e)
    (λ b e. end_found words at n e)

turn_end_only : (words : WordsView) (at : ℕ) → piece_at words at ≡ piece.End → turn_end words at ≡ Ok 0
unfolding turn_end has_axis_word has_axis_name
turn_end_only words at h = rw (h, end_only words at h) refl

angle_found : (words : WordsView) (at end : ℕ) (o : Option Tree) → angle_at words at ≡ Ok (o, end) → IsAngle words at end o
unfolding angle_at
angle_found words at end o h =
    let P = λ (n : ℕ) (x : Option Tree). IsAngle words at n x in
    one_of _ _ _ _ h
    (λ k e. let a = bound _ _ _ e in
    let b = bound _ _ _ a.2 in
    let m = assign_found words (at + 1) 22 a.0 a.1 in
    let Q = λ (n : ℕ). IsExpressionText words n b.0.1 b.0.0 in
    moved P (Some b.0.0) o b.0.1 end b.2 (k, (m.0, subst Q m.1 (expression_found words a.0 b.0.1 b.0.0 b.1))))
    (λ k e. moved P None o at end e refl)

angle_within : (words : WordsView) (at end : ℕ) (o : Option Tree) → IsAngle words at end o → at ≤ length words.tokens → end ≤ length words.tokens
angle_within words at end None h w = omega (arith, h, w)
angle_within words at end (Some t) h w = (assigned_within words (at + 1) end t h.1).1

pub turn_form_found : (words : WordsView) (at : ℕ) (more : Bool) (s : Statement) → IsKeyword words at (turn_name more) → turn_form words more (at + 1) ≡ Ok s →
    (o : Option Tree) × (s ≡ Turn more o) × IsKeyword words at (turn_name more) × IsAngle words (at + 1) (length words.tokens) o
unfolding turn_form
turn_form_found words at more s k h =
    let a = bound _ _ _ h in
    let b = bound (turn_end words a.0.1) (λ (n : ℕ). Ok (Turn more a.0.0)) s a.2 in
    let same : Turn more a.0.0 ≡ s = cc in
    let f = angle_found words (at + 1) a.0.1 a.0.0 a.1 in
    let w = angle_within words (at + 1) a.0.1 a.0.0 f (let l = keyword_within words at (turn_name more) k in omega (arith, l)) in
    let Q = λ (n : ℕ). IsAngle words (at + 1) n a.0.0 in
    (a.0.0, sym same, k, subst Q (line_end words a.0.1 (turn_end_found words a.0.1 b.0 b.1) w) f)

pub turn_form_only : (words : WordsView) (at : ℕ) (more : Bool) (o : Option Tree) → IsAngle words (at + 1) (length words.tokens) o → turn_form words more (at + 1) ≡ Ok (Turn more o)
unfolding turn_form angle_at is_keyword
turn_form_only words at more None h =
    let e = at_line_end words (at + 1) (sym h) in rw (e, turn_end_only words (at + 1) e) refl
turn_form_only words at more (Some t) h =
    let all = length words.tokens in
    let e = at_line_end words all refl in
    rw (h.0, assign_only words (at + 1 + 1) 22 h.1.0, expression_only words (at + 1 + 1 + 1) all t h.1.1 (follows_end words all e), turn_end_only words all e) refl
