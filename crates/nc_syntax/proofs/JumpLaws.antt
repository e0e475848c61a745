-- Jumps, IF and CASE: what is read is spelled so, and what is spelled so is read.
use Rattle.std.proofs.Common.{◌≡◌, ℕ, ◌+◌, ◌<◌, ◌≤◌, List, [], ◌∷◌, ◌++◌, length, refl, ap, sym, ◌∙◌, subst, inl, inr, Option, Some, None, Result, Ok, Err, Bool, true, false, cond, arith}
use Rattle.std.specs.Prelude.{ℤ, IsTrue, codes}
use Rattle.std.proofs.lemmas.Bool.{eqb-true}
use Rattle.block_scanner.specs.WordsView.{WordsView}
use Rattle.nc_expressions.specs.Symbols.{name_symbol, value_symbol}
use Rattle.nc_expressions.specs.Syntax.{Follows}
use Rattle.nc_expressions.specs.Tree.{Tree}
use Rattle.nc_expressions.specs.Value.{◌>>=◌}
use Rattle.nc_blocks.specs.declared.blocks.JumpTo.{JumpTo}
use Rattle.nc_blocks.specs.declared.blocks.Target.{Target}
use Rattle.nc_blocks.specs.declared.blocks.Target.TheVariants as target
use Rattle.nc_blocks.specs.declared.blocks.Way.{Way}
use Rattle.nc_blocks.specs.declared.blocks.Way.TheVariants.{Forward, Backward, Either, Optional}
use Rattle.nc_blocks.specs.declared.pieces.Piece.{Piece}
use Rattle.nc_blocks.specs.declared.pieces.Piece.TheVariants as piece
use Rattle.nc_expressions.specs.NameTexts.{name_of}
use Rattle.nc_blocks.specs.Pieces.{piece_at, text_at}
use Rattle.nc_blocks.specs.Marks.{end_at, is_keyword}
use Rattle.nc_blocks.specs.Reading.{block_number_at}
use Rattle.nc_blocks.specs.Lists.{Item}
use Rattle.nc_blocks.specs.Statement.{Statement, Jump, IfJump, If, Case}
use Rattle.nc_syntax.specs.Jumps.{way_of_piece, way_at, is_n, target_of, target_at, jump_at, last_jump, if_after, if_form, jump_form, case_names, case_value, begins_number, jump_of, named_jump, pair_at, default_at, case_form}
use Rattle.nc_syntax.specs.Structures.{last_expression}
use Rattle.nc_forms.specs.Standing.{IsKeyword, IsExpressionText, IsSignedNumber, IsEnclosed, AreListed}
use Rattle.nc_syntax.specs.Spelled.{way_name, IsTarget, IsJump, IsPair, IsDefault, IsCase, IsSpelled}
use Rattle.nc_forms.proofs.Standings.{piece_within, follows_piece, follows_end, follows_keyword, keyword_piece, expression_within, expression_found, expression_only}
use Rattle.nc_forms.proofs.Marked.{bound, taken, one_of, same_pair, end_found, end_only, open_found, open_only, close_found, close_only, keyword_found, keyword_only, constant_found, constant_only, block_number_found, block_number_only}
use Rattle.nc_forms.proofs.Chained.{not_empty, Steps, list_found, list_only}
use Rattle.nc_forms.proofs.PieceLaws.{moved}
use Rattle.nc_forms.proofs.LineEnds.{signed_within, line_end, at_line_end, keyword_within}
use Rattle.nc_syntax.proofs.FormNames.{way_at_found, way_at_only}

pub last_found : (words : WordsView) (at : ℕ) (t : Tree) → last_expression words at ≡ Ok t → IsExpressionText words at (length words.tokens) t
unfolding last_expression
last_found words at t h =
    let b = bound _ _ _ h in
    let c = bound _ _ _ b.2 in
    let same : b.0.0 ≡ t = cc in
    let f = expression_found words at b.0.1 b.0.0 b.1 in
    let e = line_end words b.0.1 (end_found words b.0.1 c.0 c.1) (expression_within words at b.0.1 b.0.0 f).1 in
    let P = λ (n : ℕ). IsExpressionText words at n b.0.0 in
    let Q = λ (x : Tree). IsExpressionText words at (length words.tokens) x in
    subst Q same (subst P e f)

pub last_only : (words : WordsView) (at : ℕ) (t : Tree) → IsExpressionText words at (length words.tokens) t → last_expression words at ≡ Ok t
unfolding last_expression
last_only words at t h =
    let all = length words.tokens in
    let e = at_line_end words all refl in
    rw (expression_only words at all t h (follows_end words all e), end_only words all e) refl

-- targets
n_is : (p : Piece) → is_n p ≡ true → p ≡ piece.Letter 78
n_is (piece.Letter b) h = ap (λ k. piece.Letter k) (eqb-true b 78 h)
n_is p h = cc

number_target : (words : WordsView) (at end : ℕ) (x : Target) (p : Piece) → piece_at words at ≡ p →
    cond (is_n p) (◌>>=◌ {B = Target × ℕ} (block_number_at words (at + 1)) (λ n. Ok (target.Number n, at + 2))) (Err 22) ≡ Ok (x, end) → IsTarget words at end x
number_target words at end x p e h =
    let P = λ (k : ℕ) (y : Target). IsTarget words at k y in
    let t = taken _ _ _ _ h in
    let b = bound _ _ _ t.1 in
    moved P (target.Number b.0) x (at + 2) end b.2 (e ∙ n_is p t.0, block_number_found words (at + 1) b.0 b.1, refl)

target_cases : (words : WordsView) (at end : ℕ) (x : Target) (p : Piece) → piece_at words at ≡ p → target_of words at p ≡ Ok (x, end) → IsTarget words at end x
target_cases words at end x piece.Name e h =
    let P = λ (k : ℕ) (y : Target). IsTarget words at k y in
    moved P (target.Label (name_of (text_at words at))) x (at + 1) end h ((e, refl), refl)
target_cases words at end x p e h = number_target words at end x p e h

target_found : (words : WordsView) (at end : ℕ) (x : Target) → target_at words at ≡ Ok (x, end) → IsTarget words at end x
unfolding target_at
target_found words at end x h = target_cases words at end x (piece_at words at) refl h

target_only : (words : WordsView) (at end : ℕ) (x : Target) → IsTarget words at end x → target_at words at ≡ Ok (x, end)
unfolding target_at
target_only words at end (target.Label name) h = ap (λ p. target_of words at p) h.0.0 ∙ rw (h.0.1, h.1) refl
target_only words at end (target.Number n) h =
    ap (λ p. target_of words at p) h.0 ∙ rw (block_number_only words (at + 1) n h.1, h.2) refl

target_within : (words : WordsView) (at end : ℕ) (x : Target) → IsTarget words at end x → (at < end) × (end ≤ length words.tokens)
target_within words at end (target.Label name) h =
    let w = piece_within words at piece.Name h.0.0 tt in (omega (arith, h.1), omega (arith, h.1, w))
target_within words at end (target.Number n) h =
    let w = piece_within words (at + 1) (piece.Number h.1.0) h.1.1 tt in (omega (arith, h.2), omega (arith, h.2, w))

-- jumps
pub jump_found : (words : WordsView) (at end : ℕ) (way : Way) (j : JumpTo) → IsKeyword words at (way_name way) → jump_at words way (at + 1) ≡ Ok (j, end) → IsJump words at end j
unfolding jump_at
jump_found words at end way j k h =
    let b = bound _ _ _ h in
    let P = λ (n : ℕ) (y : JumpTo). IsJump words at n y in
    moved P (record { way = way; target = b.0.0 }) j b.0.1 end b.2 (k, target_found words (at + 1) b.0.1 b.0.0 b.1)

pub jump_only : (words : WordsView) (at end : ℕ) (j : JumpTo) → IsJump words at end j → jump_at words j.way (at + 1) ≡ Ok (j, end)
unfolding jump_at
jump_only words at end j h = rw (target_only words (at + 1) end j.target h.1) refl

pub jump_within : (words : WordsView) (at end : ℕ) (j : JumpTo) → IsJump words at end j → (at < end) × (end ≤ length words.tokens)
jump_within words at end j h = let w = target_within words (at + 1) end j.target h.1 in (omega (arith, w.0), w.1)

last_jump_found : (words : WordsView) (at : ℕ) (way : Way) (j : JumpTo) → IsKeyword words at (way_name way) → last_jump words way (at + 1) ≡ Ok j → IsJump words at (length words.tokens) j
unfolding last_jump
last_jump_found words at way j k h =
    let b = bound _ _ _ h in
    let c = bound _ _ _ b.2 in
    let same : b.0.0 ≡ j = cc in
    let f = jump_found words at b.0.1 way b.0.0 k b.1 in
    let e = line_end words b.0.1 (end_found words b.0.1 c.0 c.1) (jump_within words at b.0.1 b.0.0 f).1 in
    let P = λ (n : ℕ). IsJump words at n b.0.0 in
    let Q = λ (y : JumpTo). IsJump words at (length words.tokens) y in
    subst Q same (subst P e f)

last_jump_only : (words : WordsView) (at : ℕ) (j : JumpTo) → IsJump words at (length words.tokens) j → last_jump words j.way (at + 1) ≡ Ok j
unfolding last_jump
last_jump_only words at j h =
    let all = length words.tokens in
    rw (jump_only words at all j h, end_only words all (at_line_end words all refl)) refl

pub jump_form_found : (words : WordsView) (at : ℕ) (way : Way) (s : Statement) → IsKeyword words at (way_name way) → jump_form words way (at + 1) ≡ Ok s →
    IsSpelled words at (length words.tokens) s
unfolding jump_form IsSpelled
jump_form_found words at way s k h =
    let b = bound _ _ _ h in
    let same : Jump b.0 ≡ s = cc in
    let P = λ (x : Statement). IsSpelled words at (length words.tokens) x in
    subst P same (last_jump_found words at way b.0 k b.1)

pub jump_form_only : (words : WordsView) (at : ℕ) (j : JumpTo) → IsJump words at (length words.tokens) j → jump_form words j.way (at + 1) ≡ Ok (Jump j)
unfolding jump_form
jump_form_only words at j h = rw (last_jump_only words at j h) refl

-- IF
if_cases : (words : WordsView) (at middle : ℕ) (t : Tree) (o : Option Way) (s : Statement) → IsKeyword words at (codes "IF") → IsExpressionText words (at + 1) middle t →
    way_at words middle ≡ o → if_after words t middle o ≡ Ok s → IsSpelled words at (length words.tokens) s
unfolding IsSpelled
if_cases words at middle t None s k x e h =
    let b = bound (end_at words middle) (λ (n : ℕ). Ok (If t)) s h in
    let same : If t ≡ s = cc in
    let place = line_end words middle (end_found words middle b.0 b.1) (expression_within words (at + 1) middle t x).1 in
    let P = λ (y : Statement). IsSpelled words at (length words.tokens) y in
    let Q = λ (n : ℕ). IsExpressionText words (at + 1) n t in
    subst P same (k, subst Q place x)
if_cases words at middle t (Some way) s k x e h =
    let b = bound _ _ _ h in
    let same : IfJump t b.0 ≡ s = cc in
    let P = λ (y : Statement). IsSpelled words at (length words.tokens) y in
    subst P same (middle, k, x, last_jump_found words middle way b.0 (way_at_found words middle way e) b.1)

pub if_form_found : (words : WordsView) (at : ℕ) (s : Statement) → IsKeyword words at (codes "IF") → if_form words (at + 1) ≡ Ok s → IsSpelled words at (length words.tokens) s
unfolding if_form
if_form_found words at s k h =
    let b = bound _ _ _ h in
    if_cases words at b.0.1 b.0.0 (way_at words b.0.1) s k (expression_found words (at + 1) b.0.1 b.0.0 b.1) refl b.2

way_follows : (way : Way) → Follows (name_symbol (way_name way) ∷ [])
unfolding name_symbol value_symbol
way_follows Forward = tt
way_follows Backward = tt
way_follows Either = tt
way_follows Optional = tt

pub if_jump_only : (words : WordsView) (at middle : ℕ) (t : Tree) (j : JumpTo) → IsExpressionText words (at + 1) middle t → IsJump words middle (length words.tokens) j →
    if_form words (at + 1) ≡ Ok (IfJump t j)
unfolding if_form
if_jump_only words at middle t j x h =
    rw (expression_only words (at + 1) middle t x (follows_keyword words middle (way_name j.way) h.0 (way_follows j.way)), way_at_only words middle j.way h.0, last_jump_only words middle j h) refl

no_way : (words : WordsView) (at : ℕ) → piece_at words at ≡ piece.End → way_at words at ≡ None
unfolding way_at
no_way words at h = ap (λ p. way_of_piece p (text_at words at)) h

pub if_only : (words : WordsView) (at : ℕ) (t : Tree) → IsExpressionText words (at + 1) (length words.tokens) t → if_form words (at + 1) ≡ Ok (If t)
unfolding if_form
if_only words at t x =
    let all = length words.tokens in
    let e = at_line_end words all refl in
    rw (expression_only words (at + 1) all t x (follows_end words all e), no_way words all e, end_only words all e) refl

-- CASE
case_value_found : (words : WordsView) (at end : ℕ) (t : Tree) → case_value words at ≡ Ok (t, end) →
    (middle : ℕ) × IsEnclosed words at middle t × IsKeyword words middle (codes "OF") × (end ≡ middle + 1)
unfolding case_value case_names
case_value_found words at end t h =
    let a = bound _ _ _ h in
    let o = open_found words at 22 a.0 a.1 in
    let b = bound _ _ _ a.2 in
    let c = bound _ _ _ b.2 in
    let d = bound _ _ _ c.1 in
    let k = close_found words b.0.1 22 d.0 d.1 in
    let f = keyword_found words d.0 (codes "OF") c.0 d.2 in
    let p = same_pair b.0.0 t c.0 end c.2 in
    let P = λ (n : ℕ). IsExpressionText words n b.0.1 b.0.0 in
    let Q = λ (x : Tree). IsExpressionText words (at + 1) b.0.1 x in
    (d.0, (b.0.1, o.0, subst Q p.0 (subst P o.1 (expression_found words a.0 b.0.1 b.0.0 b.1)), k.0, k.1), f.0, sym p.1 ∙ f.1)

case_value_only : (words : WordsView) (at middle : ℕ) (t : Tree) → IsEnclosed words at middle t → IsKeyword words middle (codes "OF") → case_value words at ≡ Ok (t, middle + 1)
unfolding case_value case_names
case_value_only words at middle t h k =
    let P = λ (n : ℕ). IsKeyword words n (codes "OF") in
    rw (
      open_only words at 22 h.1,
      expression_only words (at + 1) h.0 t h.2 (follows_piece words h.0 piece.Close h.3 tt tt),
      close_only words h.0 22 h.3,
      keyword_only words (h.0 + 1) (codes "OF") (subst P h.4 k),
      h.4,
    ) refl

jump_of_cases : (words : WordsView) (at end : ℕ) (j : JumpTo) (o : Option Way) → way_at words at ≡ o → jump_of words o (at + 1) ≡ Ok (j, end) → IsJump words at end j
jump_of_cases words at end j (Some way) e h = jump_found words at end way j (way_at_found words at way e) h
jump_of_cases words at end j None e h = cc

pub named_jump_found : (words : WordsView) (at end : ℕ) (j : JumpTo) → named_jump words at ≡ Ok (j, end) → IsJump words at end j
unfolding named_jump
named_jump_found words at end j h = jump_of_cases words at end j (way_at words at) refl h

named_jump_only : (words : WordsView) (at end : ℕ) (j : JumpTo) → IsJump words at end j → named_jump words at ≡ Ok (j, end)
unfolding named_jump
named_jump_only words at end j h = rw (way_at_only words at j.way h.0, jump_only words at end j h) refl

pair_same : (z v : ℤ) (j k : JumpTo) (words : WordsView) (n next : ℕ) (more : Bool) (x : ℤ × JumpTo) →
    ◌≡◌ {A = Result (Item (ℤ × JumpTo)) ℕ} (Ok ((z, j), begins_number (piece_at words n), n)) (Ok (x, more, next)) →
    ((z, j) ≡ x) × (n ≡ next) × (begins_number (piece_at words next) ≡ more)
pair_same z v j k words n next more x h =
    let same : ((z, j), begins_number (piece_at words n), n) ≡ (x, more, next) = cc in
    let c : n ≡ next = ap (λ (q : (ℤ × JumpTo) × Bool × ℕ). q.2) same in (
      ap (λ (q : (ℤ × JumpTo) × Bool × ℕ). q.0) same,
      c,
      ap (λ (m : ℕ). begins_number (piece_at words m)) (sym c) ∙ ap (λ (q : (ℤ × JumpTo) × Bool × ℕ). q.1) same,
    )

pair_found : (words : WordsView) (at next : ℕ) (x : ℤ × JumpTo) (more : Bool) → pair_at words at ≡ Ok (x, more, next) →
    IsPair words at next x × (begins_number (piece_at words next) ≡ more)
unfolding pair_at
pair_found words at next x more h =
    let a = bound _ _ _ h in
    let b = bound _ _ _ a.2 in
    let s = pair_same a.0.0 a.0.0 b.0.0 b.0.0 words b.0.1 next more x b.2 in
    let P = λ (n : ℕ). IsPair words at n x in
    let Q = λ (y : ℤ × JumpTo). IsPair words at b.0.1 y in
    (subst P s.1 (subst Q s.0 (a.0.1, constant_found words at 22 a.0.0 a.0.1 a.1, named_jump_found words a.0.1 b.0.1 b.0.0 b.1)), s.2)

pair_within : (words : WordsView) (at end : ℕ) (x : ℤ × JumpTo) → IsPair words at end x → (at < end) × (end ≤ length words.tokens)
pair_within words at end x h =
    let a = signed_within words at h.0 x.0 h.1 in
    let b = jump_within words h.0 end x.1 h.2 in
    (omega (arith, a.0, b.0), b.1)

signed_begins : (words : WordsView) (at end : ℕ) (z : ℤ) → IsSignedNumber words at end z → begins_number (piece_at words at) ≡ true
signed_begins words at end z h =
    elim h [
      | inl a ↦ ap begins_number a.0
      | inr b ↦ elim b [
        | inl c ↦ ap begins_number c.0
        | inr c ↦ ap begins_number c.1
      ]
    ]

pairs_flag : (words : WordsView) (at end : ℕ) (xs : List (ℤ × JumpTo)) → AreListed (IsPair words) at end xs → begins_number (piece_at words end) ≡ false →
    begins_number (piece_at words at) ≡ not_empty xs
pairs_flag words at end [] h e = ap (λ n. begins_number (piece_at words n)) (sym h) ∙ e
pairs_flag words at end (x ∷ xs) h e = signed_begins words at h.1.0 x.0 h.1.1

pairs_steps : (words : WordsView) (xs before : List (ℤ × JumpTo)) (at end : ℕ) → AreListed (IsPair words) at end xs → begins_number (piece_at words end) ≡ false →
    Steps (λ ys. pair_at words) before at end xs
unfolding pair_at
pairs_steps words [] before at end h e = h
pairs_steps words (x ∷ xs) before at end h e = (
  h.0,
  (pair_within words at h.0 x h.1).0,
  rw (constant_only words at 22 x.0 h.1.0 h.1.1, named_jump_only words h.1.0 h.0 x.1 h.1.2, pairs_flag words h.0 end xs h.2 e) refl,
  pairs_steps words xs (before ++ x ∷ []) h.0 end h.2 e,
)

steps_pairs : (words : WordsView) (xs before : List (ℤ × JumpTo)) (at end : ℕ) → Steps (λ ys. pair_at words) before at end xs → AreListed (IsPair words) at end xs
steps_pairs words [] before at end h = h
steps_pairs words (x ∷ xs) before at end h =
    (h.0, (pair_found words at h.0 x (not_empty xs) h.2).0, steps_pairs words xs (before ++ x ∷ []) h.0 end h.3)

pairs_within : (words : WordsView) (at end : ℕ) (xs : List (ℤ × JumpTo)) → AreListed (IsPair words) at end xs → at ≤ length words.tokens → end ≤ length words.tokens
pairs_within words at end [] h w = omega (arith, h, w)
pairs_within words at end (x ∷ xs) h w = pairs_within words h.0 end xs h.2 (pair_within words at h.0 x h.1).1

default_found : (words : WordsView) (at : ℕ) (o : Option JumpTo) → at ≤ length words.tokens → default_at words at ≡ Ok o → IsDefault words at (length words.tokens) o
unfolding default_at
default_found words at o w h =
    let P = λ (x : Option JumpTo). IsDefault words at (length words.tokens) x in
    one_of _ _ _ _ h
    (λ k e. let b = bound _ _ _ e in
    let c = bound _ _ _ b.2 in
    let same : Some b.0.0 ≡ o = cc in
    let f = named_jump_found words (at + 1) b.0.1 b.0.0 b.1 in
    let place = line_end words b.0.1 (end_found words b.0.1 c.0 c.1) (jump_within words (at + 1) b.0.1 b.0.0 f).1 in
    let Q = λ (n : ℕ). IsJump words (at + 1) n b.0.0 in
    subst P same (k, subst Q place f))
    (λ k e. let b = bound _ _ _ e in
    let same : None ≡ o = cc in
    subst P same (sym (line_end words at (end_found words at b.0 b.1) w)))

default_only : (words : WordsView) (at : ℕ) (o : Option JumpTo) → IsDefault words at (length words.tokens) o → default_at words at ≡ Ok o
unfolding default_at is_keyword
default_only words at None h =
    let e = at_line_end words at (sym h) in
    rw (e, end_only words at e) refl
default_only words at (Some j) h =
    let all = length words.tokens in
    rw (h.0, named_jump_only words (at + 1) all j h.1, end_only words all (at_line_end words all refl)) refl

default_flag : (words : WordsView) (at : ℕ) (o : Option JumpTo) → IsDefault words at (length words.tokens) o → begins_number (piece_at words at) ≡ false
default_flag words at None h = ap begins_number (at_line_end words at (sym h))
default_flag words at (Some j) h = ap begins_number (keyword_piece words at (codes "DEFAULT") h.0)

default_within : (words : WordsView) (at : ℕ) (o : Option JumpTo) → IsDefault words at (length words.tokens) o → at ≤ length words.tokens
default_within words at None h = omega (arith, h)
default_within words at (Some j) h = let w = jump_within words (at + 1) (length words.tokens) j h.1 in omega (arith, w.0)

is_case : (words : WordsView) (at middle last end : ℕ) (t : Tree) (xs : List (ℤ × JumpTo)) (o : Option JumpTo) → IsTrue (not_empty xs) → IsKeyword words at (codes "CASE") →
    IsEnclosed words (at + 1) middle t → IsKeyword words middle (codes "OF") → AreListed (IsPair words) (middle + 1) last xs → IsDefault words last end o → IsCase words at end t xs o
is_case words at middle last end t [] o some k a b c d = cc
is_case words at middle last end t (x ∷ xs) o some k a b c d = (middle, last, k, a, b, c, d)

pub case_form_found : (words : WordsView) (at : ℕ) (s : Statement) → IsKeyword words at (codes "CASE") → case_form words (at + 1) ≡ Ok s → IsSpelled words at (length words.tokens) s
unfolding case_form IsSpelled
case_form_found words at s k h =
    let a = bound _ _ _ h in
    let b = bound _ _ _ a.2 in
    let c = bound _ _ _ b.2 in
    let same : Case a.0.0 b.0.0 c.0 ≡ s = cc in
    let v = case_value_found words (at + 1) a.0.1 a.0.0 a.1 in
    let item : List (ℤ × JumpTo) → ℕ → Result (Item (ℤ × JumpTo)) ℕ = λ ys. pair_at words in
    let l = list_found item (λ ys n x more next e. (pair_within words n next x (pair_found words n next x more e).0).0) words a.0.1 b.0.0 b.0.1 b.1 in
    let P = λ (n : ℕ). AreListed (IsPair words) n b.0.1 b.0.0 in
    let pairs = subst P v.3 (steps_pairs words b.0.0 [] a.0.1 b.0.1 l.1) in
    let w = pairs_within words (v.0 + 1) b.0.1 b.0.0 pairs (let k = keyword_within words v.0 (codes "OF") v.2 in omega (arith, k)) in
    let Q = λ (x : Statement). IsSpelled words at (length words.tokens) x in
    subst Q same (is_case words at v.0 b.0.1 (length words.tokens) a.0.0 b.0.0 c.0 l.0 k v.1 v.2 pairs (default_found words b.0.1 c.0 w c.1))

case_listed : (words : WordsView) (at end : ℕ) (t : Tree) (xs : List (ℤ × JumpTo)) (o : Option JumpTo) → IsCase words at end t xs o →
    (middle : ℕ) × (last : ℕ) × IsTrue (not_empty xs) × IsKeyword words at (codes "CASE") × IsEnclosed words (at + 1) middle t × IsKeyword words middle (codes "OF")
    × AreListed (IsPair words) (middle + 1) last xs × IsDefault words last end o
case_listed words at end t [] o h = absurd h
case_listed words at end t (x ∷ xs) o h = (h.0, h.1, refl, h.2, h.3, h.4, h.5, h.6)

pub case_form_only : (words : WordsView) (at : ℕ) (t : Tree) (xs : List (ℤ × JumpTo)) (o : Option JumpTo) → IsCase words at (length words.tokens) t xs o →
    case_form words (at + 1) ≡ Ok (Case t xs o)
unfolding case_form
case_form_only words at t xs o h =
    let c = case_listed words at (length words.tokens) t xs o h in
    let s = pairs_steps words xs [] (c.0 + 1) c.1 c.6 (default_flag words c.1 o c.7) in
    rw (case_value_only words (at + 1) c.0 t c.4 c.5, list_only (λ ys. pair_at words) words xs (c.0 + 1) c.1 s c.2 (default_within words c.1 o c.7), default_only words c.1 o c.7) refl
