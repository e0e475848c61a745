-- Blocks: what is read is spelled so, and what is spelled so is read; so a line spells one block at most.
use Rattle.std.proofs.Common.{◌≡◌, ℕ, ◌+◌, ◌≤◌, List, [], ◌∷◌, length, refl, ap, sym, ◌∙◌, subst, inl, inr, Option, Some, None, Result, Ok, Err, Bool, true, false, cond, arith}
use Rattle.std.specs.Prelude.{◌⊎◌, ◌==◌, ◌&&◌, codes, IfOk}
use Rattle.block_scanner.specs.WordsView.{WordsView}
use Rattle.nc_expressions.specs.Tree.{Tree}
use Rattle.nc_expressions.specs.Value.{◌>>=◌}
use Rattle.nc_blocks.specs.declared.blocks.Measure.{Measure}
use Rattle.nc_blocks.specs.declared.blocks.Target.{Target}
use Rattle.nc_blocks.specs.declared.blocks.Target.TheVariants as target
use Rattle.nc_blocks.specs.declared.pieces.Piece.{Piece}
use Rattle.nc_blocks.specs.declared.pieces.Piece.TheVariants as piece
use Rattle.nc_expressions.specs.NameTexts.{name_of}
use Rattle.nc_blocks.specs.Pieces.{piece_at, text_at, is_name}
use Rattle.nc_blocks.specs.Reading.{block_number_at, Gives}
use Rattle.nc_blocks.specs.declared.blocks.Block.{Block}
use Rattle.nc_expressions.specs.declared.faults.SyntaxFault.{SyntaxFault}
use Rattle.word_tables.specs.Refused.{refused_word}
use Rattle.word_tables.specs.LargeNumbers.{has_large_number}
use Rattle.nc_blocks.specs.Statement.{OperandView, WordView, Assign, AssignAt, G, Axis, Radius, Aux, End, Statement, Empty, WordBlock, Jump, IfJump, If, Else, EndIf, While, EndWhile, Repeat, Until, Loop, EndLoop, For, EndFor, Case, RepeatFrom, RepeatBlock, Call, Return, Proc, Shape, Turn, Coord, Message, BlockView, view_of}
use Rattle.nc_syntax.specs.Structures.{is_letter}
use Rattle.nc_syntax.specs.Bodies.{is_number}
use Rattle.nc_syntax.specs.Blocks.{is_slash, is_colon, skip_of, has_number, number_at, label_at, head_of, block_of, unless_refused, statement_of}
use Rattle.nc_forms.specs.Standing.{IsKeyword, IsExpressionText, AreListed, IsAlone}
use Rattle.nc_syntax.specs.SpelledWords.{IsAxisWord, IsBracket, IsAux, IsWord}
use Rattle.nc_syntax.specs.Spelled.{IsTarget, IsCall, AreWords, IsSpelled, IsSkip, IsNumber, IsLabel, Spells, IsAccepted}
use Rattle.nc_forms.specs.SpelledForms.{IsFrameAxis, IsAngle, IsMessage}
use Rattle.nc_forms.proofs.Standings.{piece_within, keyword_piece, expression_begins}
use Rattle.nc_forms.proofs.Marked.{bound, one_of, refused, parts_true, same_pair, block_number_found, block_number_only}
use Rattle.nc_syntax.proofs.WordLaws.{name_is}
use Rattle.nc_syntax.proofs.WordsRead.{Following, first_false}
use Rattle.nc_forms.proofs.PieceLaws.{false_of, last_false}
use Rattle.nc_syntax.proofs.WordBlocks.{word_starts, after_list}
use Rattle.nc_forms.proofs.LineEnds.{at_line_end}
use Rattle.nc_syntax.proofs.StructureLaws.{letter_piece}
use Rattle.nc_forms.proofs.FrameLaws.{axis_letter}
use Rattle.nc_syntax.proofs.BodyLaws.{body_found, body_only}

colon_piece : (p : Piece) → is_colon p ≡ true → p ≡ piece.Colon
colon_piece piece.Colon h = refl
colon_piece p h = cc

slash_piece : (p : Piece) → is_slash p ≡ true → p ≡ piece.Slash
slash_piece piece.Slash h = refl
slash_piece p h = cc

-- what begins a body: its end, a letter that begins no number, or a name that is no label
abbrev Begin : WordsView → ℕ → Type 0
Begin words at =
    (piece_at words at ≡ piece.End)
    ⊎ (((b : ℕ) × (piece_at words at ≡ piece.Letter b) × ((b == 78) ≡ false))
    ⊎ ((piece_at words at ≡ piece.Name) × (is_colon (piece_at words (at + 1)) ≡ false)))

named : (words : WordsView) (at : ℕ) (word : List ℕ) → IsKeyword words at word → is_colon (piece_at words (at + 1)) ≡ false → Begin words at
named words at word k c = inr (inr (keyword_piece words at word k, c))

no_colon : (words : WordsView) (at end : ℕ) (t : Tree) → IsExpressionText words at end t → is_colon (piece_at words at) ≡ false
no_colon words at end t h = false_of (is_colon (piece_at words at)) (λ k. expression_begins words at end t piece.Colon h (colon_piece (piece_at words at) k) tt)

value_begins : (words : WordsView) (at end : ℕ) (word : List ℕ) (t : Tree) → IsKeyword words at word → IsExpressionText words (at + 1) end t → Begin words at
value_begins words at end word t k h = named words at word k (no_colon words (at + 1) end t h)

alone_begins : (words : WordsView) (at : ℕ) (word : List ℕ) → IsAlone words at (length words.tokens) word → Begin words at
alone_begins words at word h = named words at word h.0 (ap is_colon (at_line_end words (at + 1) (sym h.1)))

target_no_colon : (words : WordsView) (at end : ℕ) (x : Target) → IsTarget words at end x → is_colon (piece_at words at) ≡ false
target_no_colon words at end (target.Label name) h = ap is_colon h.0.0
target_no_colon words at end (target.Number n) h = ap is_colon h.0

after_no_colon : (words : WordsView) (at : ℕ) → Following words at → is_colon (piece_at words at) ≡ false
after_no_colon words at h =
    elim h [
      | inl a ↦ ap is_colon a
      | inr b ↦ elim b [
        | inl c ↦ ap is_colon c.1
        | inr c ↦ ap is_colon c.0
      ]
    ]

-- a word that is a name
letter_or_name : {C : Type 0} (words : WordsView) (at b : ℕ) → piece_at words at ≡ piece.Letter b → piece_at words at ≡ piece.Name → C
letter_or_name words at b h n = let no : piece.Letter b ≡ piece.Name = sym h ∙ n in cc

axis_second : (words : WordsView) (at end : ℕ) (address : List ℕ) (m : Measure) (t : Tree) → IsAxisWord words at end address m t → piece_at words at ≡ piece.Name →
    is_colon (piece_at words (at + 1)) ≡ false
axis_second words at end address m t h n =
    elim h [
      | inl a ↦ letter_or_name words at a.0 a.2.0 n
      | inr b ↦ elim b [
        | inl c ↦ letter_or_name words at c.0 c.1.0 n
        | inr c ↦ letter_or_name words at c.0.0 c.0.1 n
      ]
    ]

bracket_second : (words : WordsView) (at end : ℕ) (o : Option Tree) → IsBracket words at end o → piece_at words end ≡ piece.Assign → is_colon (piece_at words at) ≡ false
bracket_second words at end None h a =
    let P = λ (n : ℕ). piece_at words n ≡ piece.Assign in ap is_colon (subst P h a)
bracket_second words at end (Some t) h a = ap is_colon h.1

aux_second : (words : WordsView) (at end : ℕ) (address : List ℕ) (bracket : Option Tree) (operand : OperandView) → IsAux words at end address bracket operand →
    piece_at words at ≡ piece.Name → is_colon (piece_at words (at + 1)) ≡ false
aux_second words at end address bracket operand h n =
    elim h [
      | inl a ↦ letter_or_name words at a.1.0 a.1.2.0 n
      | inr b ↦ elim b [
        | inl a ↦ letter_or_name words at a.1.0 a.1.1.0 n
        | inr c ↦ elim c [
          | inl a ↦ letter_or_name words at a.1.0 a.1.2.0 n
          | inr d ↦ bracket_second words (at + 1) d.0 bracket d.4 d.5.0
        ]
      ]
    ]

word_second : (words : WordsView) (at end : ℕ) (x : WordView) → IsWord words at end x → Following words end → piece_at words at ≡ piece.Name → is_colon (piece_at words (at + 1)) ≡ false
word_second words at end (Assign i t) h f n = letter_or_name words at 82 h.0 n
word_second words at end (AssignAt i t) h f n = letter_or_name words at 82 h.1 n
word_second words at end (G group code) h f n =
    elim h [
      | inl a ↦ letter_or_name words at 71 a.1 n
      | inr a ↦ let P = λ (k : ℕ). is_colon (piece_at words k) ≡ false in subst P a.2 (after_no_colon words end f)
    ]
word_second words at end (Axis address m t) h f n = axis_second words at end address m t h n
word_second words at end (Radius t) h f n = ap is_colon h.1.0
word_second words at end (Aux address bracket operand) h f n = aux_second words at end address bracket operand h n
word_second words at end End h f n = letter_or_name words at 77 h.1 n

words_begin : (words : WordsView) (at : ℕ) (xs : List WordView) → AreWords words at (length words.tokens) xs → Begin words at
words_begin words at [] h = absurd h
words_begin words at (x ∷ xs) h =
    let all = length words.tokens in
    let f = after_list words h.0 all xs h.2 (at_line_end words all refl) in
    elim (word_starts words at h.0 x h.1) [
      | inl a ↦ inr (inl (a.0, a.1, a.3))
      | inr a ↦ inr (inr (a.0, word_second words at h.0 x h.1 f.0 a.0))
    ]

axes_second : (words : WordsView) (at : ℕ) (xs : List (ℕ × Tree)) → AreListed (IsFrameAxis words) at (length words.tokens) xs → is_colon (piece_at words at) ≡ false
axes_second words at [] h = ap is_colon (at_line_end words at (sym h))
axes_second words at (x ∷ xs) h = let l = axis_letter (piece_at words at) x.0 h.1.0 in ap is_colon l.1

angle_second : (words : WordsView) (at : ℕ) (o : Option Tree) → IsAngle words at (length words.tokens) o → is_colon (piece_at words at) ≡ false
angle_second words at None h = ap is_colon (at_line_end words at (sym h))
angle_second words at (Some t) h = ap is_colon (keyword_piece words at (codes "RPL") h.0)

call_second : (words : WordsView) (at from : ℕ) (name : List ℕ) (n : ℕ) (h : IsCall words at (length words.tokens) name n) → h.0 ≡ from → is_colon (piece_at words from) ≡ false
call_second words at from name n h e =
    let P = λ (k : ℕ). is_colon (piece_at words k) ≡ false in
    subst P e (elim h.3 [
      | inl a ↦ subst P a (elim h.4 [
        | inl b ↦ ap is_colon (at_line_end words h.1 (sym b.1))
        | inr b ↦ ap is_colon b.0
      ])
      | inr a ↦ ap is_colon a.0
    ])

call_begins : (words : WordsView) (at : ℕ) (name : List ℕ) (n : ℕ) → IsCall words at (length words.tokens) name n → Begin words at
call_begins words at name n h =
    elim h.2 [
      | inl a ↦ inr (inr (a.0.0, call_second words at (at + 1) name n h a.2))
      | inr a ↦ inr (inl (76, a.1, refl))
    ]

message_begins : (words : WordsView) (at : ℕ) → IsMessage words at (length words.tokens) → Begin words at
message_begins words at h =
    elim h [
      | inl a ↦ named words at (codes "MSG") a.1 (ap is_colon a.2)
      | inr b ↦ elim b [
        | inl a ↦ alone_begins words at (codes "STOPRE") a
        | inr c ↦ elim c [
          | inl a ↦ named words at (codes "SETMS") a.0 (elim a.1 [
            | inl d ↦ ap is_colon (at_line_end words (at + 1) (sym d))
            | inr d ↦ ap is_colon d.1.1
          ])
          | inr a ↦ named words at (codes "WORKPIECE") a.1 (ap is_colon a.2)
        ]
      ]
    ]

body_begins : (words : WordsView) (at : ℕ) (s : Statement) → IsSpelled words at (length words.tokens) s → Begin words at
unfolding IsSpelled
body_begins words at Empty h = inl (at_line_end words at (sym h))
body_begins words at (WordBlock xs) h = words_begin words at xs h
body_begins words at (Jump j) h = named words at _ h.0 (target_no_colon words (at + 1) (length words.tokens) j.target h.1)
body_begins words at (IfJump t j) h = value_begins words at h.0 (codes "IF") t h.1 h.2
body_begins words at (If t) h = value_begins words at (length words.tokens) (codes "IF") t h.0 h.1
body_begins words at Else h = alone_begins words at (codes "ELSE") h
body_begins words at EndIf h = alone_begins words at (codes "ENDIF") h
body_begins words at (While t) h = value_begins words at (length words.tokens) (codes "WHILE") t h.0 h.1
body_begins words at EndWhile h = alone_begins words at (codes "ENDWHILE") h
body_begins words at Repeat h = alone_begins words at (codes "REPEAT") h
body_begins words at (Until t) h = value_begins words at (length words.tokens) (codes "UNTIL") t h.0 h.1
body_begins words at Loop h = alone_begins words at (codes "LOOP") h
body_begins words at EndLoop h = alone_begins words at (codes "ENDLOOP") h
body_begins words at (For i t u) h = named words at (codes "FOR") h.1 (ap is_colon h.2)
body_begins words at EndFor h = alone_begins words at (codes "ENDFOR") h
body_begins words at (Case t [] o) h = absurd h
body_begins words at (Case t (x ∷ xs) o) h = named words at (codes "CASE") h.2 (ap is_colon h.3.1)
body_begins words at (RepeatFrom label o) h = named words at (codes "REPEAT") h.0 (ap is_colon h.1.0)
body_begins words at (RepeatBlock label o) h = named words at (codes "REPEATB") h.0 (ap is_colon h.1.0)
body_begins words at (Call name n) h = call_begins words at name n h
body_begins words at Return h = alone_begins words at (codes "RET") h
body_begins words at (Proc name) h = named words at (codes "PROC") h.0 (ap is_colon h.1.0)
body_begins words at (Shape which xs) h = named words at _ h.0 (axes_second words (at + 1) xs h.1)
body_begins words at (Turn more o) h = named words at _ h.0 (angle_second words (at + 1) o h.1)
body_begins words at (Coord which xs) h = named words at _ h.1 (ap is_colon h.2)
body_begins words at Message h = message_begins words at h

-- what begins a label or a body, and what begins what stands after `/`
abbrev NoNumber : WordsView → ℕ → Type 0
NoNumber words at = (is_letter (piece_at words at) 78 ≡ false) × (is_slash (piece_at words at) ≡ false) × (is_number (piece_at words at) ≡ false)

abbrev NoSlash : WordsView → ℕ → Type 0
NoSlash words at = (is_slash (piece_at words at) ≡ false) × (is_number (piece_at words at) ≡ false)

begin_no_number : (words : WordsView) (at : ℕ) → Begin words at → NoNumber words at
begin_no_number words at h =
    elim h [
      | inl a ↦ (ap (λ p. is_letter p 78) a, ap is_slash a, ap is_number a)
      | inr b ↦ elim b [
        | inl c ↦ (ap (λ p. is_letter p 78) c.1 ∙ c.2, ap is_slash c.1, ap is_number c.1)
        | inr c ↦ (ap (λ p. is_letter p 78) c.0, ap is_slash c.0, ap is_number c.0)
      ]
    ]

label_no_number : (words : WordsView) (at end : ℕ) (o : Option (List ℕ)) (s : Statement) → IsLabel words at end o → IsSpelled words end (length words.tokens) s → NoNumber words at
label_no_number words at end None s h b =
    let P = λ (n : ℕ). NoNumber words n in subst P h (begin_no_number words end (body_begins words end s b))
label_no_number words at end (Some name) s h b = (ap (λ p. is_letter p 78) h.0.0, ap is_slash h.0.0, ap is_number h.0.0)

number_no_slash : (words : WordsView) (at end : ℕ) (o : Option ℕ) → IsNumber words at end o → NoNumber words end → NoSlash words at
number_no_slash words at end None h n =
    let P = λ (k : ℕ). NoSlash words k in subst P h (n.1, n.2)
number_no_slash words at end (Some k) h n = (ap is_slash h.0, ap is_number h.0)

-- the parts of a line
skip_found : (words : WordsView) (b : Bool) (end : ℕ) → skip_of words ≡ Ok (b, end) → IsSkip words 0 end b
unfolding skip_of
skip_found words b end h =
    one_of (is_slash (piece_at words 0)) (cond (is_number (piece_at words 1)) (Err 59) (Ok (true, 1))) (Ok (false, 0)) (b, end) h
    (λ t e. one_of (is_number (piece_at words 1)) (Err 59) (Ok (true, 1)) (b, end) e
    (λ k f. refused 59 (b, end) f)
    (λ k f. let s = same_pair true b 1 end f in
    let P : Bool → Type 0 = λ c. IsSkip words 0 end c in
    subst P s.0 (slash_piece (piece_at words 0) t, sym s.1)))
    (λ t e. let s = same_pair false b 0 end e in
    let P : Bool → Type 0 = λ c. IsSkip words 0 end c in
    subst P s.0 (sym s.1))

skip_only : (words : WordsView) (b : Bool) (end : ℕ) → IsSkip words 0 end b → NoSlash words end → skip_of words ≡ Ok (b, end)
unfolding skip_of
skip_only words true end h n =
    let P = λ (k : ℕ). is_number (piece_at words k) ≡ false in
    rw (h.0, subst P h.1 n.1, h.1) refl
skip_only words false end h n =
    let P = λ (k : ℕ). is_slash (piece_at words k) ≡ false in
    rw (subst P h n.0, h) refl

number_found : (words : WordsView) (at end : ℕ) (o : Option ℕ) → number_at words at ≡ Ok (o, end) → IsNumber words at end o
unfolding number_at has_number
number_found words at end o h =
    let P = λ (k : ℕ) (x : Option ℕ). IsNumber words at k x in
    one_of (is_letter (piece_at words at) 78 && is_number (piece_at words (at + 1))) (◌>>=◌ {B = Option ℕ × ℕ} (block_number_at words (at + 1)) (λ n. Ok (Some n, at + 2))) (Ok (None, at)) (o, end) h
    (λ t e. let p = parts_true (is_letter (piece_at words at) 78) (is_number (piece_at words (at + 1))) t in
    let b = bound (block_number_at words (at + 1)) (λ (n : ℕ). Ok (Some n, at + 2)) (o, end) e in
    let s = same_pair (Some b.0) o (at + 2) end b.2 in
    let Q = λ (x : Option ℕ). IsNumber words at end x in
    subst Q s.0 (letter_piece (piece_at words at) 78 p.0, block_number_found words (at + 1) b.0 b.1, sym s.1))
    (λ t e. let s = same_pair None o at end e in
    let Q = λ (x : Option ℕ). IsNumber words at end x in
    subst Q s.0 (sym s.1))

number_only : (words : WordsView) (at end : ℕ) (o : Option ℕ) → IsNumber words at end o → NoNumber words end → number_at words at ≡ Ok (o, end)
unfolding number_at has_number
number_only words at end None h n =
    let P = λ (k : ℕ). is_letter (piece_at words k) 78 ≡ false in
    rw (first_false (is_letter (piece_at words at) 78) (is_number (piece_at words (at + 1))) (subst P h n.0), h) refl
number_only words at end (Some k) h n =
    rw (h.0, h.1.1, block_number_only words (at + 1) k h.1, h.2) refl

abbrev label_if : WordsView → ℕ → Bool → Option (List ℕ) × ℕ
label_if words at b = cond b (Some (name_of (text_at words at)), at + 2) (None, at)

label_cases : (words : WordsView) (at : ℕ) (b : Bool) → (is_name (piece_at words at) && is_colon (piece_at words (at + 1))) ≡ b →
    IsLabel words at (label_if words at b).1 (label_if words at b).0
label_cases words at true h =
    let p = parts_true (is_name (piece_at words at)) (is_colon (piece_at words (at + 1))) h in
    ((name_is (piece_at words at) p.0, refl), colon_piece (piece_at words (at + 1)) p.1, refl)
label_cases words at false h = refl

label_found : (words : WordsView) (at : ℕ) → IsLabel words at (label_at words at).1 (label_at words at).0
unfolding label_at
label_found words at = label_cases words at (is_name (piece_at words at) && is_colon (piece_at words (at + 1))) refl

begin_no_label : (words : WordsView) (at : ℕ) → Begin words at → (is_name (piece_at words at) && is_colon (piece_at words (at + 1))) ≡ false
begin_no_label words at h =
    elim h [
      | inl a ↦ first_false (is_name (piece_at words at)) (is_colon (piece_at words (at + 1))) (ap is_name a)
      | inr b ↦ elim b [
        | inl c ↦ first_false (is_name (piece_at words at)) (is_colon (piece_at words (at + 1))) (ap is_name c.1)
        | inr c ↦ last_false (is_name (piece_at words at)) (is_colon (piece_at words (at + 1))) c.1
      ]
    ]

label_only : (words : WordsView) (at end : ℕ) (o : Option (List ℕ)) → IsLabel words at end o → Begin words end → label_at words at ≡ (o, end)
unfolding label_at
label_only words at end None h b =
    let P = λ (k : ℕ). Begin words k in
    rw (begin_no_label words at (subst P h b), h) refl
label_only words at end (Some name) h b = rw (h.0.0, h.1, h.0.1, h.2) refl

-- places within the line
skip_within : (words : WordsView) (end : ℕ) (b : Bool) → IsSkip words 0 end b → end ≤ length words.tokens
skip_within words end true h = let w = piece_within words 0 piece.Slash h.0 tt in omega (arith, h.1, w)
skip_within words end false h = omega (arith, h)

number_within : (words : WordsView) (at end : ℕ) (o : Option ℕ) → IsNumber words at end o → at ≤ length words.tokens → end ≤ length words.tokens
number_within words at end None h w = omega (arith, h, w)
number_within words at end (Some n) h w = let k = piece_within words (at + 1) (piece.Number h.1.0) h.1.1 tt in omega (arith, h.2, k)

label_within : (words : WordsView) (at end : ℕ) (o : Option (List ℕ)) → IsLabel words at end o → at ≤ length words.tokens → end ≤ length words.tokens
label_within words at end None h w = omega (arith, h, w)
label_within words at end (Some name) h w = let k = piece_within words (at + 1) piece.Colon h.1 tt in omega (arith, h.2, k)

-- what is read as a block is spelled so
pub block_found : (words : WordsView) (b : BlockView) → block_of words ≡ Ok b → Spells words b
unfolding block_of head_of Spells
block_found words b h =
    let a = bound _ _ _ h in
    let c = bound _ _ _ a.1 in
    let d = bound _ _ _ c.2 in
    let n = d.0 in
    let head : ◌≡◌ {A = Result (Bool × Option ℕ × ℕ) ℕ} (Ok (c.0.0, n.0, n.1)) (Ok a.0) = d.2 in
    let same : (c.0.0, n.0, n.1) ≡ a.0 = cc in
    let e = bound _ _ _ a.2 in
    let whole : ◌≡◌ {A = Result BlockView ℕ} (Ok (record { skip = a.0.0; number = a.0.1; label = (label_at words a.0.2).0; statement = e.0 })) (Ok b) = e.2 in
    let all : record { skip = a.0.0; number = a.0.1; label = (label_at words a.0.2).0; statement = e.0 } ≡ b = cc in
    let skip = skip_found words c.0.0 c.0.1 c.1 in
    let number = number_found words c.0.1 n.1 n.0 d.1 in
    let label = label_found words a.0.2 in
    let place : n.1 ≡ a.0.2 = ap (λ (q : Bool × Option ℕ × ℕ). q.2) same in
    let w = number_within words c.0.1 n.1 n.0 number (skip_within words c.0.1 c.0.0 skip) in
    let body = body_found words (label_at words a.0.2).1 e.0 (label_within words a.0.2 (label_at words a.0.2).1 (label_at words a.0.2).0 label (omega (arith, place, w))) e.1 in
    let P = λ (q : Bool × Option ℕ × ℕ). IsSkip words 0 c.0.1 q.0 × IsNumber words c.0.1 q.2 q.1 in
    let parts = subst P same (skip, number) in
    let Q = λ (x : BlockView). Spells words x in
    subst Q all (c.0.1, a.0.2, (label_at words a.0.2).1, parts.0, parts.1, label, body)

-- what is spelled as a block is read so
pub block_only : (words : WordsView) (b : BlockView) → Spells words b → block_of words ≡ Ok b
unfolding block_of head_of Spells
block_only words b h =
    let start = body_begins words h.2 b.statement h.6 in
    let apart = label_no_number words h.1 h.2 b.label b.statement h.5 h.6 in
    rw (
      skip_only words b.skip h.0 h.3 (number_no_slash words h.0 h.1 b.number h.4 apart),
      number_only words h.0 h.1 b.number h.4 apart,
      label_only words h.1 h.2 b.label h.5 start,
      body_only words h.2 b.statement h.6,
    ) refl

-- a line spells one block at most
pub one_block : (words : WordsView) (a b : BlockView) → Spells words a → Spells words b → a ≡ b
one_block words a b h k =
    let e : ◌≡◌ {A = Result BlockView ℕ} (Ok a) (Ok b) = sym (block_only words a h) ∙ block_only words b k in cc

-- the same of the answer for a line
unless_found : (o : Option ℕ) (large : Bool) (r : Result BlockView ℕ) (b : BlockView) → unless_refused o large r ≡ Ok b → r ≡ Ok b
unless_found (Some code) large r b h = cc
unless_found None true r b h = cc
unless_found None false r b h = h

pub statement_found : (words : WordsView) (compensation : Bool) (r : Result Block SyntaxFault) → Gives view_of (statement_of words compensation) r →
    IfOk r (λ b. Spells words (view_of b))
unfolding statement_of
statement_found words compensation (Ok b) h =
    block_found words (view_of b) (unless_found (refused_word compensation words.line words.tokens) (has_large_number words.line words.tokens) (block_of words) (view_of b) h)
statement_found words compensation (Err e) h = tt

pub statement_only : (words : WordsView) (compensation : Bool) (r : Result Block SyntaxFault) → Gives view_of (statement_of words compensation) r →
    (b : BlockView) → IsAccepted words compensation → Spells words b → Gives view_of (Ok b) r
unfolding statement_of
statement_only words compensation r h b a s =
    let read : statement_of words compensation ≡ Ok b = rw (a.0, a.1) (block_only words b s) in
    let P = λ (x : Result BlockView ℕ). Gives view_of x r in
    subst P read h
