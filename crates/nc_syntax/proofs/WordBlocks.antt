-- Word blocks: what is read is spelled so, and what is spelled so is read.
use Rattle.std.proofs.Common.{◌≡◌, ℕ, ◌+◌, ◌<◌, ◌≤◌, List, [], ◌∷◌, ◌++◌, length, refl, ap, sym, ◌∙◌, subst, inl, inr, Option, Some, None, Result, Ok, Bool, true, false, cond, arith}
use Rattle.std.specs.Prelude.{◌⊎◌, ◌==◌, not, IsTrue, codes}
use Rattle.std.specs.Option.{option_or}
use Rattle.std.specs.Str.{bytes_eq, str_to_ascii_lowercase}
use Rattle.block_scanner.specs.WordsView.{WordsView}
use Rattle.g_groups.specs.declared.GWord.{GWord}
use Rattle.g_groups.specs.Groups.{Spelling, g as numbered, name as named, Group, code_of, groups}
use Rattle.word_tables.specs.GroupWords.{word_among, word_in, is_name as writes_name, word_by_name}
use Rattle.nc_expressions.specs.declared.symbols.Symbol.{Symbol}
use Rattle.nc_expressions.specs.declared.symbols.Symbol.TheVariants as symbol
use Rattle.nc_expressions.specs.Symbols.{name_symbol, value_symbol, is_word}
use Rattle.nc_expressions.specs.Syntax.{Follows}
use Rattle.nc_expressions.specs.Tree.{Tree}
use Rattle.nc_blocks.specs.declared.blocks.Measure.{Measure}
use Rattle.nc_blocks.specs.declared.blocks.Measure.TheVariants.{Modal, Absolute, Incremental}
use Rattle.nc_blocks.specs.declared.pieces.Piece.TheVariants as piece
use Rattle.nc_blocks.specs.Pieces.{piece_at, text_at, is_end}
use Rattle.nc_blocks.specs.Lists.{Item}
use Rattle.nc_blocks.specs.Statement.{OperandView, Value, Text, AxisName, WordView, Assign, AssignAt, G, Axis, Radius, Aux, End, Statement, WordBlock}
use Rattle.nc_blocks.specs.Wording.{g_at, is_spindle_word, name_word, lettered_word, word_at, word_item_at, words_form}
use Rattle.nc_forms.specs.Standing.{IsEnclosed, AreListed}
use Rattle.nc_syntax.specs.SpelledWords.{IsGroupWord, IsMeasured, IsPlainAxis, IsAxisWord, IsAuxLetter, IsOperand, IsBracket, IsAux, IsWord}
use Rattle.nc_syntax.specs.Spelled.{AreWords}
use Rattle.nc_forms.proofs.Standings.{same_letters, same_symbol, follows_piece, piece_within, keyword_piece, keyword_text, expression_within}
use Rattle.nc_forms.proofs.Marked.{bound}
use Rattle.nc_forms.proofs.Chained.{not_empty, Steps, list_found, list_only}
use Rattle.nc_syntax.proofs.WordLaws.{word_found}
use Rattle.nc_forms.proofs.PieceLaws.{false_of, or_cases}
use Rattle.nc_syntax.proofs.WordsRead.{Following, after_follows, assigned_only, letter_read, name_read, assign_read, assign_at_read, axis_read, aux_only, program_end_read, plain_letters, axis_letters, aux_letters}
use Rattle.nc_forms.proofs.LineEnds.{assigned_within, at_line_end, end_is, line_end, nearer, signed_within}

-- a name of a group is no other word
among_same : (p q : Spelling → Bool) → ((s : Spelling) → p s ≡ q s) → (group place : ℕ) (words : List Spelling) → word_among p group place words ≡ word_among q group place words
among_same p q h group place [] = refl
among_same p q h group place (w ∷ ws) =
    ap (λ b. cond b (Some (record { group = group; code = code_of place w })) (word_among p group (place + 1) ws)) (h w)
    ∙ ap (λ o. cond (q w) (Some (record { group = group; code = code_of place w })) o) (among_same p q h group (place + 1) ws)

in_same : (p q : Spelling → Bool) → ((s : Spelling) → p s ≡ q s) → (gs : List Group) → word_in p gs ≡ word_in q gs
in_same p q h [] = refl
in_same p q h (x ∷ xs) =
    ap (λ o. option_or o (word_in p xs)) (among_same p q h x.number 1 x.words) ∙ ap (λ o. option_or (word_among q x.number 1 x.words) o) (in_same p q h xs)

writes_same : (a b : List ℕ) → str_to_ascii_lowercase a ≡ str_to_ascii_lowercase b → (s : Spelling) → writes_name a s ≡ writes_name b s
writes_same a b h (numbered n) = refl
writes_same a b h (named other) = ap (λ l. bytes_eq l (str_to_ascii_lowercase other)) h

same_group : (a b : List ℕ) → str_to_ascii_lowercase a ≡ str_to_ascii_lowercase b → word_by_name a ≡ word_by_name b
unfolding word_by_name
same_group a b h = in_same (writes_name a) (writes_name b) (writes_same a b h) groups

pub not_in_group : (text k : List ℕ) (w : GWord) → word_by_name text ≡ Some w → word_by_name k ≡ None → is_word text k ≡ false
not_in_group text k w h n = false_of (is_word text k) (λ i. let e = same_group text k (same_letters text k i) in cc)

group_no_spindle : (text : List ℕ) (w : GWord) → word_by_name text ≡ Some w → is_spindle_word text ≡ false
unfolding is_spindle_word word_by_name
group_no_spindle text w h =
    rw (not_in_group text (codes "SPOS") w h refl, not_in_group text (codes "SPOSA") w h refl, not_in_group text (codes "LIMS") w h refl, not_in_group text (codes "SF") w h refl) refl

group_no_radius : (text : List ℕ) (w : GWord) → word_by_name text ≡ Some w → is_word text (codes "CR") ≡ false
unfolding word_by_name
group_no_radius text w h = not_in_group text (codes "CR") w h refl

abbrev operator : Symbol → Bool
operator (symbol.Operator op) = true
operator symbol.Exponent = true
operator s = false

follows_of : (s : Symbol) → operator s ≡ false → Follows (s ∷ [])
follows_of (symbol.Operator op) h = cc
follows_of symbol.Exponent h = cc
follows_of s h = tt

value_operator : (text : List ℕ) → operator (value_symbol text) ≡ false
unfolding value_symbol
value_operator text = grind arith

name_operator : (text : List ℕ) → is_word text (codes "DIV") ≡ false → is_word text (codes "MOD") ≡ false → is_word text (codes "AND") ≡ false →
    is_word text (codes "OR") ≡ false → is_word text (codes "XOR") ≡ false → operator (name_symbol text) ≡ false
unfolding name_symbol
name_operator text a b c d e = grind (arith, value_operator)

group_follows : (text : List ℕ) (w : GWord) → word_by_name text ≡ Some w → Follows (name_symbol text ∷ [])
unfolding word_by_name
group_follows text w h =
    follows_of (name_symbol text) (name_operator text (not_in_group text (codes "DIV") w h refl) (not_in_group text (codes "MOD") w h refl)
    (not_in_group text (codes "AND") w h refl) (not_in_group text (codes "OR") w h refl) (not_in_group text (codes "XOR") w h refl))

-- a word of a group, and a radius
group_read : (words : WordsView) (at end group code : ℕ) → IsGroupWord words at end group code → word_at words at ≡ Ok (G group code, end)
unfolding lettered_word g_at name_word
group_read words at end group code h =
    elim h [
      | inl a ↦ let place : end ≡ at + 1 + 1 = omega (arith, a.4) in letter_read words at 71 a.1 ∙ rw (a.2, a.3, place) refl
      | inr a ↦ let text = text_at words at in
          let w : GWord = record { group = group; code = code } in
          name_read words at a.0 ∙ rw (group_no_radius text w a.1, group_no_spindle text w a.1, a.1, a.2) refl
    ]

radius_read : (words : WordsView) (at end : ℕ) (t : Tree) → IsWord words at end (Radius t) → Following words end → word_at words at ≡ Ok (Radius t, end)
unfolding name_word
radius_read words at end t h f =
    name_read words at (keyword_piece words at (codes "CR") h.0)
    ∙ rw (keyword_text words at (codes "CR") h.0, assigned_only words (at + 1) end t h.1 (after_follows words end f)) refl

-- what is spelled as a word is read so
pub word_only : (words : WordsView) (at end : ℕ) (x : WordView) → IsWord words at end x → Following words end → word_at words at ≡ Ok (x, end)
word_only words at end (Assign i t) h f = assign_read words at end i t h f
word_only words at end (AssignAt i t) h f = assign_at_read words at end i t h f
word_only words at end (G group code) h f = group_read words at end group code h
word_only words at end (Axis address m t) h f = axis_read words at end address m t h f
word_only words at end (Radius t) h f = radius_read words at end t h f
word_only words at end (Aux address bracket operand) h f = aux_only words at end address bracket operand h f
word_only words at end End h f = program_end_read words at end h f

-- a word stands within the line
pub enclosed_within : (words : WordsView) (at end : ℕ) (t : Tree) → IsEnclosed words at end t → (at + 1 < end) × (end ≤ length words.tokens)
enclosed_within words at end t h =
    let e = expression_within words (at + 1) h.0 t h.2 in
    let c = piece_within words h.0 piece.Close h.3 tt in
    (omega (arith, e.0, h.4), omega (arith, c, h.4))

measured_within : (words : WordsView) (at end : ℕ) (m : Measure) (t : Tree) → IsMeasured words at end m t → (at < end) × (end ≤ length words.tokens)
measured_within words at end Modal t h = expression_within words at end t h
measured_within words at end Absolute t h = let w = enclosed_within words (at + 1) end t h.1 in (omega (arith, w.0), w.1)
measured_within words at end Incremental t h = let w = enclosed_within words (at + 1) end t h.1 in (omega (arith, w.0), w.1)

operand_within : (words : WordsView) (at end : ℕ) (o : OperandView) → IsOperand words at end o → (at < end) × (end ≤ length words.tokens)
operand_within words at end (Value t) h = expression_within words at end t h
operand_within words at end (Text bytes) h = let w = piece_within words at piece.Text h.0 tt in (omega (arith, h.2), omega (arith, h.2, w))
operand_within words at end (AxisName name) h = absurd h

axis_within : (words : WordsView) (at end : ℕ) (address : List ℕ) (m : Measure) (t : Tree) → IsAxisWord words at end address m t → (at < end) × (end ≤ length words.tokens)
axis_within words at end address m t h =
    elim h [
      | inl a ↦ nearer at (at + 1) end (length words.tokens) (omega arith) (signed_within words (at + 1) end a.1 a.3)
      | inr b ↦ elim b [
        | inl c ↦ nearer at (at + 2) end (length words.tokens) (omega arith) (measured_within words (at + 2) end m t c.3)
        | inr c ↦ nearer at (at + 3) end (length words.tokens) (omega arith) (measured_within words (at + 3) end m t c.2)
      ]
    ]

bracket_forward : (words : WordsView) (at end : ℕ) (i : Option Tree) → IsBracket words at end i → at ≤ end
bracket_forward words at end None h = omega (arith, h)
bracket_forward words at end (Some t) h = let e = expression_within words (at + 1) h.0 t h.2 in omega (arith, e.0, h.4)

aux_within : (words : WordsView) (at end : ℕ) (address : List ℕ) (bracket : Option Tree) (operand : OperandView) → IsAux words at end address bracket operand →
    (at < end) × (end ≤ length words.tokens)
aux_within words at end address bracket operand h =
    elim h [
      | inl a ↦ let w = piece_within words (at + 1) (piece.Number a.1.1) a.1.3 tt in (omega (arith, a.1.7), omega (arith, a.1.7, w))
      | inr b ↦ elim b [
        | inl a ↦ nearer at (at + 2) end (length words.tokens) (omega arith) (operand_within words (at + 2) end operand a.1.3)
        | inr c ↦ elim c [
          | inl a ↦ nearer at (at + 2) end (length words.tokens) (omega arith) (assigned_within words (at + 2) end a.1.1 a.1.4)
          | inr d ↦ nearer at d.0 end (length words.tokens) (let f = bracket_forward words (at + 1) d.0 bracket d.4 in omega (arith, f)) (assigned_within words d.0 end d.1 d.5)
        ]
      ]
    ]

pub word_within : (words : WordsView) (at end : ℕ) (x : WordView) → IsWord words at end x → (at < end) × (end ≤ length words.tokens)
word_within words at end (Assign i t) h = nearer at (at + 2) end (length words.tokens) (omega arith) (assigned_within words (at + 2) end t h.2)
word_within words at end (AssignAt i t) h =
    let e = expression_within words (at + 1 + 1) h.2.0 i h.2.2 in
    nearer at h.0 end (length words.tokens) (omega (arith, e.0, h.2.4)) (assigned_within words h.0 end t h.3)
word_within words at end (G group code) h =
    elim h [
      | inl a ↦ let w = piece_within words (at + 1) (piece.Number a.0) a.2 tt in (omega (arith, a.4), omega (arith, a.4, w))
      | inr a ↦ let w = piece_within words at piece.Name a.0 tt in (omega (arith, a.2), omega (arith, a.2, w))
    ]
word_within words at end (Axis address m t) h = axis_within words at end address m t h
word_within words at end (Radius t) h = nearer at (at + 1) end (length words.tokens) (omega arith) (assigned_within words (at + 1) end t h.1)
word_within words at end (Aux address bracket operand) h = aux_within words at end address bracket operand h
word_within words at end End h = let w = piece_within words (at + 1) (piece.Number h.0) h.2 tt in (omega (arith, h.4), omega (arith, h.4, w))

-- what a word begins with: a letter that begins neither a call nor a block number, or a name of a word
abbrev pub NamesWord : List ℕ → Type 0
NamesWord text = (is_word text (codes "CR") ≡ true) ⊎ ((is_spindle_word text ≡ true) ⊎ ((w : GWord) × (word_by_name text ≡ Some w)))

abbrev pub StartsWord : WordsView → ℕ → Type 0
StartsWord words at =
    ((b : ℕ) × (piece_at words at ≡ piece.Letter b) × ((b == 76) ≡ false) × ((b == 78) ≡ false))
    ⊎ ((piece_at words at ≡ piece.Name) × NamesWord (text_at words at))

abbrev Apart : ℕ → Type 0
Apart b = ((b == 76) ≡ false) × ((b == 78) ≡ false)

starts_letter : (words : WordsView) (at b : ℕ) → piece_at words at ≡ piece.Letter b → Apart b → StartsWord words at
starts_letter words at b h a = inl (b, h, a.0, a.1)

plain_starts : (words : WordsView) (at b : ℕ) → IsPlainAxis words at b → StartsWord words at
plain_starts words at b h =
    let P : ℕ → Type 0 = λ k. Apart k in
    starts_letter words at b h.0 (plain_letters P b h.1 (refl, refl) (refl, refl) (refl, refl) (refl, refl) (refl, refl) (refl, refl))

aux_starts : (words : WordsView) (at b : ℕ) → IsAuxLetter words at b → StartsWord words at
aux_starts words at b h =
    let P : ℕ → Type 0 = λ k. Apart k in
    starts_letter words at b h.0 (aux_letters P b h.1 (refl, refl) (refl, refl) (refl, refl) (refl, refl) (refl, refl) (refl, refl))

axis_starts : (words : WordsView) (at end : ℕ) (address : List ℕ) (m : Measure) (t : Tree) → IsAxisWord words at end address m t → StartsWord words at
axis_starts words at end address m t h =
    elim h [
      | inl a ↦ plain_starts words at a.0 a.2
      | inr b ↦ elim b [
        | inl c ↦ plain_starts words at c.0 c.1
        | inr c ↦ let P : ℕ → Type 0 = λ k. Apart k in
            starts_letter words at c.0.0 c.0.1 (axis_letters P c.0.0 c.0.2 (refl, refl) (refl, refl) (refl, refl) (refl, refl) (refl, refl) (refl, refl) (refl, refl) (refl, refl) (refl, refl))
      ]
    ]

aux_word_starts : (words : WordsView) (at end : ℕ) (address : List ℕ) (bracket : Option Tree) (operand : OperandView) → IsAux words at end address bracket operand → StartsWord words at
aux_word_starts words at end address bracket operand h =
    elim h [
      | inl a ↦ aux_starts words at a.1.0 a.1.2
      | inr b ↦ elim b [
        | inl a ↦ aux_starts words at a.1.0 a.1.1
        | inr c ↦ elim c [
          | inl a ↦ aux_starts words at a.1.0 a.1.2
          | inr d ↦ inr (d.2, inr (inl d.3))
        ]
      ]
    ]

pub word_starts : (words : WordsView) (at end : ℕ) (x : WordView) → IsWord words at end x → StartsWord words at
word_starts words at end (Assign i t) h = starts_letter words at 82 h.0 (refl, refl)
word_starts words at end (AssignAt i t) h = starts_letter words at 82 h.1 (refl, refl)
word_starts words at end (G group code) h =
    elim h [
      | inl a ↦ starts_letter words at 71 a.1 (refl, refl)
      | inr a ↦ inr (a.0, inr (inr (record { group = group; code = code }, a.1)))
    ]
word_starts words at end (Axis address m t) h = axis_starts words at end address m t h
word_starts words at end (Radius t) h = inr (keyword_piece words at (codes "CR") h.0, inl (keyword_text words at (codes "CR") h.0))
word_starts words at end (Aux address bracket operand) h = aux_word_starts words at end address bracket operand h
word_starts words at end End h = starts_letter words at 77 h.1 (refl, refl)

-- the name of a word goes on with no expression
word_follows : (text k : List ℕ) → is_word text k ≡ true → Follows (name_symbol k ∷ []) → Follows (name_symbol text ∷ [])
word_follows text k h f =
    let P : Symbol → Type 0 = λ s. Follows (s ∷ []) in
    subst P (sym (same_symbol text k (same_letters text k h))) f

names_follow : (text : List ℕ) → NamesWord text → Follows (name_symbol text ∷ [])
unfolding name_symbol value_symbol is_spindle_word
names_follow text h =
    elim h [
      | inl a ↦ word_follows text (codes "CR") a tt
      | inr b ↦ elim b [
        | inl c ↦ or_cases _ _ c (λ c. or_cases _ _ c (λ c. or_cases _ _ c
            (λ c. word_follows text (codes "SPOS") c tt) (λ c. word_follows text (codes "SPOSA") c tt))
            (λ c. word_follows text (codes "LIMS") c tt)) (λ c. word_follows text (codes "SF") c tt)
        | inr c ↦ group_follows text c.0 c.1
      ]
    ]

starts_after : (words : WordsView) (at : ℕ) → StartsWord words at → Following words at × (is_end (piece_at words at) ≡ false)
starts_after words at h =
    elim h [
      | inl a ↦ (inr (inl (a.0, a.1)), ap is_end a.1)
      | inr a ↦ (inr (inr (a.0, follows_piece words at piece.Name a.0 tt (names_follow (text_at words at) a.1))), ap is_end a.0)
    ]

-- lists of words
pub after_list : (words : WordsView) (at end : ℕ) (xs : List WordView) → AreListed (IsWord words) at end xs → piece_at words end ≡ piece.End →
    Following words at × (not (is_end (piece_at words at)) ≡ not_empty xs)
after_list words at end [] h e =
    let P = λ (n : ℕ). piece_at words n ≡ piece.End in
    let f = subst P h e in
    (inl f, ap (λ p. not (is_end p)) f)
after_list words at end (x ∷ xs) h e =
    let s = starts_after words at (word_starts words at h.0 x h.1) in (s.0, ap not s.1)

words_steps : (words : WordsView) (xs before : List WordView) (at end : ℕ) → AreListed (IsWord words) at end xs → piece_at words end ≡ piece.End →
    Steps (λ ys. word_item_at words) before at end xs
unfolding word_item_at
words_steps words [] before at end h e = h
words_steps words (x ∷ xs) before at end h e =
    let b = after_list words h.0 end xs h.2 e in
    let w = word_within words at h.0 x h.1 in
    (h.0, w.0, rw (word_only words at h.0 x h.1 b.0, b.1) refl, words_steps words xs (before ++ x ∷ []) h.0 end h.2 e)

item_same : (p : WordView × ℕ) (words : WordsView) (x : WordView) (more : Bool) (next : ℕ) →
    ◌≡◌ {A = Result (Item WordView) ℕ} (Ok (p.0, not (is_end (piece_at words p.1)), p.1)) (Ok (x, more, next)) →
    (p ≡ (x, next)) × (not (is_end (piece_at words next)) ≡ more)
item_same p words x more next h =
    let same : (p.0, not (is_end (piece_at words p.1)), p.1) ≡ (x, more, next) = cc in
    let a : p.0 ≡ x = ap (λ (q : WordView × Bool × ℕ). q.0) same in
    let c : p.1 ≡ next = ap (λ (q : WordView × Bool × ℕ). q.2) same in
    let b : not (is_end (piece_at words p.1)) ≡ more = ap (λ (q : WordView × Bool × ℕ). q.1) same in
    (ap (λ (y : WordView). (y, p.1)) a ∙ ap (λ (n : ℕ). (x, n)) c, ap (λ (n : ℕ). not (is_end (piece_at words n))) (sym c) ∙ b)

item_found : (words : WordsView) (at : ℕ) (x : WordView) (more : Bool) (next : ℕ) → word_item_at words at ≡ Ok (x, more, next) →
    IsWord words at next x × (not (is_end (piece_at words next)) ≡ more)
unfolding word_item_at
item_found words at x more next h =
    let b = bound _ _ _ h in
    let s = item_same b.0 words x more next b.2 in
    (word_found words at next x (b.1 ∙ ap (λ (p : WordView × ℕ). Ok p) s.0), s.1)

steps_words : (words : WordsView) (xs before : List WordView) (at end : ℕ) → Steps (λ ys. word_item_at words) before at end xs →
    AreListed (IsWord words) at end xs × (IsTrue (not_empty xs) → (piece_at words end ≡ piece.End) × (end ≤ length words.tokens))
steps_words words [] before at end h = (h, λ i. cc)
steps_words words (x ∷ []) before at end h =
    let i = item_found words at x false h.0 h.2 in
    let w = word_within words at h.0 x i.0 in
    let P = λ (n : ℕ). (piece_at words n ≡ piece.End) × (n ≤ length words.tokens) in
    ((h.0, i.0, h.3), λ k. subst P (sym h.3) (end_is (piece_at words h.0) i.1, w.1))
steps_words words (x ∷ (y ∷ ys)) before at end h =
    let i = item_found words at x true h.0 h.2 in
    let r = steps_words words (y ∷ ys) (before ++ x ∷ []) h.0 end h.3 in
    ((h.0, i.0, r.0), λ k. r.1 refl)

are_words : (words : WordsView) (at end : ℕ) (xs : List WordView) → AreListed (IsWord words) at end xs → IsTrue (not_empty xs) → AreWords words at end xs
are_words words at end [] h k = cc
are_words words at end (x ∷ xs) h k = h

listed_words : (words : WordsView) (at end : ℕ) (xs : List WordView) → AreWords words at end xs → AreListed (IsWord words) at end xs × IsTrue (not_empty xs)
listed_words words at end [] h = absurd h
listed_words words at end (x ∷ xs) h = (h, refl)

pub words_form_found : (words : WordsView) (at : ℕ) (s : Statement) → words_form words at ≡ Ok s →
    (xs : List WordView) × (s ≡ WordBlock xs) × AreWords words at (length words.tokens) xs
unfolding words_form
words_form_found words at s h =
    let b = bound _ _ _ h in
    let item : List WordView → ℕ → Result (Item WordView) ℕ = λ ys. word_item_at words in
    let l = list_found item (λ ys k x more next e. (word_within words k next x (item_found words k x more next e).0).0) words at b.0.0 b.0.1 b.1 in
    let r = steps_words words b.0.0 [] at b.0.1 l.1 in
    let e = r.1 l.0 in
    let same : WordBlock b.0.0 ≡ s = cc in
    let P = λ (n : ℕ). AreListed (IsWord words) at n b.0.0 in
    (b.0.0, sym same, are_words words at (length words.tokens) b.0.0 (subst P (line_end words b.0.1 e.0 e.1) r.0) l.0)

pub words_form_only : (words : WordsView) (at : ℕ) (xs : List WordView) → AreWords words at (length words.tokens) xs → words_form words at ≡ Ok (WordBlock xs)
unfolding words_form
words_form_only words at xs h =
    let l = listed_words words at (length words.tokens) xs h in
    let all = length words.tokens in
    let s = words_steps words xs [] at all l.0 (at_line_end words all refl) in
    rw (list_only (λ ys. word_item_at words) words xs at all s l.1 (omega arith)) refl
