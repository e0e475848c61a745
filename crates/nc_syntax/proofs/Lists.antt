-- Lists: the reader by tokens goes on as the reader of the line.
use Rattle.std.proofs.Common.{◌≡◌, ℕ, zero, suc, ◌+◌, ◌<◌, ◌≤◌, List, [], ◌∷◌, ◌++◌, length, drop, refl, ap, sym, ◌∙◌, subst, inl, inr, Option, Some, None, Result, Ok, Err, Bool, true, false, cond, arith, append_assoc}
use Rattle.std.specs.Prelude.{◌==◌, not, codes}
use Rattle.std.proofs.lemmas.Bool.{cases_lt}
use Rattle.block_scanner.specs.WordsView.{WordsView}
use Rattle.g_groups.specs.declared.GWord.{GWord}
use Rattle.word_tables.specs.GroupWords.{word_by_name}
use Rattle.nc_expressions.specs.Symbols.{is_word}
use Rattle.nc_blocks.specs.declared.pieces.Piece.{Piece}
use Rattle.nc_blocks.specs.declared.pieces.Piece.TheVariants as piece
use Rattle.nc_blocks.specs.Pieces.{piece_at, text_at, is_end}
use Rattle.nc_blocks.specs.Marks.{end_at}
use Rattle.nc_blocks.specs.Lists.{Item, list_from, list_at}
use Rattle.nc_blocks.specs.Wording.{word_item_at, words_form, is_slot_letter, is_centre_letter, is_aux_letter, is_spindle_word, name_code}
use Rattle.nc_blocks.specs.AxisNames.{is_axis_letter}
use Rattle.nc_blocks.specs.Statement.{Statement, WordBlock, WordView}
use Rattle.nc_blocks.proofs.Places.{piece_past}
use Rattle.nc_blocks.proofs.Listing.{list_goes_on, list_ends, list_refused, list_begins}
use Rattle.nc_forms.proofs.Marked.{bound}
use Rattle.nc_syntax.proofs.WordLaws.{word_found}
use Rattle.nc_syntax.proofs.WordBlocks.{word_within}
use Rattle.nc_syntax.specs.Wanted.{Assigns, Bracket, AWord, MoreWords, start, Do, Push, Pass, No, want, group_want, letter_want, name_want, word_want, and_more, more_words, Stack}
use Rattle.nc_syntax.proofs.Wanted.{run_at, follow}
use Rattle.nc_syntax.proofs.Stepping.{after, one_step}
use Rattle.nc_syntax.proofs.Words.{chain, made}
use Rattle.nc_syntax.proofs.MoreOfWords.{a_word}
use Rattle.nc_syntax.proofs.Forms.{ends}

-- after a thing of a list another one follows, or what is after the list
abbrev pub onward : {A : Type 0} → WordsView → (List A → Stack) → (List A × ℕ → Option ℕ) → List A → Item A → Option ℕ
onward words next k before (x, true, at) = run_at words at (next (before ++ x ∷ []))
onward words next k before (x, false, at) = k (before ++ x ∷ [], at)

abbrev pub Within : {A : Type 0} → (List A → ℕ → Result (Item A) ℕ) → ℕ → Type 0
Within {A = A} item all = (before : List A) (at : ℕ) (x : A) (more : Bool) (next : ℕ) → item before at ≡ Ok (x, more, next) → (at < next) × (next ≤ all)

item_case : {A : Type 0} (words : WordsView) (item : List A → ℕ → Result (Item A) ℕ) (next : List A → Stack) (k : List A × ℕ → Option ℕ) (before : List A) (at : ℕ) (r : Result (Item A) ℕ) →
    Within item (length words.tokens) → item before at ≡ r →
    ((later : List A) (n : ℕ) → at < n → run_at words n (next later) ≡ follow (list_from item later n (drop n words.tokens) 0) k) →
    follow r (onward words next k before) ≡ follow (list_from item before at (drop at words.tokens) 0) k
item_case {A = A} words item next k before at (Ok (x, true, n)) w e again =
    let b = w before at x true n e in
    again (before ++ x ∷ []) n b.0 ∙ ap (λ (r : Result (List A × ℕ) ℕ). follow r k) (sym (list_goes_on item before at words.tokens x n e b.0 b.1))
item_case {A = A} words item next k before at (Ok (x, false, n)) w e again =
    let b = w before at x false n e in
    ap (λ (r : Result (List A × ℕ) ℕ). follow r k) (sym (list_ends item before at words.tokens x n e b.0 b.1))
item_case {A = A} words item next k before at (Err code) w e again =
    ap (λ (r : Result (List A × ℕ) ℕ). follow r k) (sym (list_refused item before at words.tokens code e))

ended_line : {A : Type 0} (words : WordsView) (item : List A → ℕ → Result (Item A) ℕ) (k : List A × ℕ → Option ℕ) (f : Item A → Option ℕ) (before : List A) (at : ℕ) (r : Result (Item A) ℕ) →
    Within item (length words.tokens) → length words.tokens ≤ at → item before at ≡ r → follow r f ≡ follow (list_from item before at (drop at words.tokens) 0) k
ended_line words item k f before at (Ok (x, more, n)) w h e =
    let b = w before at x more n e in absurd (omega (arith, b.0, b.1, h))
ended_line {A = A} words item k f before at (Err code) w h e =
    ap (λ (r : Result (List A × ℕ) ℕ). follow r k) (sym (list_refused item before at words.tokens code e))

listed_goes : {A : Type 0} (words : WordsView) (item : List A → ℕ → Result (Item A) ℕ) (next : List A → Stack) (k : List A × ℕ → Option ℕ) → Within item (length words.tokens) →
    ((before : List A) (at : ℕ) → run_at words at (next before) ≡ follow (item before at) (onward words next k before)) →
    (n : ℕ) (before : List A) (at : ℕ) → length words.tokens ≤ at + n → run_at words at (next before) ≡ follow (list_from item before at (drop at words.tokens) 0) k
listed_goes words item next k w one zero before at h =
    one before at ∙ ended_line words item k (onward words next k before) before at (item before at) w (omega (arith, h)) refl
listed_goes {A = A} words item next k w one (suc n) before at h =
    one before at ∙ item_case words item next k before at (item before at) w refl
    (λ (later : List A) (m : ℕ) (l : at < m). listed_goes words item next k w one n later m (omega (arith, h, l)))

pub list_goes : {A : Type 0} (words : WordsView) (item : List A → ℕ → Result (Item A) ℕ) (next : List A → Stack) (k : List A × ℕ → Option ℕ) → Within item (length words.tokens) →
    ((before : List A) (at : ℕ) → run_at words at (next before) ≡ follow (item before at) (onward words next k before)) →
    (at : ℕ) → run_at words at (next []) ≡ follow (list_at item words at) k
list_goes {A = A} words item next k w one at =
    listed_goes words item next k w one (length words.tokens) [] at (omega arith) ∙ ap (λ (r : Result (List A × ℕ) ℕ). follow r k) (list_begins item words at)

-- a word begins, or the block ends
abbrev pub Moves : Do → Type 0
Moves (Push ws) = Unit {0}
Moves Pass = ⊥
Moves (No code) = Unit {0}

group_moves : (o : Option GWord) (code : ℕ) → Moves (group_want o code)
group_moves (Some g) code = tt
group_moves None code = tt

either : (P : Do → Type 0) (b : Bool) (x y : Do) → P x → P y → P (cond b x y)
either P true x y h k = h
either P false x y h k = k

letter_moves : (b : ℕ) → Moves (letter_want b)
letter_moves b =
    let P = λ (d : Do). Moves d in
    either P (b == 82) _ _ tt (either P (b == 71) _ _ tt (either P (is_slot_letter b) _ _ tt (either P (is_centre_letter b) _ _ tt (either P (is_aux_letter b) _ _ tt (either P (is_axis_letter b) _ _ tt tt)))))

pub name_moves : (text : List ℕ) → Moves (name_want text)
name_moves text =
    let P = λ (d : Do). Moves d in
    either P (is_word text (codes "CR")) (Push (Assigns true ∷ start true ∷ [])) _ tt (either P (is_spindle_word text) (Push (Bracket ∷ Assigns true ∷ start true ∷ [])) _ tt (group_moves (word_by_name text) (name_code text)))

pub word_moves : (p : Piece) (text : List ℕ) → Moves (word_want p text)
word_moves (piece.Letter b) text = letter_moves b
word_moves piece.Name text = name_moves text
word_moves p text = tt

and_more_case : (words : WordsView) (at : ℕ) (st : Stack) (d : Do) → Moves d → after words at (and_more d) st ≡ after words at d (MoreWords ∷ st)
and_more_case words at st (Push ws) h = ap (λ (s : Stack). run_at words (at + 1) s) (append_assoc ws (MoreWords ∷ []) st)
and_more_case words at st Pass h = absurd h
and_more_case words at st (No code) h = refl

more_case : (words : WordsView) (at : ℕ) (text : List ℕ) (p : Piece) → after words at (more_words p text) [] ≡ cond (not (is_end p)) (after words at (word_want p text) (MoreWords ∷ [])) (run_at words at [])
more_case words at text piece.End = refl
more_case words at text p = and_more_case words at [] (word_want p text) (word_moves p text)

words_more : (words : WordsView) (at : ℕ) → run_at words at (MoreWords ∷ []) ≡ cond (not (is_end (piece_at words at))) (run_at words at (AWord ∷ MoreWords ∷ [])) (run_at words at [])
unfolding want
words_more words at =
    let P = λ (o : Option ℕ). after words at (more_words (piece_at words at) (text_at words at)) [] ≡ cond (not (is_end (piece_at words at))) o (run_at words at []) in
    one_step words at MoreWords [] ∙ subst P (sym (one_step words at AWord (MoreWords ∷ []))) (more_case words at (text_at words at) (piece_at words at))

end_none : (words : WordsView) (at : ℕ) (p : Piece) → piece_at words at ≡ p → is_end p ≡ true → run_at words at [] ≡ None
unfolding end_at
end_none words at piece.End e h = ends words at ∙ rw e refl
end_none words at p e h = cc

word_onward : (words : WordsView) (before : List WordView) (x : WordView) (at : ℕ) (b : Bool) → is_end (piece_at words at) ≡ b →
    cond (not b) (run_at words at (AWord ∷ MoreWords ∷ [])) (run_at words at []) ≡ onward words (λ ys. AWord ∷ MoreWords ∷ []) (λ p. None) before (x, not b, at)
word_onward words before x at true h = end_none words at (piece_at words at) refl h
word_onward words before x at false h = refl

word_one : (words : WordsView) (before : List WordView) (at : ℕ) → run_at words at (AWord ∷ MoreWords ∷ []) ≡ follow (word_item_at words at) (onward words (λ ys. AWord ∷ MoreWords ∷ []) (λ p. None) before)
unfolding word_item_at
word_one words before at =
    a_word words at (MoreWords ∷ [])
    ∙ chain _ _ _ _ (λ (p : WordView × ℕ). words_more words p.1 ∙ word_onward words before p.0 p.1 (is_end (piece_at words p.1)) refl)

words_within : (words : WordsView) → Within {A = WordView} (λ before. word_item_at words) (length words.tokens)
unfolding word_item_at
words_within words before at x more next e =
    let a = bound _ _ _ e in
    let same : (a.0.0, not (is_end (piece_at words a.0.1)), a.0.1) ≡ (x, more, next) = cc in
    let n : a.0.1 ≡ next = ap (λ (q : WordView × Bool × ℕ). q.2) same in
    let w = word_within words at a.0.1 a.0.0 (word_found words at a.0.1 a.0.0 a.1) in
    (omega (arith, w.0, n), omega (arith, w.1, n))

pub word_blocks : (words : WordsView) (at : ℕ) → run_at words at (AWord ∷ MoreWords ∷ []) ≡ follow (words_form words at) (λ s. None)
unfolding words_form
word_blocks words at =
    list_goes {A = WordView} words (λ before. word_item_at words) (λ ys. AWord ∷ MoreWords ∷ []) (λ p. None) (words_within words) (λ (before : List WordView) (n : ℕ). word_one words before n) at
    ∙ made {B = Statement} (list_at (λ before. word_item_at words) words at) (λ p. WordBlock p.0) (λ s. None)

-- the same of things that stand before the end of the line
abbrev pub Inside : {A : Type 0} → WordsView → (List A → ℕ → Result (Item A) ℕ) → Type 0
Inside {A = A} words item = (before : List A) (at : ℕ) (x : A) (next : ℕ) → item before at ≡ Ok (x, true, next) → is_end (piece_at words next) ≡ false

pub end_of_line : (words : WordsView) (at : ℕ) → is_end (piece_at words at) ≡ false → at < length words.tokens
end_of_line words at h =
    elim (cases_lt at (length words.tokens)) [
      | inl l ↦ l
      | inr l ↦ let e : is_end (piece_at words at) ≡ true = sym (ap is_end (piece_past words at l)) in cc
    ]

inside_case : {A : Type 0} (words : WordsView) (item : List A → ℕ → Result (Item A) ℕ) (next : List A → Stack) (k : List A × ℕ → Option ℕ) (before : List A) (at : ℕ) (r : Result (Item A) ℕ) →
    Within item (length words.tokens) → Inside words item → item before at ≡ r →
    ((later : List A) (n : ℕ) → at < n → is_end (piece_at words n) ≡ false → run_at words n (next later) ≡ follow (list_from item later n (drop n words.tokens) 0) k) →
    follow r (onward words next k before) ≡ follow (list_from item before at (drop at words.tokens) 0) k
inside_case {A = A} words item next k before at (Ok (x, true, n)) w i e again =
    let b = w before at x true n e in
    again (before ++ x ∷ []) n b.0 (i before at x n e) ∙ ap (λ (r : Result (List A × ℕ) ℕ). follow r k) (sym (list_goes_on item before at words.tokens x n e b.0 b.1))
inside_case {A = A} words item next k before at (Ok (x, false, n)) w i e again =
    let b = w before at x false n e in
    ap (λ (r : Result (List A × ℕ) ℕ). follow r k) (sym (list_ends item before at words.tokens x n e b.0 b.1))
inside_case {A = A} words item next k before at (Err code) w i e again =
    ap (λ (r : Result (List A × ℕ) ℕ). follow r k) (sym (list_refused item before at words.tokens code e))

inside_goes : {A : Type 0} (words : WordsView) (item : List A → ℕ → Result (Item A) ℕ) (next : List A → Stack) (k : List A × ℕ → Option ℕ) →
    Within item (length words.tokens) → Inside words item →
    ((before : List A) (at : ℕ) → is_end (piece_at words at) ≡ false → run_at words at (next before) ≡ follow (item before at) (onward words next k before)) →
    (n : ℕ) (before : List A) (at : ℕ) → is_end (piece_at words at) ≡ false → length words.tokens ≤ at + n → run_at words at (next before) ≡ follow (list_from item before at (drop at words.tokens) 0) k
inside_goes words item next k w i one zero before at h l = absurd (omega (arith, end_of_line words at h, l))
inside_goes {A = A} words item next k w i one (suc n) before at h l =
    one before at h ∙ inside_case words item next k before at (item before at) w i refl
    (λ (later : List A) (m : ℕ) (a : at < m) (b : is_end (piece_at words m) ≡ false). inside_goes words item next k w i one n later m b (omega (arith, l, a)))

pub list_inside : {A : Type 0} (words : WordsView) (item : List A → ℕ → Result (Item A) ℕ) (next : List A → Stack) (k : List A × ℕ → Option ℕ) →
    Within item (length words.tokens) → Inside words item →
    ((before : List A) (at : ℕ) → is_end (piece_at words at) ≡ false → run_at words at (next before) ≡ follow (item before at) (onward words next k before)) →
    (at : ℕ) → is_end (piece_at words at) ≡ false → run_at words at (next []) ≡ follow (list_at item words at) k
list_inside {A = A} words item next k w i one at h =
    inside_goes words item next k w i one (length words.tokens) [] at h (omega arith) ∙ ap (λ (r : Result (List A × ℕ) ℕ). follow r k) (list_begins item words at)
