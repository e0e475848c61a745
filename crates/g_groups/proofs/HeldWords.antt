-- What holds at the start, and after one more block.
use Rattle.std.proofs.Common.{◌≡◌, ℕ, ◌+◌, ◌<◌, Bool, true, false, cond, eqb, ltb, List, [], ◌∷◌, ◌++◌, length, get_or, take, refl, sym, ap, ◌∙◌, subst}
use Rattle.std.specs.List.{flat_map, list_all}
use Rattle.std.proofs.lemmas.Bool.{false≢true, eqb-true, ltb-true, agree_below_at, and_parts}
use Rattle.std.proofs.lemmas.List.{append-nil}
use Rattle.std.proofs.lemmas.List.Concat.{flat_map-append}
use Rattle.std.proofs.lemmas.List.Elements.{filter-append, filter_more}
use Rattle.std.proofs.lemmas.List.Sums.{fold-append, fold_push}
use Rattle.g_groups.specs.declared.GWord.{GWord}
use Rattle.g_groups.specs.declared.TheConstants.{START}
use Rattle.g_groups.specs.Groups.{Group, Holding, modal, in_block, none, groups, holding_in, holding_of, has_value, HasModalValue}
use Rattle.g_groups.specs.Modal.{words_of, last_code, word_by_holding, modal_word, IsAfter}

-- ---- the groups with a value are below 30
numbered_below : ℕ → List Group → Bool
numbered_below bound rows = list_all (λ row. ltb row.number bound) rows

found_below : (bound number first : ℕ) (now later : Holding) (b : Bool) → eqb first number ≡ b → first < bound
    → (has_value later ≡ true → number < bound) → has_value (cond b now later) ≡ true → number < bound
found_below bound number first now later true same less other h = subst (λ (k : ℕ). k < bound) (eqb-true first number same) less
found_below bound number first now later false same less other h = other h

value_below : (bound number : ℕ) (rows : List Group) → numbered_below bound rows ≡ true → has_value (holding_in rows number) ≡ true → number < bound
unfolding numbered_below
value_below bound number [] all h = absurd (false≢true h)
value_below bound number (row ∷ rows) all h =
    let both = and_parts (ltb row.number bound) (numbered_below bound rows) all in
    found_below bound number row.number row.holding (holding_in rows number) (eqb row.number number) refl (ltb-true row.number bound both.0)
    (value_below bound number rows both.1) h

pub group_below : (group : ℕ) → HasModalValue group → group < 30
unfolding holding_of numbered_below
group_below group h = value_below 30 group groups refl h

-- ---- the start
start_of : Holding → ℕ
start_of (modal start) = start
start_of in_block = 0
start_of none = 0

held-none : (holding : Holding) (group : ℕ) → word_by_holding holding [] group ≡ start_of holding
unfolding start_of
held-none (modal start) group = refl
held-none in_block group = refl
held-none none group = refl

-- a list that has at each group the word of the start
starts_at : List ℕ → ℕ → Bool
starts_at words group = eqb (get_or words group 0) (start_of (holding_of group))

always : ℕ → Bool
always group = true

pub IsAfter-start : IsAfter [] START
unfolding modal_word holding_of start_of starts_at always
IsAfter-start group h =
    eqb-true _ _ (agree_below_at (starts_at START) always 30 group refl (group_below group h))
    ∙ sym (held-none (holding_of group) group)

-- ---- one more block
is_in_block : Holding → Bool
is_in_block (modal start) = false
is_in_block in_block = true
is_in_block none = false

is_ninth : ℕ → Bool
is_ninth group = is_in_block (holding_of group)

ninth_alone : (group : ℕ) → group < 30 → is_in_block (holding_of group) ≡ eqb group 9
unfolding holding_of is_in_block is_ninth
ninth_alone group less = agree_below_at is_ninth (λ n. eqb n 9) 30 group refl less

last_code-more : (start group : ℕ) (blocks : List (List GWord)) (codes : List GWord)
    → last_code start (words_of group (flat_map (λ block. block) (blocks ++ codes ∷ [])))
    ≡ last_code (last_code start (words_of group (flat_map (λ block. block) blocks))) (words_of group codes)
last_code-more start group blocks codes =
    ap (λ words. last_code start (words_of group words))
    (flat_map-append (λ block. block) blocks (codes ∷ []) ∙ ap (λ rest. flat_map (λ block. block) blocks ++ rest) (append-nil codes))
    ∙ ap (last_code start) (filter-append (λ word. eqb word.group group) (flat_map (λ block. block) blocks) codes)
    ∙ fold-append (λ _ word. word.code) start (words_of group (flat_map (λ block. block) blocks)) (words_of group codes)

held-more : (holding : Holding) (ninth : Bool) (blocks : List (List GWord)) (codes : List GWord) (group old : ℕ)
    → has_value holding ≡ true → is_in_block holding ≡ ninth → old ≡ word_by_holding holding blocks group
    → last_code (cond ninth 0 old) (words_of group codes) ≡ word_by_holding holding (blocks ++ codes ∷ []) group
unfolding is_in_block
held-more (modal start) false blocks codes group old h same was =
    ap (λ code. last_code code (words_of group codes)) was ∙ sym (last_code-more start group blocks codes)
held-more (modal start) true blocks codes group old h same was = absurd (false≢true same)
held-more in_block true blocks codes group old h same was =
    ap (λ block. last_code 0 (words_of group block)) (sym (fold_push (λ _ block. block) [] blocks codes))
held-more in_block false blocks codes group old h same was = absurd (false≢true (sym same))
held-more none ninth blocks codes group old h same was = absurd (false≢true h)

-- the words that hold, where the one of group 9 was dropped and the block's words took the place of earlier ones
pub modal_word-more : (blocks : List (List GWord)) (codes : List GWord) (group old : ℕ) → HasModalValue group
    → old ≡ modal_word blocks group
    → last_code (cond (eqb group 9) 0 old) (words_of group codes) ≡ modal_word (blocks ++ codes ∷ []) group
unfolding modal_word
modal_word-more blocks codes group old h was =
    held-more (holding_of group) (eqb group 9) blocks codes group old h (ninth_alone group (group_below group h)) was

-- ---- one more word
kept : (word : GWord) (group code : ℕ) (seen : List GWord) (b : Bool) → eqb word.group group ≡ b
    → last_code code (seen ++ cond b (word ∷ []) []) ≡ cond b word.code (last_code code seen)
kept word group code seen true same = fold_push (λ _ word. word.code) code seen word
kept word group code seen false same = ap (last_code code) (append-nil seen)

last_code-take : (codes : List GWord) (i : ℕ) (d : GWord) (group code : ℕ) → i < length codes
    → last_code code (words_of group (take (i + 1) codes))
    ≡ cond (eqb (get_or codes i d).group group) (get_or codes i d).code (last_code code (words_of group (take i codes)))
last_code-take codes i d group code less =
    ap (last_code code) (filter_more (λ word. eqb word.group group) codes i d less)
    ∙ kept (get_or codes i d) group code (words_of group (take i codes)) (eqb (get_or codes i d).group group) refl

-- the last word of a group, where a word was put in the place of an earlier one
pub last_code_put : (codes : List GWord) (i : ℕ) (d : GWord) (group code old new : ℕ) → i < length codes
    → old ≡ last_code code (words_of group (take i codes))
    → new ≡ cond (eqb (get_or codes i d).group group) (get_or codes i d).code old
    → new ≡ last_code code (words_of group (take (i + 1) codes))
last_code_put codes i d group code old new less was put =
    put ∙ ap (cond (eqb (get_or codes i d).group group) (get_or codes i d).code) was ∙ sym (last_code-take codes i d group code less)
