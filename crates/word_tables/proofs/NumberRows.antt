-- The rows of numbers after G against the table of groups.
use Rattle.std.proofs.Common.{◌≡◌, ℕ, ◌<◌, Bool, true, false, eqb, get_or, position, Option, Some, None, refl, ◌∙◌, ap}
use Rattle.std.specs.Prelude.{◌&&◌, nat_le}
use Rattle.std.proofs.lemmas.Bool.{false≢true, eqb-true, agree_below_at, and_parts}
use Rattle.g_groups.specs.declared.GWord.{GWord}
use Rattle.word_tables.specs.declared.group_words.TheConstants.{NUMBERS}
use Rattle.word_tables.specs.GroupWords.{g_word}

abbrev pub some_row : ℕ × ℕ × ℕ
some_row = (0, 0, 0)

-- the word of the row at a place
word_at : ℕ → Option ℕ → Option GWord
word_at code (Some place) = Some (record { group = (get_or NUMBERS place some_row).0; code = code })
word_at code None = None

by_rows : ℕ → Option GWord
by_rows code = word_at code (position (λ row. nat_le row.1 code && nat_le code row.2) NUMBERS)

same : Option GWord → Option GWord → Bool
same (Some one) (Some other) = eqb one.group other.group && eqb one.code other.code
same (Some one) None = false
same None (Some other) = false
same None None = true

same_is : (one other : Option GWord) → same one other ≡ true → one ≡ other
unfolding same
same_is (Some one) (Some other) h =
    let both = and_parts (eqb one.group other.group) (eqb one.code other.code) h in
    let group : one.group ≡ other.group = eqb-true one.group other.group both.0 in
    let code : one.code ≡ other.code = eqb-true one.code other.code both.1 in
    ap (λ (n : ℕ). Some (word n one.code)) group ∙ ap (λ (n : ℕ). Some (word other.group n)) code
  where
    word : ℕ → ℕ → GWord
    word group code = record { group = group; code = code }
same_is (Some one) None h = absurd (false≢true h)
same_is None (Some other) h = absurd (false≢true h)
same_is None None h = refl

agrees : ℕ → Bool
agrees code = same (by_rows code) (g_word code)

always : ℕ → Bool
always code = true

rows_agree : (code : ℕ) → code < 1000 → by_rows code ≡ g_word code
unfolding same by_rows word_at agrees always g_word
rows_agree code less = same_is (by_rows code) (g_word code) (agree_below_at agrees always 1000 code refl less)

pub row_some : (code place : ℕ) → code < 1000 → Some place ≡ position (λ row. nat_le row.1 code && nat_le code row.2) NUMBERS
    → Some (record { group = (get_or NUMBERS place some_row).0; code = code }) ≡ g_word code
unfolding by_rows word_at
row_some code place less found = ap (word_at code) found ∙ rows_agree code less

pub row_none : (code : ℕ) → code < 1000 → None ≡ position (λ row. nat_le row.1 code && nat_le code row.2) NUMBERS
    → None ≡ g_word code
unfolding by_rows word_at
row_none code less found = ap (word_at code) found ∙ rows_agree code less
