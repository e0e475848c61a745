-- Meaning. The modal words: what holds after some blocks.
use Rattle.std.specs.Prelude.{◌≡◌, ℕ, ◌==◌, List, [], ◌∷◌, fold, filter, slice_index, Bool, false, ◌||◌}
use Rattle.std.specs.List.{flat_map, list_any}
use Rattle.g_groups.specs.declared.GWord.{GWord}
use Rattle.g_groups.specs.Groups.{Holding, modal, in_block, none, holding_of, HasModalValue}

-- the words of one group among some words
abbrev pub words_of : ℕ → List GWord → List GWord
words_of group words = filter (λ word. word.group == group) words

-- the code of the last of some words, or a code that stands for no word
abbrev pub last_code : ℕ → List GWord → ℕ
last_code code words = fold (λ _ word. word.code) code words

-- the words of the last block
abbrev pub last_block : List (List GWord) → List GWord
last_block blocks = fold (λ _ block. block) [] blocks

-- the word that holds after some blocks
abbrev pub word_by_holding : Holding → List (List GWord) → ℕ → ℕ
word_by_holding (modal start) blocks group = last_code start (words_of group (flat_map (λ block. block) blocks))
word_by_holding in_block blocks group = last_code 0 (words_of group (last_block blocks))
word_by_holding none blocks group = 0

-- the code of the word of this group that holds after these blocks, each of them its words; 0 where none holds
unfoldable pub modal_word : List (List GWord) → ℕ → ℕ
modal_word blocks group = word_by_holding (holding_of group) blocks group

-- these are, by groups, the words that hold after these blocks
abbrev pub IsAfter : List (List GWord) → List ℕ → Type 0
IsAfter blocks words = (group : ℕ) → HasModalValue group → slice_index words group ≡ modal_word blocks group

-- two words of one group stand among these
abbrev pub has_group_twice : List GWord → Bool
has_group_twice [] = false
has_group_twice (word ∷ words) = list_any (λ other. other.group == word.group) words || has_group_twice words
