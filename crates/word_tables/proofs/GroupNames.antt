-- The names of words of groups, in the table of groups and in the list of names.
use Rattle.std.proofs.Common.{◌≡◌, ℕ, ◌+◌, List, [], ◌∷◌, Bool, true, false, Option, Some, None, refl, sym, ◌∙◌, ap}
use Rattle.std.specs.Prelude.{◌||◌, ◌++◌, is_some, if◌then◌else◌}
use Rattle.std.specs.List.{list_any}
use Rattle.std.specs.Option.{option_or}
use Rattle.std.proofs.lemmas.List.Folds.{list_any-append}
use Rattle.g_groups.specs.declared.GWord.{GWord}
use Rattle.g_groups.specs.Groups.{Spelling, Group, code_of, groups}
use Rattle.name_tables.specs.Tables.{is_group_name}
use Rattle.word_tables.specs.GroupWords.{word_among, word_in, is_name, word_by_name}

some_if : (b : Bool) (w : GWord) (rest : Option GWord) → is_some (if b then Some w else rest) ≡ (b || is_some rest)
some_if true w rest = refl
some_if false w rest = refl

some_or : (a b : Option GWord) → is_some (option_or a b) ≡ (is_some a || is_some b)
some_or (Some w) b = refl
some_or None b = refl

-- a group has a word that passes a test where one of its words does
some_among : (test : Spelling → Bool) (group place : ℕ) (words : List Spelling) → is_some (word_among test group place words) ≡ list_any test words
some_among test group place [] = refl
some_among test group place (word ∷ words) =
    some_if (test word) (record { group = group; code = code_of place word }) (word_among test group (place + 1) words)
    ∙ ap (λ b. test word || b) (some_among test group (place + 1) words)

-- the words of some groups, in one list
abbrev words_of : List Group → List Spelling
words_of [] = []
words_of (group ∷ more) = group.words ++ words_of more

some_in : (test : Spelling → Bool) (rows : List Group) → is_some (word_in test rows) ≡ list_any test (words_of rows)
some_in test [] = refl
some_in test (group ∷ more) =
    some_or (word_among test group.number 1 group.words) (word_in test more)
    ∙ ap (λ b. b || is_some (word_in test more)) (some_among test group.number 1 group.words)
    ∙ ap (λ b. list_any test group.words || b) (some_in test more)
    ∙ sym (list_any-append test group.words (words_of more))

-- the table of groups has a word with a name exactly where the name is in the list of names
pub word_is_listed : (text : List ℕ) → is_some (word_by_name text) ≡ is_group_name text
unfolding word_by_name is_group_name
word_is_listed text = some_in (is_name text) groups
