-- A block with no words of groups leaves the words that hold.
use Rattle.std.proofs.Common.{◌≡◌, ℕ, Bool, true, false, cond, eqb, List, [], ◌∷◌, ◌++◌, get_or, refl, ◌∙◌}
use Rattle.std.proofs.lemmas.Bool.{eqb-true}
use Rattle.g_groups.specs.declared.GWord.{GWord}
use Rattle.g_groups.specs.Groups.{HasModalValue, holding_of}
use Rattle.g_groups.specs.Modal.{IsAfter}
use Rattle.g_groups.proofs.HeldWords.{modal_word-more}

-- the word of the group of one block is 0 already
zero_already : (words : List ℕ) (group : ℕ) (b : Bool) → eqb group 9 ≡ b → get_or words 9 0 ≡ 0 → get_or words group 0 ≡ cond b 0 (get_or words group 0)
zero_already words group true same zero = rw (eqb-true group 9 same) zero
zero_already words group false same zero = refl

pub after_nothing : (blocks : List (List GWord)) (words : List ℕ) → get_or words 9 0 ≡ 0 → IsAfter blocks words → IsAfter (blocks ++ [] ∷ []) words
after_nothing blocks words zero was group h =
    zero_already words group (eqb group 9) refl zero ∙ modal_word-more blocks [] group (get_or words group 0) h (was group h)

pub has_block_group : HasModalValue 9
unfolding holding_of
has_block_group = refl
