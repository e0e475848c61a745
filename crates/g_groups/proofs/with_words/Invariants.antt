use Rattle.std.proofs.Common.{◌≡◌, ℕ, ◌<◌, get_or, take}
use Rattle.g_groups.specs.Modal.{last_code, words_of}
use Rattle.g_groups.proofs.with_words.Given as goal

abbrev pub invariant-loop-word : goal.invariant-loop-word
invariant-loop-word l =
    (group : ℕ) → group < 30
    → get_or l.words group 0 ≡ last_code (get_or l.fn.words group 0) (words_of group (take l.word-index l.codes))
