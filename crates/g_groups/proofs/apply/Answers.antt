use Rattle.std.proofs.Common.{ap, ◌∙◌, ℕ, List, get_or}
use Rattle.g_groups.specs.Modal.{last_code, words_of}
use Rattle.g_groups.proofs.HeldWords.{group_below, modal_word-more}
use Rattle.g_groups.proofs.apply.Goals as goal

pub returns-clause-after : goal.returns-clause-after
returns-clause-after c blocks was group h =
    let less = group_below group h in
    let old = ap (λ (words : List ℕ). get_or words group 0) c.modal.view_is ∙ was group h in
    c.with_words.ensures group less
    ∙ ap (λ (code : ℕ). last_code code (words_of group c.args.codes.now)) (c.past_block.ensures group less)
    ∙ modal_word-more blocks c.args.codes.now group (get_or c.modal.inside.words group 0) h old
