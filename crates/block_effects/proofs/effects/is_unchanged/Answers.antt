use Rattle.std.proofs.Common.{rules, ◌≡◌, [], sym, ◌∙◌}
use Rattle.std.proofs.lemmas.Bool.{eqb-true}
use Rattle.std.proofs.lemmas.List.{nil_from_length}
use Rattle.block_effects.proofs.KeptWords.{after_nothing, has_block_group}
use Rattle.block_effects.proofs.effects.is_unchanged.Goals as goal

pub word-requires : goal.word-requires
word-requires c = has_block_group

pub returns-then-is_empty-clause-kept : goal.returns-then-is_empty-clause-kept
returns-then-is_empty-clause-kept c = λ zero blocks after.
    let none : c.args.groups.now ≡ [] = search (rules, nil_from_length) in
    rw none (after_nothing blocks c.args.modal.now (sym c.word.ensures.state ∙ eqb-true c.word.result 0 zero) after)
