use Rattle.std.proofs.Common.{sym, subst, ℕ, Option}
use Rattle.word_tables.specs.Refused.{IsLeftmost}
use Rattle.word_tables.proofs.Lines.{leftmost}
use Rattle.word_tables.proofs.refused_words.refused_word.Goals as goal

pub returns-clause-leftmost : goal.returns-clause-leftmost
returns-clause-leftmost c =
    let line = c.args.words.now.line in
    let tokens = c.args.words.now.tokens in
    subst (λ (o : Option ℕ). IsLeftmost c.args.compensation line tokens o) (sym c.refused_from_left.ensures) (leftmost c.args.compensation line tokens)
