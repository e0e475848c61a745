use Rattle.std.proofs.Common.{get_or}
use Rattle.g_groups.proofs.HeldWords.{last_code_put}
use Rattle.g_groups.proofs.with_words.Goals as goal

pub loop-word-preserved : goal.loop-word-preserved
loop-word-preserved c group less =
    last_code_put c.args.codes.now c.loop-word.word-index _ group (get_or c.args.words group 0) _ _ c.loop-word-test.true
    (c.loop-word.invariant group less) (c.put_word.ensures group less)
