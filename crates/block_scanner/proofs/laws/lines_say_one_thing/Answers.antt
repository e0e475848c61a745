use Rattle.std.proofs.Common.{◌∙◌, sym}
use Rattle.block_scanner.specs.Tokens.{tokens_of}
use Rattle.block_scanner.proofs.ReadingLaws.{says, says_alone}
use Rattle.block_scanner.proofs.laws.lines_say_one_thing.Goals as goal

pub returns-clause-said : goal.returns-clause-said
returns-clause-said c = λ line. (tokens_of line, says line)

pub returns-clause-alone : goal.returns-clause-alone
returns-clause-alone c = λ line one other says_one says_other. says_alone line one says_one ∙ sym (says_alone line other says_other)
