use Rattle.word_tables.proofs.NumberRows.{row_some, row_none}
use Rattle.word_tables.proofs.group_words.word_with.Goals as goal

pub returns-in-Some : goal.returns-in-Some
returns-in-Some c = row_some c.args.code c.in-Some.place c.requires c.in-Some.ensures.value

pub returns-in-None : goal.returns-in-None
returns-in-None c = row_none c.args.code c.requires c.in-None.ensures.value
