use Rattle.std.proofs.Common.{◌∙◌, sym}
use Rattle.explain_places.proofs.EntryLaws.{last_some, last_none}
use Rattle.explain_places.proofs.spans.last_own.Goals as goal

pub returns-in-Some : goal.returns-in-Some
returns-in-Some c = c.entry_in.ensures ∙ last_some c.args.entries.now c.args.channel c.args.step c.in-Some.place c.in-Some.ensures

pub returns-in-None : goal.returns-in-None
returns-in-None c = sym (last_none c.args.entries.now c.args.channel c.args.step c.in-None.ensures)
