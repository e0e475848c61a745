use Rattle.std.proofs.Common.{◌∙◌, sym}
use Rattle.explain_lines.proofs.LineLaws.{line_found, no_line_found}
use Rattle.explain_lines.proofs.lines.Lines.line.Goals as goal

pub part-requires-clause-order : goal.part-requires-clause-order
part-requires-clause-order c = rw c.end-upto.ensures (line_found c.args.self.now c.args.place c.in-Some.from (sym c.start.ensures ∙ c.in-Some.is)).order

pub part-requires-clause-within : goal.part-requires-clause-within
part-requires-clause-within c = rw (c.end-upto.ensures, c.self.view_is) (line_found c.args.self.now c.args.place c.in-Some.from (sym c.start.ensures ∙ c.in-Some.is)).within

pub returns-in-Some : goal.returns-in-Some
returns-in-Some c = c.part.ensures ∙ rw (c.end-upto.ensures, c.self.view_is) (line_found c.args.self.now c.args.place c.in-Some.from (sym c.start.ensures ∙ c.in-Some.is)).line

pub returns-in-None : goal.returns-in-None
returns-in-None c = no_line_found c.args.self.now c.args.place (sym c.start.ensures ∙ c.in-None.is)
