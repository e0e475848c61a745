use Rattle.std.proofs.Common.{◌∙◌, ap}
use Rattle.explain_lines.specs.Trimmed.{trimmed}
use Rattle.explain_lines.proofs.LineLaws.{text_of_none, text_of_line}
use Rattle.explain_lines.proofs.TrimLaws.{both_trimmed}
use Rattle.explain_lines.proofs.lines.Lines.text.Goals as goal

pub returns-then-line-eq0 : goal.returns-then-line-eq0
returns-then-line-eq0 c = text_of_none c.args.self.now c.args.line c.if-line-eq0.true

pub returns : goal.returns
returns c =
    both_trimmed c.line.result.now c.trim_ascii.result.now c.trim_ascii.ensures.bound c.trim_ascii.ensures.value
    ∙ ap trimmed c.line.ensures
    ∙ text_of_line c.args.self.now c.args.line c.if-line-eq0.false
