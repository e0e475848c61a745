use Rattle.std.proofs.Common.{◌≡◌, All, sym, subst}
use Rattle.explain.proofs.SaidLaws.{all_kept}
use Rattle.explain.specs.Clashes.{at_text}
use Rattle.explain.proofs.line_texts.add_line.Goals as goal

pub returns-in_ok-insert : goal.returns-in_ok-insert
returns-in_ok-insert c =
    subst (All (λ row. row.1.items ≡ at_text c.args.told.now.lines.now c.args.told.now.job.now row.0)) (sym c.in_ok-insert.ensures.entries)
    (all_kept (λ row. row.1.items ≡ at_text c.args.told.now.lines.now c.args.told.now.job.now row.0) c.args.known.now.texts.entries c.args.line c.in_ok-line_said.field-0 c.requires
    c.in_ok-line_said.ensures)
