use Rattle.std.proofs.Common.{◌≡◌, ◌∙◌, ◌++◌, ℕ, List, sym, ap}
use Rattle.explain.proofs.SaidLaws.{found_is}
use Rattle.explain.specs.Clashes.{at_text}
use Rattle.explain.proofs.line_texts.say_known.Goals as goal

pub returns-in-Some : goal.returns-in-Some
returns-in-Some c =
    c.bytes.ensures
    ∙ ap (λ (said : List ℕ). c.args.text.now ++ said) (c.as_slice.ensures.value
    ∙ found_is (λ row. row.1.items ≡ at_text c.args.told.now.lines.now c.args.told.now.job.now row.0) c.args.known.now.texts.entries c.args.line c.in-Some.said.now c.requires (sym c.in-Some.ensures.value))
