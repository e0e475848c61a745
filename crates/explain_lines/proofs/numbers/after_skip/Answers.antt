use Rattle.std.proofs.Common.{◌≡◌, ◌∷◌, rules}
use Rattle.explain_lines.specs.Trimmed.{without_start}
use Rattle.explain_lines.proofs.TrimLaws.{start_trimmed}
use Rattle.explain_lines.proofs.numbers.after_skip.Goals as goal

pub returns-in-Some : goal.returns-in-Some
returns-in-Some c =
    let whole : c.args.text.now ≡ c.in-Some.sign.now ∷ c.in-Some.rest.now = search rules in
    let cut : c.trim_ascii_start.result.now ≡ without_start c.in-Some.rest.now = start_trimmed c.in-Some.rest.now c.trim_ascii_start.result.now c.trim_ascii_start.ensures.value in
    rw (whole, c.if-sign-eq47.true) cut
