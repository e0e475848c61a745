use Rattle.std.proofs.Common.{◌∙◌, ℕ, ◌+◌, List, [], ◌∷◌, ◌++◌, ap}
use Rattle.std.proofs.lemmas.Fmt.{decimal_digit}
use Rattle.job_report.proofs.page.Page.push_digit.Goals as goal

pub returns-clause-text : goal.returns-clause-text
returns-clause-text c =
    rw (decimal_digit c.args.digit c.requires.digit)
    (c.push.ensures.items ∙ ap (λ (bytes : List ℕ). bytes ++ (48 + c.args.digit) ∷ []) c.self.view_is)
