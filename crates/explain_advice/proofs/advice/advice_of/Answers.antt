use Rattle.std.proofs.Common.{◌∙◌, ◌==◌, None, Some, ap, refl, sym}
use Rattle.explain_advice.specs.Advice.{advice_of, advice_in}
use Rattle.explain_advice.proofs.AdviceLaws.{told}
use Rattle.explain_advice.proofs.advice.advice_of.Goals as goal

pub returns-in-Some : goal.returns-in-Some
unfolding advice_of
returns-in-Some c = sym (ap advice_in (told c.args.rows.now (λ row. (row.0, row.1.now, row.2.now, row.3.now)) (λ row. row.0 == c.args.code) c.args.code (Some c.in-Some.row) (λ x. refl) (sym c.row_of.ensures ∙ c.in-Some.is)))

pub returns-in-None : goal.returns-in-None
unfolding advice_of
returns-in-None c = sym (ap advice_in (told c.args.rows.now (λ row. (row.0, row.1.now, row.2.now, row.3.now)) (λ row. row.0 == c.args.code) c.args.code None (λ x. refl) (sym c.row_of.ensures ∙ c.in-None.is)))
