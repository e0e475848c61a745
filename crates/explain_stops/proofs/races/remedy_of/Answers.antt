use Rattle.std.proofs.Common.{◌∙◌, ◌==◌, None, Some, ap, refl, sym}
use Rattle.explain_stops.specs.Races.{remedy_of, remedy_in}
use Rattle.explain_stops.proofs.TableLaws.{told}
use Rattle.explain_stops.proofs.races.remedy_of.Goals as goal

pub returns-in-Some : goal.returns-in-Some
unfolding remedy_of
returns-in-Some c = sym (ap remedy_in (told c.args.rows.now (λ row. (row.0, row.1.now, row.2.now)) (λ row. row.0 == c.args.letter) c.args.letter (Some c.in-Some.row) (λ x. refl) (sym c.row_of.ensures ∙ c.in-Some.is)))

pub returns-in-None : goal.returns-in-None
unfolding remedy_of
returns-in-None c = sym (ap remedy_in (told c.args.rows.now (λ row. (row.0, row.1.now, row.2.now)) (λ row. row.0 == c.args.letter) c.args.letter None (λ x. refl) (sym c.row_of.ensures ∙ c.in-None.is)))
