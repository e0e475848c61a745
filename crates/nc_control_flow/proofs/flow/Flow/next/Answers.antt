use Rattle.std.proofs.Common.{◌∙◌, ap, sym, subst, get_or, refl, Result, Ok, Err, ℕ}
use Rattle.nc_blocks.specs.Statement.{statement_view}
use Rattle.nc_control_flow.specs.Parts.{views}
use Rattle.nc_control_flow.specs.Repetitions.{Going}
use Rattle.nc_control_flow.specs.Flow.{Leads}
use Rattle.nc_control_flow.specs.Moves.{outcome_view}
use Rattle.nc_control_flow.proofs.Resolving.{said_at, led}
use Rattle.nc_control_flow.proofs.flow.Flow.next.Goals as goal

pub returns-in-Ok : goal.returns-in-Ok
returns-in-Ok c =
    let blocks = views c.args.self.now in
    let one = c.index.result.now in
    let P : Result Going ℕ → Type 0 = λ g. Leads blocks g c.go.result c.args.repeats.now c.go.new.repeats in
    let said = said_at c.args.self.now c.args.pc one c.requires (c.index.ensures ∙ ap (λ xs. get_or xs c.args.pc one) c.self.view_is) in
    subst P (sym (led c.args.pc blocks c.args.repeats.now (outcome_view c.args.outcome) (statement_view one.1.stmt) c.move_of.result (Ok c.in-Ok.asked) said c.move_of.ensures.asked c.in-Ok.is)) c.go.ensures

pub returns-in-Err : goal.returns-in-Err
returns-in-Err c =
    let blocks = views c.args.self.now in
    let one = c.index.result.now in
    let P : Result Going ℕ → Type 0 = λ g. Leads blocks g (Err c.in-Err.code) c.args.repeats.now c.args.repeats.now in
    let said = said_at c.args.self.now c.args.pc one c.requires (c.index.ensures ∙ ap (λ xs. get_or xs c.args.pc one) c.self.view_is) in
    subst P (sym (led c.args.pc blocks c.args.repeats.now (outcome_view c.args.outcome) (statement_view one.1.stmt) c.move_of.result (Err c.in-Err.code) said c.move_of.ensures.asked c.in-Err.is)) (refl, refl)
