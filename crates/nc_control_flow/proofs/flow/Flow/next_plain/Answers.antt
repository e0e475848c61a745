use Rattle.std.proofs.Common.{◌<◌, ◌∙◌, ap, sym, subst, get_or, refl, true, length, arith, Result, Ok, Err, ℕ}
use Rattle.nc_blocks.specs.Statement.{statement_view}
use Rattle.nc_control_flow.specs.Counted.{up_to_counting}
use Rattle.nc_control_flow.specs.Flow.{Leads}
use Rattle.nc_control_flow.specs.Moves.{outcome_view}
use Rattle.nc_control_flow.specs.Parts.{views}
use Rattle.nc_control_flow.specs.Repetitions.{Going}
use Rattle.nc_control_flow.proofs.Resolving.{said_at, led, length-views}
use Rattle.nc_control_flow.proofs.Starting.{asked_starts, counts_within}
use Rattle.nc_control_flow.proofs.flow.Flow.next_plain.Goals as goal

pub go_over-requires-clause-starts : goal.go_over-requires-clause-starts
go_over-requires-clause-starts c =
    asked_starts c.args.pc (views c.args.self.now) (statement_view c.index.result.now.1.stmt) (outcome_view c.args.outcome) c.move_of.result c.in-Ok.asked c.move_of.ensures.asked c.in-Ok.is

pub returns-in-Ok-clause-leads : goal.returns-in-Ok-clause-leads
returns-in-Ok-clause-leads c =
    let blocks = views c.args.self.now in
    let one = c.index.result.now in
    let within : c.args.pc < length c.args.self.now = let h = counts_within true blocks c.args.pc c.requires.counts in omega (arith, h, length-views c.args.self.now) in
    let P : Result Going ℕ → Type 0 = λ g. Leads blocks (up_to_counting true blocks g) c.go_over.result c.args.repeats.now c.go_over.new.repeats in
    let said = said_at c.args.self.now c.args.pc one within (c.index.ensures ∙ ap (λ xs. get_or xs c.args.pc one) c.self.view_is) in
    subst P (sym (led c.args.pc blocks c.args.repeats.now (outcome_view c.args.outcome) (statement_view one.1.stmt) c.move_of.result (Ok c.in-Ok.asked) said c.move_of.ensures.asked c.in-Ok.is)) c.go_over.ensures.leads

pub returns-in-Err-clause-leads : goal.returns-in-Err-clause-leads
returns-in-Err-clause-leads c =
    let blocks = views c.args.self.now in
    let one = c.index.result.now in
    let within : c.args.pc < length c.args.self.now = let h = counts_within true blocks c.args.pc c.requires.counts in omega (arith, h, length-views c.args.self.now) in
    let P : Result Going ℕ → Type 0 = λ g. Leads blocks (up_to_counting true blocks g) (Err c.in-Err.code) c.args.repeats.now c.args.repeats.now in
    let said = said_at c.args.self.now c.args.pc one within (c.index.ensures ∙ ap (λ xs. get_or xs c.args.pc one) c.self.view_is) in
    subst P (sym (led c.args.pc blocks c.args.repeats.now (outcome_view c.args.outcome) (statement_view one.1.stmt) c.move_of.result (Err c.in-Err.code) said c.move_of.ensures.asked c.in-Err.is)) (refl, refl)
