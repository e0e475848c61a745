use Rattle.std.proofs.Common.{sym, subst, Result, ℕ}
use Rattle.nc_control_flow.specs.Flow.{next_block, Leads}
use Rattle.nc_control_flow.specs.Moves.{outcome_view}
use Rattle.nc_control_flow.specs.Parts.{views}
use Rattle.nc_control_flow.specs.Repetitions.{Going}
use Rattle.nc_control_flow.proofs.Starting.{none_over}
use Rattle.nc_control_flow.proofs.flow.Flow.next_counted.Goals as goal

pub returns-else-skip-clause-leads : goal.returns-else-skip-clause-leads
returns-else-skip-clause-leads c =
    let blocks = views c.args.self.now in
    let P : Result Going ℕ → Type 0 = λ g. Leads blocks g c.next.result c.args.repeats.now c.next.new.repeats in
    rw c.if-skip.false (subst P (sym (none_over blocks (next_block c.args.pc blocks c.args.repeats.now (outcome_view c.args.outcome)))) c.next.ensures)
