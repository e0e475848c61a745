use Rattle.std.proofs.Common.{List, ap, sym, subst, ◌∙◌}
use Rattle.nc_blocks.specs.Statement.{BlockView}
use Rattle.nc_control_flow.specs.Counted.{counts_at, CountRepeats}
use Rattle.nc_control_flow.specs.Moves.{outcome_view}
use Rattle.channel_machine.proofs.Going.{views_are, goes_on, goes_not}
use Rattle.channel_machine.proofs.levels.go_on.Goals as goal

pub next_counted-requires-clause-counts : goal.next_counted-requires-clause-counts
next_counted-requires-clause-counts c =
    let here = c.args.here.now in
    ap (λ (blocks : List BlockView). counts_at c.args.skip blocks here.pc) (sym (views_are c.args.job.now.programs here.program c.in-Some.flow.now c.in-Some.ensures)) ∙ c.requires.counts

pub next_counted-requires-clause-repeat : goal.next_counted-requires-clause-repeat
next_counted-requires-clause-repeat c =
    let here = c.args.here.now in
    subst (λ (blocks : List BlockView). CountRepeats c.args.skip blocks here.repeats) (views_are c.args.job.now.programs here.program c.in-Some.flow.now c.in-Some.ensures) c.requires.repeat

pub returns-in-Ok : goal.returns-in-Ok
returns-in-Ok c =
    goes_on c.args.job.now.programs c.args.here.now c.in-Some.flow.now c.in-Some.ensures c.args.skip (outcome_view c.args.outcome) c.in-Ok.next c.next_counted.new.repeats c.land.result c.land.new.here
    c.in-Ok.ensures.leads c.land.ensures

pub returns-in-Err : goal.returns-in-Err
returns-in-Err c =
    goes_not c.args.job.now.programs c.args.here.now c.in-Some.flow.now c.in-Some.ensures c.args.skip (outcome_view c.args.outcome) c.in-Err.code c.next_counted.new.repeats _ c.in-Err.ensures.leads
