use Rattle.std.proofs.Common.{ap, sym, ◌∙◌, List}
use Rattle.nc_control_flow.specs.declared.repeats.Running.{Running}
use Rattle.channel_machine.proofs.Going.{first_by, none_by}
use Rattle.channel_machine.proofs.levels.start_at.Goals as goal

pub returns-in-At : goal.returns-in-At
returns-in-At c =
    let programs = c.args.job.now.programs in
    let first = first_by c.args.skip programs c.args.number c.args.passes c.in-Some.flow.now c.in-At.pc c.in-Some.ensures (sym c.in-At.is ∙ c.first_counted.ensures) in
    (first.0, ap (λ (rs : List Running). record { program = c.args.number; pc = c.in-At.pc; passes = c.args.passes; repeats = rs }) c.clear.ensures ∙ first.1)

pub returns-in-Past : goal.returns-in-Past
returns-in-Past c =
    none_by c.args.skip c.args.job.now.programs c.args.number c.args.passes c.in-Some.flow.now c.in-Some.ensures (sym c.in-Past.is ∙ c.first_counted.ensures)
