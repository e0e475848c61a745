use Rattle.std.proofs.Common.{◌∙◌, List, length, ap, sym, arith}
use Rattle.block_effects.specs.Words.{values_in}
use Rattle.explain_readings.specs.Readings.{readings_of}
use Rattle.channel_machine.proofs.Fitting.{statement_fits}
use Rattle.channel_machine.proofs.Going.{views_are}
use Rattle.channel_machine.proofs.Segments.{if_ok}
use Rattle.channel_machine.specs.Levels.{lines_of}
use Rattle.nc_blocks.specs.Statement.{BlockView}
use Rattle.nc_control_flow.specs.Parts.{statement_at}
use Rattle.nc_control_flow.specs.Structures.{opening}
use Rattle.explain_alarms.proofs.BlockLaws.{here_in}
use Rattle.explain_alarms.proofs.state.readings_at.Goals as goal

pub flow_readings-requires-clause-here : goal.flow_readings-requires-clause-here
flow_readings-requires-clause-here c = here_in (lines_of c.args.job.now.programs c.args.number) c.in-Some.flow.now c.args.pc c.in-Some.ensures c.requires.there

pub flow_readings-requires-clause-fits : goal.flow_readings-requires-clause-fits
flow_readings-requires-clause-fits c = λ k. statement_fits c.args.job.now c.requires.blocks c.args.number c.in-Some.flow.now c.in-Some.ensures k

pub unreachable-requires : goal.unreachable-requires
unreachable-requires c = let few = ap length c.in-None.ensures in omega (arith, few, c.requires.there)

pub returns : goal.returns
returns c =
    if_ok c.flow_readings.result (λ list is.
    is
    ∙ ap (λ (bs : List BlockView). readings_of (values_in c.args.local.now.parameters) (statement_at (opening c.args.pc bs) bs) (statement_at c.args.pc bs))
    (sym (views_are c.args.job.now.programs c.args.number c.in-Some.flow.now c.in-Some.ensures))) c.flow_readings.ensures
