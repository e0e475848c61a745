use Rattle.std.proofs.Common.{map, sym, subst}
use Rattle.channel_machine.proofs.Placed.{statement_found}
use Rattle.nc_blocks.specs.Indices.{StatementFits}
use Rattle.job_types.specs.Job.{block_entry, names_of}
use Rattle.explain_alarms.proofs.blocks.statement_of.Goals as goal

pub unreachable-requires : goal.unreachable-requires
unreachable-requires c = let e = c.in-None.ensures.found.1 c.requires.here in cc

pub returns : goal.returns
returns c =
    let says = statement_found c.args.flow.now c.args.pc c.in-Some.field-0.now (sym c.in-Some.ensures.block) in
    record { says = says; fits = subst (StatementFits (names_of (map block_entry c.args.flow.now))) (sym says) (c.requires.fits c.args.pc) }
