use Rattle.std.proofs.Common.{◌<◌, length, ap, arith}
use Rattle.nc_control_flow.specs.Parts.{views}
use Rattle.nc_control_flow.specs.Structures.{closing}
use Rattle.nc_control_flow.proofs.Resolving.{length-views, closing_below, found_fits}
use Rattle.nc_control_flow.proofs.flow.Flow.closing.Goals as goal

pub returns-clause-fits : goal.returns-clause-fits
returns-clause-fits c =
    let blocks = views c.self.inside.blocks.items in
    let long = length-views c.self.inside.blocks.items in
    let seen = ap length c.self.view_is in
    let within : c.args.pc < length blocks = omega arith in
    let structures = c.self.invariant.structures in
    found_fits c.self.inside.ends.items c.args.pc (length blocks) c.index.result.now (closing c.args.pc blocks) c.index.ensures (omega (arith, structures.ends_length))
    (structures.end_at c.args.pc within) (closing_below c.args.pc blocks within) c.self.invariant.few
