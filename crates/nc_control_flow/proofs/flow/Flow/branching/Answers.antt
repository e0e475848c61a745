use Rattle.std.proofs.Common.{◌<◌, length, ap, arith}
use Rattle.nc_control_flow.specs.Parts.{views}
use Rattle.nc_control_flow.specs.Structures.{branching}
use Rattle.nc_control_flow.proofs.Resolving.{length-views, branching_below, found_fits}
use Rattle.nc_control_flow.proofs.flow.Flow.branching.Goals as goal

pub returns-clause-fits : goal.returns-clause-fits
returns-clause-fits c =
    let blocks = views c.self.inside.blocks.items in
    let long = length-views c.self.inside.blocks.items in
    let seen = ap length c.self.view_is in
    let within : c.args.pc < length blocks = omega arith in
    let structures = c.self.invariant.structures in
    found_fits c.self.inside.branches.items c.args.pc (length blocks) c.index.result.now (branching c.args.pc blocks) c.index.ensures (omega (arith, structures.branches_length))
    (structures.branch_at c.args.pc within) (branching_below c.args.pc blocks within) c.self.invariant.few
