use Rattle.std.proofs.Common.{arith}
use Rattle.std.proofs.lemmas.Grind.{common_steps}
use Rattle.std.proofs.lemmas.Option.{gets}
use Rattle.nc_control_flow.proofs.Finding.{found_after}
use Rattle.nc_control_flow.proofs.places.first_after.Goals as goal

pub returns : goal.returns
returns c =
    let found = found_after c.args.places.now c.args.pc c.count_below.result c.count_below.ensures.within c.count_below.ensures.below c.count_below.ensures.above in
    grind (arith, common_steps, gets)
