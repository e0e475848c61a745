use Rattle.std.proofs.Common.{◌-◌, sym, arith}
use Rattle.nc_control_flow.proofs.Finding.{found_none, found_before}
use Rattle.nc_control_flow.proofs.places.last_before.Goals as goal

pub returns-in-0 : goal.returns-in-0
returns-in-0 c = sym (found_none c.args.places.now c.args.pc (λ k z h. c.count_below.ensures.above k (omega arith) h))

pub returns-in_default : goal.returns-in_default
returns-in_default c =
    let count = c.count_below.result in
    sym (found_before c.args.places.now c.args.pc (count - 1) (omega arith) (c.count_below.ensures.below (count - 1) (omega arith))
    (λ k above h. c.count_below.ensures.above k (omega arith) h))
