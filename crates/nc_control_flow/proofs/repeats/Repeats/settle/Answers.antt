use Rattle.std.proofs.Common.{◌∙◌, arith}
use Rattle.nc_control_flow.proofs.Repeating.{settled_hop}
use Rattle.nc_control_flow.proofs.repeats.Repeats.settle.Goals as goal

pub loop-next-preserved : goal.loop-next-preserved
loop-next-preserved c = record {
  fits = c.in-Some.ensures.fits;
  goes_on = (settled_hop c.loop-next.control c.in-Some.next c.loop-next.self c.hop.new.self c.in-Some.ensures.step).0 ∙ c.loop-next.invariant.goes_on;
}

pub loop-next-smaller : goal.loop-next-smaller
loop-next-smaller c = omega (arith, (settled_hop c.loop-next.control c.in-Some.next c.loop-next.self c.hop.new.self c.in-Some.ensures.step).1)
