use Rattle.nc_control_flow.specs.Parts.{views}
use Rattle.nc_control_flow.proofs.Leading.{counts_first, counts_none}
use Rattle.nc_control_flow.proofs.flow.Flow.has_counting.Goals as goal

pub returns-in-At : goal.returns-in-At
returns-in-At c = counts_first c.args.skip (views c.args.self.now) c.first_counted.result c.in-At.field-0 c.first_counted.ensures c.in-At.is

pub returns-in-Past : goal.returns-in-Past
returns-in-Past c = counts_none c.args.skip (views c.args.self.now) c.first_counted.result c.first_counted.ensures c.in-Past.is
