use Rattle.std.proofs.Common.{◌∙◌, ap, sym, arith, length}
use Rattle.nc_control_flow.specs.Counted.{plain_from}
use Rattle.nc_control_flow.specs.Parts.{views}
use Rattle.nc_control_flow.proofs.Counting.{plain_past}
use Rattle.nc_control_flow.proofs.flow.Flow.plain.Goals as goal

pub returns-in-None : goal.returns-in-None
returns-in-None c =
    let blocks = views c.self.inside.blocks.items in
    let past = c.in-None.ensures.lookup.3 in
    sym (plain_past blocks c.args.place (omega (arith, past, ap length c.deref.ensures.value, c.self.invariant.plain_places.plain_length)))
    ∙ ap (λ bs. plain_from (views bs) c.args.place) c.self.view_is
