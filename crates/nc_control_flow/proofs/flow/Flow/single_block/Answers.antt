use Rattle.std.proofs.Common.{sym, ap, ◌∙◌}
use Rattle.std.specs.Option.{option_or}
use Rattle.nc_control_flow.specs.Parts.{views}
use Rattle.nc_control_flow.specs.Targets.{has_label, nearest_ahead, single_block}
use Rattle.nc_control_flow.proofs.Resolving.{nearest_in_ahead, nearest_in_before}
use Rattle.nc_control_flow.proofs.flow.Flow.single_block.Goals as goal

pub returns-in-Some : goal.returns-in-Some
unfolding single_block
returns-in-Some c =
    let test = has_label c.args.name.now in
    let blocks = views c.args.self.now in
    ap (λ o. option_or o (nearest_ahead test c.args.pc blocks))
    (sym c.in-Some.is ∙ nearest_in_before test c.args.pc blocks _ _ c.labelled.ensures.places c.last_before.ensures)

pub returns-in-None : goal.returns-in-None
unfolding single_block
returns-in-None c =
    let test = has_label c.args.name.now in
    let blocks = views c.args.self.now in
    nearest_in_ahead test c.args.pc blocks _ _ c.labelled-in-None.ensures.places c.first_after.ensures
    ∙ ap (λ o. option_or o (nearest_ahead test c.args.pc blocks))
    (sym c.in-None.is ∙ nearest_in_before test c.args.pc blocks _ _ c.labelled.ensures.places c.last_before.ensures)
