use Rattle.std.proofs.Common.{◌∙◌, ℕ, ap, sym}
use Rattle.nc_control_flow.specs.Parts.{statement_at, views}
use Rattle.channel_machine.proofs.Placed.{statement_found, opening_there}
use Rattle.channel_machine.proofs.run.opener_of.Goals as goal

pub unreachable-requires : goal.unreachable-requires
unreachable-requires c = let e = c.in-None.ensures.found.1 (opening_there c.args.flow.now c.args.pc c.opening.result c.requires c.opening.ensures.place) in cc

pub returns : goal.returns
returns c =
    statement_found c.args.flow.now c.opening.result c.in-Some.field-0.now (sym c.in-Some.ensures.block) ∙ ap (λ (k : ℕ). statement_at k (views c.args.flow.now)) c.opening.ensures.place
