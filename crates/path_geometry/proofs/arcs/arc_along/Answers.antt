use Rattle.std.proofs.Common.{◌∙◌, sym, ap}
use Rattle.path_geometry.specs.Arcs.{arc_placed}
use Rattle.path_geometry.proofs.ArcSoundness.{placed_in_range, placed_out_of_range}
use Rattle.path_geometry.proofs.arcs.arc_along.Goals as goal

pub returns-in-Some : goal.returns-in-Some
returns-in-Some c =
    c.arc_at.ensures
    ∙ placed_in_range c.args.ends.now c.args.first c.args.second c.centre_of.result c.in-Some.centre (sym c.placed.ensures ∙ c.in-Some.is)
    ∙ ap (arc_placed c.args.ends.now c.args.first c.args.second) c.centre_of.ensures

pub returns-in-None : goal.returns-in-None
returns-in-None c =
    placed_out_of_range c.args.ends.now c.args.first c.args.second c.centre_of.result (sym c.placed.ensures ∙ c.in-None.is)
    ∙ ap (arc_placed c.args.ends.now c.args.first c.args.second) c.centre_of.ensures
