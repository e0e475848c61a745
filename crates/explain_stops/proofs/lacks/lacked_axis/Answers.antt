use Rattle.std.proofs.Common.{◌∙◌, ℕ, Bool, Option, ap₂, sym}
use Rattle.axis_sets.proofs.SetLaws.{list_any-members_of}
use Rattle.explain_stops.specs.Lacks.{axis_where, lacked_axis}
use Rattle.explain_stops.proofs.lacks.lacked_axis.Goals as goal

pub returns : goal.returns
unfolding lacked_axis
returns c b shown =
    c.axis_where.ensures
    ∙ ap₂ (λ (is_asked : Bool) (owner : Option ℕ). axis_where is_asked c.args.asked.now.own c.args.axis owner)
    (c.contains-is_asked.ensures.member ∙ sym (list_any-members_of c.args.asked.now.axes c.args.axis))
    (c.owner_of-owner.ensures b shown)
