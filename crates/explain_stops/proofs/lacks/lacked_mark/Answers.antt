use Rattle.std.proofs.Common.{◌∙◌, Bool, ap₂, sym}
use Rattle.axis_sets.proofs.SetLaws.{list_any-members_of}
use Rattle.explain_stops.specs.Lacks.{lacked_mark, mark_where}
use Rattle.explain_stops.proofs.lacks.lacked_mark.Goals as goal

pub returns : goal.returns
unfolding lacked_mark
returns c b shown =
    c.mark_where.ensures
    ∙ ap₂ (λ (is_named stands : Bool). mark_where is_named stands c.args.marks.now.number c.args.channel)
    (c.contains-is_named.ensures.member ∙ sym (list_any-members_of c.args.marks.now.named c.args.channel))
    (c.stands-stands.ensures b shown)
