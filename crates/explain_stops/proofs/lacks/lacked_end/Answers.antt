use Rattle.std.proofs.Common.{◌∙◌, Bool, ap, ap₂, sym}
use Rattle.axis_sets.proofs.SetLaws.{list_any-members_of}
use Rattle.explain_stops.specs.Lacks.{end_where, is_ended, lacked_end}
use Rattle.explain_stops.proofs.lacks.lacked_end.Goals as goal

pub returns : goal.returns
unfolding lacked_end
returns c =
    c.end_where.ensures
    ∙ ap₂ (λ (is_named ended : Bool). end_where is_named ended c.args.own c.args.channel)
    (c.contains-is_named.ensures.member ∙ sym (list_any-members_of c.args.named.now c.args.channel))
    (c.is_ended-ended.ensures ∙ ap is_ended c.end_of.ensures)
