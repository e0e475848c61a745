use Rattle.std.proofs.Common.{◌∙◌, List, map, sym, ap, subst}
use Rattle.explain_meetings.proofs.GroupLaws.{groups_are}
use Rattle.explain_meetings.specs.Groups.{AreGroups}
use Rattle.explain_meetings.specs.declared.groups.Group.{Group}
use Rattle.explain_meetings.specs.declared.groups.Named.{Named}
use Rattle.explain_meetings.proofs.groups.groups_of.Goals as goal

pub returns : goal.returns
returns c =
    subst (λ (groups : List Group). AreGroups c.args.met.now groups)
    (sym (c.in_ok-groups.ensures ∙ ap (λ (rows : List Named). map (λ (row : Named). row.group) rows) c.as_slice-parts.ensures.value)) (groups_are c.args.met.now c.in_ok-rows.rows.items c.in_ok-rows.ensures)
