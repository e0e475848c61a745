use Rattle.std.proofs.Common.{◌∙◌, sym}
use Rattle.std.specs.List.{flat_map}
use Rattle.explain_reach.proofs.PartLaws.{none_meet}
use Rattle.explain_reach.specs.Parts.{boxes_in}
use Rattle.explain_reach.proofs.parted.meets_within.Goals as goal

pub returns-else-do_meet : goal.returns-else-do_meet
returns-else-do_meet c =
    c.if-do_meet.false
    ∙ sym (none_meet c.args.own.now.cover c.args.cover.now (boxes_in c.args.own.now) (flat_map boxes_in c.args.others.now) c.requires.own c.requires.cover (sym c.do_meet.ensures ∙ c.if-do_meet.false))
