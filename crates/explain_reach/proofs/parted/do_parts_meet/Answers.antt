use Rattle.std.proofs.Common.{◌∙◌, sym}
use Rattle.explain_reach.proofs.PartLaws.{none_meet}
use Rattle.explain_reach.specs.Parts.{boxes_in}
use Rattle.explain_reach.proofs.parted.do_parts_meet.Goals as goal

pub returns-else-do_meet : goal.returns-else-do_meet
returns-else-do_meet c =
    c.if-do_meet.false
    ∙ sym (none_meet c.args.own.now.cover c.args.cover.now (boxes_in c.args.own.now) (boxes_in c.args.other.now) c.requires.own c.requires.other (sym c.do_meet.ensures ∙ c.if-do_meet.false))
