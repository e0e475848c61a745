use Rattle.std.proofs.Common.{◌∙◌, sym}
use Rattle.explain_reach.proofs.PartLaws.{passed_over}
use Rattle.explain_reach.specs.Parts.{boxes_in}
use Rattle.explain_reach.proofs.parted.most_between.Goals as goal

pub returns-else-is_over : goal.returns-else-is_over
returns-else-is_over c numbers h =
    passed_over c.args.before numbers c.args.own.now.cover c.args.cover.now (boxes_in c.args.own.now) (boxes_in c.args.other.now) c.requires.own c.requires.other
    (sym c.is_over.ensures ∙ c.if-is_over.false) h
