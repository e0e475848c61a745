use Rattle.std.proofs.Common.{◌∙◌, sym}
use Rattle.std.specs.List.{flat_map}
use Rattle.explain_reach.proofs.PartLaws.{passed_over}
use Rattle.explain_reach.specs.Parts.{boxes_in}
use Rattle.explain_reach.proofs.parted.most_within.Goals as goal

pub returns-else-is_over : goal.returns-else-is_over
returns-else-is_over c numbers h =
    passed_over c.args.before numbers c.args.own.now.cover c.args.cover.now (boxes_in c.args.own.now) (flat_map boxes_in c.args.others.now) c.requires.own c.requires.cover
    (sym c.is_over.ensures ∙ c.if-is_over.false) h
