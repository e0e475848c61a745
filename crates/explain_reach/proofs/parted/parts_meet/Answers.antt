use Rattle.std.proofs.Common.{◌∙◌, List, ap, sym, arith}
use Rattle.std.proofs.lemmas.List.{take_all}
use Rattle.std.proofs.lemmas.List.Folds.{list_any_at}
use Rattle.std.specs.List.{flat_map, list_any}
use Rattle.explain_reach.proofs.PartLaws.{any_part}
use Rattle.explain_reach.specs.Lots.{lots_meet}
use Rattle.explain_reach.specs.Parts.{boxes_in}
use Rattle.explain_reach.specs.declared.parts.Part.{Part}
use Rattle.swept_boxes.specs.Boxes.{boxes_meet}
use Rattle.explain_reach.proofs.parted.parts_meet.Goals as goal

pub returns-then-meets_within : goal.returns-then-meets_within
returns-then-meets_within c =
    sym (list_any_at (λ own. lots_meet (boxes_in own) (flat_map boxes_in c.args.others.now)) c.args.owns.now c.loop-own.own-index c.own-item.result (omega arith)
    (ap (λ (o : Part). lots_meet (boxes_in o) (flat_map boxes_in c.args.others.now)) (sym c.own-item.is) ∙ sym c.meets_within.ensures ∙ c.if-meets_within.true))
    ∙ any_part (λ left. list_any (boxes_meet left) (flat_map boxes_in c.args.others.now)) c.args.owns.now

pub returns : goal.returns
returns c =
    sym c.loop-own.invariant
    ∙ ap (λ (ps : List Part). list_any (λ own. lots_meet (boxes_in own) (flat_map boxes_in c.args.others.now)) ps) (take_all c.loop-own.own-index c.args.owns.now (omega arith))
    ∙ any_part (λ left. list_any (boxes_meet left) (flat_map boxes_in c.args.others.now)) c.args.owns.now
