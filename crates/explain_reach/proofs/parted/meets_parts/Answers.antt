use Rattle.std.proofs.Common.{◌∙◌, List, ap, sym, arith}
use Rattle.std.proofs.lemmas.List.{take_all}
use Rattle.std.proofs.lemmas.List.Folds.{list_any_at}
use Rattle.std.specs.List.{list_any}
use Rattle.explain_reach.proofs.PartLaws.{any_by}
use Rattle.explain_reach.specs.Lots.{lots_meet}
use Rattle.explain_reach.specs.Parts.{boxes_in}
use Rattle.explain_reach.specs.declared.parts.Part.{Part}
use Rattle.explain_reach.proofs.parted.meets_parts.Goals as goal

pub returns-then-do_parts_meet : goal.returns-then-do_parts_meet
returns-then-do_parts_meet c =
    sym (list_any_at (λ other. lots_meet (boxes_in c.args.own.now) (boxes_in other)) c.args.others.now c.loop-place.place c.index-others-place.result (omega arith)
    (ap (λ (o : Part). lots_meet (boxes_in c.args.own.now) (boxes_in o)) (sym c.index-others-place.is) ∙ sym c.do_parts_meet.ensures ∙ c.if-do_parts_meet.true))
    ∙ any_by (boxes_in c.args.own.now) c.args.others.now

pub returns : goal.returns
returns c =
    sym c.loop-place.invariant
    ∙ ap (λ (ps : List Part). list_any (λ other. lots_meet (boxes_in c.args.own.now) (boxes_in other)) ps) (take_all c.loop-place.place c.args.others.now (omega arith))
    ∙ any_by (boxes_in c.args.own.now) c.args.others.now
