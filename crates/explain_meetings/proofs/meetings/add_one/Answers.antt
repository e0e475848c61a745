use Rattle.std.proofs.Common.{◌≡◌, ◌∙◌, ◌++◌, [], List, sym, ap, subst}
use Rattle.std.proofs.lemmas.List.{append-nil}
use Rattle.order_clocks.specs.Tells.{is_before_in}
use Rattle.zone_stretches.specs.Overlaps.{BoxPlace}
use Rattle.zone_stretches.specs.Pieces.{piece_boxes}
use Rattle.swept_boxes.specs.declared.Box3.{Box3}
use Rattle.explain_places.specs.declared.place.Meeting.{Meeting}
use Rattle.explain_meetings.specs.KeptBoxes.{IsKeptAt}
use Rattle.explain_meetings.specs.MeetingSteps.{met_one}
use Rattle.zone_stretches.specs.Cases.{Case, place_of}
use Rattle.explain_meetings.proofs.KeptLaws.{met_on, met_off}
use Rattle.explain_meetings.proofs.meetings.add_one.Goals as goal

pub returns-then-not-may_meet-clause-met : goal.returns-then-not-may_meet-clause-met
returns-then-not-may_meet-clause-met c =
    let case : Case = record { job = c.args.two.now.scene.now.job.now; run = c.args.two.now.scene.now.run.now; before = is_before_in c.args.two.now.scene.now.clocks.now.rows } in
    let none : met_one case (place_of c.args.two.now.left.now.zone.now c.args.two.now.left.now.stretch.now c.args.own.now.whole.now) c.args.two.now.right.now.zone.now c.args.two.now.right.now.stretch.now c.args.later.now.whole.now ≡ [] =
    met_off case (place_of c.args.two.now.left.now.zone.now c.args.two.now.left.now.stretch.now c.args.own.now.whole.now) c.args.two.now.right.now.zone.now c.args.two.now.right.now.stretch.now c.args.later.now.whole.now (sym c.may_meet.ensures ∙ c.if-not-may_meet.true) in
    sym (ap (λ (met : List Meeting). c.args.list.now.items ++ met) none ∙ append-nil c.args.list.now.items)

pub returns-then-are_kept-clause-met : goal.returns-then-are_kept-clause-met
returns-then-are_kept-clause-met c =
    let case : Case = record { job = c.args.two.now.scene.now.job.now; run = c.args.two.now.scene.now.run.now; before = is_before_in c.args.two.now.scene.now.clocks.now.rows } in
    let right : BoxPlace = place_of c.args.two.now.right.now.zone.now c.args.two.now.right.now.stretch.now c.args.later.now.whole.now in
    let others : c.kept_at-others.result.now ≡ piece_boxes case.job case.run right =
    c.kept_at-others.ensures (piece_boxes case.job case.run right)
    (λ made at. c.in_ok-keep_at.ensures.made made (subst (λ (kept : List (List Box3)). IsKeptAt kept c.args.later.now.place made) c.as_slice.ensures.value at)) in
    c.in_ok-add_by_pieces.ensures ∙ ap (λ (met : List Meeting). c.args.list.now.items ++ met)
    (met_on case (place_of c.args.two.now.left.now.zone.now c.args.two.now.left.now.stretch.now c.args.own.now.whole.now) c.args.two.now.right.now.zone.now c.args.two.now.right.now.stretch.now c.args.later.now.whole.now c.args.own.now.pieces.now c.kept_at-others.result.now
    (sym c.may_meet.ensures ∙ c.if-not-may_meet.false) c.requires.pieces others)

pub returns-clause-met : goal.returns-clause-met
returns-clause-met c =
    let case : Case = record { job = c.args.two.now.scene.now.job.now; run = c.args.two.now.scene.now.run.now; before = is_before_in c.args.two.now.scene.now.clocks.now.rows } in
    c.in_ok-add_by_pieces-2.ensures ∙ ap (λ (met : List Meeting). c.args.list.now.items ++ met)
    (met_on case (place_of c.args.two.now.left.now.zone.now c.args.two.now.left.now.stretch.now c.args.own.now.whole.now) c.args.two.now.right.now.zone.now c.args.two.now.right.now.stretch.now c.args.later.now.whole.now c.args.own.now.pieces.now c.in_ok-made.made
    (sym c.may_meet.ensures ∙ c.if-not-may_meet.false) c.requires.pieces c.in_ok-made.ensures)
