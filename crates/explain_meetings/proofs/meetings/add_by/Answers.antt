use Rattle.std.proofs.Common.{◌≡◌, ◌∙◌, ◌++◌, false, List, [], sym, ap}
use Rattle.std.specs.List.{list_any}
use Rattle.std.proofs.lemmas.List.{append-nil}
use Rattle.order_clocks.specs.Tells.{is_before_in}
use Rattle.explain_meetings.proofs.KeptLaws.{none_met}
use Rattle.explain_meetings.specs.MeetingSteps.{may_meet, met_by}
use Rattle.zone_stretches.specs.Cases.{Case, place_of}
use Rattle.zone_stretches.specs.Stretches.{StretchView}
use Rattle.zone_stretches.specs.declared.stretches.ZoneBox.{ZoneBox}
use Rattle.explain_places.specs.declared.place.Meeting.{Meeting}
use Rattle.explain_meetings.proofs.meetings.add_by.Goals as goal

pub returns-then-not-may_meet_any-clause-met : goal.returns-then-not-may_meet_any-clause-met
returns-then-not-may_meet_any-clause-met c =
    let case : Case = record { job = c.args.two.now.scene.now.job.now; run = c.args.two.now.scene.now.run.now; before = is_before_in c.args.two.now.scene.now.clocks.now.rows } in
    let boxes : c.as_slice-laters.result.now ≡ c.args.two.now.right.now.stretch.now.boxes = c.as_slice-laters.ensures.value ∙ ap (λ (s : StretchView). s.boxes) c.other.view_is in
    let off : list_any (may_meet c.args.two.now.left.now.stretch.now c.args.own.now c.args.two.now.right.now.stretch.now) c.args.two.now.right.now.stretch.now.boxes ≡ false =
    ap (λ (laters : List ZoneBox). list_any (may_meet c.args.two.now.left.now.stretch.now c.args.own.now c.args.two.now.right.now.stretch.now) laters) (sym boxes) ∙ sym c.may_meet_any.ensures ∙ c.if-not-may_meet_any.true in
    let none : met_by case c.args.two.now.right.now.zone.now c.args.two.now.right.now.stretch.now (place_of c.args.two.now.left.now.zone.now c.args.two.now.left.now.stretch.now c.args.own.now) ≡ [] =
    none_met case (place_of c.args.two.now.left.now.zone.now c.args.two.now.left.now.stretch.now c.args.own.now) c.args.two.now.right.now.zone.now c.args.two.now.right.now.stretch.now c.args.two.now.right.now.stretch.now.boxes off in
    sym (ap (λ (met : List Meeting). c.args.list.now.items ++ met) none ∙ append-nil c.args.list.now.items)
