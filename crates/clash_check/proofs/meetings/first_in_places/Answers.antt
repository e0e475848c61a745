use Rattle.std.proofs.Common.{◌≡◌, ◌∙◌, ◌+◌, drop, get_or, Bool, true, false, sym, ap, Option}
use Rattle.std.specs.Option.{option_or}
use Rattle.std.proofs.lemmas.List.{get_or_default}
use Rattle.order_clocks.specs.Tells.{is_before_in}
use Rattle.clash_check.proofs.KeptLaws.{no_rows}
use Rattle.clash_check.proofs.FirstLaws.{first_some-drop_more}
use Rattle.clash_check.proofs.PassedLaws.{none_passed}
use Rattle.clash_check.proofs.PlaceLaws.{no_box, passing_places, first_between}
use Rattle.clash_check.specs.FirstAnswer.{first_some}
use Rattle.clash_check.specs.Meetings.{Names, first_touched_among}
use Rattle.zone_stretches.specs.Cases.{Case, place_of}
use Rattle.zone_stretches.specs.declared.stretches.ZoneBox.{ZoneBox}
use Rattle.clash_check.proofs.meetings.first_in_places.Goals as goal

pub place_range-range-requires : goal.place_range-range-requires
place_range-range-requires c = passing_places (get_or c.args.boxes.now c.loop-own.own-index no_box) c.args.others.now c.requires.ascend

pub returns-in-Some : goal.returns-in-Some
returns-in-Some c =
    let case : Case = record { job = c.args.two.now.scene.now.job.now; run = c.args.two.now.scene.now.run.now; before = is_before_in c.args.two.now.scene.now.clocks.now.rows } in
    let own : ZoneBox = get_or c.args.boxes.now c.loop-own.own-index no_box in
    let found : ZoneBox → Option Names = λ own. first_touched_among case true (place_of c.args.two.now.left.now.zone.now c.args.two.now.left.now.stretch.now own) c.args.two.now.right.now.zone.now c.args.two.now.right.now.stretch.now c.args.others.now in
    let here : c.first_touched.result ≡ found own =
    c.first_touched.ensures.names
    ∙ ap (λ (b : Bool). first_touched_among case b (place_of c.args.two.now.left.now.zone.now c.args.two.now.left.now.stretch.now own) c.args.two.now.right.now.zone.now c.args.two.now.right.now.stretch.now c.part-near.result.now) c.requires.shared
    ∙ first_between case (place_of c.args.two.now.left.now.zone.now c.args.two.now.left.now.stretch.now own) c.args.two.now.right.now.zone.now c.args.two.now.right.now.stretch.now c.args.others.now
    c.part-near.result.now c.place_range-range.result.from c.place_range-range.result.upto (passing_places own c.args.others.now c.requires.ascend false)
    c.place_range-range.ensures.from c.place_range-range.ensures.upto c.part-near.ensures in
    ap (λ (r : Option Names). option_or r (first_some found (drop (c.loop-own.own-index + 1) c.args.boxes.now))) (sym c.in-Some.is ∙ here)
    ∙ sym (first_some-drop_more found c.args.boxes.now c.loop-own.own-index own c.loop-own-test.true (get_or_default c.args.boxes.now c.loop-own.own-index no_box own c.loop-own-test.true)) ∙ c.loop-own.invariant

pub loop-own-preserved : goal.loop-own-preserved
loop-own-preserved c =
    let case : Case = record { job = c.args.two.now.scene.now.job.now; run = c.args.two.now.scene.now.run.now; before = is_before_in c.args.two.now.scene.now.clocks.now.rows } in
    let own : ZoneBox = get_or c.args.boxes.now c.loop-own.own-index no_box in
    let found : ZoneBox → Option Names = λ own. first_touched_among case true (place_of c.args.two.now.left.now.zone.now c.args.two.now.left.now.stretch.now own) c.args.two.now.right.now.zone.now c.args.two.now.right.now.stretch.now c.args.others.now in
    let here : c.first_touched.result ≡ found own =
    c.first_touched.ensures.names
    ∙ ap (λ (b : Bool). first_touched_among case b (place_of c.args.two.now.left.now.zone.now c.args.two.now.left.now.stretch.now own) c.args.two.now.right.now.zone.now c.args.two.now.right.now.stretch.now c.part-near.result.now) c.requires.shared
    ∙ first_between case (place_of c.args.two.now.left.now.zone.now c.args.two.now.left.now.stretch.now own) c.args.two.now.right.now.zone.now c.args.two.now.right.now.stretch.now c.args.others.now
    c.part-near.result.now c.place_range-range.result.from c.place_range-range.result.upto (passing_places own c.args.others.now c.requires.ascend false)
    c.place_range-range.ensures.from c.place_range-range.ensures.upto c.part-near.ensures in
    ap (λ (r : Option Names). option_or r (first_some found (drop (c.loop-own.own-index + 1) c.args.boxes.now))) (sym c.in_default.is ∙ here)
    ∙ sym (first_some-drop_more found c.args.boxes.now c.loop-own.own-index own c.loop-own-test.true (get_or_default c.args.boxes.now c.loop-own.own-index no_box own c.loop-own-test.true)) ∙ c.loop-own.invariant

pub first_touched-requires-clause-kept : goal.first_touched-requires-clause-kept
first_touched-requires-clause-kept c = record {
  covers = c.kept_for-kept.ensures.covers;
  pieces =
      no_rows c.args.two.now.scene.now.job.now c.args.two.now.scene.now.run.now c.args.two.now.right.now.zone.now c.args.two.now.right.now.stretch.now c.part-near.result.now c.kept_for-kept.result.pieces.rows
      c.kept_for-kept.ensures.pieces;
}

pub first_touched-requires-clause-passed : goal.first_touched-requires-clause-passed
first_touched-requires-clause-passed c =
    none_passed c.args.two.now.scene.now.job.now c.args.two.now.scene.now.run.now c.args.two.now.left.now.zone.now c.args.two.now.right.now.zone.now c.args.two.now.right.now.stretch.now c.part-near.result.now c.new-passed.result c.new-passed.ensures
