use Rattle.std.proofs.Common.{◌∙◌, ◌+◌, drop, get_or, Option, None, ap, sym}
use Rattle.std.proofs.lemmas.List.{get_or_default}
use Rattle.std.specs.Option.{option_or}
use Rattle.order_clocks.specs.Tells.{is_before_in}
use Rattle.clash_check.proofs.FirstLaws.{first_some-drop_more}
use Rattle.clash_check.proofs.KeptLaws.{named_met, not_named, one_and_near}
use Rattle.clash_check.proofs.PlaceLaws.{no_box}
use Rattle.clash_check.specs.FirstAnswer.{first_some}
use Rattle.clash_check.specs.Meetings.{Names, names_where_met}
use Rattle.zone_stretches.specs.Cases.{Case, place_of}
use Rattle.zone_stretches.specs.declared.stretches.ZoneBox.{ZoneBox}
use Rattle.clash_check.proofs.meetings.first_by_pieces.Goals as goal

pub returns-then-pieces_touch-clause-names : goal.returns-then-pieces_touch-clause-names
returns-then-pieces_touch-clause-names c =
    let case : Case = record { job = c.args.two.now.scene.now.job.now; run = c.args.two.now.scene.now.run.now; before = is_before_in c.args.two.now.scene.now.clocks.now.rows } in
    let met : ZoneBox → Option Names =
    λ later. names_where_met case c.args.two.now.shared (place_of c.args.two.now.left.now.zone.now c.args.two.now.left.now.stretch.now c.args.own.now.whole.now) (place_of c.args.two.now.right.now.zone.now c.args.two.now.right.now.stretch.now later) in
    let here =
    named_met case c.args.two.now.shared (place_of c.args.two.now.left.now.zone.now c.args.two.now.left.now.stretch.now c.args.own.now.whole.now) c.args.two.now.right.now.zone.now c.args.two.now.right.now.stretch.now c.args.boxes.now c.loop-place.place no_box _
    c.args.own.now.pieces.now c.pieces_touch.result c.named.result c.named-then-pieces_touch.result c.loop-place-test.true c.requires.pieces (c.loop-place.invariant.near no_box c.loop-place-test.true)
    (c.pieces_touch.ensures.met no_box) c.if-pieces_touch.true c.named.ensures c.named-then-pieces_touch.ensures in
    sym (first_some-drop_more met c.args.boxes.now c.loop-place.place (get_or c.args.boxes.now c.loop-place.place no_box) c.loop-place-test.true
    (get_or_default c.args.boxes.now c.loop-place.place no_box (get_or c.args.boxes.now c.loop-place.place no_box) c.loop-place-test.true)
    ∙ ap (λ (r : Option Names). option_or r (first_some met (drop (c.loop-place.place + 1) c.args.boxes.now))) (sym here))
    ∙ c.loop-place.invariant.names

pub loop-place-preserved : goal.loop-place-preserved
loop-place-preserved c =
    let case : Case = record { job = c.args.two.now.scene.now.job.now; run = c.args.two.now.scene.now.run.now; before = is_before_in c.args.two.now.scene.now.clocks.now.rows } in
    record {
      within = c.next_near-place.ensures.within;
      near = c.next_near-place.ensures.near;
      kept = c.pieces_touch.ensures.kept;
      names =
          sym (one_and_near case c.args.two.now.shared (place_of c.args.two.now.left.now.zone.now c.args.two.now.left.now.stretch.now c.args.own.now.whole.now) c.args.two.now.right.now.zone.now c.args.two.now.right.now.stretch.now c.args.boxes.now
          c.loop-place.place c.next_near-place.result no_box None c.loop-place-test.true c.next_near-place.ensures.on c.next_near-place.ensures.far
          (not_named case c.args.two.now.shared (place_of c.args.two.now.left.now.zone.now c.args.two.now.left.now.stretch.now c.args.own.now.whole.now) c.args.two.now.right.now.zone.now c.args.two.now.right.now.stretch.now c.args.boxes.now c.loop-place.place no_box
          c.args.own.now.pieces.now c.pieces_touch.result c.requires.pieces (c.loop-place.invariant.near no_box c.loop-place-test.true) (c.pieces_touch.ensures.met no_box) c.if-pieces_touch.false))
          ∙ c.loop-place.invariant.names;
    }
