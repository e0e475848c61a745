use Rattle.std.proofs.Common.{◌≡◌, ◌∙◌, ◌++◌, List, append_assoc, ap, sym, arith, length}
use Rattle.std.proofs.lemmas.Result.{on_ok_weaker}
use Rattle.axis_sets.specs.Sets.{has}
use Rattle.zone_stretches.specs.Rows.{positions_in}
use Rattle.zone_stretches.specs.declared.stretches.ZoneBox.{ZoneBox}
use Rattle.protection_zones.proofs.BoxLaws.{shown_boxes, sweep_step, sweep_end}
use Rattle.protection_zones.proofs.sweeps.ZoneShape.write_boxes.Goals as goal

pub loop-place-preserved : goal.loop-place-preserved
loop-place-preserved c =
    rw (c.in_ok-push_some.ensures, c.opened_after-opened.ensures, c.seen-sight.ensures) (append_assoc c.loop-place.boxes.items _ _
    ∙ (ap (λ (rest : List ZoneBox). c.loop-place.boxes.items ++ rest) (rw (c.ended_before.ensures, c.seen-sight.ensures) (sym (sweep_step c.args.self.now.margin c.args.self.now.zone.now c.loop-place.place c.loop-place.opened (positions_in c.loop-place.at) (positions_in c.settle.new.row) c.args.items.now c.index-items-place.result
    c.loop-place-test.true c.index-items-place.is c.settle.ensures)))
    ∙ c.loop-place.invariant))

pub returns : goal.returns
returns c =
    let all : length c.args.items.now ≡ c.loop-place.place = omega arith in
    on_ok_weaker c.push_some-2.result (λ items. items
    ∙ (ap (λ (rest : List ZoneBox). c.loop-place.boxes.items ++ rest) (rw c.box_until.ensures (sym (sweep_end c.args.self.now.margin c.args.self.now.zone.now c.loop-place.place c.loop-place.opened (positions_in c.loop-place.at) c.args.items.now all)))
    ∙ (c.loop-place.invariant ∙ sym (shown_boxes c.args.self.now.margin c.args.self.now.zone.now (has c.args.begins.now.on c.args.self.now.zone.now.zone) c.args.begins.now.line (positions_in c.args.begins.now.at) c.args.items.now)))) c.push_some-2.ensures
