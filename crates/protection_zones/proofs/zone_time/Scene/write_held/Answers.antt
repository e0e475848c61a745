use Rattle.std.proofs.Common.{◌≡◌, ◌∙◌, ◌++◌, ℕ, List, append_assoc, ap, sym, length, map}
use Rattle.std.proofs.lemmas.List.{append-nil, length-map}
use Rattle.protection_zones.specs.Beginnings.{all_items, shown_outset, spans_along}
use Rattle.zone_stretches.specs.Spans.{Span}
use Rattle.zone_stretches.specs.Stretches.{StretchView, spans_until, stretch_of_span}
use Rattle.protection_zones.proofs.SpanLaws.{no_span, one_stretch, spans_in_tenure, spans_left, spans_size}
use Rattle.protection_zones.proofs.zone_time.Scene.write_held.Goals as goal

pub loop-place-preserved : goal.loop-place-preserved
loop-place-preserved c =
    rw (c.in_ok-push.ensures.items, c.stretch_in.ensures, c.in_ok-stretch.ensures)
    (append_assoc c.loop-place.stretches.items _ _
    ∙ (ap (λ (stretches : List StretchView). c.loop-place.stretches.items ++ stretches)
    (sym (one_stretch c.args.self.now.job.now c.args.self.now.zone.now c.args.holder.now.channel (all_items c.args.self.now.items.now) c.args.holder.now.outsets.now c.loop-place.place c.end_of-end.result c.args.term.now.last c.loop-place-test.true c.end_of-end.ensures.within))
    ∙ c.loop-place.invariant))

pub returns : goal.returns
returns c =
    let f : List Span → List StretchView = λ spans. map (stretch_of_span c.args.self.now.job.now c.args.self.now.zone.now c.args.holder.now.channel) (spans_until c.args.term.now.last spans) in
    let spans : List Span = spans_along (all_items c.args.self.now.items.now) (map shown_outset c.args.holder.now.outsets.now) in
    let size : length spans ≡ length c.args.holder.now.outsets.now = spans_size (all_items c.args.self.now.items.now) (map shown_outset c.args.holder.now.outsets.now) ∙ length-map c.args.holder.now.outsets.now shown_outset in
    let none : c.loop-place.stretches.items ≡ c.loop-place.stretches.items ++ f (spans_left spans c.loop-place.place c.end_of-end.result) =
    rw (no_span spans c.loop-place.place c.end_of-end.result c.loop-place-test.false) (sym (append-nil c.loop-place.stretches.items)) in
    none ∙ (c.loop-place.invariant
    ∙ ap (λ (some : List Span). c.args.stretches.now.items ++ f some)
    (ap (λ (upto : ℕ). spans_left spans c.args.term.now.from upto) c.end_of-end.ensures.end ∙ spans_in_tenure spans c.args.term.now.from (length c.args.holder.now.outsets.now) c.args.term.now.upto size))
