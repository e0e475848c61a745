use Rattle.std.proofs.Common.{◌≡◌, ◌∙◌, ◌==◌, ◌<◌, ℕ, List, arith, ap, filter, length, map, suc}
use Rattle.std.specs.Prelude.{Vec}
use Rattle.std.specs.Global.{Global}
use Rattle.protection_zones.specs.Beginnings.{shown_outset}
use Rattle.protection_zones.specs.Exchanges.{count_in}
use Rattle.protection_zones.specs.Notes.{shown_note}
use Rattle.zone_stretches.specs.Occurrences.{OccurrenceView}
use Rattle.zone_stretches.specs.Spans.{first_beginning}
use Rattle.protection_zones.specs.declared.spans.SpanStart.{SpanStart}
use Rattle.protection_zones.proofs.LogLaws.{outset_added, own_begun, own_count}
use Rattle.protection_zones.proofs.spans.add_outset.Goals as goal

pub push_outset-requires : goal.push_outset-requires
push_outset-requires c =
    let within : c.place_of-place.result < length c.args.outsets.now.items = rw c.requires.size c.place_of-place.ensures.below in
    let own : length c.index_mut.result.now.items ≡ suc (count_in c.requires.begun.1 c.place_of-place.result) =
    ap (λ (v : Vec SpanStart Global). length v.items) c.index_mut.ensures.value
    ∙ own_count c.requires.begun.0 c.requires.begun.1 c.args.outsets.now.items c.place_of-place.result c.index_mut.result.now c.requires.begun.2 c.place_of-place.ensures.from c.place_of-place.ensures.below within in
    omega (arith, own)

pub returns-clause-number : goal.returns-clause-number
returns-clause-number c = λ job os are.
    let within : c.place_of-place.result < length c.args.outsets.now.items = rw c.requires.size c.place_of-place.ensures.below in
    c.in_ok-number.ensures.count
    ∙ (ap (λ (v : Vec SpanStart Global). length v.items) c.index_mut.ensures.value
    ∙ (own_count job os c.args.outsets.now.items c.place_of-place.result c.index_mut.result.now are c.place_of-place.ensures.from c.place_of-place.ensures.below within
    ∙ ap (λ (k : ℕ). suc (count_in os k)) c.place_of-place.ensures.place))

pub returns-clause-outsets : goal.returns-clause-outsets
unfolding shown_note
returns-clause-outsets c = λ job os are.
    let within : c.place_of-place.result < length c.args.outsets.now.items = rw c.requires.size c.place_of-place.ensures.below in
    let begun = ap (λ (v : Vec SpanStart Global). map shown_outset v.items) c.index_mut.ensures.value
    ∙ own_begun job os c.args.outsets.now.items c.place_of-place.result c.index_mut.result.now are c.place_of-place.ensures.from c.place_of-place.ensures.below within in
    let own : List OccurrenceView = filter (λ o. o.channel == c.place_of-place.result) os in
    outset_added job os (shown_note c.args.note.now c.args.at.now) c.args.outsets.now.items c.place_of-place.result c.push_outset.new.own are c.requires.size c.place_of-place.ensures.below c.place_of-place.ensures.place
    (c.in_ok-number.ensures.outsets (first_beginning job c.place_of-place.result) own begun)
