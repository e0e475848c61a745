use Rattle.std.proofs.Common.{rules, ◌≡◌, ◌∙◌, ◌-◌, ℕ, ap, get_or, length, refl}
use Rattle.protection_zones.specs.Notes.{shown_note}
use Rattle.protection_zones.proofs.SpanLaws.{outset_pushed, outset_told}
use Rattle.protection_zones.proofs.spans.push_outset.Goals as goal

pub returns-clause-outsets : goal.returns-clause-outsets
unfolding shown_note
returns-clause-outsets c = λ b os are.
    let count : c.len-count.result ≡ length c.args.own.now.items = search rules in
    let last : c.index-last.result.now ≡ get_or c.args.own.now.items (length c.args.own.now.items - 1) c.index-last.result.now =
    c.index-last.ensures ∙ ap (λ (n : ℕ). get_or c.args.own.now.items (n - 1) c.index-last.result.now) count in
    rw c.in_ok-push.ensures.items
    (outset_pushed b os (shown_note c.args.note.now c.args.at.now) c.args.own.now.items c.index-last.result.now _ are last
    (outset_told c.index-last.result.now (shown_note c.args.note.now c.args.at.now) c.args.note.now.kind c.unwrap_or.result c.put.new.row c.args.note.now.on c.args.note.now.name
    refl refl refl c.unwrap_or.ensures c.put.ensures))
