use Rattle.std.proofs.Common.{◌≡◌, ℕ, ◌+◌, List, ◌++◌, drop, get_or, map, ap, ◌∙◌}
use Rattle.channel_machine.proofs.Pasts.{map-push}
use Rattle.parallel_run.proofs.Walks.{dealt_on}
use Rattle.parallel_run.specs.Joining.{Rows, dealt, first_row, rows_at, without_first}
use Rattle.parallel_run.proofs.joining.deal.Goals as goal
use Rattle.sync_types.specs.Views.{EntryView}
use Rattle.sync_types.specs.declared.Item.{Item}

pub loop-entry-preserved : goal.loop-entry-preserved
loop-entry-preserved c =
    let es : List EntryView = c.args.entries.now in
    let i : ℕ = c.loop-entry.entry-index in
    let d : EntryView = c.entry-item.result in
    let rows : Rows = rows_at (map (λ rows. map (λ items. items.items) rows.items) c.loop-entry.rows.items) in
    let later : Rows = rows_at (map (λ rows. map (λ items. items.items) rows.items) c.take_row.new.rows.items) in
    let done : List (List Item) = map (λ items. items.items) c.loop-entry.items.items in
    let same : c.entry.inside.channel ≡ (get_or es i d).channel = ap (λ (e : EntryView). e.channel) (c.entry.view_is ∙ c.entry-item.is) in
    ap (λ (xs : List (List Item)). xs ++ dealt later (drop (i + 1) es)) (ap (map (λ items. items.items)) c.in_ok-push.ensures.items ∙ map-push (λ items. items.items) c.loop-entry.items.items c.take_row.result)
    ∙ dealt_on rows later es i d done c.take_row.result.items _ c.loop-entry-test.true (c.take_row.ensures.row ∙ ap (λ (k : ℕ). first_row (rows k)) same)
    (λ k. c.take_row.ensures.rest k ∙ ap (λ (h : ℕ). without_first rows h k) same) c.loop-entry.invariant
