use Rattle.std.proofs.Common.{◌≡◌, ◌∙◌, ◌+◌, ◌^◌, ◌-◌, List, ◌∷◌, ◌++◌, drop, take, sym, ap}
use Rattle.std.proofs.lemmas.List.{drop_more}
use Rattle.std.specs.Prelude.{min}
use Rattle.sync_types.specs.Views.{EntryView}
use Rattle.explain_pictures.specs.Moments.{moments_from, moments_of}
use Rattle.explain_pictures.proofs.KeptLaws.{alike_before}
use Rattle.explain_pictures.proofs.moments.add_entries.Goals as goal

pub loop-entry-preserved : goal.loop-entry-preserved
loop-entry-preserved c =
    let split : drop c.loop-entry.entry-index c.args.entries.now ≡ c.entry-item.result ∷ drop (c.loop-entry.entry-index + 1) c.args.entries.now =
    drop_more c.args.entries.now c.loop-entry.entry-index c.entry-item.result c.loop-entry-test.true
    ∙ ap (λ (x : EntryView). x ∷ drop (c.loop-entry.entry-index + 1) c.args.entries.now) (sym c.entry-item.is) in
    rw c.saturating_add-step.ensures
    (alike_before c.args.limit c.loop-entry.moments.items (moments_of c.loop-entry.step c.entry-item.result)
    (moments_from (min (c.loop-entry.step + 1) (2 ^ 32 - 1)) (drop (c.loop-entry.entry-index + 1) c.args.entries.now)) c.add_entry.new.moments.items c.in_ok-add_entry.ensures
    ∙ ap (λ (rest : List EntryView). take c.args.limit (c.loop-entry.moments.items ++ moments_from c.loop-entry.step rest)) (sym split)
    ∙ c.loop-entry.invariant)
