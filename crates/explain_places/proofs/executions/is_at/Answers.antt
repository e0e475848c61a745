use Rattle.std.proofs.Common.{◌∙◌, ◌==◌, ap}
use Rattle.std.proofs.lemmas.List.{get_or_default}
use Rattle.sync_types.specs.Views.{EntryView}
use Rattle.explain_places.proofs.executions.is_at.Goals as goal

pub returns : goal.returns
returns c e =
    c.is_of.ensures
    ∙ ap (λ (o : EntryView). o.channel == c.args.channel) (c.index-entries-place.is ∙ get_or_default c.args.entries.now c.args.place c.index-entries-place.result e c.requires)
