use Rattle.std.proofs.Common.{◌≡◌, ◌∙◌, [], ◌∷◌, ◌++◌, ap, map, take}
use Rattle.sync_types.specs.Views.{EntryView}
use Rattle.explain_pictures.specs.Moments.{going_of}
use Rattle.explain_pictures.proofs.KeptLaws.{alike_on}
use Rattle.explain_pictures.proofs.moments.add_entry.Goals as goal

pub returns : goal.returns
returns c =
    let goes : c.as_slice.result.now ≡ c.args.entry.now.goes = c.as_slice.ensures.value ∙ ap (λ (entry : EntryView). entry.goes) c.entry.view_is in
    let all : take c.args.limit c.add_goings.new.moments.items ≡ take c.args.limit (c.args.moments.now.items ++ (c.moment_of-acts.result ∷ map (going_of c.args.step c.moment_of-acts.result.actor) c.as_slice.result.now)) =
    alike_on c.args.limit c.args.moments.now.items (c.moment_of-acts.result ∷ []) (map (going_of c.args.step c.moment_of-acts.result.actor) c.as_slice.result.now) c.keep.new.list.items
    c.add_goings.new.moments.items c.in_ok-keep.ensures c.in_ok-add_goings.ensures in
    rw (c.moment_of-acts.ensures, goes) at all
