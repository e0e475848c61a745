use Rattle.std.proofs.Common.{List, ℕ, subst, ◌≡◌, ◌∷◌, ◌++◌, [], if◌then◌else◌}
use Rattle.std.specs.Str.{bytes_eq}
use Rattle.nc_control_flow.specs.Index.{label_places}
use Rattle.nc_control_flow.proofs.Indexed.{label_noted}
use Rattle.nc_control_flow.proofs.index.note_label.Goals as goal

pub returns : goal.returns
returns c = λ (q : List ℕ).
    let P : List ℕ → Type 0 = λ name. label_places c.insert.new.self q
    ≡ (if bytes_eq name q then label_places c.args.labels.now name ++ c.args.place ∷ [] else label_places c.args.labels.now q) in
    let key = c.name_of-key.result.items in
    let here : P key = rw (← c.remove.ensures.value) (label_noted (bytes_eq key q) _ _ _ c.remove.result c.new.result c.unwrap_or-places.result c.push.new.self c.args.place
    c.new.ensures.items c.unwrap_or-places.ensures c.in_ok-push.ensures.items
    (c.in_ok-insert.ensures.updates.0 (record { items = q })) (c.remove.ensures.updates.0 (record { items = q }))) in
    subst P c.name_of-key.ensures here
