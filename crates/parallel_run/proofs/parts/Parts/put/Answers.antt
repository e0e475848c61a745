use Rattle.std.proofs.Common.{◌≡◌, map, set, ap, subst, ◌∙◌}
use Rattle.parallel_run.proofs.Walks.{written}
use Rattle.parallel_run.proofs.parts.Parts.put.Goals as goal
use Rattle.parallel_run.specs.Joining.{HasPut, PartsView}
use Rattle.parallel_run.specs.Workers.{WorkedView}

pub returns-clause-put : goal.returns-clause-put
returns-clause-put c =
    let at : c.from-place.result ≡ c.worked.inside.channel = c.from-place.ensures ∙ c.channel.view_is in
    let before : PartsView = record { rows = map (λ rows. map (λ items. items.items) rows.items) c.self.inside.rows.items; locals = c.self.inside.locals.items } in
    let w : WorkedView = record { channel = c.worked.inside.channel; items = map (λ items. items.items) c.worked.inside.items.items; last = c.worked.inside.last } in
    let after : PartsView = record {
      rows = map (λ rows. map (λ items. items.items) rows.items) (set c.self.inside.rows.items c.from-place.result c.worked.inside.items);
      locals = set c.self.inside.locals.items c.from-place.result c.worked.inside.last;
    } in
    let put : HasPut before w after = record {
      rows = written (λ rows. map (λ items. items.items) rows.items) c.self.inside.rows.items c.from-place.result c.worked.inside.channel c.worked.inside.items at;
      locals = ap (λ p. set c.self.inside.locals.items p c.worked.inside.last) at;
    } in
    subst (λ (b : PartsView). HasPut b c.args.worked after) c.self.view_is
    (subst (λ (v : WorkedView). HasPut before v after) c.worked.view_is put)
