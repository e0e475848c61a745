use Rattle.std.proofs.Common.{◌∙◌, List, map, sym, ap}
use Rattle.explain_meetings.proofs.GroupLaws.{named_keys, named_known, named_new}
use Rattle.explain_meetings.specs.GroupSteps.{counted, key_of}
use Rattle.explain_meetings.specs.declared.groups.Named.{Named}
use Rattle.explain_meetings.proofs.groups.put.Goals as goal

pub returns-in_ok-add-clause-rows : goal.returns-in_ok-add-clause-rows
returns-in_ok-add-clause-rows c =
    c.in_ok-add.ensures
    ∙ named_new c.args.rows.now.items c.args.keys.now.keys c.args.more.now c.key_of.result c.requires c.key_of.ensures c.in_ok-place.is_new c.in_ok-place.ensures.added c.if-is_new.true

pub returns-else-is_new-clause-rows : goal.returns-else-is_new-clause-rows
returns-else-is_new-clause-rows c =
    named_known c.args.rows.now.items c.args.keys.now.keys c.args.more.now c.key_of.result c.requires c.key_of.ensures c.in_ok-place.place c.index.result.now c.counted.result c.in_ok-place.is_new
    c.in_ok-place.ensures.added c.if-is_new.false c.in_ok-place.ensures.index (c.counted.ensures ∙ ap (λ (r : Named). counted r c.args.more.now) c.index.ensures)

pub returns-else-is_new-clause-keys : goal.returns-else-is_new-clause-keys
returns-else-is_new-clause-keys c =
    named_keys c.args.rows.now.items c.args.keys.now.keys c.args.more.now c.key_of.result c.requires c.key_of.ensures c.insert_full.new.self.keys c.in_ok-place.ensures.keys
    ∙ ap (λ (rows : List Named). map key_of rows) (sym (returns-else-is_new-clause-rows c))
