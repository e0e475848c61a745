use Rattle.std.proofs.Common.{map, rules, sym, ap, ◌∙◌}
use Rattle.std.proofs.lemmas.List.{drop-map}
use Rattle.parallel_run.proofs.Walks.{row_taken}
use Rattle.parallel_run.proofs.joining.take_row.Goals as goal

pub returns-in-Some-pop_front-clause-rest : goal.returns-in-Some-pop_front-clause-rest
returns-in-Some-pop_front-clause-rest c =
    row_taken (λ rows. map (λ items. items.items) rows.items) c.args.rows.now.items c.from.result c.args.channel c.in-Some.rows.now c.pop_front.new.self (c.from.ensures ∙ c.channel.view_is)
    (search rules) c.in-Some.ensures.value (ap (map (λ items. items.items)) c.pop_front.ensures.rest ∙ sym (drop-map (λ items. items.items) 1 c.in-Some.rows.now.items))

pub returns-in-None-pop_front-clause-rest : goal.returns-in-None-pop_front-clause-rest
returns-in-None-pop_front-clause-rest c =
    row_taken (λ rows. map (λ items. items.items) rows.items) c.args.rows.now.items c.from.result c.args.channel c.in-Some.rows.now c.pop_front.new.self (c.from.ensures ∙ c.channel.view_is)
    (search rules) c.in-Some.ensures.value (ap (map (λ items. items.items)) c.pop_front.ensures.rest ∙ sym (drop-map (λ items. items.items) 1 c.in-Some.rows.now.items))
