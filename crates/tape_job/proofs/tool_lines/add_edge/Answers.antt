use Rattle.std.proofs.Common.{◌∙◌, sym}
use Rattle.std.proofs.lemmas.Bool.{eqb-true, eqb-false}
use Rattle.tape_job.proofs.EdgePlaces.{joined_at, put_at, last_at}
use Rattle.tape_job.proofs.tool_lines.add_edge.Goals as goal

pub returns-in_ok-push_edge-in-Some-clause-added :
    goal.returns-in_ok-push_edge-in-Some-clause-added
returns-in_ok-push_edge-in-Some-clause-added c =
    joined_at c.args.tools.now.items c.as_slice.result.now c.args.channel c.args.edge c.in-Some.place c.index.result.now c.index_mut.result.now c.push_edge.new.tools
    c.as_slice.ensures.value c.in-Some.ensures c.index.ensures (eqb-true c.index.result.now.0 c.args.channel (sym c.eq.ensures ∙ c.if-eq.true)) c.index_mut.ensures.value c.in_ok-push_edge-in-Some.ensures.added

pub returns-in_ok-insert-in-Some-clause-added : goal.returns-in_ok-insert-in-Some-clause-added
returns-in_ok-insert-in-Some-clause-added c =
    c.in_ok-insert-in-Some.ensures.items
    ∙ put_at c.args.tools.now.items c.as_slice.result.now c.args.channel c.args.edge c.in-Some.place c.index.result.now c.in_ok-one-in-Some.one
    c.as_slice.ensures.value c.in-Some.ensures c.index.ensures (eqb-false c.index.result.now.0 c.args.channel (sym c.eq.ensures ∙ c.if-eq.false)) c.in_ok-one-in-Some.ensures

pub returns-in_ok-push-in-None-clause-added : goal.returns-in_ok-push-in-None-clause-added
returns-in_ok-push-in-None-clause-added c =
    c.in_ok-push-in-None.ensures.items
    ∙ last_at c.args.tools.now.items c.as_slice.result.now c.args.channel c.args.edge c.in_ok-one-in-None.one c.as_slice.ensures.value c.in-None.ensures c.in_ok-one-in-None.ensures
