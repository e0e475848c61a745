use Rattle.std.proofs.Common.{◌≡◌, ◌∙◌, true, get_or, sym, ap, arith}
use Rattle.explain_meetings.proofs.PutLaws.{put_at}
use Rattle.explain_meetings.specs.NearSteps.{nearer, same_groups}
use Rattle.explain_meetings.specs.declared.nearest.Near.{Near}
use Rattle.explain_meetings.proofs.nearest.put.Goals as goal

pub returns-then-are_same : goal.returns-then-are_same
returns-then-are_same c =
    let on : same_groups (get_or c.loop-place.rows.items c.loop-place.place c.index.result.now) c.args.near.now ≡ true =
    ap (λ (r : Near). same_groups r c.args.near.now) (sym c.index.ensures) ∙ sym c.are_same.ensures ∙ c.if-are_same.true in
    put_at same_groups nearer c.args.rows.now.items c.loop-place.rows.items c.loop-place.place c.args.near.now c.index.result.now c.nearer.result (omega arith) c.loop-place.invariant.0 on
    (c.nearer.ensures ∙ ap (λ (r : Near). nearer r c.args.near.now) c.index.ensures) c.loop-place.invariant.1
