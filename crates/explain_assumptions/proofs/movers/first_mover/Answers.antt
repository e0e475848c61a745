use Rattle.std.proofs.Common.{◌≡◌, ◌∙◌, ap, length, sym, arith}
use Rattle.sync_types.specs.Views.{RunView}
use Rattle.explain_assumptions.proofs.MoverLaws.{found, nothing}
use Rattle.explain_assumptions.specs.Rows.{first_mover, mover_at}
use Rattle.explain_assumptions.proofs.movers.first_mover.Goals as goal

pub returns-in-Some : goal.returns-in-Some
unfolding first_mover
returns-in-Some c =
    let long : length c.run.inside.entries.items ≡ length c.args.run.now.entries = ap (λ (r : RunView). length r.entries) c.run.view_is in
    sym (found (mover_at c.args.axis c.args.run.now) (length c.args.run.now.entries) c.loop-place.place c.in-Some.mover c.loop-place.invariant (omega (arith, long)) (sym c.mover_at.ensures ∙ c.in-Some.is))

pub returns : goal.returns
unfolding first_mover
returns c =
    let long : length c.run.inside.entries.items ≡ length c.args.run.now.entries = ap (λ (r : RunView). length r.entries) c.run.view_is in
    sym (nothing (mover_at c.args.axis c.args.run.now) (length c.args.run.now.entries) (λ k below. c.loop-place.invariant k (omega (arith, below, long))))
