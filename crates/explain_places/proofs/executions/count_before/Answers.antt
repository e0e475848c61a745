use Rattle.std.proofs.Common.{◌∙◌, ℕ, ◌+◌, sym, ap}
use Rattle.explain_places.proofs.ExecutionLaws.{before_more, capped_more}
use Rattle.explain_places.specs.Executions.{capped, motions_before}
use Rattle.explain_places.proofs.executions.count_before.Goals as goal

pub loop-place-preserved : goal.loop-place-preserved
loop-place-preserved c =
    let so_far : ℕ = motions_before c.args.run.now c.args.channel c.args.line c.loop-place.place in
    capped_more c.loop-place.count c.saturating_add-count.result so_far c.count_in.result c.loop-place.invariant c.saturating_add-count.ensures
    ∙ ap capped (ap (λ (n : ℕ). so_far + n) c.count_in.ensures ∙ sym (before_more c.args.run.now c.args.channel c.args.line c.loop-place.place))
