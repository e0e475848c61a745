use Rattle.std.proofs.Common.{◌∙◌, ◌≤◌, ◌&&◌, Bool, false, ap, arith}
use Rattle.std.proofs.lemmas.Bool.{lt-ltb}
use Rattle.std.proofs.lemmas.List.FromFn.{fill_by_all}
use Rattle.job_types.specs.Zones.{carriers, has_axis}
use Rattle.job_types.proofs.job.ZoneLine.carriers.Goals as goal
use Rattle.axis_sets.specs.declared.limits.TheConstants.{AXIS_LIMIT}

pub returns : goal.returns
unfolding carriers
returns c = fill_by_all (has_axis c.args.self.now) c.loop-index.axes AXIS_LIMIT false c.loop-index.invariant.long (λ k within.
    let past : AXIS_LIMIT ≤ c.loop-index.index = omega arith in
    c.loop-index.invariant.put k ∙ ap (λ (b : Bool). b && has_axis c.args.self.now k) (lt-ltb k c.loop-index.index (omega arith)))
