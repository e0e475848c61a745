use Rattle.std.proofs.Common.{◌==◌, ◌∙◌, ℕ, Option, find, sym, arith}
use Rattle.job_types.specs.Zones.{zones_in_order}
use Rattle.job_types.specs.declared.job.ZoneLine.{ZoneLine}
use Rattle.axis_sets.specs.declared.limits.TheConstants.{ZONE_LIMIT}
use Rattle.zone_stretches.proofs.ZoneLaws.{found_here, one_passed, none_here}
use Rattle.zone_stretches.proofs.zones.zone_at.Goals as goal
use Rattle.zone_stretches.proofs.zones.zone_at.Goals.{in-Some+else-left-eq0, in_default}

pub returns-then-left-eq0 : goal.returns-then-left-eq0
unfolding zones_in_order
returns-then-left-eq0 c =
    let numbered : ℕ → Option ZoneLine = λ number. find (λ zone. zone.zone == number) c.args.job.now.zones in
    found_here numbered ZONE_LIMIT c.loop-index.index c.loop-index.left c.in-Some.zone _ (omega arith) (sym c.zone_line.ensures ∙ c.in-Some.is) (omega arith) c.loop-index.invariant

pub loop-index-preserved : goal.loop-index-preserved
loop-index-preserved c =
    let numbered : ℕ → Option ZoneLine = λ number. find (λ zone. zone.zone == number) c.args.job.now.zones in
    elim c.match-zone_line.branch [
      | in-Some+else-left-eq0 w ↦
          one_passed numbered ZONE_LIMIT c.loop-index.index c.loop-index.left c.match-zone_line.left w.in-Some.zone _ (omega arith) (sym c.zone_line.ensures ∙ w.in-Some.is) (omega (arith, w.left-is)) c.loop-index.invariant
      | in_default w ↦ rw w.left-is (none_here numbered ZONE_LIMIT c.loop-index.index c.loop-index.left _ (omega arith) (sym c.zone_line.ensures ∙ w.in_default.is) c.loop-index.invariant)
    ]
