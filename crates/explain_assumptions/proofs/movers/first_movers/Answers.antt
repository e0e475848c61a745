use Rattle.axis_sets.specs.declared.limits.TheConstants.{AXIS_LIMIT}
use Rattle.std.proofs.Common.{◌≡◌, ◌∙◌, ℕ, ◌++◌, ◌∷◌, [], map, ap, arith, Option}
use Rattle.std.specs.List.{range_with_len}
use Rattle.explain_assumptions.proofs.ListLaws.{one_pushed}
use Rattle.explain_assumptions.specs.Rows.{first_mover, movers_of}
use Rattle.explain_assumptions.specs.declared.movers.Mover.{Mover}
use Rattle.explain_assumptions.proofs.movers.first_movers.Goals as goal

pub loop-index-preserved : goal.loop-index-preserved
loop-index-preserved c = one_pushed (λ axis. first_mover axis c.args.run.now) c.loop-index.index c.loop-index.list.items _ c.loop-index.invariant
    (c.in_ok-push.ensures.items ∙ ap (λ (o : Option Mover). c.loop-index.list.items ++ o ∷ []) c.first_mover.ensures)

pub returns : goal.returns
unfolding movers_of
returns c =
    let all : c.loop-index.index ≡ AXIS_LIMIT = omega arith in
    c.loop-index.invariant ∙ ap (λ (n : ℕ). map (λ axis. first_mover axis c.args.run.now) (range_with_len 0 n)) all
