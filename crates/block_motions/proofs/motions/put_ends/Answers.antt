use Rattle.axis_sets.specs.declared.limits.TheConstants.{AXIS_LIMIT}
use Rattle.std.proofs.Common.{◌≡◌, ℕ, length, option_map, subst, arith}
use Rattle.std.specs.List.{filter_map, range_with_len}
use Rattle.axis_sets.specs.Positions.{stands}
use Rattle.block_motions.specs.Motions as model
use Rattle.block_motions.proofs.Moves.{moves_on, moves_not, reaches}
use Rattle.block_motions.proofs.motions.put_ends.Goals as goal
use Rattle.block_motions.proofs.motions.put_ends.Goals.{in-Some, in_default}

pub end_from-end-requires : goal.end_from-end-requires
end_from-end-requires c =
    let long : length c.args.goals.now ≡ AXIS_LIMIT = c.type_inv.goals in
    reaches c.args.goals.now c.args.at.now c.loop-index.index c.loop-index.at c.loop-index.axes.items c.loop-index.invariant
    c.in-Some.goal c.stands-start.result _ c.loop-index-test.true long c.in-Some.is c.stands-start.ensures c.requires.reached

pub loop-index-preserved : goal.loop-index-preserved
loop-index-preserved c =
    let long : length c.args.goals.now ≡ AXIS_LIMIT = c.type_inv.goals in
    elim c.match-goals-index.branch [
      | in-Some w ↦ rw (w.at-is, w.axes-is, w.push.ensures.items)
          (moves_on c.args.goals.now c.args.at.now c.loop-index.index c.loop-index.at c.loop-index.axes.items c.loop-index.invariant
          w.in-Some.goal w.end_from-end.result w.stands-start.result _ w.set.new.self c.loop-index-test.true long w.in-Some.is w.end_from-end.ensures w.stands-start.ensures w.set.ensures.positions)
      | in_default w ↦ rw (w.at-is, w.axes-is)
          (moves_not c.args.goals.now c.args.at.now c.loop-index.index c.loop-index.at c.loop-index.axes.items c.loop-index.invariant
          _ c.loop-index-test.true long w.in_default.is)
    ]

pub returns-clause-ends : goal.returns-clause-ends
returns-clause-ends c =
    let n : c.loop-index.index ≡ AXIS_LIMIT = omega arith in
    subst (λ (n : ℕ). c.loop-index.axes.items ≡ filter_map (λ axis. option_map (λ to. (axis, stands c.args.at.now axis, to)) (model.end_for (stands c.args.at.now) c.args.goals.now axis)) (range_with_len 0 n))
    n c.loop-index.invariant.ends
