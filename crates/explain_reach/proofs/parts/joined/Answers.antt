use Rattle.std.proofs.Common.{rules, ℤ, ◌≤ℤ◌, pos, w32, get_or, sym}
use Rattle.std.proofs.lemmas.Int.{to_z-of_z}
use mir.Val.{to_z, of_z, SFits}
use Rattle.explain_reach.proofs.PartLaws.{lies_by}
use Rattle.explain_reach.proofs.parts.joined.Goals as goal

least : (z v : ℤ) → SFits w32 z → SFits w32 v → z ≤ℤ to_z w32 (of_z w32 v) → to_z w32 (of_z w32 z) ≤ℤ v
least z v fits fits' less = rw (to_z-of_z w32 z fits, sym (to_z-of_z w32 v fits')) less

most : (z v : ℤ) → SFits w32 z → SFits w32 v → to_z w32 (of_z w32 v) ≤ℤ z → v ≤ℤ to_z w32 (of_z w32 z)
most z v fits fits' less = rw (to_z-of_z w32 z fits, sym (to_z-of_z w32 v fits')) less

pub returns-clause-left : goal.returns-clause-left
returns-clause-left c =
    lies_by _ c.args.left.now
    (least c.min.result (get_or c.args.left.now.lo 0 (pos 0)) (search rules) (search rules) c.min.ensures.self_bound)
    (least c.min-2.result (get_or c.args.left.now.lo 1 (pos 0)) (search rules) (search rules) c.min-2.ensures.self_bound)
    (least c.min-3.result (get_or c.args.left.now.lo 2 (pos 0)) (search rules) (search rules) c.min-3.ensures.self_bound)
    (most c.max.result (get_or c.args.left.now.hi 0 (pos 0)) (search rules) (search rules) c.max.ensures.self_bound)
    (most c.max-2.result (get_or c.args.left.now.hi 1 (pos 0)) (search rules) (search rules) c.max-2.ensures.self_bound)
    (most c.max-3.result (get_or c.args.left.now.hi 2 (pos 0)) (search rules) (search rules) c.max-3.ensures.self_bound)

pub returns-clause-right : goal.returns-clause-right
returns-clause-right c =
    lies_by _ c.args.right.now
    (least c.min.result (get_or c.args.right.now.lo 0 (pos 0)) (search rules) (search rules) c.min.ensures.other_bound)
    (least c.min-2.result (get_or c.args.right.now.lo 1 (pos 0)) (search rules) (search rules) c.min-2.ensures.other_bound)
    (least c.min-3.result (get_or c.args.right.now.lo 2 (pos 0)) (search rules) (search rules) c.min-3.ensures.other_bound)
    (most c.max.result (get_or c.args.right.now.hi 0 (pos 0)) (search rules) (search rules) c.max.ensures.other_bound)
    (most c.max-2.result (get_or c.args.right.now.hi 1 (pos 0)) (search rules) (search rules) c.max-2.ensures.other_bound)
    (most c.max-3.result (get_or c.args.right.now.hi 2 (pos 0)) (search rules) (search rules) c.max-3.ensures.other_bound)
