use Rattle.std.proofs.Common.{◌≡◌, ℕ, List, None, map, ap, subst}
use Rattle.arrayvec.specs.ArrayVec.{ArrayVec}
use Rattle.explain_reach.specs.Depths.{IsPartingDepth}
use Rattle.job_types.specs.Job.{JobView}
use Rattle.swept_boxes.specs.declared.Box3.{Box3}
use Rattle.explain_clashes.specs.Clashes.{boxes_by_depth}
use Rattle.explain_clashes.proofs.clashes.depth_of.Goals as goal

pub returns-in-None : goal.returns-in-None
returns-in-None c =
    let depth : c.job.inside.depth ≡ c.args.job.now.depth = ap (λ (j : JobView). j.depth) c.job.view_is in
    subst (λ (d : ℕ). IsPartingDepth (boxes_by_depth c.args.job.now c.args.run.now c.args.met.now.left) (boxes_by_depth c.args.job.now c.args.run.now c.args.met.now.right) d None) depth
    (subst (λ (lefts : List (List Box3)). IsPartingDepth lefts (boxes_by_depth c.args.job.now c.args.run.now c.args.met.now.right) c.job.inside.depth None) c.boxes_by_depth-lefts.ensures
    (subst (λ (rights : List (List Box3)). IsPartingDepth (map (λ (l : ArrayVec Box3). l.items) c.boxes_by_depth-lefts.result) rights c.job.inside.depth None) c.boxes_by_depth-rights.ensures c.in-None.ensures))
