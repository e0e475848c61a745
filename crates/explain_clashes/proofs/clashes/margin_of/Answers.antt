use Rattle.std.proofs.Common.{rules, ◌≡◌, ◌∙◌, ◌<◌, ℕ, ℤ, List, length, sym, ap, subst, w32}
use Rattle.std.proofs.lemmas.Int.{to_z-of_z}
use mir.Val.{to_z, of_z, SFits}
use Rattle.job_types.specs.Job.{JobView}
use Rattle.swept_boxes.specs.declared.Box3.{Box3}
use Rattle.explain_clashes.proofs.MarginLaws.{some_place}
use Rattle.explain_clashes.specs.Clashes.{IsPartingMargin, boxes_at}
use Rattle.explain_clashes.proofs.clashes.margin_of.Goals as goal

pub parting_margin-requires-clause-left : goal.parting_margin-requires-clause-left
parting_margin-requires-clause-left c =
    subst (λ (boxes : List Box3). 0 < length boxes) (sym (c.as_slice.ensures.value ∙ c.boxes_at-lefts.ensures)) (some_place c.args.job.now c.args.run.now c.args.met.now.left _)

pub parting_margin-requires-clause-right : goal.parting_margin-requires-clause-right
parting_margin-requires-clause-right c =
    subst (λ (boxes : List Box3). 0 < length boxes) (sym (c.as_slice-2.ensures.value ∙ c.boxes_at-rights.ensures)) (some_place c.args.job.now c.args.run.now c.args.met.now.right _)

pub returns : goal.returns
returns c =
    let depth : c.job.inside.depth ≡ c.args.job.now.depth = ap (λ (j : JobView). j.depth) c.job.view_is in
    let fits : SFits w32 c.margin.inside.micrometres = search rules in
    let margin : to_z w32 (of_z w32 c.margin.inside.micrometres) ≡ c.args.job.now.margin = to_z-of_z w32 c.margin.inside.micrometres fits ∙ c.margin.view_is ∙ ap (λ (j : JobView). j.margin) c.job.view_is in
    subst (λ (m : ℤ). IsPartingMargin m (boxes_at c.args.job.now c.args.run.now c.args.met.now.left c.args.job.now.depth) (boxes_at c.args.job.now c.args.run.now c.args.met.now.right c.args.job.now.depth) c.parting_margin.result) margin
    (subst (λ (d : ℕ). IsPartingMargin (to_z w32 (of_z w32 c.margin.inside.micrometres)) (boxes_at c.args.job.now c.args.run.now c.args.met.now.left d) (boxes_at c.args.job.now c.args.run.now c.args.met.now.right d) c.parting_margin.result) depth
    (subst (λ (boxes : List Box3). IsPartingMargin (to_z w32 (of_z w32 c.margin.inside.micrometres)) boxes (boxes_at c.args.job.now c.args.run.now c.args.met.now.right c.job.inside.depth) c.parting_margin.result) (c.as_slice.ensures.value ∙ c.boxes_at-lefts.ensures)
    (subst (λ (boxes : List Box3). IsPartingMargin (to_z w32 (of_z w32 c.margin.inside.micrometres)) c.as_slice.result.now boxes c.parting_margin.result) (c.as_slice-2.ensures.value ∙ c.boxes_at-rights.ensures) c.parting_margin.ensures)))
