use Rattle.std.proofs.Common.{◌∙◌, List, ◌++◌, append_assoc, sym, subst}
use Rattle.std.proofs.lemmas.List.{append-nil}
use Rattle.explain_meetings.proofs.SeenLaws.{seen_start, seen_next, seen_end}
use Rattle.explain_meetings.specs.NearSteps.{AreNearestSoFar}
use Rattle.explain_meetings.specs.declared.nearest.Near.{Near}
use Rattle.job_types.specs.Job.{JobView}
use Rattle.order_clocks.specs.Tells.{is_before_in}
use Rattle.sync_types.specs.Views.{RunView}
use Rattle.zone_stretches.specs.Overlaps.{Pair}
use Rattle.zone_stretches.specs.StretchPairs.{StretchPairView, boxes_of_pair, pairs_with}
use Rattle.explain_meetings.proofs.nearest.look_of_zones.Goals as goal

-- these rows are the nearest of pairs that were seen and of these, where those before were of what was seen
abbrev AreSoFar : JobView → RunView → List Near → List Near → List Pair → Type 0
AreSoFar job run old rows pairs = (seen : List Pair) → AreNearestSoFar job run seen old → AreNearestSoFar job run (seen ++ pairs) rows

pub loop-pair-init : goal.loop-pair-init
loop-pair-init c =
    seen_start boxes_of_pair (AreSoFar c.args.scene.now.job.now c.args.scene.now.run.now c.args.rows.now.items c.args.rows.now.items) _ (pairs_with (is_before_in c.args.scene.now.clocks.now.rows) (c.args.left.now, c.args.right.now))
    (c.into_iter-pair-iterator.ensures.into_iter_gives ∙ c.of-pair-items.ensures) (λ seen are. subst (λ (ps : List Pair). AreNearestSoFar c.args.scene.now.job.now c.args.scene.now.run.now ps c.args.rows.now.items) (sym (append-nil seen)) are)

pub loop-pair-preserved : goal.loop-pair-preserved
loop-pair-preserved c =
    seen_next boxes_of_pair (AreSoFar c.args.scene.now.job.now c.args.scene.now.run.now c.args.rows.now.items c.loop-pair.rows.items)
    (AreSoFar c.args.scene.now.job.now c.args.scene.now.run.now c.args.rows.now.items c.look_in_boxes.new.rows.items) _ c.next.new.self (pairs_with (is_before_in c.args.scene.now.clocks.now.rows) (c.args.left.now, c.args.right.now))
    c.in-Some.pair c.in-Some.ensures.steps
    (λ pairs so_far seen are. subst (λ (ps : List Pair). AreNearestSoFar c.args.scene.now.job.now c.args.scene.now.run.now ps c.look_in_boxes.new.rows.items) (append_assoc seen pairs (boxes_of_pair c.in-Some.pair))
    (subst (λ (pair : StretchPairView). AreNearestSoFar c.args.scene.now.job.now c.args.scene.now.run.now ((seen ++ pairs) ++ boxes_of_pair pair) c.look_in_boxes.new.rows.items) c.pair.view_is
    (c.in_ok-look_in_boxes.ensures (seen ++ pairs) (so_far seen are)))) c.loop-pair.invariant

pub returns : goal.returns
returns c =
    seen_end boxes_of_pair (AreSoFar c.args.scene.now.job.now c.args.scene.now.run.now c.args.rows.now.items c.loop-pair.rows.items) _ (pairs_with (is_before_in c.args.scene.now.clocks.now.rows) (c.args.left.now, c.args.right.now))
    c.in-None.ensures.steps.0 c.loop-pair.invariant
