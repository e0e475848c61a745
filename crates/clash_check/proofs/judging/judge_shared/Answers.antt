-- The boxes are compared where nothing comes before.
use Rattle.std.proofs.Common.{◌∙◌, ℕ, List, ap, subst, sym}
use Rattle.order_clocks.specs.Tells.{is_before_in}
use Rattle.clash_check.proofs.NearLaws.{timed_by}
use Rattle.clash_check.proofs.PairLaws.{all_listed}
use Rattle.clash_check.proofs.VerdictLaws.{by_boxes, comes_before}
use Rattle.zone_stretches.specs.Ascents.{IsTimed}
use Rattle.clash_check.specs.Meetings.{verdict_by_names}
use Rattle.zone_stretches.specs.Cases.{Case}
use Rattle.zone_stretches.specs.Times.{lists_in}
use Rattle.clash_check.specs.ZonePairs.{first_of_pairs}
use Rattle.zone_stretches.specs.Overlaps.{zone_times}
use Rattle.zone_stretches.specs.Stretches.{StretchView}
use Rattle.clash_check.proofs.judging.judge_shared.Goals as goal

pub returns-in-Some : goal.returns-in-Some
returns-in-Some g c =
    comes_before c.args.job.now c.args.run.now c.args.stretches.now c.args.clocks.now (is_before_in c.args.clocks.now.rows) c.in-Some.verdict (rw c.in-Some.is at c.verdict_before.ensures)

pub returns : goal.returns
unfolding zone_times
returns g c =
    let case : Case = record { job = c.args.job.now; run = c.args.run.now; before = is_before_in c.args.clocks.now.rows } in
    c.verdict_by_names.ensures
    ∙ ap verdict_by_names (c.first_by_threads-names.ensures ∙ ap (λ (pairs : List (ℕ × ℕ)). first_of_pairs case (lists_in c.lists_of-lists.result.now) pairs) (c.deref.ensures.value ∙ c.in_ok-pairs.ensures)
    ∙ all_listed case c.lists_of-lists.result.now c.args.stretches.now.zones c.lists_of-lists.ensures)
    ∙ by_boxes c.args.job.now c.args.run.now c.args.stretches.now c.args.clocks.now case.before c.requires.whole c.requires.fit c.in_default.ensures

pub first_by_threads-names-requires-clause-timed : goal.first_by_threads-names-requires-clause-timed
first_by_threads-names-requires-clause-timed g c = λ _ _.
    subst (λ (lists : List (List StretchView)). IsTimed (is_before_in c.args.clocks.now.rows) lists) (sym c.lists_of-lists.ensures)
    (timed_by c.args.job.now c.args.run.now c.args.stretches.now c.args.clocks.now c.requires.whole)
