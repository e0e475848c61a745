use Rattle.axis_sets.specs.declared.limits.TheConstants.{CHANNEL_LIMIT}
use Rattle.std.proofs.Common.{◌≡◌, ◌∙◌, ◌++◌, ℕ, ◌-◌, List, ap, arith, Option}
use Rattle.std.specs.List.{flat_map, range_with_len}
use Rattle.explain_assumptions.proofs.ListLaws.{channel_more, two}
use Rattle.explain_assumptions.specs.Assumptions.{assumptions_of, channel_assumptions}
use Rattle.explain_assumptions.specs.Remarks.{remarks_in_run}
use Rattle.explain_assumptions.specs.Rows.{done_rows, said_rows}
use Rattle.explain_assumptions.specs.declared.movers.Mover.{Mover}
use Rattle.explain_assumptions.specs.declared.remarks.Remark.{Remark}
use Rattle.explain_assumptions.proofs.assumptions.assumptions_of.Goals as goal

pub loop-number-preserved : goal.loop-number-preserved
loop-number-preserved c = λ lawful.
    channel_more (channel_assumptions c.args.job.now c.args.run.now) c.loop-number.number c.loop-number.rows.items c.add_done.new.rows.items c.loop-number.auto.number
    (c.loop-number.invariant lawful)
    (two _ _ _ _ _ c.in_ok-add_said.ensures c.in_ok-add_done.ensures
    ∙ ap (λ (rs : List Remark). c.loop-number.rows.items ++ (said_rows c.args.job.now c.loop-number.number rs ++ done_rows c.args.job.now c.as_slice-movers.result.now c.loop-number.number rs))
    (c.as_slice-remarks.ensures.value ∙ c.in_ok-list.ensures lawful)
    ∙ ap (λ (ms : List (Option Mover)).
    let rs : List Remark = remarks_in_run c.args.job.now c.args.run.now c.loop-number.number in
    c.loop-number.rows.items ++ (said_rows c.args.job.now c.loop-number.number rs ++ done_rows c.args.job.now ms c.loop-number.number rs))
    (c.as_slice-movers.ensures.value ∙ c.in_ok-firsts.ensures))

pub returns : goal.returns
unfolding assumptions_of
returns c = λ lawful.
    let end = c.loop-number.auto.number-end (omega arith) in
    let all : c.loop-number.number - 1 ≡ CHANNEL_LIMIT = omega (arith, end) in
    c.loop-number.invariant lawful ∙ ap (λ (n : ℕ). flat_map (channel_assumptions c.args.job.now c.args.run.now) (range_with_len 1 n)) all
