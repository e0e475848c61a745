use Rattle.std.proofs.Common.{◌≡◌, ◌∙◌, ◌<◌, ◌++◌, List, Option, ap, get_or, length, subst, arith}
use Rattle.job_types.specs.Job.{JobView}
use Rattle.job_types.specs.declared.job.OffsetLine.{OffsetLine}
use Rattle.explain_assumptions.proofs.ListLaws.{more, whole}
use Rattle.explain_assumptions.specs.Firsts.{first_with, word_of}
use Rattle.explain_assumptions.specs.Rows.{unused_rows}
use Rattle.explain_assumptions.specs.declared.remarks.Remark.{Remark}
use Rattle.explain_assumptions.proofs.rows.add_all_unused.Goals as goal

pub loop-line-preserved : goal.loop-line-preserved
loop-line-preserved c = λ remarks are.
    let same : c.deref-line-items.result.now ≡ c.args.job.now.offsets = c.deref-line-items.ensures.value ∙ ap (λ (v : JobView). v.offsets) c.job.view_is in
    let line : OffsetLine = c.line-item.result in
    more (λ line. unused_rows c.args.channel line (first_with word_of line.g remarks)) c.args.job.now.offsets c.loop-line.line-index line c.args.rows.now.items c.loop-line.rows.items c.add_unused.new.rows.items
    (subst (λ (xs : List OffsetLine). c.loop-line.line-index < length xs) same c.loop-line-test.true)
    (subst (λ (xs : List OffsetLine). line ≡ get_or xs c.loop-line.line-index line) same c.line-item.is)
    (c.loop-line.invariant remarks are)
    (c.in_ok-add_unused.ensures ∙ ap (λ (o : Option Remark). c.loop-line.rows.items ++ unused_rows c.args.channel line o) (c.first_at.ensures ∙ are.each line.g (omega arith)))

pub returns : goal.returns
returns c = λ remarks are.
    let same : c.deref-line-items.result.now ≡ c.args.job.now.offsets = c.deref-line-items.ensures.value ∙ ap (λ (v : JobView). v.offsets) c.job.view_is in
    let all : c.loop-line.line-index ≡ length c.deref-line-items.result.now = omega arith in
    whole (λ line. unused_rows c.args.channel line (first_with word_of line.g remarks)) c.args.job.now.offsets c.loop-line.line-index c.args.rows.now.items c.loop-line.rows.items
    (subst (λ (xs : List OffsetLine). c.loop-line.line-index ≡ length xs) same all)
    (c.loop-line.invariant remarks are)
