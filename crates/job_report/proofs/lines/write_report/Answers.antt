use Rattle.std.proofs.Common.{◌≡◌, ◌∙◌, [], ◌++◌, ap, append-nil}
use Rattle.job_types.specs.Job.{JobView}
use Rattle.job_report.specs.Pages.{Puts, stage}
use Rattle.job_report.specs.Report.{all_lines, head_lines, report_bytes}
use Rattle.job_report.specs.Verdicts.{verdict_line}
use Rattle.job_report.proofs.PageLemmas.{Prints-page, Puts-failed, Puts-then}
use Rattle.job_report.proofs.lines.write_report.Goals as goal

pub returns-in_err-put_verdict-clause-text : goal.returns-in_err-put_verdict-clause-text
unfolding report_bytes
returns-in_err-put_verdict-clause-text g c =
    let before = stage (g.K.Sink.written c.args.sink.now) (g.K.Sink.count c.args.sink.now) c.args.page.now in
    let first = stage (g.K.Sink.written c.args.sink.now) (g.K.Sink.count c.args.sink.now) c.push_head.new.page in
    let next = stage (g.K.Sink.written c.put_channels.new.sink) (g.K.Sink.count c.put_channels.new.sink) c.put_channels.new.page in
    let last = stage (g.K.Sink.written c.put_verdict.new.sink) (g.K.Sink.count c.put_verdict.new.sink) c.put_verdict.new.page in
    let head : c.push_head.new.page ≡ c.args.page.now ++ head_lines c.args.job.now.compensation =
    c.push_head.ensures ∙ ap (λ (job : JobView). c.args.page.now ++ head_lines job.compensation) c.job.view_is in
    let result = c.from_residual-in_err-put_verdict.result in
    let lines = all_lines c.args.job.now c.args.run.now in
    let verdict = verdict_line c.args.verdict.now in
    Puts-then before first last result (head_lines c.args.job.now.compensation) (lines ++ verdict) (Prints-page _ _ _ _ _ head)
    (Puts-then first next last result lines verdict c.in_ok-put_channels.ensures.text
    (Puts-failed next last result verdict c.from_residual-in_err-put_verdict.ensures.0 c.in_err-put_verdict.ensures.text))

pub returns-clause-text : goal.returns-clause-text
unfolding report_bytes
returns-clause-text g c =
    let before = stage (g.K.Sink.written c.args.sink.now) (g.K.Sink.count c.args.sink.now) c.args.page.now in
    let first = stage (g.K.Sink.written c.args.sink.now) (g.K.Sink.count c.args.sink.now) c.push_head.new.page in
    let next = stage (g.K.Sink.written c.put_channels.new.sink) (g.K.Sink.count c.put_channels.new.sink) c.put_channels.new.page in
    let last = stage (g.K.Sink.written c.put_verdict.new.sink) (g.K.Sink.count c.put_verdict.new.sink) c.put_verdict.new.page in
    let after = stage (g.K.Sink.written c.flush.new.sink) (g.K.Sink.count c.flush.new.sink) c.flush.new.page in
    let head : c.push_head.new.page ≡ c.args.page.now ++ head_lines c.args.job.now.compensation =
    c.push_head.ensures ∙ ap (λ (job : JobView). c.args.page.now ++ head_lines job.compensation) c.job.view_is in
    let lines = all_lines c.args.job.now c.args.run.now in
    let verdict = verdict_line c.args.verdict.now in
    let all : Puts next after c.flush.result (verdict ++ []) = Puts-then next last after c.flush.result verdict [] c.in_ok-put_verdict.ensures.text c.flush.ensures.text in
    let whole : Puts next after c.flush.result verdict = rw append-nil at all in
    Puts-then before first after c.flush.result (head_lines c.args.job.now.compensation) (lines ++ verdict) (Prints-page _ _ _ _ _ head)
    (Puts-then first next after c.flush.result lines verdict c.in_ok-put_channels.ensures.text whole)
