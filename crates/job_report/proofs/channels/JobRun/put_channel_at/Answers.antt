use Rattle.std.proofs.Common.{◌≡◌, ◌∙◌, ◌≤◌, [], length, ap, sym, append-nil}
use Rattle.std.proofs.lemmas.Option.{slice_get_past}
use Rattle.job_report.specs.Report.{lines_at}
use Rattle.job_report.proofs.PageLemmas.{Prints-page}
use Rattle.job_report.proofs.channels.JobRun.put_channel_at.Goals as goal
use Rattle.sync_types.specs.Views.{RunView}

pub returns-in-None-clause-text : goal.returns-in-None-clause-text
unfolding lines_at
returns-in-None-clause-text g c =
    let same : c.deref.result.now ≡ c.args.self.now.run.now.ends = c.deref.ensures.0 ∙ ap (λ (r : RunView). r.ends) c.run.view_is in
    let past : length c.args.self.now.run.now.ends ≤ c.args.place = rw (← same) c.in-None.ensures.lookup.3 in
    rw (slice_get_past c.args.self.now.run.now.ends c.args.place past) (Prints-page _ _ _ _ [] (sym (append-nil c.args.page.now)))
