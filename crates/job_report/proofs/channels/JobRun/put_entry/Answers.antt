use Rattle.std.proofs.Common.{◌≡◌, ◌∙◌, false, ap, sym, subst}
use Rattle.std.specs.List.{flat_map}
use Rattle.job_report.specs.Actions.{step_line}
use Rattle.job_report.specs.Channels.{entry_lines, is_at, items_at}
use Rattle.job_report.specs.Motions.{item_line}
use Rattle.job_report.specs.Pages.{Prints, Puts, stage}
use Rattle.job_report.proofs.PageLemmas.{Puts-cut, Puts-then}
use Rattle.job_report.proofs.channels.JobRun.put_entry.Goals as goal
use Rattle.sync_types.specs.Views.{EntryView}
use Rattle.sync_types.specs.declared.Step.{Step}

pub returns-clause-text : goal.returns-clause-text
unfolding entry_lines
returns-clause-text g c =
    let before = stage (g.K.Sink.written c.args.sink.now) (g.K.Sink.count c.args.sink.now) c.args.page.now in
    let between = stage (g.K.Sink.written c.put_items.new.sink) (g.K.Sink.count c.put_items.new.sink) c.put_items.new.page in
    let after = stage (g.K.Sink.written c.put_step.new.sink) (g.K.Sink.count c.put_step.new.sink) c.put_step.new.page in
    let told : is_at c.args.numbered.0 c.args.silent ≡ false = sym c.is_silent.ensures ∙ c.if-is_silent.false in
    let items : Prints before between (flat_map (item_line c.args.self.now.job.now) (items_at c.args.self.now.run.now c.args.numbered.0)) =
    rw c.items_at.ensures at c.in_ok-put_items.ensures.text in
    let step : c.entry.inside.step ≡ c.args.numbered.1.now.step = ap (λ (e : EntryView). e.step) c.entry.view_is in
    let line : Puts between after c.put_step.result (step_line c.args.self.now.job.now c.args.numbered.1.now.step) =
    subst (λ (s : Step). Puts between after c.put_step.result (step_line c.args.self.now.job.now s)) step c.put_step.ensures.text in
    rw told (Puts-then before between after c.put_step.result _ _ items line)

pub returns-in_err-put_items-clause-text : goal.returns-in_err-put_items-clause-text
unfolding entry_lines
returns-in_err-put_items-clause-text g c =
    Puts-cut _ _ _ (flat_map (item_line c.args.self.now.job.now) (items_at c.args.self.now.run.now c.args.numbered.0)) _ c.from_residual.ensures.0
    (rw c.items_at.ensures at c.in_err-put_items.ensures.text)
