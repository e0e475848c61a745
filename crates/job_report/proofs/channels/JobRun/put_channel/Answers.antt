use Rattle.std.proofs.Common.{◌≡◌, ◌∙◌, List, ◌++◌, ap}
use Rattle.job_report.specs.Channels.{channel_line, channel_lines, silent_place, state_line, trace_lines}
use Rattle.job_report.specs.Pages.{stage}
use Rattle.job_report.proofs.PageLemmas.{Puts-cut, Puts-then}
use Rattle.job_report.proofs.channels.JobRun.put_channel.Goals as goal
use Rattle.sync_types.specs.Views.{EntryView, RunView}

pub returns-in_err-put_trace-clause-text : goal.returns-in_err-put_trace-clause-text
unfolding channel_lines
returns-in_err-put_trace-clause-text g c =
    let before = stage (g.K.Sink.written c.args.sink.now) (g.K.Sink.count c.args.sink.now) c.args.page.now in
    let first = stage (g.K.Sink.written c.put_channel_line.new.sink) (g.K.Sink.count c.put_channel_line.new.sink) c.put_channel_line.new.page in
    let next = stage (g.K.Sink.written c.put_trace.new.sink) (g.K.Sink.count c.put_trace.new.sink) c.put_trace.new.page in
    let result = c.from_residual-in_err-put_trace.result in
    let trace = trace_lines c.args.self.now.job.now c.args.self.now.run.now c.args.channel c.silent_place-silent.result in
    let state = state_line c.args.end.now in
    let same : c.deref.result.now ≡ c.args.self.now.run.now.entries = c.deref.ensures.value ∙ ap (λ (r : RunView). r.entries) c.run.view_is in
    let silent : c.silent_place-silent.result ≡ silent_place c.args.self.now.run.now.entries c.args.channel c.args.end.now =
    c.silent_place-silent.ensures ∙ ap (λ (entries : List EntryView). silent_place entries c.args.channel c.args.end.now) same in
    rw (← silent)
    (Puts-then before first next result (channel_line c.args.channel) (trace ++ state) c.in_ok-put_channel_line.ensures.text
    (Puts-cut first next result trace state c.from_residual-in_err-put_trace.ensures.0 c.in_err-put_trace.ensures.text))

pub returns-clause-text : goal.returns-clause-text
unfolding channel_lines
returns-clause-text g c =
    let before = stage (g.K.Sink.written c.args.sink.now) (g.K.Sink.count c.args.sink.now) c.args.page.now in
    let first = stage (g.K.Sink.written c.put_channel_line.new.sink) (g.K.Sink.count c.put_channel_line.new.sink) c.put_channel_line.new.page in
    let next = stage (g.K.Sink.written c.put_trace.new.sink) (g.K.Sink.count c.put_trace.new.sink) c.put_trace.new.page in
    let last = stage (g.K.Sink.written c.put_state.new.sink) (g.K.Sink.count c.put_state.new.sink) c.put_state.new.page in
    let trace = trace_lines c.args.self.now.job.now c.args.self.now.run.now c.args.channel c.silent_place-silent.result in
    let state = state_line c.args.end.now in
    let same : c.deref.result.now ≡ c.args.self.now.run.now.entries = c.deref.ensures.value ∙ ap (λ (r : RunView). r.entries) c.run.view_is in
    let silent : c.silent_place-silent.result ≡ silent_place c.args.self.now.run.now.entries c.args.channel c.args.end.now =
    c.silent_place-silent.ensures ∙ ap (λ (entries : List EntryView). silent_place entries c.args.channel c.args.end.now) same in
    rw (← silent)
    (Puts-then before first last c.put_state.result (channel_line c.args.channel) (trace ++ state) c.in_ok-put_channel_line.ensures.text
    (Puts-then first next last c.put_state.result trace state c.in_ok-put_trace.ensures.text c.put_state.ensures.text))
