use Rattle.std.proofs.Common.{◌≡◌, ◌∙◌, ◌==◌, ◌<◌, ◌≤◌, ℕ, true, false, List, [], length, take, get_or, Option, refl, ap, sym, append-nil, le_antisymm, arith}
use Rattle.std.specs.List.{enumerate_from, flat_map}
use Rattle.job_types.specs.Job.{JobView}
use Rattle.job_report.specs.Channels.{entry_lines, own_lines, trace_lines}
use Rattle.job_report.specs.Spans.{StandBetween}
use Rattle.job_report.proofs.PageLemmas.{Prints-next, Prints-page, Puts-next}
use Rattle.job_report.proofs.RowLemmas.{Stands, Stands-numbered, flat_map-next}
use Rattle.job_report.proofs.SpanLemmas.{all_before, nothing_before}
use Rattle.job_report.proofs.channels.JobRun.put_trace.Goals as goal
use Rattle.job_report.proofs.channels.JobRun.put_trace.Goals.{then-is_of+in_ok-put_entry, else-is_of}
use Rattle.sync_types.specs.Views.{EntryView, RunView}

own : (job : JobView) (run : RunView) (channel : ℕ) (silent : Option ℕ) (place : ℕ) (entry : EntryView) → (entry.channel == channel) ≡ true
    → own_lines job run channel silent (place, entry) ≡ entry_lines job run silent (place, entry)
unfolding own_lines
own job run channel silent place entry is = rw is refl

foreign : (job : JobView) (run : RunView) (channel : ℕ) (silent : Option ℕ) (place : ℕ) (entry : EntryView) → (entry.channel == channel) ≡ false
    → own_lines job run channel silent (place, entry) ≡ []
unfolding own_lines
foreign job run channel silent place entry is = rw is refl

-- a place of the span is one of an entry
inside : (entries others : List EntryView) (channel first end place : ℕ) → entries ≡ others → StandBetween others (length others) channel first end → place < end
    → place < length entries
inside entries others channel first end place same span before =
    let within : end ≤ length others = span.within in
    rw same (omega (arith, within, before))

-- an entry stands at its place among the numbered ones of the run
here : (entries others : List EntryView) (place : ℕ) (entry : EntryView) → entries ≡ others → place < length entries → entry ≡ get_or entries place entry
    → Stands (enumerate_from 0 others) place (place, entry)
here entries others place entry same within is = Stands-numbered others place entry (rw same at within) (rw same at is)

pub bounds-entries-place : goal.bounds-entries-place
bounds-entries-place g c =
    let run = c.args.self.now.run.now in
    let same : c.deref-entries.result.now ≡ run.entries = c.deref-entries.ensures.value ∙ ap (λ (r : RunView). r.entries) c.run.view_is in
    let span : StandBetween run.entries (length run.entries) c.args.channel c.span_of-first.result.0 c.span_of-first.result.1 =
    rw (c.span_of-first.ensures.first, c.span_of-first.ensures.end) (c.requires.spans c.args.channel c.span_of-first.ensures.known) in
    inside _ _ _ _ _ c.loop-place.place same span c.loop-place-test.true

pub loop-place-init : goal.loop-place-init
loop-place-init g c =
    let run = c.args.self.now.run.now in
    let lines = own_lines c.args.self.now.job.now run c.args.channel c.args.silent in
    let span : StandBetween run.entries (length run.entries) c.args.channel c.span_of-first.result.0 c.span_of-first.result.1 =
    rw (c.span_of-first.ensures.first, c.span_of-first.ensures.end) (c.requires.spans c.args.channel c.span_of-first.ensures.known) in
    let nothing : flat_map lines (take c.span_of-first.result.0 (enumerate_from 0 run.entries)) ≡ [] =
    nothing_before lines run.entries c.args.channel _ _ (foreign c.args.self.now.job.now run c.args.channel c.args.silent) span in
    record {
      text = rw nothing (Prints-page _ _ _ _ [] (sym (append-nil c.args.page.now)));
      faults = refl;
    }

pub returns-in_err-put_entry-clause-text : goal.returns-in_err-put_entry-clause-text
unfolding trace_lines
returns-in_err-put_entry-clause-text g c =
    let place = c.loop-place.place in
    let entry = c.index-entries-place.result in
    let run = c.args.self.now.run.now in
    let same : c.deref-entries.result.now ≡ run.entries = c.deref-entries.ensures.value ∙ ap (λ (r : RunView). r.entries) c.run.view_is in
    let span : StandBetween run.entries (length run.entries) c.args.channel c.span_of-first.result.0 c.span_of-first.result.1 =
    rw (c.span_of-first.ensures.first, c.span_of-first.ensures.end) (c.requires.spans c.args.channel c.span_of-first.ensures.known) in
    let mine : (entry.channel == c.args.channel) ≡ true = sym c.is_of.ensures ∙ c.if-is_of.true in
    Puts-next _ _ _ _ (own_lines c.args.self.now.job.now run c.args.channel c.args.silent) (enumerate_from 0 run.entries) place (place, entry)
    (here _ _ place entry same (inside _ _ _ _ _ place same span c.loop-place-test.true) c.index-entries-place.is)
    c.loop-place.invariant.text c.from_residual.ensures.0
    (rw (own c.args.self.now.job.now run c.args.channel c.args.silent place entry mine) c.in_err-put_entry.ensures.text)

pub loop-place-preserved : goal.loop-place-preserved
loop-place-preserved g c =
    let place = c.loop-place.place in
    let entry = c.index-entries-place.result in
    let run = c.args.self.now.run.now in
    let lines = own_lines c.args.self.now.job.now run c.args.channel c.args.silent in
    let row = enumerate_from 0 run.entries in
    let same : c.deref-entries.result.now ≡ run.entries = c.deref-entries.ensures.value ∙ ap (λ (r : RunView). r.entries) c.run.view_is in
    let span : StandBetween run.entries (length run.entries) c.args.channel c.span_of-first.result.0 c.span_of-first.result.1 =
    rw (c.span_of-first.ensures.first, c.span_of-first.ensures.end) (c.requires.spans c.args.channel c.span_of-first.ensures.known) in
    let at : Stands row place (place, entry) =
    here _ _ place entry same (inside _ _ _ _ _ place same span c.loop-place-test.true) c.index-entries-place.is in
    elim c.if-is_of.branch [
      | then-is_of+in_ok-put_entry w ↦ record {
        text = rw (w.page-is, w.sink-is) (Prints-next _ _ _ lines row place (place, entry) at c.loop-place.invariant.text
            (rw (own c.args.self.now.job.now run c.args.channel c.args.silent place entry (sym c.is_of.ensures ∙ w.if-is_of.true)) w.in_ok-put_entry.ensures.text));
        faults = rw w.sink-is (w.in_ok-put_entry.ensures.cause ∙ c.loop-place.invariant.faults);
      }
      | else-is_of w ↦ record {
        text = rw (
          w.page-is,
          w.sink-is,
          flat_map-next lines row place (place, entry) at,
          foreign c.args.self.now.job.now run c.args.channel c.args.silent place entry (sym c.is_of.ensures ∙ w.if-is_of.false),
          append-nil,
        ) c.loop-place.invariant.text;
        faults = rw w.sink-is c.loop-place.invariant.faults;
      }
    ]

pub returns-clause-text : goal.returns-clause-text
unfolding trace_lines
returns-clause-text g c =
    let run = c.args.self.now.run.now in
    let lines = own_lines c.args.self.now.job.now run c.args.channel c.args.silent in
    let row = enumerate_from 0 run.entries in
    let span : StandBetween run.entries (length run.entries) c.args.channel c.span_of-first.result.0 c.span_of-first.result.1 =
    rw (c.span_of-first.ensures.first, c.span_of-first.ensures.end) (c.requires.spans c.args.channel c.span_of-first.ensures.known) in
    let last : c.loop-place.place ≡ c.span_of-first.result.1 = le_antisymm (c.loop-place.auto.place-end span.ordered) c.loop-place-test.false in
    let all : flat_map lines (take c.loop-place.place row) ≡ flat_map lines row =
    ap (λ (n : ℕ). flat_map lines (take n row)) last
    ∙ all_before lines run.entries c.args.channel _ _ (foreign c.args.self.now.job.now run c.args.channel c.args.silent) span in
    rw all at c.loop-place.invariant.text
