use Rattle.std.proofs.Common.{◌≡◌, ◌∙◌, ◌++◌, List, [], ap, sym, subst, add-one, append_assoc}
use Rattle.std.proofs.lemmas.List.{append-nil, get_or_default}
use Rattle.order_clocks.specs.Clocked.{moves_in}
use Rattle.order_clocks.specs.Happenings.{happening_at}
use Rattle.protection_zones.specs.Logs.{IsLog}
use Rattle.protection_zones.specs.Notes.{entry_in, no_entry, read_step}
use Rattle.zone_stretches.specs.Occurrences.{OccurrenceView, occurrences_in}
use Rattle.protection_zones.proofs.NoteLaws.{occurrences_first, occurrences_next, occurrences_past, step_told}
use Rattle.protection_zones.proofs.logs.log_of.Goals as goal
use Rattle.sync_types.specs.Views.{EntryView}

pub loop-place-init : goal.loop-place-init
loop-place-init c = record {
  reader = c.new-reader.ensures;
  log = λ b whole. ([], occurrences_first c.args.entries.now b, c.in_ok-log.ensures);
}

pub add_step-requires : goal.add_step-requires
add_step-requires c =
    let before = c.loop-place.invariant.log c.requires.whole.0 c.requires.whole.1 in
    (c.args.job.now, before.0, before.2)

pub loop-place-preserved : goal.loop-place-preserved
loop-place-preserved c = record {
  reader = λ b whole. rw add-one (c.next-read.ensures.next b (c.loop-place.invariant.reader b whole));
  log = λ b whole.
      let es : List EntryView = c.args.entries.now in
      let i = c.loop-place.place in
      let at = c.loop-place.invariant.reader b whole in
      let told = step_told b es i c.next-read.result c.loop-place-test.true at.entries (c.next-read.ensures.read b at) in
      let here : entry_in es i ≡ c.index-entries-place.result = get_or_default es i no_entry c.index-entries-place.result c.loop-place-test.true ∙ sym c.index-entries-place.is in
      let before = c.loop-place.invariant.log b whole in
      let step : List OccurrenceView = occurrences_in i (entry_in es i).step (happening_at b (moves_in es) i) in (
        before.0 ++ step,
        rw add-one (append_assoc before.0 step _ ∙ (ap (λ (rest : List OccurrenceView). before.0 ++ rest) (sym (occurrences_next es b i i c.loop-place-test.true)) ∙ before.1)),
        subst (λ (some : List OccurrenceView). IsLog c.args.job.now (before.0 ++ some) c.add_step.new.log) (ap (read_step i c.next-read.result) (sym here) ∙ told) (c.in_ok-add_step.ensures c.args.job.now before.0 before.2),
      );
}

pub returns : goal.returns
returns c = λ b whole.
    let es : List EntryView = c.args.entries.now in
    let done = c.loop-place.invariant.log b whole in
    let all = sym (append-nil done.0) ∙ rw (occurrences_past es b c.loop-place.place c.loop-place-test.false) at done.1 in
    subst (λ (os : List OccurrenceView). IsLog c.args.job.now os c.loop-place.log) all done.2
