use Rattle.std.proofs.Common.{◌≡◌, ◌∙◌, ℕ, ◌==◌, true, false, Some, None, sym, ap, refl}
use Rattle.std.proofs.lemmas.List.{take_all}
use Rattle.std.proofs.lemmas.List.FromFn.{length-enumerate_from}
use Rattle.std.specs.List.{enumerate_from, filter_map, last_or}
use Rattle.job_report.specs.Channels.{last_place, own_place}
use Rattle.job_report.proofs.RowLemmas.{Stands, Stands-numbered, last-taken, last-passed}
use Rattle.job_report.proofs.channels.last_place.Goals as goal
use Rattle.job_report.proofs.channels.last_place.Goals.{then-is_of, else-is_of}
use Rattle.sync_types.specs.Views.{EntryView}

own : (channel place : ℕ) (entry : EntryView) → (entry.channel == channel) ≡ true → own_place channel (place, entry) ≡ Some place
own channel place entry is = rw is refl

foreign : (channel place : ℕ) (entry : EntryView) → (entry.channel == channel) ≡ false → own_place channel (place, entry) ≡ None
foreign channel place entry is = rw is refl

pub loop-place-preserved : goal.loop-place-preserved
loop-place-preserved c =
    let entry = c.index-entries-place.result in
    let place = c.loop-place.place in
    let test = own_place c.args.channel in
    let row = enumerate_from 0 c.args.entries.now in
    let at : Stands row place (place, entry) = Stands-numbered c.args.entries.now place entry c.loop-place-test.true c.index-entries-place.is in
    elim c.if-is_of.branch [
      | then-is_of w ↦ w.last-is ∙ sym (last-taken test row place (place, entry) place at (own c.args.channel place entry (sym c.is_of.ensures ∙ w.if-is_of.true)))
      | else-is_of w ↦ w.last-is ∙ c.loop-place.invariant
          ∙ sym (last-passed test row place (place, entry) at (foreign c.args.channel place entry (sym c.is_of.ensures ∙ w.if-is_of.false)))
    ]

pub returns : goal.returns
unfolding last_place
returns c =
    c.loop-place.invariant
    ∙ ap (λ (row : _). last_or None (filter_map (own_place c.args.channel) row))
    (take_all c.loop-place.place (enumerate_from 0 c.args.entries.now) (rw length-enumerate_from c.loop-place-test.false))
