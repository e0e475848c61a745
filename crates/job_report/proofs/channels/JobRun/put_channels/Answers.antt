use Rattle.std.proofs.Common.{◌≡◌, ◌∙◌, ◌<◌, ℕ, List, length, get_or}
use Rattle.std.proofs.lemmas.List.{take_all}
use Rattle.std.proofs.lemmas.List.FromFn.{length-enumerate_from}
use Rattle.std.specs.List.{enumerate_from}
use Rattle.job_report.specs.Channels.{channels_of}
use Rattle.job_report.specs.Report.{all_lines, lines_at}
use Rattle.job_report.proofs.PageLemmas.{Prints-next, Puts-next}
use Rattle.job_report.proofs.RowLemmas.{Stands, Stands-numbered}
use Rattle.job_report.proofs.channels.JobRun.put_channels.Goals as goal

-- a channel stands at its place among the numbered ones of the job
here : (channels others : List ℕ) (place channel : ℕ) → channels ≡ others → place < length channels → channel ≡ get_or channels place channel
    → Stands (enumerate_from 0 others) place (place, channel)
here channels others place channel same within is = Stands-numbered others place channel (rw same at within) (rw same at is)

pub returns-in_err-put_channel_at-clause-text : goal.returns-in_err-put_channel_at-clause-text
unfolding all_lines
returns-in_err-put_channel_at-clause-text g c =
    let place = c.loop-place.place in
    Puts-next _ _ _ _ (lines_at c.args.self.now.job.now c.args.self.now.run.now) (enumerate_from 0 (channels_of c.args.self.now.job.now)) place (place, c.channel-item.result)
    (here _ _ place c.channel-item.result (c.as_slice-channel-items.ensures.value ∙ c.channels_of-channels.ensures) c.loop-place-test.true c.channel-item.is)
    c.loop-place.invariant.text c.from_residual.ensures.0 c.in_err-put_channel_at.ensures.text

pub loop-place-preserved : goal.loop-place-preserved
loop-place-preserved g c =
    let place = c.loop-place.place in
    record {
      text = Prints-next _ _ _ (lines_at c.args.self.now.job.now c.args.self.now.run.now) (enumerate_from 0 (channels_of c.args.self.now.job.now)) place (place, c.channel-item.result)
          (here _ _ place c.channel-item.result (c.as_slice-channel-items.ensures.value ∙ c.channels_of-channels.ensures) c.loop-place-test.true c.channel-item.is)
          c.loop-place.invariant.text c.in_ok-put_channel_at.ensures.text;
      faults = c.in_ok-put_channel_at.ensures.cause ∙ c.loop-place.invariant.faults;
    }

pub returns-clause-text : goal.returns-clause-text
unfolding all_lines
returns-clause-text g c =
    let same : c.as_slice-channel-items.result.now ≡ channels_of c.args.self.now.job.now = c.as_slice-channel-items.ensures.value ∙ c.channels_of-channels.ensures in
    rw (take_all c.loop-place.place (enumerate_from 0 (channels_of c.args.self.now.job.now)) (rw (length-enumerate_from, ← same) c.loop-place-test.false)) at c.loop-place.invariant.text
