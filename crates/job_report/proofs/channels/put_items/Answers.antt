use Rattle.std.proofs.Common.{◌∙◌, sym}
use Rattle.job_report.specs.Motions.{item_line}
use Rattle.job_report.proofs.PageLemmas.{Prints-next, Puts-next}
use Rattle.job_report.proofs.channels.put_items.Goals as goal

pub returns-in_err-put_item-clause-text : goal.returns-in_err-put_item-clause-text
returns-in_err-put_item-clause-text g c =
    Puts-next _ _ _ _ (item_line c.args.job.now) c.args.items.now c.loop-item.item-index c.item-item.result
    (record { within = c.loop-item-test.true; there = sym c.item-item.is })
    c.loop-item.invariant.text c.from_residual.ensures.0 c.in_err-put_item.ensures.text

pub loop-item-preserved : goal.loop-item-preserved
loop-item-preserved g c = record {
  text = Prints-next _ _ _ (item_line c.args.job.now) c.args.items.now c.loop-item.item-index c.item-item.result
      (record { within = c.loop-item-test.true; there = sym c.item-item.is })
      c.loop-item.invariant.text c.in_ok-put_item.ensures.text;
  faults = c.in_ok-put_item.ensures.cause ∙ c.loop-item.invariant.faults;
}
