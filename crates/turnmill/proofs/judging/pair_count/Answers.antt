-- The pairs of a run are few.
use Rattle.clash_check.proofs.VerdictLaws.{few_pairs}
use Rattle.order_clocks.specs.Tells.{is_before_in}
use Rattle.turnmill.proofs.JudgeLemmas.{of_size}
use Rattle.turnmill.proofs.judging.pair_count.Goals as goal

pub count-requires : goal.count-requires
count-requires c =
    let judged = c.requires.judged in
    record {
      whole = (c.args.judgement.now.run, judged.told);
      few = few_pairs c.args.job.now c.args.judgement.now.run c.args.judgement.now.stretches c.args.judgement.now.clocks (is_before_in c.args.judgement.now.clocks.rows) judged.told
          (of_size c.args.job.now c.args.judgement.now.run c.requires.accepted judged.judged.maximal c.see_goes.ensures);
    }
