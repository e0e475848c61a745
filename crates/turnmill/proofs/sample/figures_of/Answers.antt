-- The figures are those of the run and the verdict.
use Rattle.product_run.proofs.JudgedRuns.{few_in_all}
use Rattle.turnmill.proofs.JudgeLemmas.{listed_ends}
use Rattle.turnmill.proofs.sample.figures_of.Goals as goal

pub report_length-requires : goal.report_length-requires
report_length-requires c = listed_ends c.args.job.now c.args.judgement.now.run c.requires.accepted c.requires.judged.judged.maximal

pub move_count-requires : goal.move_count-requires
move_count-requires c = few_in_all c.args.job.now c.args.judgement.now.run c.requires.accepted c.requires.judged.judged.maximal
