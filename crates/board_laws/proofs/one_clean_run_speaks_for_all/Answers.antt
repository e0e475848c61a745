-- One result for all runs.
use Rattle.board_laws.proofs.OneResult.{one_result}
use Rattle.board_laws.proofs.one_clean_run_speaks_for_all.Goals as goal

pub returns : goal.returns
returns c = λ script x z ps vs rests whole run.
    let r = one_result script x z ps vs rests whole run in
    record { clean = r.0; rest = r.1.0; steps = r.1.1.0; whole = r.1.1.1 }
