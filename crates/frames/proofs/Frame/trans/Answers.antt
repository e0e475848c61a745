use Rattle.std.proofs.Common.{[]}
use Rattle.std.proofs.lemmas.Result.{err_from_is_err_and}
use Rattle.frames.proofs.Frame.trans.Goals as goal

pub returns-in_err-self-clause-adds : goal.returns-in_err-self-clause-adds
returns-in_err-self-clause-adds c =
    let p = err_from_is_err_and c.from_residual.result c.from_residual.ensures.1 in
    rw (p.1, p.2) (c.in_err-self.ensures [] c.empty.ensures)
