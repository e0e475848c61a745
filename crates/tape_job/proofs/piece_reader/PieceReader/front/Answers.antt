-- No line was begun, and the first one lies whole in the piece.
use Rattle.std.proofs.Common.{◌++◌, take, subst}
use Rattle.std.proofs.lemmas.Result.{err_from_is_err_and}
use Rattle.tape_job.specs.Pieces.{HoldsLine, begun_line}
use Rattle.tape_job.proofs.LineLemmas.{ends_first}
use Rattle.tape_job.proofs.PieceLemmas.{alike_same, line_fails, line_taken, none_before}
use Rattle.tape_job.proofs.piece_reader.PieceReader.front.Goals as goal

pub returns-in_err-line-in-Some-clause-exact : goal.returns-in_err-line-in-Some-clause-exact
returns-in_err-line-in-Some-clause-exact c =
    let line = begun_line c.args.self.now ++ take c.in-Some.length c.args.piece.now in
    let alike = alike_same line (take c.in-Some.length c.args.piece.now) (none_before c.args.self.now (take c.in-Some.length c.args.piece.now) c.if-self.false) in
    let p = err_from_is_err_and c.from_residual.result c.from_residual.ensures.1 in
    rw (p.1, p.2) (line_fails c.args.self.now _ c.args.piece.now c.in-Some.length c.in_err-line-in-Some.field-0.0 c.line.new.self c.requires.ready
    (ends_first c.in-Some.length c.args.piece.now c.in-Some.ensures.first) (c.in_err-line-in-Some.ensures.exact line alike))

pub returns-in_ok-line-in-Some-clause-exact : goal.returns-in_ok-line-in-Some-clause-exact
returns-in_ok-line-in-Some-clause-exact c =
    let line = begun_line c.args.self.now ++ take c.in-Some.length c.args.piece.now in
    let alike = alike_same line (take c.in-Some.length c.args.piece.now) (none_before c.args.self.now (take c.in-Some.length c.args.piece.now) c.if-self.false) in
    line_taken c.args.self.now _ c.args.piece.now c.in-Some.length c.requires.ready (ends_first c.in-Some.length c.args.piece.now c.in-Some.ensures.first)
    (c.in_ok-line-in-Some.ensures.exact line alike) (subst (λ b. HoldsLine b c.args.self.now.cutter) c.if-self.false c.requires.ready.holds) c.if-self.false
