-- The line that was begun is the last one, and lacks its line feed.
use Rattle.std.proofs.Common.{◌≡◌, true, false, subst, rules, arith}
use Rattle.std.proofs.lemmas.Result.{err_from_is_err_and}
use Rattle.tape_job.specs.Read.{GivesRead}
use Rattle.tape_job.proofs.PieceLemmas.{last_alike, last_fails, last_taken, none_begun}
use Rattle.tape_job.proofs.piece_reader.PieceReader.finish.Goals as goal

pub returns-then-not-begun-clause-exact : goal.returns-then-not-begun-clause-exact
returns-then-not-begun-clause-exact c =
    let none : c.args.self.begun ≡ false = search rules in
    subst (GivesRead c.finish.result) (none_begun c.args.self none) c.finish.ensures.exact

pub returns-in_err-line-clause-exact : goal.returns-in_err-line-clause-exact
returns-in_err-line-clause-exact c =
    let begun : c.args.self.begun ≡ true = search rules in
    let alike = last_alike c.args.self.begun c.args.self.cutter c.line.result.now begun c.requires.ready.holds c.line.ensures in
    let p = err_from_is_err_and c.from_residual.result c.from_residual.ensures.1 in
    rw (p.1, p.2) (last_fails c.args.self c.in_err-line.field-0.0 c.line-2.new.self c.requires.ready begun (c.in_err-line.ensures.exact c.args.self.cutter.front alike))

pub finish-requires-2-clause-in_order : goal.finish-requires-2-clause-in_order
finish-requires-2-clause-in_order c =
    let begun : c.args.self.begun ≡ true = search rules in
    let alike = last_alike c.args.self.begun c.args.self.cutter c.line.result.now begun c.requires.ready.holds c.line.ensures in
    (c.in_ok-line.ensures.exact c.args.self.cutter.front alike).0

pub finish-requires-2-clause-room : goal.finish-requires-2-clause-room
finish-requires-2-clause-room c =
    let begun : c.args.self.begun ≡ true = search rules in
    let alike = last_alike c.args.self.begun c.args.self.cutter c.line.result.now begun c.requires.ready.holds c.line.ensures in
    let number = (c.in_ok-line.ensures.exact c.args.self.cutter.front alike).1 in
    omega (arith, number, c.requires.room)

pub returns-clause-exact : goal.returns-clause-exact
returns-clause-exact c =
    let begun : c.args.self.begun ≡ true = search rules in
    let alike = last_alike c.args.self.begun c.args.self.cutter c.line.result.now begun c.requires.ready.holds c.line.ensures in
    subst (GivesRead c.finish-2.result) (last_taken c.args.self c.line-2.new.self c.requires.ready begun (c.in_ok-line.ensures.exact c.args.self.cutter.front alike)) c.finish-2.ensures.exact
