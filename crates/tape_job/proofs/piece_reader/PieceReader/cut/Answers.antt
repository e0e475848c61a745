-- The line goes on, or ends, or is too long.
use Rattle.std.proofs.Common.{◌≡◌, ◌∙◌, Bool, true, false, not, ◌++◌, take, ap, sym, inr, refl, rules}
use Rattle.std.proofs.lemmas.Result.{err_from_is_err_and}
use Rattle.block_scanner.specs.LineParts.{part_of}
use Rattle.tape_job.specs.Pieces.{begun_line}
use Rattle.tape_job.proofs.LineLemmas.{ends_first}
use Rattle.tape_job.proofs.PieceLemmas.{part_after, lacks_begun, cut_line, long_fails, line_begun, line_fails, line_taken}
use Rattle.tape_job.proofs.piece_reader.PieceReader.cut.Goals as goal

pub returns-then-too_long-clause-exact : goal.returns-then-too_long-clause-exact
returns-then-too_long-clause-exact c =
    let t = c.take-taken in
    let part = part_after c.args.self.now.begun c.args.self.now.cutter t.new.self c.args.piece.now t.result c.requires.ready.holds t.ensures.goes_on t.ensures.begins in
    long_fails c.args.self.now _ c.args.piece.now t.result.0 t.result.1 t.new.self c.line.result.now c.too_long-then-too_long.result c.requires.ready c.requires.some
    (sym t.ensures.first) part (sym c.too_long.ensures ∙ c.if-too_long.true) c.line.ensures c.too_long-then-too_long.ensures.exact

pub returns-then-not-ended-clause-exact : goal.returns-then-not-ended-clause-exact
returns-then-not-ended-clause-exact c =
    let t = c.take-taken in
    let part = part_after c.args.self.now.begun c.args.self.now.cutter t.new.self c.args.piece.now t.result c.requires.ready.holds t.ensures.goes_on t.ensures.begins in
    let goes : t.result.1 ≡ false = search rules in
    line_begun c.args.self.now _ c.args.piece.now t.result.0 c.requires.ready c.requires.some
    (sym t.ensures.first ∙ ap (λ (b : Bool). (t.result.0, b)) goes) (part ∙ ap (λ b. part_of (begun_line c.args.self.now ++ take t.result.0 c.args.piece.now) b) goes)
    (sym c.too_long.ensures ∙ c.if-too_long.false) refl (ap not goes)

pub returns-in_err-line-clause-exact : goal.returns-in_err-line-clause-exact
returns-in_err-line-clause-exact c =
    let t = c.take-taken in
    let part = part_after c.args.self.now.begun c.args.self.now.cutter t.new.self c.args.piece.now t.result c.requires.ready.holds t.ensures.goes_on t.ensures.begins in
    let ended : t.result.1 ≡ true = search rules in
    let ends = ends_first t.result.0 c.args.piece.now (sym t.ensures.first ∙ ap (λ (b : Bool). (t.result.0, b)) ended) in
    let whole = part ∙ ap (λ b. part_of (begun_line c.args.self.now ++ take t.result.0 c.args.piece.now) b) ended in
    let alike = cut_line (begun_line c.args.self.now) c.args.piece.now t.result.0 t.new.self c.line-2.result.now (lacks_begun c.args.self.now.begun c.args.self.now.cutter c.requires.ready.holds)
    ends whole (sym c.too_long.ensures ∙ c.if-too_long.false) c.line-2.ensures in
    let p = err_from_is_err_and c.from_residual.result c.from_residual.ensures.1 in
    rw (p.1, p.2) (line_fails c.args.self.now _ c.args.piece.now t.result.0 c.in_err-line.field-0.0 c.line-3.new.self c.requires.ready ends
    (c.in_err-line.ensures.exact (begun_line c.args.self.now ++ take t.result.0 c.args.piece.now) alike))

pub returns-clause-exact : goal.returns-clause-exact
returns-clause-exact c =
    let t = c.take-taken in
    let part = part_after c.args.self.now.begun c.args.self.now.cutter t.new.self c.args.piece.now t.result c.requires.ready.holds t.ensures.goes_on t.ensures.begins in
    let ended : t.result.1 ≡ true = search rules in
    let ends = ends_first t.result.0 c.args.piece.now (sym t.ensures.first ∙ ap (λ (b : Bool). (t.result.0, b)) ended) in
    let whole = part ∙ ap (λ b. part_of (begun_line c.args.self.now ++ take t.result.0 c.args.piece.now) b) ended in
    let alike = cut_line (begun_line c.args.self.now) c.args.piece.now t.result.0 t.new.self c.line-2.result.now (lacks_begun c.args.self.now.begun c.args.self.now.cutter c.requires.ready.holds)
    ends whole (sym c.too_long.ensures ∙ c.if-too_long.false) c.line-2.ensures in
    line_taken c.args.self.now _ c.args.piece.now t.result.0 c.requires.ready ends
    (c.in_ok-line.ensures.exact (begun_line c.args.self.now ++ take t.result.0 c.args.piece.now) alike)
    (inr (begun_line c.args.self.now ++ take t.result.0 c.args.piece.now, whole)) (ap not ended)
