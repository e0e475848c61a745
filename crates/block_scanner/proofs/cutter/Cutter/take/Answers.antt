-- The first bytes of the piece go to the line that was begun, or to a new one.
use Rattle.std.proofs.Common.{◌≡◌, ◌∙◌, [], ℕ, List, Bool, true, false, true≢false, sym, ap}
use Rattle.block_scanner.specs.LineParts.{LinePart, part_of}
use Rattle.block_scanner.proofs.LinePartLaws.{part_ended}
use Rattle.block_scanner.proofs.cutter.Cutter.take.Goals as goal
use Rattle.block_scanner.proofs.cutter.Cutter.take.Goals.{then-self, else-self}

pub returns-clause-goes_on : goal.returns-clause-goes_on
returns-clause-goes_on c = λ raw is.
    let ended : c.self.inside.ended ≡ false = ap (λ (p : LinePart). p.ended) (c.self.view_is ∙ is) ∙ part_ended raw false in
    let same : c.if-self.self ≡ c.args.self.now =
    elim c.if-self.branch [ then-self w ↦ absurd (true≢false (sym w.if-self.true ∙ ended)) | else-self w ↦ w.self-is ] in
    c.keep.ensures raw (same ∙ is)

pub returns-clause-begins : goal.returns-clause-begins
returns-clause-begins c = λ raw is.
    let ended : c.self.inside.ended ≡ true = ap (λ (p : LinePart). p.ended) (c.self.view_is ∙ is) ∙ part_ended raw true in
    let new : c.if-self.self ≡ part_of [] false =
    elim c.if-self.branch [ then-self w ↦ w.self-is ∙ w.begin.ensures | else-self w ↦ absurd (true≢false (sym ended ∙ w.if-self.false)) ] in
    c.keep.ensures [] new
