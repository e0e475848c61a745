use Rattle.std.proofs.Common.{ℕ, ap, sym, ◌∙◌, subst, w64}
use Rattle.std.proofs.lemmas.Int.{to_z-of_z}
use Rattle.frames.specs.Maps.{quarters_in}
use Rattle.frames.specs.Faults.{is_square_angle}
use Rattle.frames.specs.Turns.{IsTurned}
use Rattle.frames.proofs.TurnLaws.{turn-extended}
use Rattle.frames.proofs.Frame.turned_by.Goals as goal

pub returns : goal.returns
returns c chain h =
    let same = to_z-of_z w64 c.args.angle c.ranges.angle in
    let quarters = c.quarters_in.ensures.value ∙ ap quarters_in same in
    turn-extended chain c.args.self.now c.turned.result c.args.plane c.args.angle h
    (subst (λ (n : ℕ). IsTurned c.args.self.now c.args.plane n c.turned.result) quarters c.turned.ensures)
    (sym (c.is_square.ensures ∙ ap is_square_angle same) ∙ c.if-not-is_square.false)
