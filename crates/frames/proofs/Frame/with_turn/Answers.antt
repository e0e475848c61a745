use Rattle.std.proofs.Common.{ℤ, Option, sym, subst}
use Rattle.frames.specs.Composition.{IsExtended, turns}
use Rattle.frames.proofs.TurnLaws.{nothing-extended}
use Rattle.frames.proofs.Frame.with_turn.Goals as goal

pub returns-in-None : goal.returns-in-None
returns-in-None c chain h =
    subst (λ (o : Option ℤ). IsExtended chain (turns c.args.plane o) c.args.self.now) (sym c.in-None.is)
    (nothing-extended chain c.args.self.now h)
