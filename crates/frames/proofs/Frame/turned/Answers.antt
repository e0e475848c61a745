use Rattle.std.proofs.Common.{refl, sym, subst}
use Rattle.frames.specs.declared.Frame.{Frame}
use Rattle.frames.specs.declared.Plane.{Plane}
use Rattle.frames.specs.Turns.{IsTurned}
use Rattle.frames.proofs.TurnLaws.{turned-G17, turned-G18, turned-G19}
use Rattle.frames.proofs.Frame.turned.Goals as goal

pub returns-in-G17 : goal.returns-in-G17
returns-in-G17 c =
    let pair = c.turned_pair in
    let new : Frame = record { x = pair.result.0; y = pair.result.1; z = c.args.self.now.z } in
    subst (λ (p : Plane). IsTurned c.args.self.now p c.args.quarters new) (sym c.in-G17.is)
    (turned-G17 c.args.self.now new c.args.quarters c.requires pair.ensures.first pair.ensures.second refl)

pub returns-in-G18 : goal.returns-in-G18
returns-in-G18 c =
    let pair = c.turned_pair-in-G18 in
    let new : Frame = record { x = pair.result.1; y = c.args.self.now.y; z = pair.result.0 } in
    subst (λ (p : Plane). IsTurned c.args.self.now p c.args.quarters new) (sym c.in-G18.is)
    (turned-G18 c.args.self.now new c.args.quarters c.requires pair.ensures.first pair.ensures.second refl)

pub returns-in-G19 : goal.returns-in-G19
returns-in-G19 c =
    let pair = c.turned_pair-in-G19 in
    let new : Frame = record { x = c.args.self.now.x; y = pair.result.0; z = pair.result.1 } in
    subst (λ (p : Plane). IsTurned c.args.self.now p c.args.quarters new) (sym c.in-G19.is)
    (turned-G19 c.args.self.now new c.args.quarters c.requires pair.ensures.first pair.ensures.second refl)
