use Rattle.std.proofs.Common.{◌≡◌, rules, ℤ, map, sym, subst, w64}
use Rattle.std.specs.Prelude.{pos, ◌+ℤ◌, ◌*ℤ◌, ◌<ℤ◌, ◌≤ℤ◌}
use Rattle.std.proofs.lemmas.Int.{to_z-of_z}
use mir.Val.{to_z, of_z, SFits}
use Rattle.explain_reach.specs.Lots.{DoLotsMeet}
use Rattle.explain_reach.specs.Shapes.{grown_box}
use Rattle.explain_reach.proofs.LotLaws.{grown_apart, grown_meet}
use Rattle.explain_reach.proofs.rooms.margin_room.Goals as goal

pub returns-in-Some-clause-apart : goal.returns-in-Some-clause-apart
returns-in-Some-clause-apart c =
    let fits : SFits w64 c.room_of.result = search rules in
    let far : SFits w64 c.in-Some.reach = search rules in
    let is : to_z w64 (of_z w64 c.room_of.result) ≡ c.room_of.result = to_z-of_z w64 c.room_of.result fits in
    let small : (c.in-Some.reach +ℤ (c.room_of.result *ℤ pos 2)) <ℤ pos 0 =
    subst (λ (n : ℤ). (n +ℤ (c.room_of.result *ℤ pos 2)) <ℤ pos 0) (to_z-of_z w64 c.in-Some.reach far) c.room_of.ensures.apart in
    subst (λ (g : ℤ). DoLotsMeet (map (grown_box g) c.args.left.now) (map (grown_box g) c.args.right.now) → ⊥) (sym is)
    (grown_apart c.args.left.now c.args.right.now c.in-Some.reach c.room_of.result c.in-Some.ensures.1 small)

pub returns-in-Some-clause-most : goal.returns-in-Some-clause-most
returns-in-Some-clause-most c more above own other =
    let fits : SFits w64 c.room_of.result = search rules in
    let far : SFits w64 c.in-Some.reach = search rules in
    let is : to_z w64 (of_z w64 c.room_of.result) ≡ c.room_of.result = to_z-of_z w64 c.room_of.result fits in
    let larger : c.room_of.result <ℤ more = subst (λ (g : ℤ). g <ℤ more) is above in
    let large : pos 0 ≤ℤ (c.in-Some.reach +ℤ ((c.room_of.result +ℤ pos 1) *ℤ pos 2)) =
    subst (λ (n : ℤ). pos 0 ≤ℤ (n +ℤ ((c.room_of.result +ℤ pos 1) *ℤ pos 2))) (to_z-of_z w64 c.in-Some.reach far) c.room_of.ensures.most in
    grown_meet c.args.left.now c.args.right.now c.in-Some.reach c.room_of.result more c.in-Some.ensures.0 large larger own other
