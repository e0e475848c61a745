use Rattle.std.proofs.Common.{rules, ◌≡◌, ◌∙◌, ℤ, refl, subst, w32, w64}
use Rattle.std.specs.Prelude.{pos, ◌+ℤ◌, ◌*ℤ◌, ◌≤ℤ◌, ◌<ℤ◌}
use Rattle.std.proofs.lemmas.Int.{to_z-of_z}
use mir.Val.{to_z, of_z, SFits}
use Rattle.explain_clashes.proofs.MarginLaws.{apart_sum, most_sum}
use Rattle.explain_clashes.proofs.clashes.left_margin.Goals as goal

pub returns-clause-apart : goal.returns-clause-apart
returns-clause-apart c =
    let fits_margin : SFits w32 c.args.margin = search rules in
    let given : to_z w32 (of_z w32 c.args.margin) ≡ c.args.margin = to_z-of_z w32 c.args.margin fits_margin in
    let fits_reach : SFits w64 c.args.reach = search rules in
    let reach : to_z w64 (of_z w64 c.args.reach) ≡ c.args.reach = to_z-of_z w64 c.args.reach fits_reach in
    let fits_one : SFits w64 c.from.result = search rules in
    let one : to_z w64 (of_z w64 c.from.result) ≡ c.args.margin = to_z-of_z w64 c.from.result fits_one ∙ c.from.ensures ∙ given in
    let fits_room : SFits w64 c.room_of-room.result = search rules in
    let room : to_z w64 (of_z w64 c.room_of-room.result) ≡ c.room_of-room.result = to_z-of_z w64 c.room_of-room.result fits_room in
    let fits_sum : SFits w64 (to_z w64 (of_z w64 c.from.result) +ℤ to_z w64 (of_z w64 c.room_of-room.result)) = search rules in
    let sum : to_z w64 (of_z w64 (to_z w64 (of_z w64 c.from.result) +ℤ to_z w64 (of_z w64 c.room_of-room.result))) ≡ c.args.margin +ℤ c.room_of-room.result =
    to_z-of_z w64 _ fits_sum ∙ rw (one, room) refl in
    rw sum (apart_sum c.args.margin c.room_of-room.result c.args.reach (subst (λ (n : ℤ). (n +ℤ (c.room_of-room.result *ℤ pos 2)) <ℤ pos 0) reach c.room_of-room.ensures.apart))

pub returns-clause-most : goal.returns-clause-most
returns-clause-most c =
    let fits_margin : SFits w32 c.args.margin = search rules in
    let given : to_z w32 (of_z w32 c.args.margin) ≡ c.args.margin = to_z-of_z w32 c.args.margin fits_margin in
    let fits_reach : SFits w64 c.args.reach = search rules in
    let reach : to_z w64 (of_z w64 c.args.reach) ≡ c.args.reach = to_z-of_z w64 c.args.reach fits_reach in
    let fits_one : SFits w64 c.from.result = search rules in
    let one : to_z w64 (of_z w64 c.from.result) ≡ c.args.margin = to_z-of_z w64 c.from.result fits_one ∙ c.from.ensures ∙ given in
    let fits_room : SFits w64 c.room_of-room.result = search rules in
    let room : to_z w64 (of_z w64 c.room_of-room.result) ≡ c.room_of-room.result = to_z-of_z w64 c.room_of-room.result fits_room in
    let fits_sum : SFits w64 (to_z w64 (of_z w64 c.from.result) +ℤ to_z w64 (of_z w64 c.room_of-room.result)) = search rules in
    let sum : to_z w64 (of_z w64 (to_z w64 (of_z w64 c.from.result) +ℤ to_z w64 (of_z w64 c.room_of-room.result))) ≡ c.args.margin +ℤ c.room_of-room.result =
    to_z-of_z w64 _ fits_sum ∙ rw (one, room) refl in
    rw sum (most_sum c.args.margin c.room_of-room.result c.args.reach (subst (λ (n : ℤ). pos 0 ≤ℤ (n +ℤ ((c.room_of-room.result +ℤ pos 1) *ℤ pos 2))) reach c.room_of-room.ensures.most))
