use Rattle.std.proofs.Common.{rules, ◌≡◌, ◌∙◌, ◌++◌, ◌∷◌, [], ℕ, ℤ, true, false, List, All, Some, sym, subst, w64}
use Rattle.std.specs.List.{Any}
use Rattle.std.specs.Prelude.{IfSome}
use Rattle.std.proofs.lemmas.Int.{to_z-of_z}
use mir.Val.{SFits}
use Rattle.explain_reach.specs.Lots.{IsGreatest, is_over, reaches}
use Rattle.zone_stretches.specs.Overlaps.{Pair}
use Rattle.zone_stretches.specs.Pieces.{piece_boxes}
use Rattle.swept_boxes.specs.declared.Box3.{Box3}
use Rattle.explain_meetings.proofs.NearestLaws.{IsOne, kept_by_row, nearest_more, parts_are}
use Rattle.zone_stretches.specs.Cases.{place_of}
use Rattle.explain_meetings.specs.Nearest.{AreNearest, groups_of, pair_reaches}
use Rattle.explain_meetings.specs.NearSteps.{is_as_near}
use Rattle.explain_meetings.specs.declared.nearest.Near.{Near}
use Rattle.explain_meetings.proofs.nearest.look_by_pieces.Goals as goal

pub returns-in_ok-put : goal.returns-in_ok-put
returns-in_ok-put c job run seen by_pieces others are =
    let pair : Pair = (place_of c.args.two.now.left.now.zone.now c.args.two.now.left.now.stretch.now c.args.own.now.whole.now, place_of c.args.two.now.right.now.zone.now c.args.two.now.right.now.stretch.now c.args.later.now.whole.now) in
    let far : SFits w64 c.in-Some.reach = search rules in
    let reach : c.near_of-near.result.reach ≡ c.in-Some.reach = c.near_of-near.ensures.reach ∙ to_z-of_z w64 c.in-Some.reach far in
    let own : IsGreatest (Some c.near_of-near.result.reach) (pair_reaches job run pair) =
    subst (λ (n : ℤ). IsGreatest (Some n) (pair_reaches job run pair)) (sym reach)
    (subst (λ (xs : List Box3). IsGreatest (Some c.in-Some.reach) (reaches xs (piece_boxes job run pair.1))) by_pieces
    (subst (λ (ys : List Box3). IsGreatest (Some c.in-Some.reach) (reaches c.args.own.now.pieces.now ys)) others c.in-Some.ensures.0)) in
    let one : IsOne job run pair c.near_of-near.result =
    record { groups = c.near_of-near.ensures.groups; left = c.near_of-near.ensures.left; right = c.near_of-near.ensures.right; own = own } in
    subst (λ (rows : List Near). AreNearest job run (seen ++ pair ∷ []) rows) (sym c.in_ok-put.ensures)
    (nearest_more job run seen pair c.near_of-near.result one c.args.rows.now.items are)

pub returns-in_default : goal.returns-in_default
returns-in_default c job run seen by_pieces others are =
    let pair : Pair = (place_of c.args.two.now.left.now.zone.now c.args.two.now.left.now.stretch.now c.args.own.now.whole.now, place_of c.args.two.now.right.now.zone.now c.args.two.now.right.now.stretch.now c.args.later.now.whole.now) in
    let none : All (λ reach. is_over c.reach_in-so_far.result reach ≡ false) (pair_reaches job run pair) =
    subst (λ (xs : List Box3). All (λ reach. is_over c.reach_in-so_far.result reach ≡ false) (reaches xs (piece_boxes job run pair.1))) by_pieces
    (subst (λ (ys : List Box3). All (λ reach. is_over c.reach_in-so_far.result reach ≡ false) (reaches c.args.own.now.pieces.now ys)) others c.in_default.ensures) in
    let groups : c.groups_of.result ≡ groups_of pair = parts_are c.groups_of.result (groups_of pair).0 (groups_of pair).1 c.groups_of.ensures.low c.groups_of.ensures.high in
    let row : IfSome c.reach_in-so_far.result (λ n. Any (λ row. is_as_near (groups_of pair) n row ≡ true) c.args.rows.now.items) =
    subst (λ (g : ℕ × ℕ). IfSome c.reach_in-so_far.result (λ n. Any (λ row. is_as_near g n row ≡ true) c.args.rows.now.items)) groups
    (subst (λ (rows : List Near). IfSome c.reach_in-so_far.result (λ n. Any (λ row. is_as_near c.groups_of.result n row ≡ true) rows)) c.as_slice.ensures.value c.reach_in-so_far.ensures) in
    kept_by_row job run seen pair c.args.rows.now.items c.reach_in-so_far.result row none are
