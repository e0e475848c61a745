use Rattle.std.proofs.Common.{◌≡◌, ◌∙◌, ◌||◌, not, Bool, true, false, cond, List, [], ◌∷◌, ◌++◌, sym, ap, subst}
use Rattle.std.proofs.lemmas.List.{append-nil}
use Rattle.explain_meetings.specs.NearSteps.{AreNearestSoFar, pair_where}
use Rattle.zone_stretches.specs.Cases.{place_of}
use Rattle.zone_stretches.specs.Overlaps.{Pair, are_compared, share_place}
use Rattle.explain_meetings.proofs.nearest.look_at.Goals as goal

pub returns-in_ok-look_near-clause-near : goal.returns-in_ok-look_near-clause-near
unfolding pair_where
returns-in_ok-look_near-clause-near c seen are =
    let pair : Pair = (place_of c.args.two.now.left.now.zone.now c.args.two.now.left.now.stretch.now c.args.own.now.whole.now, place_of c.args.two.now.right.now.zone.now c.args.two.now.right.now.stretch.now c.args.later.now.whole.now) in
    let on : are_compared c.args.two.now.left.now.stretch.now c.args.two.now.right.now.stretch.now c.args.own.now.whole.now c.args.later.now.whole.now ≡ true =
    ap (λ (b : Bool). not b || share_place c.args.own.now.whole.now c.args.later.now.whole.now) (sym c.share_channel.ensures) ∙ sym c.are_compared.ensures ∙ c.if-are_compared.true in
    subst (λ (b : Bool). AreNearestSoFar c.args.two.now.scene.now.job.now c.args.two.now.scene.now.run.now (seen ++ cond b (pair ∷ []) []) c.look_near.new.rows.items) (sym on) (c.in_ok-look_near.ensures.near seen are)

pub returns-else-are_compared-clause-near : goal.returns-else-are_compared-clause-near
unfolding pair_where
returns-else-are_compared-clause-near c seen are =
    let pair : Pair = (place_of c.args.two.now.left.now.zone.now c.args.two.now.left.now.stretch.now c.args.own.now.whole.now, place_of c.args.two.now.right.now.zone.now c.args.two.now.right.now.stretch.now c.args.later.now.whole.now) in
    let off : are_compared c.args.two.now.left.now.stretch.now c.args.two.now.right.now.stretch.now c.args.own.now.whole.now c.args.later.now.whole.now ≡ false =
    ap (λ (b : Bool). not b || share_place c.args.own.now.whole.now c.args.later.now.whole.now) (sym c.share_channel.ensures) ∙ sym c.are_compared.ensures ∙ c.if-are_compared.false in
    subst (λ (b : Bool). AreNearestSoFar c.args.two.now.scene.now.job.now c.args.two.now.scene.now.run.now (seen ++ cond b (pair ∷ []) []) c.args.rows.now.items) (sym off)
    (subst (λ (ps : List Pair). AreNearestSoFar c.args.two.now.scene.now.job.now c.args.two.now.scene.now.run.now ps c.args.rows.now.items) (sym (append-nil seen)) are)
