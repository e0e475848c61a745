use Rattle.std.proofs.Common.{◌≡◌, ◌∙◌, false, List, [], ◌∷◌, sym, ap}
use Rattle.explain_meetings.proofs.CoverLaws.{part_left}
use Rattle.explain_meetings.proofs.NearestLaws.{passed_one}
use Rattle.explain_meetings.specs.NearSteps.{may_be_nearer}
use Rattle.explain_meetings.specs.declared.nearest.Near.{Near}
use Rattle.zone_stretches.specs.Cases.{place_of}
use Rattle.zone_stretches.specs.InCovers.{IsInCover}
use Rattle.zone_stretches.specs.Overlaps.{Pair}
use Rattle.explain_meetings.proofs.nearest.look_near.Goals as goal

pub returns-in_ok-look-clause-near : goal.returns-in_ok-look-clause-near
returns-in_ok-look-clause-near c seen so_far covers =
    let pair : Pair = (place_of c.args.two.now.left.now.zone.now c.args.two.now.left.now.stretch.now c.args.own.now.whole.now, place_of c.args.two.now.right.now.zone.now c.args.two.now.right.now.stretch.now c.args.later.now.whole.now) in
    c.in_ok-look.ensures.near seen (so_far (part_left (λ (p : Pair). IsInCover c.args.two.now.scene.now.job.now c.args.two.now.scene.now.run.now p.0 × IsInCover c.args.two.now.scene.now.job.now c.args.two.now.scene.now.run.now p.1) seen (pair ∷ []) covers))

pub returns-else-may_be_nearer-clause-near : goal.returns-else-may_be_nearer-clause-near
returns-else-may_be_nearer-clause-near c seen so_far =
    let pair : Pair = (place_of c.args.two.now.left.now.zone.now c.args.two.now.left.now.stretch.now c.args.own.now.whole.now, place_of c.args.two.now.right.now.zone.now c.args.two.now.right.now.stretch.now c.args.later.now.whole.now) in
    let off : may_be_nearer c.args.rows.now.items pair ≡ false =
    ap (λ (rows : List Near). may_be_nearer rows pair) (sym c.as_slice.ensures.value) ∙ sym c.may_be_nearer.ensures ∙ c.if-may_be_nearer.false in
    passed_one c.args.two.now.scene.now.job.now c.args.two.now.scene.now.run.now seen pair c.args.rows.now.items off so_far
