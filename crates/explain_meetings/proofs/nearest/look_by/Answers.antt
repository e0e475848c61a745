use Rattle.std.proofs.Common.{◌≡◌, ◌∙◌, ◌++◌, true, false, List, Option, sym, ap, subst}
use Rattle.explain_meetings.proofs.CoverLaws.{part_left}
use Rattle.explain_meetings.proofs.PassedLaws.{passed_again, passed_now, passed_stay}
use Rattle.zone_stretches.specs.Cases.{place_of}
use Rattle.explain_meetings.specs.Nearest.{AreNearest}
use Rattle.explain_meetings.specs.NearSteps.{pairs_by}
use Rattle.explain_meetings.specs.PassedOwns.{reaches_no_further}
use Rattle.path_geometry.specs.declared.motion.Motion.{Motion}
use Rattle.zone_stretches.specs.InCovers.{IsInCover}
use Rattle.zone_stretches.specs.Overlaps.{BoxPlace, Pair, share_channel}
use Rattle.zone_stretches.specs.Pieces.{motion_at}
use Rattle.zone_stretches.specs.Stretches.{StretchView}
use Rattle.explain_meetings.proofs.nearest.look_by.Goals as goal

pub returns-then-has-clause-near : goal.returns-then-has-clause-near
returns-then-has-clause-near c seen so_far covers =
    let left : BoxPlace = place_of c.args.two.now.left.now.zone.now c.args.two.now.left.now.stretch.now c.args.own.now in
    let new : List Pair = pairs_by c.args.two.now.right.now.zone.now c.args.two.now.right.now.stretch.now left in
    let before = so_far (part_left (λ (p : Pair). IsInCover c.args.two.now.scene.now.job.now c.args.two.now.scene.now.run.now p.0 × IsInCover c.args.two.now.scene.now.job.now c.args.two.now.scene.now.run.now p.1) seen new covers) in
    let on = c.has.ensures.passes c.if-has.true (reaches_no_further c.args.two.now.scene.now.job.now c.args.two.now.scene.now.run.now c.args.rows.now.items left.zone c.args.two.now.right.now.zone.now c.args.two.now.right.now.stretch.now) before.1 in (
      passed_again c.args.two.now.scene.now.job.now c.args.two.now.scene.now.run.now left c.args.two.now.right.now.zone.now c.args.two.now.right.now.stretch.now seen c.args.rows.now.items
          (subst (λ (motion : Option Motion). reaches_no_further c.args.two.now.scene.now.job.now c.args.two.now.scene.now.run.now c.args.rows.now.items left.zone c.args.two.now.right.now.zone.now c.args.two.now.right.now.stretch.now c.args.own.now.cover motion ≡ true)
          (c.motion_at-motion.ensures ∙ ap (λ (s : StretchView). motion_at c.args.two.now.scene.now.run.now s.entry c.args.own.now.motion) c.stretch.view_is) on) before.0,
      before.1,
    )

pub returns-then-not-share_channel-clause-near : goal.returns-then-not-share_channel-clause-near
returns-then-not-share_channel-clause-near c seen so_far covers =
    let left : BoxPlace = place_of c.args.two.now.left.now.zone.now c.args.two.now.left.now.stretch.now c.args.own.now in
    let new : List Pair = pairs_by c.args.two.now.right.now.zone.now c.args.two.now.right.now.stretch.now left in
    let so_far_covers = part_left (λ (p : Pair). IsInCover c.args.two.now.scene.now.job.now c.args.two.now.scene.now.run.now p.0 × IsInCover c.args.two.now.scene.now.job.now c.args.two.now.scene.now.run.now p.1) seen new covers in
    let before = so_far so_far_covers in
    let now : AreNearest c.args.two.now.scene.now.job.now c.args.two.now.scene.now.run.now (seen ++ new) c.look_anew.new.rows.items = c.in_ok-look_anew.ensures.near seen (λ cs. (so_far cs).0) covers in
    let apart : share_channel left.stretch.name.channel c.args.two.now.right.now.stretch.now.name.channel ≡ false = sym c.share_channel.ensures ∙ c.if-not-share_channel.true in
    let own = passed_now c.args.two.now.scene.now.job.now c.args.two.now.scene.now.run.now left c.args.two.now.right.now.zone.now c.args.two.now.right.now.stretch.now apart seen c.look_anew.new.rows.items now in
    let stay = passed_stay c.args.two.now.scene.now.job.now c.args.two.now.scene.now.run.now seen c.args.rows.now.items before.0 new c.look_anew.new.rows.items now left.zone c.args.two.now.right.now.zone.now c.args.two.now.right.now.stretch.now c.args.passed.now before.1 in (
      now,
      c.keep.ensures.passes (reaches_no_further c.args.two.now.scene.now.job.now c.args.two.now.scene.now.run.now c.look_anew.new.rows.items left.zone c.args.two.now.right.now.zone.now c.args.two.now.right.now.stretch.now) stay
          (subst (λ (motion : Option Motion). reaches_no_further c.args.two.now.scene.now.job.now c.args.two.now.scene.now.run.now c.look_anew.new.rows.items left.zone c.args.two.now.right.now.zone.now c.args.two.now.right.now.stretch.now c.args.own.now.cover motion ≡ true)
          (sym (c.motion_at-motion.ensures ∙ ap (λ (s : StretchView). motion_at c.args.two.now.scene.now.run.now s.entry c.args.own.now.motion) c.stretch.view_is)) own),
    )

pub returns-else-not-share_channel-clause-near : goal.returns-else-not-share_channel-clause-near
returns-else-not-share_channel-clause-near c seen so_far covers =
    let left : BoxPlace = place_of c.args.two.now.left.now.zone.now c.args.two.now.left.now.stretch.now c.args.own.now in
    let new : List Pair = pairs_by c.args.two.now.right.now.zone.now c.args.two.now.right.now.stretch.now left in
    let so_far_covers = part_left (λ (p : Pair). IsInCover c.args.two.now.scene.now.job.now c.args.two.now.scene.now.run.now p.0 × IsInCover c.args.two.now.scene.now.job.now c.args.two.now.scene.now.run.now p.1) seen new covers in
    let before = so_far so_far_covers in
    let now : AreNearest c.args.two.now.scene.now.job.now c.args.two.now.scene.now.run.now (seen ++ new) c.look_anew.new.rows.items = c.in_ok-look_anew.ensures.near seen (λ cs. (so_far cs).0) covers in
    (now, passed_stay c.args.two.now.scene.now.job.now c.args.two.now.scene.now.run.now seen c.args.rows.now.items before.0 new c.look_anew.new.rows.items now left.zone c.args.two.now.right.now.zone.now c.args.two.now.right.now.stretch.now c.args.passed.now before.1)
