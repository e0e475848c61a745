use Rattle.std.proofs.Common.{◌≡◌, ◌∙◌, ◌≤◌, Bool, true, false, length, Option, None, Some, is_some, refl, ap, subst, sym, arith}
use Rattle.order_clocks.specs.Tells.{is_before_in}
use Rattle.clash_check.proofs.KeptLaws.{all_far, past_far}
use Rattle.clash_check.proofs.PassedLaws.{no_names, none_met}
use Rattle.clash_check.specs.FirstAnswer.{first_some}
use Rattle.clash_check.specs.Passing.{meets_none}
use Rattle.clash_check.specs.Meetings.{Names, first_touched_among, names_where_met}
use Rattle.zone_stretches.specs.Cases.{Case, place_of}
use Rattle.zone_stretches.specs.Overlaps.{BoxPlace}
use Rattle.zone_stretches.specs.Pieces.{motion_at}
use Rattle.zone_stretches.specs.Stretches.{StretchView}
use Rattle.path_geometry.specs.declared.motion.Motion.{Motion}
use Rattle.clash_check.proofs.meetings.first_touched.Goals as goal

pub returns-then-first-boxes-clause-names : goal.returns-then-first-boxes-clause-names
unfolding first_touched_among
returns-then-first-boxes-clause-names c =
    let case : Case = record { job = c.args.two.now.scene.now.job.now; run = c.args.two.now.scene.now.run.now; before = is_before_in c.args.two.now.scene.now.clocks.now.rows } in
    let past : length c.args.boxes.now ≤ c.next_near-first.result = (let test = c.if-first-boxes.true in omega (arith, test)) in
    sym (all_far case c.args.two.now.shared (place_of c.args.two.now.left.now.zone.now c.args.two.now.left.now.stretch.now c.args.own.now) c.args.two.now.right.now.zone.now c.args.two.now.right.now.stretch.now c.args.boxes.now c.next_near-first.result past c.next_near-first.ensures.far)

pub returns-then-has-clause-names : goal.returns-then-has-clause-names
unfolding first_touched_among
returns-then-has-clause-names c =
    let case : Case = record { job = c.args.two.now.scene.now.job.now; run = c.args.two.now.scene.now.run.now; before = is_before_in c.args.two.now.scene.now.clocks.now.rows } in
    let left : BoxPlace = place_of c.args.two.now.left.now.zone.now c.args.two.now.left.now.stretch.now c.args.own.now in
    let none = c.has.ensures.passes c.if-has.true (meets_none case.job case.run left.zone c.args.two.now.right.now.zone.now c.args.two.now.right.now.stretch.now c.args.boxes.now) c.requires.passed in
    sym (no_names case c.args.two.now.shared left c.args.two.now.right.now.zone.now c.args.two.now.right.now.stretch.now c.args.boxes.now
    (subst (λ (motion : Option Motion). meets_none case.job case.run left.zone c.args.two.now.right.now.zone.now c.args.two.now.right.now.stretch.now c.args.boxes.now c.args.own.now.cover motion ≡ true)
    (c.motion_at-motion.ensures ∙ ap (λ (s : StretchView). motion_at c.args.two.now.scene.now.run.now s.entry c.args.own.now.motion) c.stretch.view_is) none))

pub returns-then-is_none-clause-names : goal.returns-then-is_none-clause-names
unfolding first_touched_among
returns-then-is_none-clause-names c =
    let case : Case = record { job = c.args.two.now.scene.now.job.now; run = c.args.two.now.scene.now.run.now; before = is_before_in c.args.two.now.scene.now.clocks.now.rows } in
    c.first_from-names.ensures.names
    ∙ sym (past_far case c.args.two.now.shared (place_of c.args.two.now.left.now.zone.now c.args.two.now.left.now.stretch.now c.args.own.now) c.args.two.now.right.now.zone.now c.args.two.now.right.now.stretch.now c.args.boxes.now 0 c.next_near-first.result c.next_near-first.ensures.on c.next_near-first.ensures.far)

pub returns-else-not-shared-clause-names : goal.returns-else-not-shared-clause-names
unfolding first_touched_among
returns-else-not-shared-clause-names c =
    let case : Case = record { job = c.args.two.now.scene.now.job.now; run = c.args.two.now.scene.now.run.now; before = is_before_in c.args.two.now.scene.now.clocks.now.rows } in
    c.first_from-names.ensures.names
    ∙ sym (past_far case c.args.two.now.shared (place_of c.args.two.now.left.now.zone.now c.args.two.now.left.now.stretch.now c.args.own.now) c.args.two.now.right.now.zone.now c.args.two.now.right.now.stretch.now c.args.boxes.now 0 c.next_near-first.result c.next_near-first.ensures.on c.next_near-first.ensures.far)

pub returns-then-is_none-clause-passed : goal.returns-then-is_none-clause-passed
returns-then-is_none-clause-passed c =
    let case : Case = record { job = c.args.two.now.scene.now.job.now; run = c.args.two.now.scene.now.run.now; before = is_before_in c.args.two.now.scene.now.clocks.now.rows } in
    let left : BoxPlace = place_of c.args.two.now.left.now.zone.now c.args.two.now.left.now.stretch.now c.args.own.now in
    let found : Bool → Option Names = λ shared. first_some (λ later. names_where_met case shared left (place_of c.args.two.now.right.now.zone.now c.args.two.now.right.now.stretch.now later)) c.args.boxes.now in
    let none : found c.args.two.now.shared ≡ None =
    past_far case c.args.two.now.shared left c.args.two.now.right.now.zone.now c.args.two.now.right.now.stretch.now c.args.boxes.now 0 c.next_near-first.result c.next_near-first.ensures.on c.next_near-first.ensures.far
    ∙ sym c.first_from-names.ensures.names ∙ none_of c.first_from-names.result c.if-is_none.ensures in
    let met = none_met case left c.args.two.now.right.now.zone.now c.args.two.now.right.now.stretch.now c.args.boxes.now (ap found (sym c.if-not-shared.true) ∙ none) in
    c.keep.ensures.passes (meets_none case.job case.run left.zone c.args.two.now.right.now.zone.now c.args.two.now.right.now.stretch.now c.args.boxes.now) c.requires.passed
    (subst (λ (motion : Option Motion). meets_none case.job case.run left.zone c.args.two.now.right.now.zone.now c.args.two.now.right.now.stretch.now c.args.boxes.now c.args.own.now.cover motion ≡ true)
    (sym (c.motion_at-motion.ensures ∙ ap (λ (s : StretchView). motion_at c.args.two.now.scene.now.run.now s.entry c.args.own.now.motion) c.stretch.view_is)) met)
  where
    none_of : (o : Option Names) → is_some o ≡ false → o ≡ None
    none_of None e = refl
    none_of (Some names) e = absurd cc
