use Rattle.std.proofs.Common.{◌∙◌, sym}
use Rattle.explain_reach.proofs.ShapeLaws.{least-from_meet, meet-from_least, parts, still_meet}
use Rattle.explain_reach.proofs.ways.least_way.Goals as goal

pub returns-clause-meet : goal.returns-clause-meet
returns-clause-meet c own other = rw c.first_least.ensures.shift (
  (λ h. meet-from_least c.args.left.now c.args.right.now own other h),
  (λ meet. least-from_meet c.args.left.now c.args.right.now meet),
)

pub returns-clause-kept : goal.returns-clause-kept
returns-clause-kept c own other direction by in_space p q =
    still_meet c.args.left.now c.args.right.now own other direction by (rw c.first_least.ensures.shift at p) (rw c.first_least.ensures.shift at q)

pub returns-clause-parted : goal.returns-clause-parted
returns-clause-parted c =
    parts c.args.left.now c.args.right.now c.first_least.result.direction c.first_least.result.shift c.first_least.ensures.direction.in_space
    (c.first_least.ensures.direction.least ∙ sym c.first_least.ensures.shift)
