use Rattle.std.proofs.Common.{inr, rules}
use Rattle.passed_boxes.proofs.LatestLaws.{all_kept, kept_latest, with_box}
use Rattle.passed_boxes.proofs.passed.PassedBoxes.keep.Goals as goal

pub returns-else-len-lt-PASSED_LIMIT-clause-passes : goal.returns-else-len-lt-PASSED_LIMIT-clause-passes
returns-else-len-lt-PASSED_LIMIT-clause-passes c test all here =
    all_kept test c.args.self.now _ c.args.cover.now _ c.in-Ok.kept c.in-Ok.ensures.0 c.in-Ok.ensures.1
    (inr (kept_latest c.self.inside.boxes.items c.self.inside.next c.len-else-len-lt-PASSED_LIMIT.result c.in-Ok.kept c.args.self.now c.self.view_is c.self.invariant c.len.result (search rules)
    c.if-len-lt-PASSED_LIMIT.false (search rules)))
    all here

pub returns-else-len-lt-PASSED_LIMIT-clause-latest : goal.returns-else-len-lt-PASSED_LIMIT-clause-latest
returns-else-len-lt-PASSED_LIMIT-clause-latest c =
    inr (with_box c.args.self.now _ c.args.cover.now _ c.in-Ok.kept c.in-Ok.ensures.0 c.in-Ok.ensures.1
    (kept_latest c.self.inside.boxes.items c.self.inside.next c.len-else-len-lt-PASSED_LIMIT.result c.in-Ok.kept c.args.self.now c.self.view_is c.self.invariant c.len.result (search rules) c.if-len-lt-PASSED_LIMIT.false (search rules)))
