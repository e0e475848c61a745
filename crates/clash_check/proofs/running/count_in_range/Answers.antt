use Rattle.std.proofs.Common.{◌≡◌, ◌∙◌, ◌-◌, ◌*◌, ap, ℕ, false, length, refl, rules}
use Rattle.order_clocks.specs.Tells.{is_before_in}
use Rattle.clash_check.proofs.NearLaws.{count_of_part}
use Rattle.clash_check.proofs.RunningLaws.{alone, count_by_sums}
use Rattle.clash_check.specs.PairCounts.{capped}
use Rattle.clash_check.proofs.running.count_in_range.Goals as goal

pub returns-then-is_alone : goal.returns-then-is_alone
returns-then-is_alone c =
    let boxes : c.len.result ≡ length c.args.left.now.boxes = search rules in
    let product : c.len.result * c.saturating_sub.result ≡ length c.args.left.now.boxes * (c.args.sums.now.upto.boxes - c.args.sums.now.before.boxes) =
    ap (λ (n : ℕ). n * c.saturating_sub.result) boxes ∙ ap (λ (n : ℕ). length c.args.left.now.boxes * n) c.saturating_sub.ensures in
    c.saturating_mul.ensures ∙ ap capped product
    ∙ ap capped (count_by_sums (is_before_in c.args.clocks.now.rows) c.args.left.now c.args.others.now c.args.range.from c.args.range.upto c.args.sums.now.before.boxes c.args.sums.now.upto.boxes c.args.left.now
    c.requires.passing c.requires.from c.requires.upto c.requires.boxes_before c.requires.boxes_upto c.if-before-lt18446744073709551615.true c.if-upto-lt18446744073709551615.true
    (alone c.args.left.now c.args.others.now c.args.range.from c.args.range.upto c.args.sums.now.latest.now c.args.left.now c.requires.latest (c.if-is_alone.ensures refl)))

pub returns-else-before-lt18446744073709551615 : goal.returns-else-before-lt18446744073709551615
returns-else-before-lt18446744073709551615 c =
    c.count_against.ensures
    ∙ ap capped (count_of_part (is_before_in c.args.clocks.now.rows) c.args.left.now c.args.others.now c.part.result.now c.args.range.from c.args.range.upto (c.requires.passing false)
    c.requires.from c.requires.upto c.part.ensures)
