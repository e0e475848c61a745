use Rattle.std.proofs.Common.{rules, ◌≡◌, ℤ, Some, sym, subst, w32, w64}
use Rattle.std.specs.Prelude.{pos, ◌+ℤ◌, ◌-ℤ◌, ◌*ℤ◌, ◌≤ℤ◌, ◌<ℤ◌}
use Rattle.std.proofs.lemmas.Int.{to_z-of_z}
use mir.Val.{to_z, of_z, SFits}
use Rattle.explain_clashes.proofs.MarginLaws.{below, margin_none, margin_some, not_below}
use Rattle.explain_reach.proofs.SomeLaws.{some_reaches}
use Rattle.explain_clashes.specs.Clashes.{IsPartingMargin}
use Rattle.explain_clashes.proofs.clashes.parting_margin.Goals as goal

pub returns-in-None : goal.returns-in-None
returns-in-None c other from points = absurd (some_reaches c.args.lefts.now c.args.rights.now c.requires.left c.requires.right c.in-None.ensures)

pub returns-then-left-lt0 : goal.returns-then-left-lt0
returns-then-left-lt0 c =
    let fits_margin : SFits w32 c.args.margin = search rules in
    let given : to_z w32 (of_z w32 c.args.margin) ≡ c.args.margin = to_z-of_z w32 c.args.margin fits_margin in
    let far : SFits w64 c.in-Some.reach = search rules in
    let reach : to_z w64 (of_z w64 c.in-Some.reach) ≡ c.in-Some.reach = to_z-of_z w64 c.in-Some.reach far in
    let fits : SFits w64 c.left_margin-left.result = search rules in
    let left : to_z w64 (of_z w64 c.left_margin-left.result) ≡ c.left_margin-left.result = to_z-of_z w64 c.left_margin-left.result fits in
    let large : pos 0 ≤ℤ (c.in-Some.reach +ℤ (((c.left_margin-left.result -ℤ c.args.margin) +ℤ pos 1) *ℤ pos 2)) =
    subst (λ (k : ℤ). pos 0 ≤ℤ (c.in-Some.reach +ℤ (((c.left_margin-left.result -ℤ k) +ℤ pos 1) *ℤ pos 2))) given
    (subst (λ (n : ℤ). pos 0 ≤ℤ (n +ℤ (((c.left_margin-left.result -ℤ to_z w32 (of_z w32 c.args.margin)) +ℤ pos 1) *ℤ pos 2))) reach c.left_margin-left.ensures.most) in
    let less : c.left_margin-left.result <ℤ pos 0 = subst (λ (n : ℤ). n <ℤ pos 0) left (below _ c.if-left-lt0.true) in
    margin_none c.args.margin c.args.lefts.now c.args.rights.now c.in-Some.reach c.left_margin-left.result c.in-Some.ensures large less

pub returns-else-left-lt0 : goal.returns-else-left-lt0
returns-else-left-lt0 c =
    let fits_margin : SFits w32 c.args.margin = search rules in
    let given : to_z w32 (of_z w32 c.args.margin) ≡ c.args.margin = to_z-of_z w32 c.args.margin fits_margin in
    let far : SFits w64 c.in-Some.reach = search rules in
    let reach : to_z w64 (of_z w64 c.in-Some.reach) ≡ c.in-Some.reach = to_z-of_z w64 c.in-Some.reach far in
    let fits : SFits w64 c.left_margin-left.result = search rules in
    let left : to_z w64 (of_z w64 c.left_margin-left.result) ≡ c.left_margin-left.result = to_z-of_z w64 c.left_margin-left.result fits in
    let small : (c.in-Some.reach +ℤ ((c.left_margin-left.result -ℤ c.args.margin) *ℤ pos 2)) <ℤ pos 0 =
    subst (λ (k : ℤ). (c.in-Some.reach +ℤ ((c.left_margin-left.result -ℤ k) *ℤ pos 2)) <ℤ pos 0) given
    (subst (λ (n : ℤ). (n +ℤ ((c.left_margin-left.result -ℤ to_z w32 (of_z w32 c.args.margin)) *ℤ pos 2)) <ℤ pos 0) reach c.left_margin-left.ensures.apart) in
    let large : pos 0 ≤ℤ (c.in-Some.reach +ℤ (((c.left_margin-left.result -ℤ c.args.margin) +ℤ pos 1) *ℤ pos 2)) =
    subst (λ (k : ℤ). pos 0 ≤ℤ (c.in-Some.reach +ℤ (((c.left_margin-left.result -ℤ k) +ℤ pos 1) *ℤ pos 2))) given
    (subst (λ (n : ℤ). pos 0 ≤ℤ (n +ℤ (((c.left_margin-left.result -ℤ to_z w32 (of_z w32 c.args.margin)) +ℤ pos 1) *ℤ pos 2))) reach c.left_margin-left.ensures.most) in
    let from : pos 0 ≤ℤ c.left_margin-left.result = subst (λ (n : ℤ). pos 0 ≤ℤ n) left (not_below _ c.if-left-lt0.false) in
    subst (λ (n : ℤ). IsPartingMargin c.args.margin c.args.lefts.now c.args.rights.now (Some n)) (sym left)
    (margin_some c.args.margin c.args.lefts.now c.args.rights.now c.in-Some.reach c.left_margin-left.result c.in-Some.ensures small large from)
