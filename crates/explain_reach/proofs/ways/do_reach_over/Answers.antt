use Rattle.std.proofs.Common.{rules, ◌≡◌, ◌∙◌, ℤ, true, false, ap, sym, w64}
use Rattle.std.specs.Int.RustNames.{int_lt}
use Rattle.std.proofs.lemmas.Int.{to_z-of_z}
use mir.Val.{to_z, of_z}
use Rattle.explain_reach.proofs.PartLaws.{not_over_x, not_over_y, over_by_z}
use Rattle.explain_reach.specs.Reaches.{reach_along}
use Rattle.explain_reach.proofs.ways.do_reach_over.Goals as goal

pub returns-then-not-is_over_along : goal.returns-then-not-is_over_along
returns-then-not-is_over_along c =
    let is : to_z w64 (of_z w64 c.args.number) ≡ c.args.number = to_z-of_z w64 c.args.number (search rules) in
    let off : int_lt c.args.number (reach_along c.args.left.now c.args.right.now 0) ≡ false =
    sym (ap (λ (n : ℤ). int_lt n (reach_along c.args.left.now c.args.right.now 0)) is) ∙ sym c.is_over_along.ensures ∙ c.if-not-is_over_along.true in
    sym (not_over_x c.args.number c.args.left.now c.args.right.now off)

pub returns-then-not-is_over_along-2 : goal.returns-then-not-is_over_along-2
returns-then-not-is_over_along-2 c =
    let is : to_z w64 (of_z w64 c.args.number) ≡ c.args.number = to_z-of_z w64 c.args.number (search rules) in
    let off : int_lt c.args.number (reach_along c.args.left.now c.args.right.now 1) ≡ false =
    sym (ap (λ (n : ℤ). int_lt n (reach_along c.args.left.now c.args.right.now 1)) is) ∙ sym c.is_over_along-2.ensures ∙ c.if-not-is_over_along-2.true in
    sym (not_over_y c.args.number c.args.left.now c.args.right.now off)

pub returns : goal.returns
returns c =
    let is : to_z w64 (of_z w64 c.args.number) ≡ c.args.number = to_z-of_z w64 c.args.number (search rules) in
    let x : int_lt c.args.number (reach_along c.args.left.now c.args.right.now 0) ≡ true =
    sym (ap (λ (n : ℤ). int_lt n (reach_along c.args.left.now c.args.right.now 0)) is) ∙ sym c.is_over_along.ensures ∙ c.if-not-is_over_along.false in
    let y : int_lt c.args.number (reach_along c.args.left.now c.args.right.now 1) ≡ true =
    sym (ap (λ (n : ℤ). int_lt n (reach_along c.args.left.now c.args.right.now 1)) is) ∙ sym c.is_over_along-2.ensures ∙ c.if-not-is_over_along-2.false in
    c.is_over_along-3.ensures ∙ ap (λ (n : ℤ). int_lt n (reach_along c.args.left.now c.args.right.now 2)) is ∙ over_by_z c.args.number c.args.left.now c.args.right.now x y
