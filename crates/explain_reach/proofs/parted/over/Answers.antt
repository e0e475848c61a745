use Rattle.std.proofs.Common.{rules, ◌≡◌, ◌∙◌, ℤ, ap, sym, w64}
use Rattle.std.specs.Int.RustNames.{int_lt}
use Rattle.std.proofs.lemmas.Int.{to_z-of_z}
use mir.Val.{SFits, to_z, of_z}
use Rattle.explain_reach.proofs.PartLaws.{none_by, one_by}
use Rattle.explain_reach.proofs.parted.over.Goals as goal

kept : (f m : ℤ) → SFits w64 f → SFits w64 m → int_lt f m ≡ int_lt (to_z w64 (of_z w64 f)) (to_z w64 (of_z w64 m))
kept f m fits fits' = sym (ap (λ (n : ℤ). int_lt n (to_z w64 (of_z w64 m))) (to_z-of_z w64 f fits) ∙ ap (λ (n : ℤ). int_lt f n) (to_z-of_z w64 m fits'))

pub returns-then-before-number : goal.returns-then-before-number
returns-then-before-number c numbers great =
    let far : SFits w64 c.in-Some-Some.before = search rules in
    let near : SFits w64 c.in-Some-Some.number = search rules in
    one_by c.args.floor c.args.most c.in-Some-Some.before c.in-Some-Some.number numbers c.in-Some-Some.is-0 c.in-Some-Some.is-1
    (kept c.in-Some-Some.before c.in-Some-Some.number far near ∙ c.if-before-number.true) great

pub returns-else-before-number : goal.returns-else-before-number
returns-else-before-number c numbers great =
    let far : SFits w64 c.in-Some-Some.before = search rules in
    let near : SFits w64 c.in-Some-Some.number = search rules in
    none_by c.args.floor c.args.most c.in-Some-Some.before c.in-Some-Some.number numbers c.in-Some-Some.is-0 c.in-Some-Some.is-1
    (kept c.in-Some-Some.before c.in-Some-Some.number far near ∙ c.if-before-number.false) great
