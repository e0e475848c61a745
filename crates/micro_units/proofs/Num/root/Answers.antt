use Rattle.std.proofs.Common.{◌≡◌, pos, sym, subst, ◌∙◌, arith, to_z, w64, ℤ}
use Rattle.std.specs.Int.RustNames.{unsigned_abs}
use Rattle.std.proofs.lemmas.Int.{ints, to_z-of_z}
use Rattle.micro_units.specs.Arithmetic.{IsGreatestRoot}
use Rattle.micro_units.proofs.SquareRoots.{square_root_is, square_root-greatest}
use Rattle.micro_units.proofs.Num.root.Goals as goal

pub returns-clause-value : goal.returns-clause-value
returns-clause-value c =
    let root = c.root_of_millionths-root in
    let same : to_z w64 root.result ≡ pos root.result = omega (arith, ints) in
    let size : c.unsigned_abs.result ≡ unsigned_abs c.args.self = grind (arith, to_z-of_z, c.unsigned_abs.ensures.value) in
    same ∙ square_root_is c.args.self c.unsigned_abs.result root.result size root.ensures.value

pub returns-clause-greatest : goal.returns-clause-greatest
returns-clause-greatest c =
    subst (λ (r : ℤ). IsGreatestRoot c.args.self r) (sym (returns-clause-value c)) (square_root-greatest c.args.self c.requires)
