-- A position along a line lies between its ends.
use Rattle.std.proofs.Common.{◌≡◌, ◌≤◌, arith, subst, sym}
use Rattle.std.proofs.lemmas.Int.{to_z-of_z}
use Rattle.std.specs.Int.RustNames.{unsigned_abs}
use Rattle.std.specs.Prelude.{ℤ}
use Rattle.number_laws.specs.Floors.{ceil_div}
use Rattle.path_geometry.specs.Path.{way_divided}
use Rattle.swept_boxes.proofs.LineLaws.{ceil_near}
use Rattle.swept_boxes.proofs.lines.ceil_at.Goals as goal

pub returns-clause-near : goal.returns-clause-near
returns-clause-near c =
    let is : c.rounded_up.result ≡ ceil_div (way_divided c.args.start c.args.end c.args.parts c.args.part) c.args.parts = grind (arith, to_z-of_z) in
    let near : unsigned_abs c.rounded_up.result ≤ 50000000 = subst (λ (z : ℤ). unsigned_abs z ≤ 50000000) (sym is)
    (ceil_near c.args.start c.args.end c.args.parts c.args.part 50000000 c.requires.some c.requires.within c.requires.start_near c.requires.end_near) in
    grind (arith, to_z-of_z)
