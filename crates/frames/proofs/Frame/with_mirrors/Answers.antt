use Rattle.std.proofs.Common.{rules, ◌≡◌, ℤ, Bool, List, Option, length, subst}
use Rattle.frames.specs.declared.Frame.{Frame}
use Rattle.frames.specs.Counts.{IsMirrored}
use Rattle.frames.specs.Composition.{IsExtended, mirrors}
use Rattle.frames.proofs.FrameLaws.{mirrors-extended, three_items}
use Rattle.frames.proofs.Frame.with_mirrors.Goals as goal

pub returns : goal.returns
returns c chain h =
    let count : length c.args.values ≡ 3 = search rules in
    let old = c.args.self.now in
    let new : Frame = record { x = c.mirrored.result; y = c.mirrored-2.result; z = c.mirrored-3.result } in
    subst (λ (values : List (Option ℤ)). IsExtended chain (mirrors 0 values) new) (three_items c.args.values _ _ _ count)
    (mirrors-extended chain old new _ _ _
    (subst (λ (b : Bool). IsMirrored old.x b new.x) c.is_some.ensures c.mirrored.ensures)
    (subst (λ (b : Bool). IsMirrored old.y b new.y) c.is_some-2.ensures c.mirrored-2.ensures)
    (subst (λ (b : Bool). IsMirrored old.z b new.z) c.is_some-3.ensures c.mirrored-3.ensures)
    h)
