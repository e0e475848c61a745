use Rattle.std.proofs.Common.{rules, ◌≡◌, ℤ, List, Option, length, get_or, subst}
use Rattle.frames.specs.Composition.{GivesComposed, shifts}
use Rattle.frames.proofs.FrameLaws.{shifts-joined, three_items}
use Rattle.frames.proofs.Frame.with_shifts.Goals as goal

pub returns : goal.returns
returns c chain h =
    let count : length c.args.values ≡ 3 = search rules in
    let values = c.args.values in
    let x = get_or values 0 c.index-values-0.result in
    let y = get_or values 1 c.index-values-1.result in
    let z = get_or values 2 c.index-values-2.result in
    subst (λ (words : List (Option ℤ)). GivesComposed chain (shifts 0 words) c.joined.result) (three_items values c.index-values-0.result c.index-values-1.result c.index-values-2.result count)
    (shifts-joined chain c.args.self.now x y z h _ _ _ _ c.shifted.ensures c.shifted-2.ensures c.shifted-3.ensures c.joined.ensures)
