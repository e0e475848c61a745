-- A lot with a box for each piece of a motion has boxes, and two such lots reach so far into each other or are so far apart.
use Rattle.std.proofs.Common.{◌≡◌, ◌∙◌, ℕ, zero, suc, ◌<◌, ◌^◌, List, [], ◌∷◌, ◌++◌, length, map, arith, length-append}
use Rattle.std.specs.List.{flat_map}
use Rattle.std.proofs.lemmas.List.{length-map}
use Rattle.std.proofs.lemmas.List.FromFn.{length-map-range_with_len}
use Rattle.arc_quadrants.proofs.ArcLaws.{quarters_some}
use Rattle.arc_quadrants.proofs.HalfLaws.{length-halves}
use Rattle.arc_quadrants.specs.Halves.{halves}
use Rattle.arc_quadrants.specs.Quarters.{quarters_of}
use Rattle.arc_quadrants.specs.declared.walk.Quarter.{Quarter}
use Rattle.explain_reach.specs.Lots.{reaches}
use Rattle.path_geometry.specs.declared.motion.Arc.{Arc}
use Rattle.path_geometry.specs.declared.motion.Motion.{Motion}
use Rattle.path_geometry.specs.declared.motion.Motion.TheVariants.{Line, Rapid}
use Rattle.path_geometry.specs.declared.motion.Motion.TheVariants as Kind
use Rattle.swept_boxes.specs.Pieces.{pieces_at, pieces_of_quarter, box_of_part, ranges_over}
use Rattle.swept_boxes.specs.Ranges.{RangesView}
use Rattle.swept_boxes.specs.declared.Box3.{Box3}

some_parts : (depth : ℕ) → 0 < 2 ^ depth
some_parts zero = omega arith
some_parts (suc depth) = let some = some_parts depth in grind (arith, some)

of_quarters : (arc : Arc) (depth : ℕ) (quarters : List Quarter) → 0 < length quarters → 0 < length (flat_map (pieces_of_quarter arc depth) quarters)
of_quarters arc depth [] some = absurd (omega arith)
of_quarters arc depth (q ∷ quarters) some =
    let first : length (pieces_of_quarter arc depth q) ≡ 2 ^ depth =
    length-map (halves depth q.from q.to) (λ d. ranges_over arc (box_of_part arc q d)) ∙ length-halves depth q.from q.to in
    let both : length (pieces_of_quarter arc depth q ++ flat_map (pieces_of_quarter arc depth) quarters) ≡ _ = length-append (pieces_of_quarter arc depth q) (flat_map (pieces_of_quarter arc depth) quarters) in
    let parts = some_parts depth in
    omega (arith, first, both, parts)

some_pieces : (motion : Motion) (depth : ℕ) → 0 < length (pieces_at motion depth)
some_pieces (Line ends) depth = rw length-map-range_with_len (some_parts depth)
some_pieces (Rapid ends) depth = omega arith
some_pieces (Kind.Arc arc) depth = of_quarters arc depth (quarters_of arc) (quarters_some arc)

-- a lot with a box for each piece
pub some_lot : (box : RangesView → Box3) (motion : Motion) (depth : ℕ) → 0 < length (map box (pieces_at motion depth))
some_lot box motion depth =
    let long : length (map box (pieces_at motion depth)) ≡ length (pieces_at motion depth) = length-map (pieces_at motion depth) box in
    let some = some_pieces motion depth in
    omega (arith, long, some)

-- two lots with boxes
pub some_reaches : (lefts rights : List Box3) → 0 < length lefts → 0 < length rights → reaches lefts rights ≡ [] → ⊥
some_reaches [] rights some other none = absurd (omega arith)
some_reaches (l ∷ lefts) [] some other none = absurd (omega arith)
some_reaches (l ∷ lefts) (r ∷ rights) some other none = absurd cc
