-- The quarters of a sound arc: they hold its points, and each fits.
use Rattle.std.proofs.Common.{◌≡◌, ◌∙◌, ◌+◌, ◌-◌, ◌%◌, ◌<◌, ◌≤◌, ℕ, zero, suc, Bool, true, false, List, [], ◌∷◌, ◌++◌, map, length, get_or, ap, sym, subst, arith}
use Rattle.std.proofs.lemmas.List.Elements.{All-map}
use Rattle.std.proofs.lemmas.List.FromFn.{length-map-range_with_len, map-range_with_len_more, get_or-map-range_with_len}
use Rattle.std.specs.Int.RustNames.{int_lt}
use Rattle.std.specs.List.{All, Any, range_with_len}
use Rattle.std.specs.Prelude.{pos}
use Rattle.path_geometry.specs.Arcs.{start_seen, end_seen}
use Rattle.path_geometry.specs.Motions.{IsSoundArc}
use Rattle.path_geometry.specs.Path.{Point, IsOnArc, point_seen}
use Rattle.path_geometry.specs.Vectors.{cross}
use Rattle.path_geometry.specs.declared.motion.Arc.{Arc}
use Rattle.arc_quadrants.specs.Bounds.{bounds_between, IsBound}
use Rattle.arc_quadrants.specs.Quadrants.{turned_back, begin_quadrant, end_quadrant}
use Rattle.arc_quadrants.specs.Quarters.{quadrant_count, quarter_count, quarter_at, quarters_of, IsFit}
use Rattle.arc_quadrants.specs.declared.walk.Quarter.{Quarter}
use Rattle.arc_quadrants.proofs.BoundLaws.{IsHeld, sector_held}
use Rattle.arc_quadrants.proofs.QuarterLaws.{from_near, to_near, below_four}
use Rattle.arc_quadrants.proofs.SoundArcs.{start_some, end_some, start_near, end_near, outer_near, outer_some, reached}

-- the place of a quarter one of whose parts holds the point
pub arc_held : (depth : ℕ) (arc : Arc) (point : Point) → IsSoundArc arc → IsOnArc arc point
    → (place : ℕ) × (place < quarter_count (start_seen arc) (end_seen arc)) ×
    IsHeld depth arc.inner arc.outer (start_seen arc) (end_seen arc) (point_seen arc point) point.under place
arc_held depth arc point sound on =
    sector_held depth arc.inner arc.outer (start_seen arc) (end_seen arc) (point_seen arc point) point.under
    (start_some arc sound) (end_some arc sound) (outer_some arc sound) (reached arc point sound on) on.from_inner on.to_outer

only_one : {X : Type 0} (P : X → Type 0) (x : X) → Any P (x ∷ []) → P x
only_one P x (zero, y, less, at, holds) = subst P (sym at) holds
only_one P x (suc k, y, less, at, holds) = absurd (omega arith)

pub quarters_cover : (arc : Arc) (point : Point) → IsSoundArc arc → IsOnArc arc point
    → Any (λ q. IsBound (bounds_between arc.inner arc.outer q.from q.to) (turned_back q.turn (point_seen arc point)) point.under) (quarters_of arc)
quarters_cover arc point sound on = at_place (arc_held 0 arc point sound on)
  where
    at_place : (place : ℕ) × (place < quarter_count (start_seen arc) (end_seen arc)) ×
        IsHeld 0 arc.inner arc.outer (start_seen arc) (end_seen arc) (point_seen arc point) point.under place
        → Any (λ q. IsBound (bounds_between arc.inner arc.outer q.from q.to) (turned_back q.turn (point_seen arc point)) point.under) (quarters_of arc)
    at_place (place, less, held) =
        let f = quarter_at arc.outer (start_seen arc) (end_seen arc) in (
          place,
          f place,
          rw length-map-range_with_len less,
          get_or-map-range_with_len f 0 (quarter_count (start_seen arc) (end_seen arc)) place place (f place) less (omega arith),
          only_one (λ d. IsBound (bounds_between arc.inner arc.outer d.0 d.1) (turned_back (f place).turn (point_seen arc point)) point.under)
              ((f place).from, (f place).to) held,
        )

pub quarter_fits : (arc : Arc) (place : ℕ) → IsSoundArc arc → IsFit (quarter_at arc.outer (start_seen arc) (end_seen arc) place)
quarter_fits arc place sound =
    let s = start_near arc sound in
    let e = end_near arc sound in
    record {
      turn = below_four (begin_quadrant (start_seen arc) + place);
      from = from_near arc.outer 30000000 (start_seen arc) (end_seen arc) place (start_some arc sound) (outer_some arc sound)
          (omega (arith, outer_near arc sound)) (omega (arith, s.u)) (omega (arith, s.v));
      to = to_near arc.outer 30000000 (start_seen arc) (end_seen arc) place (end_some arc sound) (outer_some arc sound)
          (omega (arith, outer_near arc sound)) (omega (arith, e.u)) (omega (arith, e.v));
    }

pub quarters_fit : (arc : Arc) → IsSoundArc arc → All IsFit (quarters_of arc)
quarters_fit arc sound =
    let n = quarter_count (start_seen arc) (end_seen arc) in
    All-map IsFit (quarter_at arc.outer (start_seen arc) (end_seen arc)) (range_with_len 0 n)
    (λ i d h. quarter_fits arc (get_or (range_with_len 0 n) i d) sound)

some_entered : (k : ℕ) (b : Bool) → 0 < quadrant_count k b
some_entered zero true = omega arith
some_entered zero false = omega arith
some_entered (suc k) b = omega arith

few_entered : (k : ℕ) (b : Bool) → k < 4 → quadrant_count k b ≤ 5
few_entered zero true h = omega arith
few_entered zero false h = omega arith
few_entered (suc k) b h = omega arith

pub quarters_some : (arc : Arc) → 0 < length (quarters_of arc)
quarters_some arc =
    rw length-map-range_with_len
    (some_entered ((end_quadrant (end_seen arc) + 4 - begin_quadrant (start_seen arc)) % 4) (int_lt (pos 0) (cross (start_seen arc) (end_seen arc))))

pub quarters_few : (arc : Arc) → length (quarters_of arc) ≤ 5
quarters_few arc =
    rw length-map-range_with_len
    (few_entered ((end_quadrant (end_seen arc) + 4 - begin_quadrant (start_seen arc)) % 4) (int_lt (pos 0) (cross (start_seen arc) (end_seen arc)))
    (below_four (end_quadrant (end_seen arc) + 4 - begin_quadrant (start_seen arc))))

-- one quarter more
pub one_more : (f : ℕ → Quarter) (xs ys : List Quarter) (q : Quarter) (n : ℕ) → ys ≡ xs ++ q ∷ [] → q ≡ f n → xs ≡ map f (range_with_len 0 n)
    → ys ≡ map f (range_with_len 0 (n + 1))
one_more f xs ys q n pushed is so_far =
    pushed ∙ ap (λ (r : Quarter). xs ++ r ∷ []) is ∙ ap (λ (zs : List Quarter). zs ++ f n ∷ []) so_far
    ∙ sym (map-range_with_len_more f 0 n n (omega arith))
