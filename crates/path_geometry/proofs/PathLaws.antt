-- Which points are on a line: its start, its end, and each position that its axes reach together.
use Rattle.std.proofs.Common.{◌≡◌, ◌∙◌, ◌<◌, ◌≤◌, ℕ, [], ◌∷◌, get_or, ap, arith}
use Rattle.std.proofs.lemmas.Int.{ints}
use Rattle.std.specs.List.{All}
use Rattle.std.specs.Prelude.{ℤ, pos, ◌*ℤ◌}
use Rattle.number_laws.proofs.Ring.{num, var, plus, minus, times, ring}
use Rattle.path_geometry.specs.Ends.{EndsView}
use Rattle.path_geometry.specs.Path.{Point, way_divided, IsOnLine}

-- a point whose positions are this far along, over the number under the point itself
pub on_line : (ends : EndsView) (point : Point) (part : ℕ) → 0 < point.under → part ≤ point.under
    → All (λ e. point.top e.0 ≡ way_divided e.1 e.2 point.under part) ends.axes → IsOnLine ends point
on_line ends point part some h at_part =
    record {
      whole = point.under;
      part = part;
      above_none = some;
      no_further = h;
      fraction = some;
      gone = λ i d k. ap (λ (z : ℤ). z *ℤ pos point.under) (at_part i d k);
    }

start_along : (start end n : ℤ) → start *ℤ n ≡ way_divided start end 1 0 *ℤ n
start_along start end n =
    ring (start ∷ end ∷ n ∷ []) (times (var 0) (var 2)) (times (plus (times (var 0) (minus (num (pos 1)) (num (pos 0)))) (times (var 1) (num (pos 0)))) (var 2)) tt

end_along : (start end n : ℤ) → end *ℤ n ≡ way_divided start end 1 1 *ℤ n
end_along start end n =
    ring (start ∷ end ∷ n ∷ []) (times (var 1) (var 2)) (times (plus (times (var 0) (minus (num (pos 1)) (num (pos 1)))) (times (var 1) (num (pos 1)))) (var 2)) tt

by_one : (a b : ℤ) → a ≡ b → a *ℤ pos 1 ≡ b
by_one a b e = omega (arith, ints)

-- the point at which every axis starts
pub start_on_line : (ends : EndsView) (point : Point) → 0 < point.under → All (λ e. point.top e.0 ≡ e.1 *ℤ pos point.under) ends.axes
    → IsOnLine ends point
start_on_line ends point some at_start =
    record {
      whole = 1;
      part = 0;
      above_none = omega arith;
      no_further = omega arith;
      fraction = some;
      gone = λ i d k. let e = get_or ends.axes i d in
          by_one (point.top e.0) (way_divided e.1 e.2 1 0 *ℤ pos point.under) (at_start i d k ∙ start_along e.1 e.2 (pos point.under));
    }

-- the point at which every axis ends
pub end_on_line : (ends : EndsView) (point : Point) → 0 < point.under → All (λ e. point.top e.0 ≡ e.2 *ℤ pos point.under) ends.axes
    → IsOnLine ends point
end_on_line ends point some at_end =
    record {
      whole = 1;
      part = 1;
      above_none = omega arith;
      no_further = omega arith;
      fraction = some;
      gone = λ i d k. let e = get_or ends.axes i d in
          by_one (point.top e.0) (way_divided e.1 e.2 1 1 *ℤ pos point.under) (at_end i d k ∙ end_along e.1 e.2 (pos point.under));
    }
