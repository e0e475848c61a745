-- The path of a shifted motion is the path of the motion, shifted.
use Rattle.std.proofs.Common.{◌≡◌, ◌≢◌, ◌∙◌, ◌⊎◌, ◌==◌, ◌+ℤ◌, ◌-ℤ◌, ◌<◌, ◌≤◌, ◌*◌, ℕ, ℤ, pos, Bool, true, false, List, [], ◌∷◌, length, get_or, map, All, refl, ap, subst, sym, arith}
use Rattle.std.specs.Int.{int_max, int_min}
use Rattle.std.specs.Prelude.{◌*ℤ◌, ◌≤ℤ◌, ◌<ℤ◌, IsTrue}
use Rattle.std.proofs.lemmas.Int.{clamps, ints}
use Rattle.std.proofs.lemmas.List.Elements.{All-nil, All-cons, All-head, All-tail}
use Rattle.number_laws.proofs.Ring.{num, var, plus, minus, times, ring}
use Rattle.number_laws.specs.Fractions.{IsIn}
use Rattle.path_geometry.specs.Arcs.{start_seen, end_seen}
use Rattle.path_geometry.specs.Ends.{EndsView}
use Rattle.path_geometry.specs.Motions.{HavePlane, IsSound, IsSoundArc}
use Rattle.path_geometry.specs.Path.{Point, way_divided, IsOnLine, IsBetween, IsOnRapid, point_seen, IsSwept, IsOnArc, IsOnPath}
use Rattle.path_geometry.specs.Vectors.{Vector, square}
use Rattle.path_geometry.specs.declared.motion.Arc.{Arc}
use Rattle.path_geometry.specs.declared.motion.Motion.{Motion}
use Rattle.path_geometry.specs.declared.motion.Motion.TheVariants.{Line, Rapid}
use Rattle.path_geometry.specs.declared.motion.Motion.TheVariants as Kind
use Rattle.tool_offsets.specs.Shifts.{shift_of, shifted_entry, shifted_ends, shifted_arc, shifted, IsOnShiftedPath}
use Rattle.tool_offsets.proofs.ShiftLaws.{Entry, start_seen_alike, end_seen_alike}

-- what holds of each element holds of each that is made of it, and the other way round
all_made : {X : Type 0} (P Q : X → Type 0) (f : X → X) → ((x : X) → P x → Q (f x)) → (xs : List X) → All P xs → All Q (map f xs)
all_made P Q f each [] all = All-nil Q
all_made P Q f each (x ∷ xs) all = All-cons Q (f x) (map f xs) (each x (All-head P x xs all)) (all_made P Q f each xs (All-tail P x xs all))

all_unmade : {X : Type 0} (P Q : X → Type 0) (f : X → X) → ((x : X) → Q (f x) → P x) → (xs : List X) → All Q (map f xs) → All P xs
all_unmade P Q f each [] all = All-nil P
all_unmade P Q f each (x ∷ xs) all = All-cons P x xs (each x (All-head Q (f x) (map f xs) all)) (all_unmade P Q f each xs (All-tail Q (f x) (map f xs) all))

-- two points are one but for the shift
record IsShift (by : List (ℕ × ℤ)) (from to : Point) : Type 0 where
  under : to.under ≡ from.under
  top : (axis : ℕ) → to.top axis ≡ from.top axis +ℤ (shift_of by axis *ℤ pos from.under)

-- ---- numbers

-- a position that divides a way divides the shifted way alike
divided_alike : (start end by whole part : ℤ) (under : ℤ)
    → (((start +ℤ by) *ℤ (whole -ℤ part)) +ℤ ((end +ℤ by) *ℤ part)) *ℤ under ≡ (((start *ℤ (whole -ℤ part)) +ℤ (end *ℤ part)) *ℤ under) +ℤ ((by *ℤ under) *ℤ whole)
divided_alike start end by whole part under =
    ring (start ∷ end ∷ by ∷ whole ∷ part ∷ under ∷ [])
    (times (plus (times (plus (var 0) (var 2)) (minus (var 3) (var 4))) (times (plus (var 1) (var 2)) (var 4))) (var 5))
    (plus (times (plus (times (var 0) (minus (var 3) (var 4))) (times (var 1) (var 4))) (var 5)) (times (times (var 2) (var 5)) (var 3)))
    tt

times_more : (top by whole : ℤ) → (top +ℤ by) *ℤ whole ≡ (top *ℤ whole) +ℤ (by *ℤ whole)
times_more top by whole = ring (top ∷ by ∷ whole ∷ []) (times (plus (var 0) (var 1)) (var 2)) (plus (times (var 0) (var 2)) (times (var 1) (var 2))) tt

same_more : (a b c : ℤ) → a ≡ b → a +ℤ c ≡ b +ℤ c
same_more a b c e = omega (arith, ints)

same_less : (a b c : ℤ) → a +ℤ c ≡ b +ℤ c → a ≡ b
same_less a b c e = omega (arith, ints)

min_more : (a b by : ℤ) → int_min (a +ℤ by) (b +ℤ by) ≡ int_min a b +ℤ by
min_more a b by = omega (arith, ints, clamps)

max_more : (a b by : ℤ) → int_max (a +ℤ by) (b +ℤ by) ≡ int_max a b +ℤ by
max_more a b by = omega (arith, ints, clamps)

in_more : (low high top by under_by : ℤ) (under : ℕ) → (by *ℤ pos under) ≡ under_by → IsIn low high top under → IsIn (low +ℤ by) (high +ℤ by) (top +ℤ under_by) under
in_more low high top by under_by under is here =
    let at_low = times_more low by (pos under) in
    let at_high = times_more high by (pos under) in
    let above : (low *ℤ pos under) ≤ℤ top = here.above in
    let below : top ≤ℤ (high *ℤ pos under) = here.below in
    record { above = omega (arith, ints); below = omega (arith, ints) }

in_less : (low high top by under_by : ℤ) (under : ℕ) → (by *ℤ pos under) ≡ under_by → IsIn (low +ℤ by) (high +ℤ by) (top +ℤ under_by) under → IsIn low high top under
in_less low high top by under_by under is there =
    let at_low = times_more low by (pos under) in
    let at_high = times_more high by (pos under) in
    let above : ((low +ℤ by) *ℤ pos under) ≤ℤ (top +ℤ under_by) = there.above in
    let below : (top +ℤ under_by) ≤ℤ ((high +ℤ by) *ℤ pos under) = there.below in
    record { above = omega (arith, ints); below = omega (arith, ints) }

seen_alike : (top centre by under : ℤ) → (top +ℤ (by *ℤ under)) -ℤ ((centre +ℤ by) *ℤ under) ≡ top -ℤ (centre *ℤ under)
seen_alike top centre by under =
    ring (top ∷ centre ∷ by ∷ under ∷ [])
    (minus (plus (var 0) (times (var 2) (var 3))) (times (plus (var 1) (var 2)) (var 3)))
    (minus (var 0) (times (var 1) (var 3)))
    tt

vector_is : (u v other_u other_v : ℤ) → u ≡ other_u → v ≡ other_v → (let w : Vector = record { u = u; v = v } in w) ≡ record { u = other_u; v = other_v }
vector_is u v other_u other_v e f = rw (e, f) refl

-- ---- paths

module _ (by : List (ℕ × ℤ)) (from to : Point) (is : IsShift by from to) where
  -- an axis is between its start and its end where it is between the shifted ones
  between_more : (e : Entry) → IsBetween from e → IsBetween to (shifted_entry by e)
  between_more e here =
      rw (min_more e.1 e.2 (shift_of by e.0), max_more e.1 e.2 (shift_of by e.0), is.top e.0, is.under)
      (in_more (int_min e.1 e.2) (int_max e.1 e.2) (from.top e.0) (shift_of by e.0) (shift_of by e.0 *ℤ pos from.under) from.under refl here)

  between_less : (e : Entry) → IsBetween to (shifted_entry by e) → IsBetween from e
  between_less e there =
      let there' = rw (min_more e.1 e.2 (shift_of by e.0), max_more e.1 e.2 (shift_of by e.0), is.top e.0, is.under) at there in
      in_less (int_min e.1 e.2) (int_max e.1 e.2) (from.top e.0) (shift_of by e.0) (shift_of by e.0 *ℤ pos from.under) from.under refl there'

  -- an axis has gone the same part of its way
  gone_alike : (e : Entry) (whole part : ℕ)
      → to.top e.0 *ℤ pos whole ≡ (from.top e.0 *ℤ pos whole) +ℤ ((shift_of by e.0 *ℤ pos from.under) *ℤ pos whole)
  gone_alike e whole part = ap (λ (t : ℤ). t *ℤ pos whole) (is.top e.0) ∙ times_more (from.top e.0) (shift_of by e.0 *ℤ pos from.under) (pos whole)

  way_alike : (e : Entry) (whole part : ℕ)
      → way_divided (e.1 +ℤ shift_of by e.0) (e.2 +ℤ shift_of by e.0) whole part *ℤ pos to.under ≡ (way_divided e.1 e.2 whole part *ℤ pos from.under) +ℤ ((shift_of by e.0 *ℤ pos from.under) *ℤ pos whole)
  way_alike e whole part =
      ap (λ (n : ℕ). way_divided (e.1 +ℤ shift_of by e.0) (e.2 +ℤ shift_of by e.0) whole part *ℤ pos n) is.under
      ∙ divided_alike e.1 e.2 (shift_of by e.0) (pos whole) (pos part) (pos from.under)

  line_more : (ends : EndsView) → IsOnLine ends from → IsOnLine (shifted_ends by ends) to
  line_more ends on = record {
    whole = on.whole;
    part = on.part;
    above_none = on.above_none;
    no_further = on.no_further;
    fraction = rw is.under on.fraction;
    gone = all_made (λ e. from.top e.0 *ℤ pos on.whole ≡ way_divided e.1 e.2 on.whole on.part *ℤ pos from.under) (λ e. to.top e.0 *ℤ pos on.whole ≡ way_divided e.1 e.2 on.whole on.part *ℤ pos to.under) (shifted_entry by)
        (λ e here. gone_alike e on.whole on.part ∙ same_more _ _ _ here ∙ sym (way_alike e on.whole on.part)) ends.axes on.gone;
  }

  line_less : (ends : EndsView) → IsOnLine (shifted_ends by ends) to → IsOnLine ends from
  line_less ends on = record {
    whole = on.whole;
    part = on.part;
    above_none = on.above_none;
    no_further = on.no_further;
    fraction = rw (← is.under) on.fraction;
    gone = all_unmade (λ e. from.top e.0 *ℤ pos on.whole ≡ way_divided e.1 e.2 on.whole on.part *ℤ pos from.under) (λ e. to.top e.0 *ℤ pos on.whole ≡ way_divided e.1 e.2 on.whole on.part *ℤ pos to.under) (shifted_entry by)
        (λ e there. same_less _ _ ((shift_of by e.0 *ℤ pos from.under) *ℤ pos on.whole) (sym (gone_alike e on.whole on.part) ∙ there ∙ way_alike e on.whole on.part)) ends.axes on.gone;
  }

  rapid_more : (ends : EndsView) → IsOnRapid ends from → IsOnRapid (shifted_ends by ends) to
  rapid_more ends on = record {
    fraction = rw is.under on.fraction;
    between = all_made (IsBetween from) (IsBetween to) (shifted_entry by) between_more ends.axes on.between;
  }

  rapid_less : (ends : EndsView) → IsOnRapid (shifted_ends by ends) to → IsOnRapid ends from
  rapid_less ends on = record {
    fraction = rw (← is.under) on.fraction;
    between = all_unmade (IsBetween from) (IsBetween to) (shifted_entry by) between_less ends.axes on.between;
  }

  module _ (arc : Arc) (plane : HavePlane arc.ends arc.first arc.second) where
    point_alike : point_seen (shifted_arc by arc) to ≡ point_seen arc from
    point_alike =
        vector_is _ _ _ _
        (rw (is.top arc.first, is.under) (seen_alike (from.top arc.first) arc.centre.0 (shift_of by arc.first) (pos from.under)))
        (rw (is.top arc.second, is.under) (seen_alike (from.top arc.second) arc.centre.1 (shift_of by arc.second) (pos from.under)))

    start_alike : start_seen (shifted_arc by arc) ≡ start_seen arc
    start_alike = start_seen_alike by arc.ends arc.first arc.second plane arc.centre

    end_alike : end_seen (shifted_arc by arc) ≡ end_seen arc
    end_alike = end_seen_alike by arc.ends arc.first arc.second plane arc.centre

    swept_more : IsSwept (start_seen arc) (end_seen arc) (point_seen arc from) → IsSwept (start_seen (shifted_arc by arc)) (end_seen (shifted_arc by arc)) (point_seen (shifted_arc by arc) to)
    swept_more swept =
        subst (λ (s : Vector). IsSwept s (end_seen (shifted_arc by arc)) (point_seen (shifted_arc by arc) to)) (sym start_alike)
        (subst (λ (e : Vector). IsSwept (start_seen arc) e (point_seen (shifted_arc by arc) to)) (sym end_alike) (subst (IsSwept (start_seen arc) (end_seen arc)) (sym point_alike) swept))

    swept_less : IsSwept (start_seen (shifted_arc by arc)) (end_seen (shifted_arc by arc)) (point_seen (shifted_arc by arc) to) → IsSwept (start_seen arc) (end_seen arc) (point_seen arc from)
    swept_less swept =
        subst (IsSwept (start_seen arc) (end_seen arc)) point_alike
        (subst (λ (e : Vector). IsSwept (start_seen arc) e (point_seen (shifted_arc by arc) to)) end_alike (subst (λ (s : Vector). IsSwept s (end_seen (shifted_arc by arc)) (point_seen (shifted_arc by arc) to)) start_alike swept))

    inner_alike : (arc.inner * to.under) * (arc.inner * to.under) ≡ (arc.inner * from.under) * (arc.inner * from.under)
    inner_alike = ap (λ (n : ℕ). (arc.inner * n) * (arc.inner * n)) is.under

    outer_alike : (arc.outer * to.under) * (arc.outer * to.under) ≡ (arc.outer * from.under) * (arc.outer * from.under)
    outer_alike = ap (λ (n : ℕ). (arc.outer * n) * (arc.outer * n)) is.under

    arc_more : IsOnArc arc from → IsOnArc (shifted_arc by arc) to
    arc_more on = record {
      fraction = rw is.under on.fraction;
      from_inner = let seen = ap square point_alike in let inner = inner_alike in let near = on.from_inner in omega arith;
      to_outer = let seen = ap square point_alike in let outer = outer_alike in let near = on.to_outer in omega arith;
      swept = λ not. swept_more (on.swept not);
      others = all_made (λ e. e.0 ≢ arc.first → e.0 ≢ arc.second → IsBetween from e) (λ e. e.0 ≢ arc.first → e.0 ≢ arc.second → IsBetween to e) (shifted_entry by)
          (λ e here not_first not_second. between_more e (here not_first not_second)) arc.ends.axes on.others;
    }

    arc_less : IsOnArc (shifted_arc by arc) to → IsOnArc arc from
    arc_less on = record {
      fraction = rw (← is.under) on.fraction;
      from_inner = let seen = ap square point_alike in let inner = inner_alike in let near = on.from_inner in omega arith;
      to_outer = let seen = ap square point_alike in let outer = outer_alike in let near = on.to_outer in omega arith;
      swept = λ not. swept_less (on.swept not);
      others = all_unmade (λ e. e.0 ≢ arc.first → e.0 ≢ arc.second → IsBetween from e) (λ e. e.0 ≢ arc.first → e.0 ≢ arc.second → IsBetween to e) (shifted_entry by)
          (λ e there not_first not_second. between_less e (there not_first not_second)) arc.ends.axes on.others;
    }

  path_more : (motion : Motion) → IsSound motion → IsOnPath motion from → IsOnPath (shifted by motion) to
  path_more (Line ends) sound on = line_more ends on
  path_more (Rapid ends) sound on = rapid_more ends on
  path_more (Kind.Arc arc) sound on = arc_more arc sound.plane on

  path_less : (motion : Motion) → IsSound motion → IsOnPath (shifted by motion) to → IsOnPath motion from
  path_less (Line ends) sound on = line_less ends on
  path_less (Rapid ends) sound on = rapid_less ends on
  path_less (Kind.Arc arc) sound on = arc_less arc sound.plane on

-- ---- both ways

back : (top by : ℤ) → top ≡ (top -ℤ by) +ℤ by
back top by = omega (arith, ints)

pub shifted_from : (by : List (ℕ × ℤ)) (motion : Motion) (point : Point) → IsSound motion → IsOnPath (shifted by motion) point → IsOnShiftedPath by motion point
shifted_from by motion point sound on =
    let from : Point = record { top = λ axis. point.top axis -ℤ (shift_of by axis *ℤ pos point.under); under = point.under } in
    let is : IsShift by from point = record { under = refl; top = λ axis. back (point.top axis) (shift_of by axis *ℤ pos point.under) } in
    record { from = from; on = path_less by from point is motion sound on; under = refl; top = is.top }

pub shifted_to : (by : List (ℕ × ℤ)) (motion : Motion) (point : Point) → IsSound motion → IsOnShiftedPath by motion point → IsOnPath (shifted by motion) point
shifted_to by motion point sound on = path_more by on.from point (record { under = on.under; top = on.top }) motion sound on.on
