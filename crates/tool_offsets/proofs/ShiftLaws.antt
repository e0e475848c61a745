-- A shifted motion: where its axes start and end, its vectors, and its arcs.
use Rattle.std.proofs.Common.{◌≡◌, ◌≢◌, ◌∙◌, ◌⊎◌, ◌==◌, ◌&&◌, ◌||◌, not, ◌+ℤ◌, ◌-ℤ◌, ◌+◌, ◌-◌, min, max, ◌<◌, ◌≤◌, ℕ, zero, suc, ℤ, pos, Bool, true, false, cond, List, [], ◌∷◌, length, get_or, find, map, All, AllPairs, Option, None, Some, Result, Ok, Err, IfOk, IsTrue, inl, inr, refl, ap, subst, sym, arith}
use Rattle.std.proofs.lemmas.Bool.{and_parts, eqb-true, leb-true}
use Rattle.std.proofs.lemmas.Int.{ints}
use Rattle.std.proofs.lemmas.List.{get_or-map, length-map}
use Rattle.std.proofs.lemmas.List.Elements.{All-nil, All-cons}
use Rattle.std.specs.List.{list_all, list_any}
use Rattle.std.specs.Option.{option_map_or}
use Rattle.micro_units.specs.Root.{floor_root, ceil_root}
use Rattle.micro_units.specs.Position.{is_position, IsPosition}
use Rattle.number_laws.proofs.FloorLaws.{floor_div-le, floor_div-next}
use Rattle.number_laws.specs.Floors.{floor_div}
use Rattle.path_geometry.specs.Arcs.{start_about, end_about, way_of, arc_with, unless_alarm, centre_alarm, arc_about, radius_alarm, on_side, offset, centre_of, has_no_radius, place_alarm, arc_placed, arc_of_radius}
use Rattle.path_geometry.specs.Ends.{EndsView, start_of, end_of}
use Rattle.path_geometry.specs.Motions.{AreSound, HavePlane, IsAbout, IsOfRadius, IsSoundArc, IsSound}
use Rattle.path_geometry.specs.Vectors.{Vector, square}
use Rattle.path_geometry.specs.declared.motion.Arc.{Arc}
use Rattle.path_geometry.specs.declared.motion.Motion.{Motion}
use Rattle.path_geometry.specs.declared.motion.Motion.TheVariants.{Line, Rapid}
use Rattle.path_geometry.specs.declared.motion.Motion.TheVariants as Kind
use Rattle.tool_offsets.specs.Shifts.{shift_of, shifted_entry, shifted_ends, shifted_centre, shifted_arc, shifted, is_entry_in_range, are_in_range, is_in_range, in_range_or_alarm, shifted_if_made}

abbrev pub Entry : Type 0
Entry = ℕ × ℤ × ℤ

vector_is : (u v other_u other_v : ℤ) → u ≡ other_u → v ≡ other_v → (let w : Vector = record { u = u; v = v } in w) ≡ record { u = other_u; v = other_v }
vector_is u v other_u other_v e f = rw (e, f) refl

seen_alike : (at from by : ℤ) → (at +ℤ by) -ℤ (from +ℤ by) ≡ at -ℤ from
seen_alike at from by = omega (arith, ints)

-- what is in its place only where this holds
pub none_where : {A : Type 0} (b : Bool) (x : A) → cond b (Some x) None ≡ None → b ≡ false
none_where true x is = absurd cc
none_where false x is = refl

-- an arc by the vectors from its centre to its start and its end and the way between them, and its answer
abbrev arc_of : EndsView → ℕ → ℕ → ℤ × ℤ → ℕ → Vector → Vector → Vector → Arc
arc_of ends first second centre room s e way = record {
  ends = ends;
  first = first;
  second = second;
  centre = centre;
  inner = floor_root (min (square s) (square e)) - room;
  outer = ceil_root (max (square s) (square e)) + room;
  full = square way == 0;
}

abbrev about_of : Arc → Vector → Vector → Vector → Result Motion ℕ
about_of arc s e way = unless_alarm (centre_alarm (square way == 0) s e) (Ok (Kind.Arc arc))

alike : {A : Type 0} (f : Vector → Vector → Vector → A) {s t e u v w : Vector} → s ≡ t → e ≡ u → v ≡ w → f s e v ≡ f t u w
alike f {s} {t} {e} {u} {v} {w} p q r = ap (λ (x : Vector). f x e v) p ∙ ap (λ (x : Vector). f t x v) q ∙ ap (f t u) r

-- the answer of an arc whose centre came by its radius, and is in range or not
abbrev placed_by : Bool → Arc → Vector → Vector → Result Motion ℕ
placed_by near arc s e = unless_alarm (cond (not near) (Some 13) (cond (has_no_radius s e) (Some 22) None)) (Ok (Kind.Arc arc))

pair_is : (a b c d : ℤ) → a ≡ c → b ≡ d → (let both : ℤ × ℤ = (a, b) in both) ≡ (c, d)
pair_is a b c d e f = rw (e, f) refl

-- the half of a sum that grows by twice a number grows by the number
half_more : (sum by : ℤ) → floor_div (sum +ℤ (by +ℤ by)) 2 ≡ floor_div sum 2 +ℤ by
half_more sum by =
    omega (arith, ints, floor_div-le sum 2 (omega arith), floor_div-next sum 2 (omega arith), floor_div-le (sum +ℤ (by +ℤ by)) 2 (omega arith), floor_div-next (sum +ℤ (by +ℤ by)) 2 (omega arith))

before_middle : (start end less by : ℤ) → floor_div (((start +ℤ by) +ℤ (end +ℤ by)) -ℤ less) 2 ≡ floor_div ((start +ℤ end) -ℤ less) 2 +ℤ by
before_middle start end less by =
    let regrouped : ((start +ℤ by) +ℤ (end +ℤ by)) -ℤ less ≡ ((start +ℤ end) -ℤ less) +ℤ (by +ℤ by) = omega (arith, ints) in
    ap (λ (z : ℤ). floor_div z 2) regrouped ∙ half_more ((start +ℤ end) -ℤ less) by

after_middle : (start end more by : ℤ) → floor_div (((start +ℤ by) +ℤ (end +ℤ by)) +ℤ more) 2 ≡ floor_div ((start +ℤ end) +ℤ more) 2 +ℤ by
after_middle start end more by =
    let regrouped : ((start +ℤ by) +ℤ (end +ℤ by)) +ℤ more ≡ ((start +ℤ end) +ℤ more) +ℤ (by +ℤ by) = omega (arith, ints) in
    ap (λ (z : ℤ). floor_div z 2) regrouped ∙ half_more ((start +ℤ end) +ℤ more) by

-- an arc of a radius has its own centre, in range
centre_is : (arc : Arc) (radius : ℕ) (long : Bool) → arc_of_radius arc.ends arc.first arc.second radius long ≡ Ok (Kind.Arc arc)
    → (centre_of arc.ends arc.first arc.second radius long ≡ arc.centre)
    × (is_position (centre_of arc.ends arc.first arc.second radius long).0 && is_position (centre_of arc.ends arc.first arc.second radius long).1 ≡ true)
unfolding arc_of_radius arc_placed place_alarm arc_with
centre_is arc radius long =
    by_tests (radius_alarm (way_of arc.ends arc.first arc.second) radius)
    (is_position (centre_of arc.ends arc.first arc.second radius long).0 && is_position (centre_of arc.ends arc.first arc.second radius long).1)
    (has_no_radius (start_about arc.ends arc.first arc.second (centre_of arc.ends arc.first arc.second radius long)) (end_about arc.ends arc.first arc.second (centre_of arc.ends arc.first arc.second radius long)))
  where
    by_tests : (o : Option ℕ) (near none : Bool)
        → unless_alarm o (unless_alarm (cond (not near) (Some 13) (cond none (Some 22) None)) (Ok (Kind.Arc (arc_with arc.ends arc.first arc.second (centre_of arc.ends arc.first arc.second radius long) 2)))) ≡ Ok (Kind.Arc arc)
        → (centre_of arc.ends arc.first arc.second radius long ≡ arc.centre) × (near ≡ true)
    by_tests (Some alarm) near none gives = absurd cc
    by_tests None false none gives = absurd cc
    by_tests None true true gives = absurd cc
    by_tests None true false gives =
        let same : arc_with arc.ends arc.first arc.second (centre_of arc.ends arc.first arc.second radius long) 2 ≡ arc = cc in
        (ap (λ (a : Arc). a.centre) same, refl)

module _ (by : List (ℕ × ℤ)) where
  -- the axes of the shifted ends are the same
  pub any_shifted : (axes : List Entry) (axis : ℕ) → list_any (λ e. e.0 == axis) (map (shifted_entry by) axes) ≡ list_any (λ e. e.0 == axis) axes
  any_shifted [] axis = refl
  any_shifted (e ∷ axes) axis = ap (λ (b : Bool). (e.0 == axis) || b) (any_shifted axes axis)

  -- a start and an end is shifted by as much as its axis
  found_shifted : (part : Entry → ℤ) → ((e : Entry) → part (shifted_entry by e) ≡ part e +ℤ shift_of by e.0)
      → (axes : List Entry) (axis : ℕ) → list_any (λ e. e.0 == axis) axes ≡ true
      → option_map_or part (find (λ e. e.0 == axis) (map (shifted_entry by) axes)) (pos 0) ≡ option_map_or part (find (λ e. e.0 == axis) axes) (pos 0) +ℤ shift_of by axis
  found_shifted part moves [] axis has = absurd cc
  found_shifted part moves (e ∷ axes) axis has = by_test (e.0 == axis) refl has (found_shifted part moves axes axis)
    where
      by_test : (b : Bool) → (e.0 == axis) ≡ b → b || list_any (λ f. f.0 == axis) axes ≡ true
          → (list_any (λ f. f.0 == axis) axes ≡ true → option_map_or part (find (λ f. f.0 == axis) (map (shifted_entry by) axes)) (pos 0) ≡ option_map_or part (find (λ f. f.0 == axis) axes) (pos 0) +ℤ shift_of by axis)
          → option_map_or part (cond b (Some (shifted_entry by e)) (find (λ f. f.0 == axis) (map (shifted_entry by) axes))) (pos 0) ≡ option_map_or part (cond b (Some e) (find (λ f. f.0 == axis) axes)) (pos 0) +ℤ shift_of by axis
      by_test true is has rest = moves e ∙ ap (λ (a : ℕ). part e +ℤ shift_of by a) (eqb-true e.0 axis is)
      by_test false is has rest = rest has

  module _ (ends : EndsView) where
    pub start_shifted : (axis : ℕ) → list_any (λ e. e.0 == axis) ends.axes ≡ true → start_of (shifted_ends by ends) axis ≡ start_of ends axis +ℤ shift_of by axis
    start_shifted axis has = found_shifted (λ e. e.1) (λ e. refl) ends.axes axis has

    pub end_shifted : (axis : ℕ) → list_any (λ e. e.0 == axis) ends.axes ≡ true → end_of (shifted_ends by ends) axis ≡ end_of ends axis +ℤ shift_of by axis
    end_shifted axis has = found_shifted (λ e. e.2) (λ e. refl) ends.axes axis has

    pub sound_shifted : AreSound ends → are_in_range (shifted_ends by ends) ≡ true → AreSound (shifted_ends by ends)
    sound_shifted sound range = record {
      once = λ i j d before inside.
          let in_axes : j < length ends.axes = omega (arith, length-map ends.axes (shifted_entry by)) in
          let first_in : i < length ends.axes = omega arith in
          let first = get_or-map (shifted_entry by) ends.axes i d d first_in in
          let second = get_or-map (shifted_entry by) ends.axes j d d in_axes in
          λ same. sound.once i j d before in_axes (sym (ap (λ (e : Entry). e.0) first) ∙ same ∙ ap (λ (e : Entry). e.0) second);
      in_range = near (map (shifted_entry by) ends.axes) range;
    }
      where
        near : (axes : List Entry) → list_all (λ e. is_position e.1 && is_position e.2) axes ≡ true → All (λ e. IsPosition e.1 × IsPosition e.2) axes
        near [] is = All-nil (λ e. IsPosition e.1 × IsPosition e.2)
        near (e ∷ axes) is =
            let parts = and_parts (is_position e.1 && is_position e.2) (list_all (λ e. is_position e.1 && is_position e.2) axes) is in
            let both = and_parts (is_position e.1) (is_position e.2) parts.0 in
            All-cons (λ e. IsPosition e.1 × IsPosition e.2) e axes (leb-true _ _ both.0, leb-true _ _ both.1) (near axes parts.1)

    module _ (first second : ℕ) (plane : HavePlane ends first second) where
      pub plane_shifted : HavePlane (shifted_ends by ends) first second
      plane_shifted = record {
        differ = plane.differ;
        has_first = subst IsTrue (sym (any_shifted ends.axes first)) plane.has_first;
        has_second = subst IsTrue (sym (any_shifted ends.axes second)) plane.has_second;
      }

      way_shifted : way_of (shifted_ends by ends) first second ≡ way_of ends first second
      way_shifted =
          vector_is _ _ _ _
          (rw (end_shifted first plane.has_first, start_shifted first plane.has_first) (seen_alike (end_of ends first) (start_of ends first) (shift_of by first)))
          (rw (end_shifted second plane.has_second, start_shifted second plane.has_second) (seen_alike (end_of ends second) (start_of ends second) (shift_of by second)))

      module _ (centre : ℤ × ℤ) where
        pub start_seen_alike : start_about (shifted_ends by ends) first second (shifted_centre by first second centre) ≡ start_about ends first second centre
        start_seen_alike =
            vector_is _ _ _ _
            (rw (start_shifted first plane.has_first) (seen_alike (start_of ends first) centre.0 (shift_of by first)))
            (rw (start_shifted second plane.has_second) (seen_alike (start_of ends second) centre.1 (shift_of by second)))

        pub end_seen_alike : end_about (shifted_ends by ends) first second (shifted_centre by first second centre) ≡ end_about ends first second centre
        end_seen_alike =
            vector_is _ _ _ _
            (rw (end_shifted first plane.has_first) (seen_alike (end_of ends first) centre.0 (shift_of by first)))
            (rw (end_shifted second plane.has_second) (seen_alike (end_of ends second) centre.1 (shift_of by second)))

        pub arc_shifted : (room : ℕ) → arc_with (shifted_ends by ends) first second (shifted_centre by first second centre) room ≡ shifted_arc by (arc_with ends first second centre room)
        unfolding arc_with
        arc_shifted room =
            let moved : Vector → Vector → Vector → Arc = arc_of (shifted_ends by ends) first second (shifted_centre by first second centre) room in
            alike moved start_seen_alike end_seen_alike way_shifted

        -- the arc about the shifted centre
        pub about_shifted : arc_about (shifted_ends by ends) first second (shifted_centre by first second centre) ≡ shifted_if_made by (arc_about ends first second centre)
        unfolding arc_about
        about_shifted =
            ap (λ (arc : Arc). about_of arc (start_about (shifted_ends by ends) first second (shifted_centre by first second centre)) (end_about (shifted_ends by ends) first second (shifted_centre by first second centre)) (way_of (shifted_ends by ends) first second)) (arc_shifted 0)
            ∙ alike (about_of (shifted_arc by (arc_with ends first second centre 0))) start_seen_alike end_seen_alike way_shifted
            ∙ by_alarm (centre_alarm (square (way_of ends first second) == 0) (start_about ends first second centre) (end_about ends first second centre))
          where
            by_alarm : (o : Option ℕ) → unless_alarm o (Ok (Kind.Arc (shifted_arc by (arc_with ends first second centre 0)))) ≡ shifted_if_made by (unless_alarm o (Ok (Kind.Arc (arc_with ends first second centre 0))))
            by_alarm None = refl
            by_alarm (Some alarm) = refl

        -- the arc about such a centre that came by a radius, where both centres are in range
        placed_shifted : is_position (centre.0 +ℤ shift_of by first) && is_position (centre.1 +ℤ shift_of by second) ≡ true → is_position centre.0 && is_position centre.1 ≡ true
            → arc_placed (shifted_ends by ends) first second (shifted_centre by first second centre) ≡ shifted_if_made by (arc_placed ends first second centre)
        unfolding arc_placed place_alarm
        placed_shifted near_there near_here =
            ap (λ (b : Bool). placed_by b (arc_with (shifted_ends by ends) first second (shifted_centre by first second centre) 2) (start_about (shifted_ends by ends) first second (shifted_centre by first second centre)) (end_about (shifted_ends by ends) first second (shifted_centre by first second centre))) near_there
            ∙ ap (λ (arc : Arc). placed_by true arc (start_about (shifted_ends by ends) first second (shifted_centre by first second centre)) (end_about (shifted_ends by ends) first second (shifted_centre by first second centre))) (arc_shifted 2)
            ∙ ap (λ (s : Vector). placed_by true (shifted_arc by (arc_with ends first second centre 2)) s (end_about (shifted_ends by ends) first second (shifted_centre by first second centre))) start_seen_alike
            ∙ ap (placed_by true (shifted_arc by (arc_with ends first second centre 2)) (start_about ends first second centre)) end_seen_alike
            ∙ by_radius (has_no_radius (start_about ends first second centre) (end_about ends first second centre))
            ∙ ap (λ (b : Bool). shifted_if_made by (placed_by b (arc_with ends first second centre 2) (start_about ends first second centre) (end_about ends first second centre))) (sym near_here)
          where
            by_radius : (none : Bool) → unless_alarm (cond none (Some 22) None) (Ok (Kind.Arc (shifted_arc by (arc_with ends first second centre 2))))
                ≡ shifted_if_made by (unless_alarm (cond none (Some 22) None) (Ok (Kind.Arc (arc_with ends first second centre 2))))
            by_radius true = refl
            by_radius false = refl

      module _ (radius : ℕ) (long : Bool) where
        abbrev centre : ℤ × ℤ
        centre = centre_of ends first second radius long

        centre_shifted : centre_of (shifted_ends by ends) first second radius long ≡ shifted_centre by first second centre
        unfolding centre_of
        centre_shifted =
            ap (λ (way : Vector). (floor_div ((start_of (shifted_ends by ends) first +ℤ end_of (shifted_ends by ends) first) -ℤ on_side long (offset way radius way.v)) 2, floor_div ((start_of (shifted_ends by ends) second +ℤ end_of (shifted_ends by ends) second) +ℤ on_side long (offset way radius way.u)) 2)) way_shifted
            ∙ pair_is _ _ _ _
            (rw (start_shifted first plane.has_first, end_shifted first plane.has_first) (before_middle (start_of ends first) (end_of ends first) (on_side long (offset (way_of ends first second) radius (way_of ends first second).v)) (shift_of by first)))
            (rw (start_shifted second plane.has_second, end_shifted second plane.has_second) (after_middle (start_of ends second) (end_of ends second) (on_side long (offset (way_of ends first second) radius (way_of ends first second).u)) (shift_of by second)))

        -- the arc by a radius, where both centres are in range
        pub radius_shifted : is_position (centre.0 +ℤ shift_of by first) && is_position (centre.1 +ℤ shift_of by second) ≡ true → is_position centre.0 && is_position centre.1 ≡ true
            → arc_of_radius (shifted_ends by ends) first second radius long ≡ shifted_if_made by (arc_of_radius ends first second radius long)
        unfolding arc_of_radius
        radius_shifted near_there near_here =
            ap (λ (way : Vector). unless_alarm (radius_alarm way radius) (arc_placed (shifted_ends by ends) first second (centre_of (shifted_ends by ends) first second radius long))) way_shifted
            ∙ ap (λ (c : ℤ × ℤ). unless_alarm (radius_alarm (way_of ends first second) radius) (arc_placed (shifted_ends by ends) first second c)) centre_shifted
            ∙ ap (unless_alarm (radius_alarm (way_of ends first second) radius)) (placed_shifted centre near_there near_here)
            ∙ by_alarm (radius_alarm (way_of ends first second) radius)
          where
            by_alarm : (o : Option ℕ) → unless_alarm o (shifted_if_made by (arc_placed ends first second centre)) ≡ shifted_if_made by (unless_alarm o (arc_placed ends first second centre))
            by_alarm None = refl
            by_alarm (Some alarm) = refl

  -- ---- range

  -- where a shifted start or end is out of range, not all are in range
  pub out_at : (axes : List Entry) (i : ℕ) (e : Entry) → i < length axes → e ≡ get_or axes i e → is_entry_in_range (shifted_entry by e) ≡ false
      → list_all is_entry_in_range (map (shifted_entry by) axes) ≡ false
  out_at [] i e inside is out = absurd (omega arith)
  out_at (f ∷ axes) zero e inside is out = let here : is_entry_in_range (shifted_entry by f) ≡ false = subst (λ (g : Entry). is_entry_in_range (shifted_entry by g) ≡ false) is out in rw here refl
  out_at (f ∷ axes) (suc i) e inside is out = later (is_entry_in_range (shifted_entry by f)) (out_at axes i e (omega arith) is out)
    where
      later : (b : Bool) → list_all is_entry_in_range (map (shifted_entry by) axes) ≡ false → b && list_all is_entry_in_range (map (shifted_entry by) axes) ≡ false
      later true none = none
      later false none = refl

  -- ---- soundness

  of_made : (arc : Arc) → IsSoundArc arc → is_in_range (Kind.Arc (shifted_arc by arc)) ≡ true → IsAbout (shifted_arc by arc) ⊎ IsOfRadius (shifted_arc by arc)
  of_made arc sound range =
      let parts = and_parts (are_in_range (shifted_ends by arc.ends)) (is_position (arc.centre.0 +ℤ shift_of by arc.first) && is_position (arc.centre.1 +ℤ shift_of by arc.second)) range in
      by_kind sound.made parts.1
    where
      by_kind : IsAbout arc ⊎ IsOfRadius arc → is_position (arc.centre.0 +ℤ shift_of by arc.first) && is_position (arc.centre.1 +ℤ shift_of by arc.second) ≡ true
          → IsAbout (shifted_arc by arc) ⊎ IsOfRadius (shifted_arc by arc)
      by_kind (inl about) near =
          let both = and_parts (is_position (arc.centre.0 +ℤ shift_of by arc.first)) (is_position (arc.centre.1 +ℤ shift_of by arc.second)) near in
          inl (record {
            in_range = (leb-true _ _ both.0, leb-true _ _ both.1);
            gives = about_shifted arc.ends arc.first arc.second sound.plane arc.centre ∙ ap (shifted_if_made by) about.gives;
          })
      by_kind (inr of) near =
          let here = centre_is arc of.radius of.long of.gives in
          let near_there = subst (λ (c : ℤ × ℤ). is_position (c.0 +ℤ shift_of by arc.first) && is_position (c.1 +ℤ shift_of by arc.second) ≡ true) (sym here.0) near in
          inr (record {
            radius = of.radius;
            long = of.long;
            in_range = of.in_range;
            gives = radius_shifted arc.ends arc.first arc.second sound.plane of.radius of.long near_there here.1 ∙ ap (shifted_if_made by) of.gives;
          })

  -- a sound motion that is shifted is sound, where it is in range
  pub shifted_is_sound : (motion : Motion) → IsSound motion → is_in_range (shifted by motion) ≡ true → IsSound (shifted by motion)
  shifted_is_sound (Line ends) sound range = sound_shifted ends sound range
  shifted_is_sound (Rapid ends) sound range = sound_shifted ends sound range
  shifted_is_sound (Kind.Arc arc) sound range =
      let parts = and_parts (are_in_range (shifted_ends by arc.ends)) (is_position (arc.centre.0 +ℤ shift_of by arc.first) && is_position (arc.centre.1 +ℤ shift_of by arc.second)) range in
      record {
        ends = sound_shifted arc.ends sound.ends parts.0;
        plane = plane_shifted arc.ends arc.first arc.second sound.plane;
        made = of_made arc sound range;
      }

  -- so what is made of a sound motion is sound
  pub made_sound : (motion : Motion) (result : Result Motion ℕ) → IsSound motion → result ≡ in_range_or_alarm (shifted by motion) → IfOk result IsSound
  unfolding in_range_or_alarm
  made_sound motion result sound is = subst (λ (r : Result Motion ℕ). IfOk r IsSound) (sym is) (by_range (is_in_range (shifted by motion)) refl)
    where
      by_range : (b : Bool) → is_in_range (shifted by motion) ≡ b → IfOk {E = ℕ} (cond b (Ok (shifted by motion)) (Err 13)) IsSound
      by_range true range = shifted_is_sound motion sound range
      by_range false range = tt
