-- The pieces of an arc hold each point of its path, and lie in its cover.
use Rattle.swept_boxes.specs.declared.limits.TheConstants.{PIECE_LIMIT}
use Rattle.std.proofs.Common.{◌≡◌, ◌∙◌, ◌+◌, ◌-◌, ◌*◌, ◌/◌, ◌%◌, ◌^◌, ◌<◌, ◌≤◌, ◌⊎◌, ℕ, zero, suc, inl, inr, List, [], ◌∷◌, ◌++◌, Some, None, length, get_or, map, refl, ap, sym, subst, arith, length-append}
use Rattle.std.proofs.Math.Nat.{mul-le-mul, one-le-pow}
use Rattle.std.proofs.lemmas.List.{length-map, get_or-map}
use Rattle.std.proofs.Math.ListN.{get_or-map as get_or-map-same}
use Rattle.std.proofs.lemmas.List.Elements.{All-nil, All-cons, All-append, All-head, All-tail, All-map}
use Rattle.std.proofs.lemmas.List.FromFn.{length-map-range_with_len, get_or-map-range_with_len}
use Rattle.std.specs.List.{All, Any, flat_map, range_with_len, slice_get}
use Rattle.number_laws.proofs.Naturals.{le_or_lt, quotient_is}
use Rattle.number_laws.specs.Fractions.{IsIn}
use Rattle.arc_quadrants.specs.Bounds.{bounds_between, IsBound}
use Rattle.arc_quadrants.specs.Halves.{halves}
use Rattle.arc_quadrants.specs.Quadrants.{turned_back}
use Rattle.arc_quadrants.specs.Quarters.{quarter_count, quarter_at, quarters_of}
use Rattle.arc_quadrants.specs.declared.walk.Quarter.{Quarter}
use Rattle.arc_quadrants.proofs.ArcLaws.{arc_held, quarters_some, quarters_few}
use Rattle.arc_quadrants.proofs.BoundLaws.{IsHeld, from_some, to_some, halves_nest}
use Rattle.arc_quadrants.proofs.HalfLaws.{any_left, any_right, get_left, get_right, length-halves, few_parts}
use Rattle.arc_quadrants.proofs.QuarterLaws.{RunsAhead, runs_ahead}
use Rattle.arc_quadrants.proofs.SoundArcs.{start_some, end_some, outer_some}
use Rattle.path_geometry.specs.Arcs.{start_seen, end_seen}
use Rattle.path_geometry.specs.Motions.{IsSoundArc}
use Rattle.path_geometry.specs.Path.{Point, IsOnArc, point_seen}
use Rattle.path_geometry.specs.declared.motion.Arc.{Arc}
use Rattle.swept_boxes.specs.Cover.{box_of_quarter, cover_of_arc, AreSmallest}
use Rattle.swept_boxes.specs.Pieces.{range_over, ranges_over, box_of_part, pieces_of_quarter}
use Rattle.swept_boxes.specs.PlaneBoxes.{BoxInPlane, joined_all}
use Rattle.swept_boxes.specs.Ranges.{RangesView, Hold, LieIn}
use Rattle.swept_boxes.proofs.PlaneLaws.{turned_holds, range_holds, AreWithin, turned_within, within_trans, all_within, ranges_within, joined_least}

abbrev pub arc_pieces : Arc → ℕ → List RangesView
arc_pieces arc depth = flat_map (pieces_of_quarter arc depth) (quarters_of arc)

-- ---- lists of lists
any_map : {X Y : Type 0} (P : X → Type 0) (R : Y → Type 0) (f : X → Y) → ((x : X) → P x → R (f x)) → (xs : List X) → Any P xs → Any R (map f xs)
any_map P R f step xs (k, x, less, at, holds) =
    (k, f x, rw length-map less, get_or-map f xs k x (f x) less ∙ ap f at, step x holds)

any_flat : {X Y : Type 0} (P : Y → Type 0) (f : X → List Y) (xs : List X) (i : ℕ) (x : X) → i < length xs → get_or xs i x ≡ x → Any P (f x)
    → Any P (flat_map f xs)
any_flat P f [] i x less at holds = absurd (omega arith)
any_flat P f (y ∷ ys) zero x less at holds = any_left P (f y) (flat_map f ys) (subst (λ z. Any P (f z)) (sym at) holds)
any_flat P f (y ∷ ys) (suc i) x less at holds = any_right P (f y) (flat_map f ys) (any_flat P f ys i x (omega arith) at holds)

all_flat : {X Y : Type 0} (P : Y → Type 0) (f : X → List Y) (xs : List X) → All (λ x. All P (f x)) xs → All P (flat_map f xs)
all_flat P f [] h = All-nil P
all_flat P f (x ∷ xs) h =
    All-append P (f x) (flat_map f xs) (All-head (λ y. All P (f y)) x xs h) (all_flat P f xs (All-tail (λ y. All P (f y)) x xs h))

-- what holds of each piece of a list of lists holds of each piece of a list in it
part_left : {Y : Type 0} (P : Y → Type 0) (xs ys : List Y) → All P (xs ++ ys) → All P xs
part_left P [] ys h = All-nil P
part_left P (x ∷ xs) ys h = All-cons P x xs (All-head P x (xs ++ ys) h) (part_left P xs ys (All-tail P x (xs ++ ys) h))

part_right : {Y : Type 0} (P : Y → Type 0) (xs ys : List Y) → All P (xs ++ ys) → All P ys
part_right P [] ys h = h
part_right P (x ∷ xs) ys h = part_right P xs ys (All-tail P x (xs ++ ys) h)

flat_all : {X Y : Type 0} (P : Y → Type 0) (f : X → List Y) (xs : List X) → All P (flat_map f xs) → All (λ x. All P (f x)) xs
flat_all P f [] h = All-nil (λ x. All P (f x))
flat_all P f (x ∷ xs) h =
    All-cons (λ y. All P (f y)) x xs (part_left P (f x) (flat_map f xs) h) (flat_all P f xs (part_right P (f x) (flat_map f xs) h))

-- ---- covered
part_holds : (arc : Arc) (point : Point) (quarter : Quarter) (d : (ℕ × ℕ) × (ℕ × ℕ)) → IsOnArc arc point
    → IsBound (bounds_between arc.inner arc.outer d.0 d.1) (turned_back quarter.turn (point_seen arc point)) point.under
    → Hold (ranges_over arc (box_of_part arc quarter d)) point
part_holds arc point quarter d on is =
    All-map (λ r. IsIn r.1 r.2 (point.top r.0) point.under) (range_over arc (box_of_part arc quarter d)) arc.ends.axes
    (λ i e h. range_holds arc point (box_of_part arc quarter d)
    (turned_holds quarter.turn (bounds_between arc.inner arc.outer d.0 d.1) (point_seen arc point) point.under is)
    (get_or arc.ends.axes i e) (on.others i e h))

pub arc_covered : (arc : Arc) (depth : ℕ) (point : Point) → IsSoundArc arc → IsOnArc arc point → Any (λ piece. Hold piece point) (arc_pieces arc depth)
arc_covered arc depth point sound on = at_place (arc_held depth arc point sound on)
  where
    at_place : (place : ℕ) × (place < quarter_count (start_seen arc) (end_seen arc)) ×
        IsHeld depth arc.inner arc.outer (start_seen arc) (end_seen arc) (point_seen arc point) point.under place
        → Any (λ piece. Hold piece point) (arc_pieces arc depth)
    at_place (place, less, held) =
        let f = quarter_at arc.outer (start_seen arc) (end_seen arc) in
        any_flat (λ piece. Hold piece point) (pieces_of_quarter arc depth) (quarters_of arc) place (f place)
        (rw length-map-range_with_len less)
        (get_or-map-range_with_len f 0 (quarter_count (start_seen arc) (end_seen arc)) place place (f place) less (omega arith))
        (any_map (λ d. IsBound (bounds_between arc.inner arc.outer d.0 d.1) (turned_back (f place).turn (point_seen arc point)) point.under)
        (λ piece. Hold piece point) (λ d. ranges_over arc (box_of_part arc (f place) d)) (λ d is. part_holds arc point (f place) d on is)
        (halves depth (f place).from (f place).to) held)

-- ---- within the cover
-- a quarter runs ahead from one direction to another, neither of which is without length
pub record IsForward (quarter : Quarter) : Type 0 where
  pub from : 0 < quarter.from.0 + quarter.from.1
  pub to : 0 < quarter.to.0 + quarter.to.1
  pub ahead : RunsAhead quarter.from quarter.to

all_forward : (arc : Arc) → IsSoundArc arc → All IsForward (quarters_of arc)
all_forward arc sound =
    let s = start_seen arc in
    let e = end_seen arc in
    let places = range_with_len 0 (quarter_count s e) in
    All-map IsForward (quarter_at arc.outer s e) places
    (λ i d h. record {
      from = from_some arc.outer s e (get_or places i d) (start_some arc sound) (outer_some arc sound);
      to = to_some arc.outer s e (get_or places i d) (end_some arc sound) (outer_some arc sound);
      ahead = runs_ahead arc.outer s e (get_or places i d) (start_some arc sound) (end_some arc sound);
    })

pieces_within : (arc : Arc) (depth : ℕ) (q : Quarter) (whole : BoxInPlane) → IsForward q → AreWithin (box_of_quarter arc q) whole
    → All (λ piece. LieIn piece (ranges_over arc whole)) (pieces_of_quarter arc depth q)
pieces_within arc depth q whole forward within =
    All-map (λ piece. LieIn piece (ranges_over arc whole)) (λ d. ranges_over arc (box_of_part arc q d)) (halves depth q.from q.to)
    (λ i d h. let part = get_or (halves depth q.from q.to) i d in
    ranges_within arc (box_of_part arc q part) whole
    (within_trans (box_of_part arc q part) (box_of_quarter arc q) whole
    (turned_within q.turn (bounds_between arc.inner arc.outer part.0 part.1) (bounds_between arc.inner arc.outer q.from q.to)
    (halves_nest depth arc.inner arc.outer q.from q.to forward.from forward.to forward.ahead i d h))
    within))

of_mapped : {X Y : Type 0} (P : Y → Type 0) (f : X → Y) (xs : List X) → All P (map f xs) → All (λ x. P (f x)) xs
of_mapped P f xs h k d less = subst P (get_or-map-same f xs k d) (h k (f d) (rw length-map less))

pub arc_in_cover : (arc : Arc) (depth : ℕ) → IsSoundArc arc → All (λ piece. LieIn piece (cover_of_arc arc)) (arc_pieces arc depth)
arc_in_cover arc depth sound =
    let whole = joined_all (map (box_of_quarter arc) (quarters_of arc)) in
    let within = of_mapped (λ b. AreWithin b whole) (box_of_quarter arc) (quarters_of arc) (all_within (map (box_of_quarter arc) (quarters_of arc))) in
    all_flat (λ piece. LieIn piece (cover_of_arc arc)) (pieces_of_quarter arc depth) (quarters_of arc)
    (λ i d h. pieces_within arc depth (get_or (quarters_of arc) i d) whole (all_forward arc sound i d h) (within i d h))

-- ---- the cover is the smallest
first_piece : (arc : Arc) (other : RangesView) (q : Quarter) → All (λ piece. LieIn piece other) (pieces_of_quarter arc 0 q)
    → LieIn (ranges_over arc (box_of_quarter arc q)) other
first_piece arc other q h = All-head (λ piece. LieIn piece other) (ranges_over arc (box_of_quarter arc q)) [] h

pub arc_smallest : (arc : Arc) → IsSoundArc arc → AreSmallest (cover_of_arc arc) (arc_pieces arc 0)
arc_smallest arc sound =
    record {
      hold = arc_in_cover arc 0 sound;
      least = λ other h. let each = flat_all (λ piece. LieIn piece other) (pieces_of_quarter arc 0) (quarters_of arc) h in
          joined_least arc other (map (box_of_quarter arc) (quarters_of arc)) (rw length-map (quarters_some arc))
          (All-map (λ b. LieIn (ranges_over arc b) other) (box_of_quarter arc) (quarters_of arc)
          (λ i d less. first_piece arc other (get_or (quarters_of arc) i d) (each i d less)));
    }

-- ---- how many pieces there are
length_flat : {X Y : Type 0} (f : X → List Y) (n : ℕ) → ((x : X) → length (f x) ≡ n) → (xs : List X) → length (flat_map f xs) ≡ length xs * n
length_flat f n each [] = omega arith
length_flat f n each (x ∷ xs) = omega (arith, length-append (f x) (flat_map f xs), each x, length_flat f n each xs)

length_pieces : (arc : Arc) (depth : ℕ) (q : Quarter) → length (pieces_of_quarter arc depth q) ≡ 2 ^ depth
length_pieces arc depth q = rw length-map (length-halves depth q.from q.to)

pub few_arc_pieces : (arc : Arc) (depth : ℕ) → depth ≤ 4 → length (arc_pieces arc depth) ≤ PIECE_LIMIT
few_arc_pieces arc depth h =
    omega (arith, length_flat (pieces_of_quarter arc depth) (2 ^ depth) (length_pieces arc depth) (quarters_of arc), mul-le-mul (quarters_few arc) (few_parts depth h))

-- ---- a piece by its place
some_parts : (depth parts : ℕ) → parts ≡ 2 ^ depth → 0 < parts
some_parts depth parts is = omega (arith, one-le-pow depth 2 (omega arith))

get_map : {X Y : Type 0} (f : X → Y) (xs : List X) (k : ℕ) (x : X) → slice_get xs k ≡ Some x → slice_get (map f xs) k ≡ Some (f x)
get_map f [] k x h = absurd (cc)
get_map f (y ∷ ys) zero x h = let e : y ≡ x = cc in ap (λ z. Some (f z)) e
get_map f (y ∷ ys) (suc k) x h = get_map f ys k x h

quotient_low : (a d : ℕ) → 0 < d → (a / d) * d ≤ a
quotient_low a d h = omega arith

quotient_next : (a d : ℕ) → 0 < d → a < (a / d) * d + d
quotient_next a d h = omega arith

quarter_of_place : (i n : ℕ) → n ≤ i → 0 < n → i / n ≡ suc ((i - n) / n)
quarter_of_place i n h above =
    quotient_is i n (suc ((i - n) / n)) (omega (arith, quotient_low (i - n) n above)) (omega (arith, quotient_next (i - n) n above))

part_of_place : (i n : ℕ) → n ≤ i → 0 < n → i % n ≡ (i - n) % n
part_of_place i n h above = omega (arith, ap (λ (m : ℕ). n * m) (quarter_of_place i n h above))

get_flat : {X Y : Type 0} (f : X → List Y) (n : ℕ) → 0 < n → ((x : X) → length (f x) ≡ n) → (xs : List X) (i : ℕ) (x : X) (y : Y)
    → slice_get xs (i / n) ≡ Some x → slice_get (f x) (i % n) ≡ Some y → slice_get (flat_map f xs) i ≡ Some y
get_flat f n some each [] i x y h k = absurd (cc)
get_flat f n some each (z ∷ zs) i x y h k = at_order (le_or_lt n i) (get_flat f n some each zs (i - n) x y)
  where
    at_order : (n ≤ i) ⊎ (i < n) → (slice_get zs ((i - n) / n) ≡ Some x → slice_get (f x) ((i - n) % n) ≡ Some y → slice_get (flat_map f zs) (i - n) ≡ Some y)
        → slice_get (f z ++ flat_map f zs) i ≡ Some y
    at_order (inl le) rest =
        let q : i / n ≡ suc ((i - n) / n) = quarter_of_place i n le some in
        let r : i % n ≡ (i - n) % n = part_of_place i n le some in
        get_right (f z) (flat_map f zs) n i (each z) le
        ∙ rest (subst (λ (m : ℕ). slice_get (z ∷ zs) m ≡ Some x) q h) (subst (λ (m : ℕ). slice_get (f x) m ≡ Some y) r k)
    at_order (inr less) rest =
        let q : i / n ≡ 0 = quotient_is i n 0 (omega arith) (omega arith) in
        let r : i % n ≡ i = omega (arith, ap (λ (m : ℕ). n * m) q) in
        let same : Some z ≡ Some x = subst (λ (m : ℕ). slice_get (z ∷ zs) m ≡ Some x) q h in
        let e : x ≡ z = cc in
        get_left (f z) (flat_map f zs) i y (subst (λ w. slice_get (f w) i ≡ Some y) e (subst (λ (m : ℕ). slice_get (f x) m ≡ Some y) r k))

get_flat_none : {X Y : Type 0} (f : X → List Y) (n : ℕ) → 0 < n → ((x : X) → length (f x) ≡ n) → (xs : List X) (i : ℕ)
    → slice_get xs (i / n) ≡ None → slice_get (flat_map f xs) i ≡ None
get_flat_none f n some each [] i h = refl
get_flat_none f n some each (z ∷ zs) i h = at_order (le_or_lt n i) (get_flat_none f n some each zs (i - n))
  where
    at_order : (n ≤ i) ⊎ (i < n) → (slice_get zs ((i - n) / n) ≡ None → slice_get (flat_map f zs) (i - n) ≡ None) → slice_get (f z ++ flat_map f zs) i ≡ None
    at_order (inl le) rest =
        let q : i / n ≡ suc ((i - n) / n) = quarter_of_place i n le some in
        get_right (f z) (flat_map f zs) n i (each z) le ∙ rest (subst (λ (m : ℕ). slice_get (z ∷ zs) m ≡ None) q h)
    at_order (inr less) rest =
        let q : i / n ≡ 0 = quotient_is i n 0 (omega arith) (omega arith) in
        let no : Some z ≡ None = subst (λ (m : ℕ). slice_get (z ∷ zs) m ≡ None) q h in absurd (cc)

-- the same as the code meets them
pub piece_of_quarter : (arc : Arc) (depth place : ℕ) (q : Quarter) (d : (ℕ × ℕ) × (ℕ × ℕ)) (piece : RangesView) → slice_get (halves depth q.from q.to) place ≡ Some d
    → piece ≡ ranges_over arc (box_of_part arc q d) → slice_get (pieces_of_quarter arc depth q) place ≡ Some piece
piece_of_quarter arc depth place q d piece h is =
    get_map (λ p. ranges_over arc (box_of_part arc q p)) (halves depth q.from q.to) place d h ∙ ap (λ (r : RangesView). Some r) (sym is)

pub piece_of_arc : (arc : Arc) (depth place parts : ℕ) (qs : List Quarter) (q : Quarter) (piece : RangesView) → parts ≡ 2 ^ depth
    → slice_get qs (place / parts) ≡ Some q → slice_get (pieces_of_quarter arc depth q) (place % parts) ≡ Some piece
    → slice_get (flat_map (pieces_of_quarter arc depth) qs) place ≡ Some piece
piece_of_arc arc depth place parts qs q piece is h k =
    get_flat (pieces_of_quarter arc depth) parts (some_parts depth parts is) (λ x. length_pieces arc depth x ∙ sym is) qs place q piece h k

pub no_piece_of_arc : (arc : Arc) (depth place parts : ℕ) (qs : List Quarter) → parts ≡ 2 ^ depth → slice_get qs (place / parts) ≡ None
    → slice_get (flat_map (pieces_of_quarter arc depth) qs) place ≡ None
no_piece_of_arc arc depth place parts qs is h =
    get_flat_none (pieces_of_quarter arc depth) parts (some_parts depth parts is) (λ x. length_pieces arc depth x ∙ sym is) qs place h
