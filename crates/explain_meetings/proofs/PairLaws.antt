-- What is found of the boxes of two zones: the compared pairs of one row, and the nearest of these.
use Rattle.std.proofs.Common.{◌≡◌, ◌∙◌, ◌⊎◌, inl, inr, ℕ, ℤ, zero, suc, ◌<◌, ◌==◌, Bool, true, false, cond, List, [], ◌∷◌, ◌++◌, filter, length, get_or, map, min, max, All, Contains, Option, None, Some, refl, sym, ap, subst, arith}
use Rattle.std.specs.Prelude.{◌≤ℤ◌, pos, unwrap_or}
use Rattle.std.specs.Int.{int_max}
use Rattle.std.specs.List.{Any, flat_map}
use Rattle.std.proofs.lemmas.Int.{ints, clamps}
use Rattle.std.proofs.lemmas.List.{map-append}
use Rattle.std.proofs.lemmas.List.Elements.{All-nil, All-cons, All-head, All-tail, All-append, All-contains, All-get_or, All-weaker, Contains-append_left, Contains-append_right}
use Rattle.explain_reach.proofs.LotLaws.{in_front, le_itself, le_trans}
use Rattle.explain_reach.specs.Lots.{IsGreatest, greater}
use Rattle.job_types.specs.Job.{JobView}
use Rattle.explain_meetings.proofs.AddLaws.{added_part}
use Rattle.explain_meetings.proofs.CoverLaws.{part_left, part_right}
use Rattle.explain_meetings.specs.Groups.{capped}
use Rattle.explain_meetings.specs.Nearest.{AreNearest, IsNearest, groups_of, pair_reaches}
use Rattle.explain_meetings.specs.PairSteps.{AreReady, two_with}
use Rattle.explain_meetings.specs.ZonePairs.{comparison_of, greatest_of, pairs_of_two, two_of}
use Rattle.explain_meetings.specs.declared.nearest.Near.{Near}
use Rattle.sync_types.specs.Views.{RunView}
use Rattle.explain_pairs.specs.declared.pairs.Comparison.{Comparison}
use Rattle.explain_pairs.specs.declared.pairs.ZonePair.{ZonePair}
use Rattle.zone_stretches.proofs.StretchPairLaws.{boxes_are}
use Rattle.zone_stretches.specs.InCovers.{ArePairsInCover, IsInCover}
use Rattle.zone_stretches.specs.Overlaps.{Order, Pair, ZoneTime, are_compared, box_pairs, may_overlap, pairs_of_zones, stretch_pairs}
use Rattle.zone_stretches.specs.StretchPairs.{boxes_with}
use Rattle.zone_stretches.specs.Stretches.{StretchView}
use Rattle.zone_stretches.specs.TimedZones.{TimedZoneView, AreTimed, each_two}
use Rattle.zone_stretches.specs.declared.stretches.ZoneBox.{ZoneBox}

-- ---- the greatest of some numbers

in_rest : {X : Type 0} (x : X) (xs : List X) (y : X) → Contains xs y → Contains (x ∷ xs) y
in_rest x xs y (k, below, is) = (suc k, omega arith, is)

one_of : (a b : ℤ) → (a ≡ int_max a b) ⊎ (b ≡ int_max a b)
one_of a b = grind (arith, ints)

max_left : (a b : ℤ) → a ≤ℤ int_max a b
max_left a b = omega (arith, ints, clamps)

max_right : (a b : ℤ) → b ≤ℤ int_max a b
max_right a b = omega (arith, ints, clamps)

both_least : (a b : ℤ) → a ≤ℤ b → b ≤ℤ a → a ≡ b
both_least a b p q = omega (arith, ints)

-- one number more, in front
greatest_with : (most : Option ℤ) (n : ℤ) (ns : List ℤ) → IsGreatest most ns → IsGreatest (Some (greater most n)) (n ∷ ns)
greatest_with None n ns none =
    (in_front n ns, All-cons (λ m. m ≤ℤ n) n ns (le_itself n) (subst (λ (xs : List ℤ). All (λ m. m ≤ℤ n) xs) (sym none) (All-nil (λ m. m ≤ℤ n))))
greatest_with (Some most) n ns (inside, all) = (
  elim (one_of most n) [
    | inl e ↦ subst (λ (m : ℤ). Contains (n ∷ ns) m) e (in_rest n ns most inside)
    | inr e ↦ subst (λ (m : ℤ). Contains (n ∷ ns) m) e (in_front n ns)
  ],
  All-cons (λ m. m ≤ℤ int_max most n) n ns (max_right most n)
      (All-weaker (λ m. m ≤ℤ most) (λ m. m ≤ℤ int_max most n) (λ m h. le_trans m most (int_max most n) h (max_left most n)) ns all),
)

is_greatest : (ns : List ℤ) → IsGreatest (greatest_of ns) ns
is_greatest [] = refl
is_greatest (n ∷ ns) = greatest_with (greatest_of ns) n ns (is_greatest ns)

-- there is one alone
greatest_is : (most : Option ℤ) (r : ℤ) (ns : List ℤ) → IsGreatest most ns → IsGreatest (Some r) ns → most ≡ Some r
greatest_is None r ns none (inside, all) =
    let nothing : Contains [] r = subst (λ (xs : List ℤ). Contains xs r) none inside in absurd (let below = nothing.1 in omega (arith, below))
greatest_is (Some most) r ns (inside, all) (inside', all') =
    ap (λ (n : ℤ). let o : Option ℤ = Some n in o)
    (both_least most r (All-contains (λ m. m ≤ℤ r) ns most all' inside) (All-contains (λ m. m ≤ℤ most) ns r all inside'))

-- ---- lists that elements give

in_flat : {X A : Type 0} (f : X → List A) (xs : List X) (x : X) (y : A) → Contains xs x → Contains (f x) y → Contains (flat_map f xs) y
in_flat f [] x y (k, below, is) there = absurd (omega arith)
in_flat {X = X} f (z ∷ zs) x y (zero, below, is) there = Contains-append_left (f z) (flat_map f zs) y (subst (λ (w : X). Contains (f w) y) (sym is) there)
in_flat f (z ∷ zs) x y (suc k, below, is) there = Contains-append_right (f z) (flat_map f zs) y (in_flat f zs x y (k, omega arith, is) there)

all_flat : {X A : Type 0} (Q : X → Type 0) (P : A → Type 0) (f : X → List A) → ((x : X) → Q x → All P (f x)) → (xs : List X) → All Q xs → All P (flat_map f xs)
all_flat Q P f each [] all = All-nil P
all_flat Q P f each (x ∷ xs) all = All-append P (f x) (flat_map f xs) (each x (All-head Q x xs all)) (all_flat Q P f each xs (All-tail Q x xs all))

each_flat : {X A : Type 0} (P : A → Type 0) (f : X → List A) → ((x : X) → All P (f x)) → (xs : List X) → All P (flat_map f xs)
each_flat P f each [] = All-nil P
each_flat P f each (x ∷ xs) = All-append P (f x) (flat_map f xs) (each x) (each_flat P f each xs)

each_map : {X A : Type 0} (P : A → Type 0) (f : X → A) → ((x : X) → P (f x)) → (xs : List X) → All P (map f xs)
each_map P f each [] = All-nil P
each_map P f each (x ∷ xs) = All-cons P (f x) (map f xs) (each x) (each_map P f each xs)

-- ---- the nearest of pairs of the same groups

module _ (job : JobView) (run : RunView) (pairs : List Pair) where
  nearest_is : (groups : ℕ × ℕ) (near : Near) → All (λ p. groups_of p ≡ groups) pairs → IsNearest job run pairs near → greatest_of (flat_map (pair_reaches job run) pairs) ≡ Some near.reach
  nearest_is groups near same is =
      let its : near.groups ≡ groups = is.groups ∙ All-contains (λ p. groups_of p ≡ groups) pairs is.pair same is.among in
      greatest_is (greatest_of (flat_map (pair_reaches job run) pairs)) near.reach (flat_map (pair_reaches job run) pairs) (is_greatest (flat_map (pair_reaches job run) pairs)) (
        in_flat (pair_reaches job run) pairs is.pair near.reach is.among is.own.0,
        all_flat (λ p. All (λ reach. reach ≤ℤ near.reach) (pair_reaches job run p)) (λ reach. reach ≤ℤ near.reach) (pair_reaches job run) (λ p h. h) pairs (least its),
      )
    where
      least : near.groups ≡ groups → All (λ p. All (λ reach. reach ≤ℤ near.reach) (pair_reaches job run p)) pairs
      least its k d below = is.least k d below (All-get_or (λ p. groups_of p ≡ groups) pairs k d below same ∙ sym its)

-- a length that is not 0
pub some_there : (n : ℕ) → (n == 0) ≡ false → 0 < n
some_there zero none = absurd cc
some_there (suc n) none = omega arith

-- no pairs where there is no row
pub none_found : (job : JobView) (run : RunView) (pairs : List Pair) (rows : List Near) → AreNearest job run pairs rows → length rows ≡ 0 → None ≡ comparison_of job run pairs
unfolding comparison_of
none_found job run [] rows are none = refl
none_found job run (pair ∷ pairs) rows are none =
    let some = All-head (λ p. Any (λ near. near.groups ≡ groups_of p) rows) pair pairs are.all in absurd (let below = some.2 in omega (arith, below, none))

-- what is found of pairs
abbrev pub some_found : ℕ → ℤ → Option Comparison
some_found count reach = Some (record { count = count; reach = reach })

-- the first row has the nearest
pub one_found : (job : JobView) (run : RunView) (pairs : List Pair) (rows : List Near) (groups : ℕ × ℕ) (d : Near) (count : ℕ) (reach : ℤ) → All (λ p. groups_of p ≡ groups) pairs → AreNearest job run pairs rows
    → 0 < length rows → reach ≡ (get_or rows 0 d).reach → count ≡ capped (length pairs) → some_found count reach ≡ comparison_of job run pairs
unfolding comparison_of
one_found job run [] rows groups d count reach same are some is count_is =
    let near = All-get_or (IsNearest job run []) rows 0 d some are.each in absurd (let below = near.among.1 in omega (arith, below))
one_found job run (pair ∷ pairs) rows groups d count reach same are some is count_is =
    let near : IsNearest job run (pair ∷ pairs) (get_or rows 0 d) = All-get_or (IsNearest job run (pair ∷ pairs)) rows 0 d some are.each in
    let most : greatest_of (flat_map (pair_reaches job run) (pair ∷ pairs)) ≡ Some (get_or rows 0 d).reach = nearest_is job run (pair ∷ pairs) groups (get_or rows 0 d) same near in
    ap (λ (n : ℕ). some_found n reach) count_is
    ∙ ap (λ (r : ℤ). some_found (capped (length (pair ∷ pairs))) r)
    (is ∙ sym (ap (λ (o : Option ℤ). unwrap_or o (pos 0)) most))

-- ---- the pairs of two zones

pub two_are : (before : Order) (zones : TimedZoneView × TimedZoneView) → boxes_with before zones ≡ pairs_of_two before zones.0.time zones.1.time
unfolding pairs_of_two
two_are before zones = boxes_are before zones.0.time zones.1.time

pub two_groups : (before : Order) (one two : ZoneTime) → All (λ p. groups_of p ≡ (min one.zone.group two.zone.group, max one.zone.group two.zone.group)) (pairs_of_two before one two)
unfolding pairs_of_two pairs_of_zones
two_groups before one two = by_group (one.zone.group == two.zone.group)
  where
    Same : Pair → Type 0
    Same p = groups_of p ≡ (min one.zone.group two.zone.group, max one.zone.group two.zone.group)

    mk : StretchView → StretchView → ZoneBox → ZoneBox → Pair
    mk left right own later = (record { zone = one.zone; stretch = left; box = own }, record { zone = two.zone; stretch = right; box = later })

    boxes : (left right : StretchView) → All Same (box_pairs one.zone left two.zone right)
    boxes left right =
        each_flat Same (λ own. map (mk left right own) (filter (are_compared left right own) right.boxes))
        (λ own. each_map Same (mk left right own) (λ later. refl) (filter (are_compared left right own) right.boxes)) left.boxes

    by_overlap : (left right : StretchView) (b : Bool) → All Same (cond b (box_pairs one.zone left two.zone right) [])
    by_overlap left right true = boxes left right
    by_overlap left right false = All-nil Same

    stretches : (left right : StretchView) → All Same (stretch_pairs before one.zone left two.zone right)
    stretches left right = by_overlap left right (may_overlap before left right)

    by_group : (b : Bool) → All Same (cond b [] (flat_map (λ left. flat_map (λ right. stretch_pairs before one.zone left two.zone right) two.stretches) one.stretches))
    by_group true = All-nil Same
    by_group false = each_flat Same (λ left. flat_map (λ right. stretch_pairs before one.zone left two.zone right) two.stretches)
        (λ left. each_flat Same (λ right. stretch_pairs before one.zone left two.zone right) (stretches left) two.stretches) one.stretches

-- ---- each two zones, one after another

module _ (before : Order) (job : JobView) (run : RunView) where
  -- they may be looked at, where all compared boxes may
  pub all_ready : (zones : List (TimedZoneView × TimedZoneView)) → All (AreTimed before) zones → ArePairsInCover job run (flat_map (boxes_with before) zones) → All (AreReady before job run) zones
  all_ready [] timed covers = All-nil (AreReady before job run)
  all_ready (two ∷ zones) timed covers =
      All-cons (AreReady before job run) two zones
      (record {
        timed = All-head (AreTimed before) two zones timed;
        covers = part_left (λ (pair : Pair). IsInCover job run pair.0 × IsInCover job run pair.1) (boxes_with before two) (flat_map (boxes_with before) zones) covers;
      })
      (all_ready zones (All-tail (AreTimed before) two zones timed)
      (part_right (λ (pair : Pair). IsInCover job run pair.0 × IsInCover job run pair.1) (boxes_with before two) (flat_map (boxes_with before) zones) covers))

  -- one pair more
  pub pair_more : (left later : List (TimedZoneView × TimedZoneView)) (two : TimedZoneView × TimedZoneView) (pairs more all : List ZonePair) (pair : ZonePair) → left ≡ two ∷ later
      → pair ≡ two_with before job run two → more ≡ pairs ++ pair ∷ [] → pairs ++ map (two_with before job run) left ≡ all → more ++ map (two_with before job run) later ≡ all
  pair_more left later two pairs more all pair is pair_is added so_far =
      added_part pairs more (two_with before job run two ∷ []) (map (two_with before job run) left) (map (two_with before job run) later) all
      (added ∙ ap (λ (p : ZonePair). pairs ++ p ∷ []) pair_is) (ap (map (two_with before job run)) is) so_far

  with_times : (one : TimedZoneView) (others : List TimedZoneView)
      → map (two_with before job run) (map (λ two. (one, two)) others) ≡ map (two_of before job run) (map (λ two. (one.time, two)) (map (λ zone. zone.time) others))
  with_times one [] = refl
  with_times one (two ∷ others) = ap (λ (pairs : List ZonePair). two_of before job run (one.time, two.time) ∷ pairs) (with_times one others)

  -- what is told of the zones with their stretches
  pub told_by_times : (zones : List TimedZoneView) → map (two_with before job run) (each_two zones) ≡ map (two_of before job run) (each_two (map (λ (zone : TimedZoneView). zone.time) zones))
  told_by_times [] = refl
  told_by_times (one ∷ others) =
      map-append (two_with before job run) (map (λ two. (one, two)) others) (each_two others)
      ∙ ap (λ (pairs : List ZonePair). pairs ++ map (two_with before job run) (each_two others)) (with_times one others)
      ∙ ap (λ (pairs : List ZonePair). map (two_of before job run) (map (λ two. (one.time, two)) (map (λ (zone : TimedZoneView). zone.time) others)) ++ pairs) (told_by_times others)
      ∙ sym (map-append (two_of before job run) (map (λ two. (one.time, two)) (map (λ (zone : TimedZoneView). zone.time) others)) (each_two (map (λ (zone : TimedZoneView). zone.time) others)))
