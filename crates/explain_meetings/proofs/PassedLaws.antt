-- Boxes that were looked at with all boxes of a stretch: an equal one of an equal motion comes no nearer.
use Rattle.std.proofs.Common.{◌≡◌, ◌∙◌, ℕ, ℤ, suc, ◌&&◌, ◌||◌, not, Bool, true, false, cond, List, [], ◌∷◌, ◌++◌, get_or, All, Contains, refl, sym, ap, subst, append_assoc, arith}
use Rattle.std.specs.Prelude.{◌≤ℤ◌}
use Rattle.std.specs.Int.RustNames.{int_le}
use Rattle.std.specs.List.{Any, flat_map, list_all, list_any}
use Rattle.std.proofs.lemmas.Bool.{and_parts}
use Rattle.std.proofs.lemmas.Int.{ints}
use Rattle.std.proofs.lemmas.List.{append-nil}
use Rattle.std.proofs.lemmas.List.Elements.{All-nil, All-cons, All-head, All-push, All-weaker, All-contains, Contains-append_left, Contains-append_right}
use Rattle.std.proofs.lemmas.List.Folds.{Any-from_list_any, list_any-from_Any}
use Rattle.job_types.specs.Job.{JobView}
use Rattle.job_types.specs.declared.job.ZoneLine.{ZoneLine}
use Rattle.explain_meetings.proofs.NearestLaws.{as_near, kept_near, less_trans, only_row, pair_same}
use Rattle.explain_meetings.proofs.SomeLaws.{pair_has}
use Rattle.zone_stretches.specs.Cases.{place_of}
use Rattle.explain_meetings.specs.Nearest.{AreNearest, IsNearest, groups_of, pair_reaches}
use Rattle.explain_meetings.specs.NearSteps.{is_as_near, pair_where, pairs_by}
use Rattle.explain_meetings.specs.PassedOwns.{ArePassed, reaches_no_further}
use Rattle.explain_meetings.specs.declared.nearest.Near.{Near}
use Rattle.passed_boxes.specs.declared.passed.PassedBox.{PassedBox}
use Rattle.zone_stretches.specs.Overlaps.{BoxPlace, Pair, are_compared, share_channel, share_place}
use Rattle.zone_stretches.specs.Pieces.{motion_at, piece_boxes}
use Rattle.zone_stretches.specs.Stretches.{StretchView}
use Rattle.zone_stretches.specs.declared.stretches.ZoneBox.{ZoneBox}
use Rattle.sync_types.specs.Views.{RunView}

-- ---- tests of all elements

module _ {X : Type 0} where
  list_all-from : (p : X → Bool) (xs : List X) → All (λ x. p x ≡ true) xs → list_all p xs ≡ true
  list_all-from p [] all = refl
  list_all-from p (x ∷ xs) all =
      ap (λ (b : Bool). b && list_all p xs) (All-head (λ y. p y ≡ true) x xs all) ∙ list_all-from p xs (λ k d below. all (suc k) d (omega (arith, below)))

  list_all-to : (p : X → Bool) (xs : List X) → list_all p xs ≡ true → All (λ x. p x ≡ true) xs
  list_all-to p [] on = All-nil (λ x. p x ≡ true)
  list_all-to p (x ∷ xs) on = let parts = and_parts (p x) (list_all p xs) on in All-cons (λ y. p y ≡ true) x xs parts.0 (list_all-to p xs parts.1)

  list_all-weaker : (p q : X → Bool) (xs : List X) → ((x : X) → p x ≡ true → q x ≡ true) → list_all p xs ≡ true → list_all q xs ≡ true
  list_all-weaker p q xs weaker on = list_all-from q xs (All-weaker (λ x. p x ≡ true) (λ x. q x ≡ true) weaker xs (list_all-to p xs on))

-- ---- numbers of pairs

at_most_on : (a b : ℤ) → a ≤ℤ b → int_le a b ≡ true
at_most_on a b h = grind (arith, ints)

row_on : (groups : ℕ × ℕ) (n : ℤ) (row : Near) → row.groups ≡ groups → n ≤ℤ row.reach → is_as_near groups n row ≡ true
row_on groups n row same less = ap (λ (b : Bool). b && int_le n row.reach) (pair_same row.groups groups same) ∙ at_most_on n row.reach less

module _ (job : JobView) (run : RunView) where
  -- a pair reaches no further than a row of its groups
  abbrev no_further : List Near → Pair → Bool
  no_further rows pair = list_all (λ reach. list_any (is_as_near (groups_of pair) reach) rows) (pair_reaches job run pair)

  has_row : (rows : List Near) (pair : Pair) (ns : List ℤ) → pair_reaches job run pair ≡ ns → All (λ n. Any (λ row. is_as_near (groups_of pair) n row ≡ true) rows) ns → Any (λ row. row.groups ≡ groups_of pair) rows
  has_row rows pair [] is all = absurd (pair_has job run pair is)
  has_row rows pair (n ∷ ns) is all = of_groups (All-head (λ m. Any (λ row. is_as_near (groups_of pair) m row ≡ true) rows) n ns all)
    where
      of_groups : Any (λ row. is_as_near (groups_of pair) n row ≡ true) rows → Any (λ row. row.groups ≡ groups_of pair) rows
      of_groups (k, row, below, at, on) = (k, row, below, at, (as_near (groups_of pair) n row on).0)

  -- one such pair more
  kept_pair : (pairs : List Pair) (pair : Pair) (rows : List Near) → no_further rows pair ≡ true → AreNearest job run pairs rows → AreNearest job run (pairs ++ pair ∷ []) rows
  kept_pair pairs pair rows on are = record {
    each = λ k d below. kept_near job run pairs pair (get_or rows k d)
        (λ e. All-weaker (λ n. Any (λ row. is_as_near (groups_of pair) n row ≡ true) rows) (λ n. n ≤ℤ (get_or rows k d).reach)
        (λ n some. only_row (groups_of pair) n rows are.once some k d below e) (pair_reaches job run pair) near)
        (are.each k d below);
    all = All-push (λ p. Any (λ row. row.groups ≡ groups_of p) rows) pairs pair are.all (has_row rows pair (pair_reaches job run pair) refl near);
    once = are.once;
  }
    where
      near : All (λ n. Any (λ row. is_as_near (groups_of pair) n row ≡ true) rows) (pair_reaches job run pair)
      near =
          All-weaker (λ n. list_any (is_as_near (groups_of pair) n) rows ≡ true) (λ n. Any (λ row. is_as_near (groups_of pair) n row ≡ true) rows)
          (λ n some. Any-from_list_any (is_as_near (groups_of pair) n) rows some) (pair_reaches job run pair)
          (list_all-to (λ n. list_any (is_as_near (groups_of pair) n) rows) (pair_reaches job run pair) on)

  -- those of a box and some of a stretch
  kept_pairs : (left : BoxPlace) (other : ZoneLine) (right : StretchView) (boxes : List ZoneBox) (pairs : List Pair) (rows : List Near)
      → list_all (λ later. no_further rows (left, place_of other right later)) boxes ≡ true → AreNearest job run pairs rows → AreNearest job run (pairs ++ flat_map (pair_where left other right) boxes) rows
  unfolding pair_where
  kept_pairs left other right [] pairs rows on are = subst (λ (ps : List Pair). AreNearest job run ps rows) (sym (append-nil pairs)) are
  kept_pairs left other right (x ∷ xs) pairs rows on are =
      let parts = and_parts (no_further rows (left, place_of other right x)) (list_all (λ later. no_further rows (left, place_of other right later)) xs) on in
      by_compared (are_compared left.stretch right left.box x) (kept_pair pairs pair rows parts.0 are) (λ ps now. kept_pairs left other right xs ps rows parts.1 now)
    where
      pair : Pair
      pair = (left, place_of other right x)

      rest : List Pair
      rest = flat_map (pair_where left other right) xs

      by_compared : (b : Bool) → AreNearest job run (pairs ++ pair ∷ []) rows → ((ps : List Pair) → AreNearest job run ps rows → AreNearest job run (ps ++ rest) rows)
          → AreNearest job run (pairs ++ (cond b (pair ∷ []) [] ++ rest)) rows
      by_compared true with_it later = subst (λ (ps : List Pair). AreNearest job run ps rows) (append_assoc pairs (pair ∷ []) rest) (later (pairs ++ pair ∷ []) with_it)
      by_compared false with_it later = later pairs are

  -- a box that may be passed over
  pub passed_again : (left : BoxPlace) (other : ZoneLine) (right : StretchView) (pairs : List Pair) (rows : List Near)
      → reaches_no_further job run rows left.zone other right left.box.cover (motion_at run left.stretch.entry left.box.motion) ≡ true → AreNearest job run pairs rows
      → AreNearest job run (pairs ++ pairs_by other right left) rows
  unfolding reaches_no_further piece_boxes
  passed_again left other right pairs rows on are = kept_pairs left other right right.boxes pairs rows on are

  -- ---- what was looked at may be passed over

  module _ (pairs : List Pair) (rows : List Near) (are : AreNearest job run pairs rows) where
    seen_no_further : (pair : Pair) → Contains pairs pair → no_further rows pair ≡ true
    seen_no_further pair inside =
        let some = All-contains (λ p. Any (λ near. near.groups ≡ groups_of p) rows) pairs pair are.all inside in
        let near : IsNearest job run pairs some.1 = All-contains (IsNearest job run pairs) rows some.1 are.each (some.0, some.2, some.3) in
        let least : All (λ reach. reach ≤ℤ some.1.reach) (pair_reaches job run pair) =
        All-contains (λ other. groups_of other ≡ some.1.groups → All (λ reach. reach ≤ℤ some.1.reach) (pair_reaches job run other)) pairs pair near.least inside (sym some.4) in
        list_all-from (λ n. list_any (is_as_near (groups_of pair) n) rows) (pair_reaches job run pair)
        (All-weaker (λ n. n ≤ℤ some.1.reach) (λ n. list_any (is_as_near (groups_of pair) n) rows ≡ true)
        (λ n less. list_any-from_Any (is_as_near (groups_of pair) n) rows (some.0, some.1, some.2, some.3, row_on (groups_of pair) n some.1 some.4 less)) (pair_reaches job run pair) least)

    -- a row still is as near as it was
    module _ (more : List Pair) (rows' : List Near) (are' : AreNearest job run (pairs ++ more) rows') where
      row_stays : (groups : ℕ × ℕ) (n : ℤ) → list_any (is_as_near groups n) rows ≡ true → list_any (is_as_near groups n) rows' ≡ true
      row_stays groups n on =
          let some = Any-from_list_any (is_as_near groups n) rows on in
          let far = as_near groups n some.1 some.4 in
          let near : IsNearest job run pairs some.1 = All-contains (IsNearest job run pairs) rows some.1 are.each (some.0, some.2, some.3) in
          let inside : Contains (pairs ++ more) near.pair = Contains-append_left pairs more near.pair near.among in
          let other = All-contains (λ p. Any (λ row. row.groups ≡ groups_of p) rows') (pairs ++ more) near.pair are'.all inside in
          let near' : IsNearest job run (pairs ++ more) other.1 = All-contains (IsNearest job run (pairs ++ more)) rows' other.1 are'.each (other.0, other.2, other.3) in
          let least : All (λ reach. reach ≤ℤ other.1.reach) (pair_reaches job run near.pair) =
          All-contains (λ p. groups_of p ≡ other.1.groups → All (λ reach. reach ≤ℤ other.1.reach) (pair_reaches job run p)) (pairs ++ more) near.pair near'.least inside (sym other.4) in
          let less : some.1.reach ≤ℤ other.1.reach = All-contains (λ reach. reach ≤ℤ other.1.reach) (pair_reaches job run near.pair) some.1.reach least near.own.0 in
          list_any-from_Any (is_as_near groups n) rows'
          (other.0, other.1, other.2, other.3, row_on groups n other.1 (other.4 ∙ sym near.groups ∙ far.0) (less_trans n some.1.reach other.1.reach far.1 less))

      -- so what may be passed over still may
      pub passed_stay : (zone other : ZoneLine) (right : StretchView) (passed : List PassedBox) → ArePassed job run rows zone other right passed → ArePassed job run rows' zone other right passed
      unfolding reaches_no_further
      passed_stay zone other right passed all =
          All-weaker (λ box. reaches_no_further job run rows zone other right box.cover box.motion ≡ true) (λ box. reaches_no_further job run rows' zone other right box.cover box.motion ≡ true)
          (λ box on. list_all-weaker _ _ right.boxes (λ later. list_all-weaker _ _ _ (λ n. row_stays _ n)) on) passed all

  module _ (left : BoxPlace) (other : ZoneLine) (right : StretchView) (apart : share_channel left.stretch.name.channel right.name.channel ≡ false) where
    one_is : (later : ZoneBox) → pair_where left other right later ≡ (left, place_of other right later) ∷ []
    unfolding pair_where
    one_is later =
        let compared : are_compared left.stretch right left.box later ≡ true = ap (λ (b : Bool). not b || share_place left.box later) apart in
        ap (λ (b : Bool). let ps : List Pair = cond b ((left, place_of other right later) ∷ []) [] in ps) compared

    -- all boxes of the stretch are compared
    all_in : (boxes : List ZoneBox) → All (λ later. Contains (flat_map (pair_where left other right) boxes) (left, place_of other right later)) boxes
    all_in [] = All-nil (λ later. Contains [] (left, place_of other right later))
    all_in (x ∷ xs) =
        All-cons (λ later. Contains (pair_where left other right x ++ flat_map (pair_where left other right) xs) (left, place_of other right later)) x xs
        (Contains-append_left (pair_where left other right x) (flat_map (pair_where left other right) xs) (left, place_of other right x)
        (subst (λ (ps : List Pair). Contains ps (left, place_of other right x)) (sym (one_is x)) (0, omega arith, refl)))
        (All-weaker (λ later. Contains (flat_map (pair_where left other right) xs) (left, place_of other right later))
        (λ later. Contains (pair_where left other right x ++ flat_map (pair_where left other right) xs) (left, place_of other right later))
        (λ later inside. Contains-append_right (pair_where left other right x) (flat_map (pair_where left other right) xs) (left, place_of other right later) inside) xs (all_in xs))

    -- a box that was looked at with all of them
    pub passed_now : (seen : List Pair) (rows : List Near) → AreNearest job run (seen ++ pairs_by other right left) rows
        → reaches_no_further job run rows left.zone other right left.box.cover (motion_at run left.stretch.entry left.box.motion) ≡ true
    unfolding reaches_no_further piece_boxes
    passed_now seen rows are =
        list_all-from (λ later. no_further rows (left, place_of other right later)) right.boxes
        (All-weaker (λ later. Contains (pairs_by other right left) (left, place_of other right later)) (λ later. no_further rows (left, place_of other right later) ≡ true)
        (λ later inside. seen_no_further (seen ++ pairs_by other right left) rows are (left, place_of other right later) (Contains-append_right seen (pairs_by other right left) (left, place_of other right later) inside))
        right.boxes (all_in right.boxes))
