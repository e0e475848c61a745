-- The nearest of some pairs, with one pair more.
use Rattle.std.proofs.Common.{◌≡◌, ◌∙◌, ℕ, ℤ, ◌==◌, ◌&&◌, ◌||◌, not, Bool, true, false, cond, List, [], ◌∷◌, ◌++◌, get_or, All, Option, None, Some, refl, sym, ap, subst, append_assoc, arith}
use Rattle.std.specs.Prelude.{◌≤ℤ◌, IfSome}
use Rattle.std.specs.Int.RustNames.{int_le, int_lt}
use Rattle.std.specs.List.{Any, flat_map, list_any}
use Rattle.std.proofs.lemmas.Bool.{and_parts, eqb-true}
use Rattle.std.proofs.lemmas.Int.{ints}
use Rattle.std.proofs.lemmas.List.{append-nil}
use Rattle.std.proofs.lemmas.List.Elements.{All-nil, All-cons, All-head, All-push, All-weaker, Contains-append_left, Contains-push}
use Rattle.std.proofs.lemmas.List.Folds.{Any-from_list_any}
use Rattle.explain_reach.specs.Lots.{IsGreatest, is_over}
use Rattle.explain_reach.specs.Reaches.{reach_of}
use Rattle.job_types.specs.Job.{JobView}
use Rattle.job_types.specs.declared.job.ZoneLine.{ZoneLine}
use Rattle.explain_meetings.proofs.CoverLaws.{pair_within, part_left, part_right}
use Rattle.explain_meetings.proofs.PutLaws.{from_cases, never, put_all, put_apart, put_each}
use Rattle.explain_meetings.proofs.SomeLaws.{pair_has}
use Rattle.explain_meetings.specs.Meetings.{told_place}
use Rattle.zone_stretches.specs.Cases.{place_of}
use Rattle.explain_meetings.specs.Nearest.{AreNearest, IsNearest, groups_of, pair_reaches}
use Rattle.explain_meetings.specs.NearSteps.{AreNearestSoFar, is_as_near, may_be_nearer, may_count, nearer, pair_where, put_near, same_groups}
use Rattle.explain_meetings.specs.Puts.{AreApart}
use Rattle.explain_meetings.specs.declared.nearest.Near.{Near}
use Rattle.zone_stretches.specs.InCovers.{IsInCover}
use Rattle.zone_stretches.specs.Overlaps.{BoxPlace, Pair, are_compared}
use Rattle.zone_stretches.specs.Stretches.{StretchView}
use Rattle.zone_stretches.specs.declared.stretches.ZoneBox.{ZoneBox}
use Rattle.sync_types.specs.Views.{RunView}

-- ---- numbers of two

both_are : (one other : ℕ × ℕ) → (one.0 == other.0 && one.1 == other.1) ≡ true → one ≡ other
both_are (a, b) (x, y) on =
    let parts = and_parts (a == x) (b == y) on in
    ap (λ (n : ℕ). let p : ℕ × ℕ = (n, b) in p) (eqb-true a x parts.0) ∙ ap (λ (n : ℕ). let p : ℕ × ℕ = (x, n) in p) (eqb-true b y parts.1)

is_itself : (n : ℕ) → (n == n) ≡ true
is_itself n = grind arith

both_on : (one other : ℕ × ℕ) → one ≡ other → (one.0 == other.0 && one.1 == other.1) ≡ true
both_on one other is =
    subst (λ (g : ℕ × ℕ). (one.0 == g.0 && one.1 == g.1) ≡ true) is
    (ap (λ (b : Bool). b && (one.1 == one.1)) (is_itself one.0) ∙ is_itself one.1)

pub same_pair : (one other : ℕ × ℕ) → (one.0 == other.0 && one.1 == other.1) ≡ true → one ≡ other
same_pair one other on = both_are one other on

pub pair_same : (one other : ℕ × ℕ) → one ≡ other → (one.0 == other.0 && one.1 == other.1) ≡ true
pair_same one other is = both_on one other is

pub parts_are : (one : ℕ × ℕ) (a b : ℕ) → one.0 ≡ a → one.1 ≡ b → one ≡ (a, b)
parts_are (x, y) a b p q = ap (λ (n : ℕ). let r : ℕ × ℕ = (n, y) in r) p ∙ ap (λ (n : ℕ). let r : ℕ × ℕ = (a, n) in r) q

-- ---- the nearest

-- how near a pair comes
pub record IsOne (job : JobView) (run : RunView) (pair : Pair) (near : Near) : Type 0 where
  pub groups : near.groups ≡ groups_of pair
  pub left : near.left ≡ told_place pair.0
  pub right : near.right ≡ told_place pair.1
  pub own : IsGreatest (Some near.reach) (pair_reaches job run pair)

pub less_trans : (a b c : ℤ) → a ≤ℤ b → b ≤ℤ c → a ≤ℤ c
less_trans a b c p q = omega (arith, ints)

not_less : (a b : ℤ) → int_lt a b ≡ false → b ≤ℤ a
not_less a b off = grind (arith, ints)

is_less : (a b : ℤ) → int_lt a b ≡ true → a ≤ℤ b
is_less a b on = grind (arith, ints)

same_is : (a b : Near) → same_groups a b ≡ true → a.groups ≡ b.groups
same_is a b on = both_are a.groups b.groups on

same_on : (a b : Near) → a.groups ≡ b.groups → same_groups a b ≡ true
same_on a b is = both_on a.groups b.groups is

merged : (a b : Near) → a.groups ≡ b.groups → (nearer a b).groups ≡ a.groups
merged a b is = by_less (int_lt a.reach b.reach)
  where
    by_less : (l : Bool) → (cond l b a).groups ≡ a.groups
    by_less true = sym is
    by_less false = refl

-- a row of the groups of a pair reaches as far as this
abbrev Least : JobView → RunView → Near → Pair → Type 0
Least job run row p = groups_of p ≡ row.groups → All (λ reach. reach ≤ℤ row.reach) (pair_reaches job run p)

-- a new pair is of other groups, or reaches no further
pub kept_near : (job : JobView) (run : RunView) (pairs : List Pair) (pair : Pair) (row : Near) → Least job run row pair → IsNearest job run pairs row → IsNearest job run (pairs ++ pair ∷ []) row
kept_near job run pairs pair row less is = record {
  pair = is.pair;
  among = Contains-append_left pairs (pair ∷ []) is.pair is.among;
  groups = is.groups;
  left = is.left;
  right = is.right;
  own = is.own;
  least = All-push (Least job run row) pairs pair is.least less;
}

module _ (job : JobView) (run : RunView) (pairs : List Pair) (pair : Pair) (near : Near) (one : IsOne job run pair near) where
  new_near : All (Least job run near) pairs → IsNearest job run (pairs ++ pair ∷ []) near
  new_near less = record {
    pair = pair;
    among = Contains-push pairs pair;
    groups = one.groups;
    left = one.left;
    right = one.right;
    own = one.own;
    least = All-push (Least job run near) pairs pair less (λ same. one.own.1);
  }

  others : (row : Near) → (row.groups ≡ near.groups → ⊥) → IsNearest job run pairs row → IsNearest job run (pairs ++ pair ∷ []) row
  others row apart is = kept_near job run pairs pair row (λ e. absurd (apart (sym e ∙ sym one.groups))) is

  merges : (row : Near) → row.groups ≡ near.groups → IsNearest job run pairs row → IsNearest job run (pairs ++ pair ∷ []) (nearer row near)
  merges row same is = by_less (int_lt row.reach near.reach) refl
    where
      by_less : (l : Bool) → int_lt row.reach near.reach ≡ l → IsNearest job run (pairs ++ pair ∷ []) (cond l near row)
      by_less true less = new_near (All-weaker (Least job run row) (Least job run near)
          (λ p h e. All-weaker (λ reach. reach ≤ℤ row.reach) (λ reach. reach ≤ℤ near.reach) (λ reach q. less_trans reach row.reach near.reach q (is_less row.reach near.reach less)) (pair_reaches job run p)
          (h (e ∙ sym same))) pairs is.least)
      by_less false less =
          kept_near job run pairs pair row (λ e. All-weaker (λ reach. reach ≤ℤ near.reach) (λ reach. reach ≤ℤ row.reach) (λ reach q. less_trans reach near.reach row.reach q (not_less row.reach near.reach less)) (pair_reaches job run pair) one.own.1) is

  fresh : All (λ p. groups_of p ≡ near.groups → ⊥) pairs → IsNearest job run (pairs ++ pair ∷ []) near
  fresh none = new_near (All-weaker (λ p. groups_of p ≡ near.groups → ⊥) (Least job run near) (λ p other same. absurd (other same)) pairs none)

  -- one pair more
  pub nearest_more : (rows : List Near) → AreNearest job run pairs rows → AreNearest job run (pairs ++ pair ∷ []) (put_near rows near)
  nearest_more rows are = record {
    each = put_each (λ (row : Near). row.groups) same_groups same_is same_on nearer merged groups_of (IsNearest job run) pairs (pair ∷ []) near others merges fresh rows are.each are.once are.all;
    all = put_all (λ (row : Near). row.groups) same_groups same_is same_on nearer merged groups_of (IsNearest job run) pairs (pair ∷ []) near others merges fresh rows
        (All-cons (λ p. groups_of p ≡ near.groups) pair [] (sym one.groups) (All-nil (λ p. groups_of p ≡ near.groups))) are.all;
    once = put_apart (λ (row : Near). row.groups) same_groups same_is same_on nearer merged rows near are.once;
  }

-- none yet
pub nearest_none : (job : JobView) (run : RunView) → AreNearest job run [] []
nearest_none job run = record {
  each = All-nil (IsNearest job run []);
  all = All-nil (λ p. Any (λ (row : Near). row.groups ≡ groups_of p) []);
  once = tt;
}

-- ---- pairs whose covers reach no further than the row of their groups

at_most : (a b : ℤ) → int_le a b ≡ true → a ≤ℤ b
at_most a b on = grind (arith, ints)

pub as_near : (groups : ℕ × ℕ) (reach : ℤ) (row : Near) → is_as_near groups reach row ≡ true → (row.groups ≡ groups) × (reach ≤ℤ row.reach)
as_near groups reach row on =
    let parts = and_parts (row.groups.0 == groups.0 && row.groups.1 == groups.1) (int_le reach row.reach) on in
    (both_are row.groups groups parts.0, at_most reach row.reach parts.1)

-- there is one row of these groups at most
pub only_row : (groups : ℕ × ℕ) (n : ℤ) (rows : List Near) → AreApart (λ near. near.groups) rows → Any (λ row. is_as_near groups n row ≡ true) rows → All (λ row. groups ≡ row.groups → n ≤ℤ row.reach) rows
only_row groups n [] apart some = All-nil (λ row. groups ≡ row.groups → n ≤ℤ row.reach)
only_row groups n (row ∷ rows) apart some = from_cases (λ r. is_as_near groups n r ≡ true) (All (λ r. groups ≡ r.groups → n ≤ℤ r.reach) (row ∷ rows)) row rows here (λ later. there later (only_row groups n rows apart.1 later)) some
  where
    here : is_as_near groups n row ≡ true → All (λ r. groups ≡ r.groups → n ≤ℤ r.reach) (row ∷ rows)
    here on =
        let far = as_near groups n row on in
        All-cons (λ r. groups ≡ r.groups → n ≤ℤ r.reach) row rows (λ e. far.1)
        (All-weaker (λ other. row.groups ≡ other.groups → ⊥) (λ r. groups ≡ r.groups → n ≤ℤ r.reach) (λ other none e. absurd (none (far.0 ∙ e))) rows apart.0)

    there : Any (λ r. is_as_near groups n r ≡ true) rows → All (λ r. groups ≡ r.groups → n ≤ℤ r.reach) rows → All (λ r. groups ≡ r.groups → n ≤ℤ r.reach) (row ∷ rows)
    there later rest =
        All-cons (λ r. groups ≡ r.groups → n ≤ℤ r.reach) row rows
        (λ e. absurd (never (λ r. is_as_near groups n r ≡ true) rows
        (All-weaker (λ other. row.groups ≡ other.groups → ⊥) (λ r. is_as_near groups n r ≡ true → ⊥) (λ other none on. none (sym e ∙ sym (as_near groups n other on).0)) rows apart.0) later))
        rest

module _ (job : JobView) (run : RunView) where
  nearest_kept : (pairs : List Pair) (pair : Pair) (n : ℤ) (rows : List Near) → All (λ reach. reach ≤ℤ n) (pair_reaches job run pair) → Any (λ row. is_as_near (groups_of pair) n row ≡ true) rows
      → AreNearest job run pairs rows → AreNearest job run (pairs ++ pair ∷ []) rows
  nearest_kept pairs pair n rows most some are =
      let rest : All (λ row. groups_of pair ≡ row.groups → n ≤ℤ row.reach) rows = only_row (groups_of pair) n rows are.once some in
      record {
        each = λ k d below. kept_near job run pairs pair (get_or rows k d)
            (λ e. All-weaker (λ reach. reach ≤ℤ n) (λ reach. reach ≤ℤ (get_or rows k d).reach) (λ reach h. less_trans reach n (get_or rows k d).reach h (rest k d below e)) (pair_reaches job run pair) most)
            (are.each k d below);
        all = All-push (λ p. Any (λ row. row.groups ≡ groups_of p) rows) pairs pair are.all (of_groups some);
        once = are.once;
      }
    where
      of_groups : Any (λ row. is_as_near (groups_of pair) n row ≡ true) rows → Any (λ row. row.groups ≡ groups_of pair) rows
      of_groups (k, row, below, is, on) = (k, row, below, is, (as_near (groups_of pair) n row on).0)

  -- one pair more whose boxes reach no further than the row of their groups
  pub kept_by_row : (pairs : List Pair) (pair : Pair) (rows : List Near) (so_far : Option ℤ) → IfSome so_far (λ n. Any (λ row. is_as_near (groups_of pair) n row ≡ true) rows)
      → All (λ reach. is_over so_far reach ≡ false) (pair_reaches job run pair) → AreNearest job run pairs rows → AreNearest job run (pairs ++ pair ∷ []) rows
  kept_by_row pairs pair rows None row none are = absurd (pair_has job run pair (empty (pair_reaches job run pair) none))
    where
      empty : (ns : List ℤ) → All (λ (n : ℤ). true ≡ false) ns → ns ≡ []
      empty [] all = refl
      empty (n ∷ ns) all = absurd (let e : true ≡ false = All-head (λ (m : ℤ). true ≡ false) n ns all in cc)
  kept_by_row pairs pair rows (Some n) row none are =
      nearest_kept pairs pair n rows (All-weaker (λ reach. int_lt n reach ≡ false) (λ reach. reach ≤ℤ n) (λ reach off. not_less n reach off) (pair_reaches job run pair) none) row are

  -- one pair more whose covers reach no further
  pub passed_one : (pairs : List Pair) (pair : Pair) (rows : List Near) → may_be_nearer rows pair ≡ false → AreNearestSoFar job run pairs rows → AreNearestSoFar job run (pairs ++ pair ∷ []) rows
  passed_one pairs pair rows off so_far covers =
      let both = All-head (λ (p : Pair). IsInCover job run p.0 × IsInCover job run p.1) pair [] (part_right (λ (p : Pair). IsInCover job run p.0 × IsInCover job run p.1) pairs (pair ∷ []) covers) in
      nearest_kept pairs pair (reach_of pair.0.box.cover pair.1.box.cover) rows (pair_within job run pair both.0 both.1)
      (Any-from_list_any (is_as_near (groups_of pair) (reach_of pair.0.box.cover pair.1.box.cover)) rows (on (list_any (is_as_near (groups_of pair) (reach_of pair.0.box.cover pair.1.box.cover)) rows) off))
      (so_far (part_left (λ (p : Pair). IsInCover job run p.0 × IsInCover job run p.1) pairs (pair ∷ []) covers))
    where
      on : (b : Bool) → not b ≡ false → b ≡ true
      on true e = refl
      on false e = absurd cc

  -- all that are compared of a box and those of a stretch
  pub passed_all : (left : BoxPlace) (other : ZoneLine) (right : StretchView) (boxes : List ZoneBox) (pairs : List Pair) (rows : List Near) → list_any (may_count rows left other right) boxes ≡ false
      → AreNearestSoFar job run pairs rows → AreNearestSoFar job run (pairs ++ flat_map (pair_where left other right) boxes) rows
  unfolding pair_where
  passed_all left other right [] pairs rows none so_far = subst (λ (ps : List Pair). AreNearestSoFar job run ps rows) (sym (append-nil pairs)) so_far
  passed_all left other right (x ∷ xs) pairs rows none so_far =
      by_compared (are_compared left.stretch right left.box x) (may_be_nearer rows (left, place_of other right x)) refl none (λ ps later. passed_all left other right xs ps rows later)
    where
      pair : Pair
      pair = (left, place_of other right x)

      rest : List Pair
      rest = flat_map (pair_where left other right) xs

      by_compared : (q m : Bool) → may_be_nearer rows pair ≡ m → ((q && m) || list_any (may_count rows left other right) xs) ≡ false
          → ((ps : List Pair) → list_any (may_count rows left other right) xs ≡ false → AreNearestSoFar job run ps rows → AreNearestSoFar job run (ps ++ rest) rows)
          → AreNearestSoFar job run (pairs ++ (cond q (pair ∷ []) [] ++ rest)) rows
      by_compared true true is none later = absurd cc
      by_compared true false is none later =
          subst (λ (ps : List Pair). AreNearestSoFar job run ps rows) (append_assoc pairs (pair ∷ []) rest)
          (later (pairs ++ pair ∷ []) none (passed_one pairs pair rows is so_far))
      by_compared false m is none later = later pairs none so_far
