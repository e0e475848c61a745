-- Lots of boxes: elements of lists, boxes that meet, and the greatest of how far they reach into each other.
use Rattle.std.proofs.Common.{◌≡◌, ◌∙◌, ◌<◌, ◌+◌, ◌⊎◌, inl, inr, ℕ, ℤ, zero, suc, Bool, true, false, List, take, [], ◌∷◌, ◌++◌, Option, None, Some, map, length, get_or, All, Contains, ap, subst, sym, arith, refl}
use Rattle.std.specs.Prelude.{pos, ◌+ℤ◌, ◌*ℤ◌, ◌≤ℤ◌, ◌<ℤ◌, ◌&&◌}
use Rattle.std.specs.List.{list_any}
use Rattle.std.specs.Int.{int_max}
use Rattle.std.proofs.lemmas.Int.{ints, clamps}
use Rattle.std.proofs.lemmas.List.Elements.{All-contains, All-push, All-weaker, Contains-append_left, Contains-append_right, Contains-append_cases, Contains-push}
use Rattle.std.proofs.lemmas.Grind.{flat_map-append}
use Rattle.std.proofs.lemmas.List.{append-nil, append_assoc, map_more, take_more}
use Rattle.std.proofs.lemmas.List.Folds.{Any-from_list_any, list_any-from_Any}
use Rattle.swept_boxes.specs.Boxes.{DoMeet, TouchInAll, boxes_meet, do_touch}
use Rattle.swept_boxes.specs.declared.Box3.{Box3}
use Rattle.swept_boxes.proofs.Meeting.{meet-from_touch}
use Rattle.swept_boxes.proofs.MeetTests.{meet_passes, touch_of}
use Rattle.explain_reach.specs.Lots.{DoLotsMeet, IsGreatest, greater, lots_meet, reaches}
use Rattle.explain_reach.specs.Reaches.{reach_of}
use Rattle.explain_reach.specs.Shapes.{HasPoint, grown_box}
use Rattle.explain_reach.proofs.ShapeLaws.{grown_reach, least-from_meet, meet-from_least}

-- ---- elements of lists

pub in_front : {X : Type 0} (x : X) (xs : List X) → Contains (x ∷ xs) x
in_front x xs = (0, omega arith, refl)

in_rest : {X : Type 0} (x : X) (xs : List X) (y : X) → Contains xs y → Contains (x ∷ xs) y
in_rest x xs y (k, below, is) = (suc k, omega arith, is)

in_map : {X Y : Type 0} (f : X → Y) (xs : List X) (x : X) → Contains xs x → Contains (map f xs) (f x)
in_map f [] x (k, below, is) = absurd (omega arith)
in_map f (y ∷ ys) x (zero, below, is) = (0, omega arith, ap f is)
in_map f (y ∷ ys) x (suc k, below, is) = in_rest (f y) (map f ys) (f x) (in_map f ys x (k, omega arith, is))

from_map : {X Y : Type 0} (f : X → Y) (xs : List X) (y : Y) → Contains (map f xs) y → (x : X) × Contains xs x × (f x ≡ y)
from_map f [] y (k, below, is) = absurd (omega arith)
from_map f (x ∷ xs) y (zero, below, is) = (x, in_front x xs, is)
from_map f (x ∷ xs) y (suc k, below, is) = let r = from_map f xs y (k, omega arith, is) in (r.0, in_rest x xs r.0 r.1, r.2)

pub in_reaches : (lefts rights : List Box3) (l r : Box3) → Contains lefts l → Contains rights r → Contains (reaches lefts rights) (reach_of l r)
in_reaches [] rights l r (k, below, is) there = absurd (omega arith)
in_reaches (x ∷ xs) rights l r (zero, below, is) there =
    Contains-append_left (map (reach_of x) rights) (reaches xs rights) (reach_of l r)
    (subst (λ (b : Box3). Contains (map (reach_of b) rights) (reach_of l r)) (sym is) (in_map (reach_of l) rights r there))
in_reaches (x ∷ xs) rights l r (suc k, below, is) there =
    Contains-append_right (map (reach_of x) rights) (reaches xs rights) (reach_of l r) (in_reaches xs rights l r (k, omega arith, is) there)

pub from_reaches : (lefts rights : List Box3) (n : ℤ) → Contains (reaches lefts rights) n → (l : Box3) × (r : Box3) × Contains lefts l × Contains rights r × (reach_of l r ≡ n)
from_reaches [] rights n (k, below, is) = absurd (omega arith)
from_reaches (x ∷ xs) rights n inside =
    elim (Contains-append_cases (map (reach_of x) rights) (reaches xs rights) n inside) [
      | inl here ↦ let r = from_map (reach_of x) rights n here in (x, r.0, in_front x xs, r.1, r.2)
      | inr there ↦ let r = from_reaches xs rights n there in (r.0, r.1, in_rest x xs r.0 r.2, r.3, r.4)
    ]

-- ---- lots that meet

all_three : (a b c : Bool) → (a && (b && c)) ≡ true → (a ≡ true) × (b ≡ true) × (c ≡ true)
all_three true true true e = (refl, refl, refl)
all_three true true false e = absurd cc
all_three true false c e = absurd cc
all_three false b c e = absurd cc

pub meet_of : (left right : Box3) → boxes_meet left right ≡ true → DoMeet left right
unfolding boxes_meet
meet_of left right e =
    let each = all_three (do_touch left right 0) (do_touch left right 1) (do_touch left right 2) e in
    meet-from_touch left right (touches each.0 each.1 each.2)
  where
    touches : do_touch left right 0 ≡ true → do_touch left right 1 ≡ true → do_touch left right 2 ≡ true → TouchInAll left right
    touches p q r zero low = touch_of left right 0 p
    touches p q r (suc zero) low = touch_of left right 1 q
    touches p q r (suc (suc zero)) low = touch_of left right 2 r
    touches p q r (suc (suc (suc k))) low = absurd (omega arith)

pub lots-from_test : (lefts rights : List Box3) → lots_meet lefts rights ≡ true → DoLotsMeet lefts rights
lots-from_test lefts rights e =
    let own = Any-from_list_any (λ left. list_any (boxes_meet left) rights) lefts e in
    let other = Any-from_list_any (boxes_meet own.1) rights own.4 in
    (own.1, other.1, (own.0, own.2, own.3), (other.0, other.2, other.3), meet_of own.1 other.1 other.4)

pub test-from_lots : (lefts rights : List Box3) → DoLotsMeet lefts rights → lots_meet lefts rights ≡ true
test-from_lots lefts rights (left, right, own, other, meet) =
    list_any-from_Any (λ l. list_any (boxes_meet l) rights) lefts
    (own.0, left, own.1, own.2, list_any-from_Any (boxes_meet left) rights (other.0, right, other.1, other.2, meet_passes left right meet))

-- ---- the greatest

max_left : (a b : ℤ) → a ≤ℤ int_max a b
max_left a b = omega (arith, ints, clamps)

max_right : (a b : ℤ) → b ≤ℤ int_max a b
max_right a b = omega (arith, ints, clamps)

one_of : (a b : ℤ) → (a ≡ int_max a b) ⊎ (b ≡ int_max a b)
one_of a b = grind (arith, ints)

pub le_trans : (a b c : ℤ) → a ≤ℤ b → b ≤ℤ c → a ≤ℤ c
le_trans a b c p q = omega (arith, ints)

pub le_itself : (a : ℤ) → a ≤ℤ a
le_itself a = omega (arith, ints)

-- one number more
pub greatest_more : (most : Option ℤ) (numbers : List ℤ) (n : ℤ) → IsGreatest most numbers → IsGreatest (Some (greater most n)) (numbers ++ n ∷ [])
greatest_more None numbers n none =
    rw none (in_front n [], λ k d below. only k d below)
  where
    only : (k : ℕ) (d : ℤ) → k < 1 → get_or (n ∷ []) k d ≤ℤ n
    only zero d below = le_itself n
    only (suc k) d below = absurd (omega arith)
greatest_more (Some before) numbers n (inside, all) = (
  elim (one_of before n) [
    | inl e ↦ Contains-append_left numbers (n ∷ []) (int_max before n) (subst (λ (m : ℤ). Contains numbers m) e inside)
    | inr e ↦ subst (λ (m : ℤ). Contains (numbers ++ n ∷ []) m) e (Contains-push numbers n)
  ],
  All-push (λ m. m ≤ℤ int_max before n) numbers n
      (All-weaker (λ m. m ≤ℤ before) (λ m. m ≤ℤ int_max before n) (λ m h. le_trans m before (int_max before n) h (max_left before n)) numbers all)
      (max_right before n),
)

-- ---- lots that are grown

apart : (a n r g : ℤ) → pos 0 ≤ℤ a → a ≡ r +ℤ (g *ℤ pos 2) → r ≤ℤ n → (n +ℤ (g *ℤ pos 2)) <ℤ pos 0 → ⊥
apart a n r g p e q h = omega (arith, ints)

near : (a n r g more : ℤ) → a ≡ r +ℤ (more *ℤ pos 2) → r ≡ n → g <ℤ more → pos 0 ≤ℤ (n +ℤ ((g +ℤ pos 1) *ℤ pos 2)) → pos 0 ≤ℤ a
near a n r g more e same above h = omega (arith, ints)

-- boxes that reach no further are apart where they are grown by less than half of that
pub grown_apart : (lefts rights : List Box3) (n g : ℤ) → All (λ m. m ≤ℤ n) (reaches lefts rights) → (n +ℤ (g *ℤ pos 2)) <ℤ pos 0
    → DoLotsMeet (map (grown_box g) lefts) (map (grown_box g) rights) → ⊥
grown_apart lefts rights n g all small (x, y, own, other, meet) =
    let l = from_map (grown_box g) lefts x own in
    let r = from_map (grown_box g) rights y other in
    let met : DoMeet (grown_box g l.0) (grown_box g r.0) =
    subst (λ (b : Box3). DoMeet b (grown_box g r.0)) (sym l.2) (subst (λ (b : Box3). DoMeet x b) (sym r.2) meet) in
    apart (reach_of (grown_box g l.0) (grown_box g r.0)) n (reach_of l.0 r.0) g (least-from_meet (grown_box g l.0) (grown_box g r.0) met) (grown_reach l.0 r.0 g)
    (All-contains (λ m. m ≤ℤ n) (reaches lefts rights) (reach_of l.0 r.0) all (in_reaches lefts rights l.0 r.0 l.1 r.1)) small

-- two that reach so far meet where they are grown by more, as long as they have points
pub grown_meet : (lefts rights : List Box3) (n g more : ℤ) → Contains (reaches lefts rights) n → pos 0 ≤ℤ (n +ℤ ((g +ℤ pos 1) *ℤ pos 2)) → g <ℤ more
    → All HasPoint (map (grown_box more) lefts) → All HasPoint (map (grown_box more) rights) → DoLotsMeet (map (grown_box more) lefts) (map (grown_box more) rights)
grown_meet lefts rights n g more inside large above own other =
    let p = from_reaches lefts rights n inside in
    let l = grown_box more p.0 in
    let r = grown_box more p.1 in
    let in_left : Contains (map (grown_box more) lefts) l = in_map (grown_box more) lefts p.0 p.2 in
    let in_right : Contains (map (grown_box more) rights) r = in_map (grown_box more) rights p.1 p.3 in (
      l,
      r,
      in_left,
      in_right,
      meet-from_least l r (All-contains HasPoint (map (grown_box more) lefts) l own in_left) (All-contains HasPoint (map (grown_box more) rights) r other in_right)
          (near (reach_of l r) n (reach_of p.0 p.1) g more (grown_reach p.0 p.1 more) p.4 above large),
    )

-- ---- one box more

-- of one box with one more of the others
pub one_more : (f : Box3 → ℤ) (numbers : List ℤ) (rights : List Box3) (i : ℕ) (d : Box3) → i < length rights
    → (numbers ++ map f (take i rights)) ++ f (get_or rights i d) ∷ [] ≡ numbers ++ map f (take (i + 1) rights)
one_more f numbers rights i d below =
    append_assoc numbers (map f (take i rights)) (f (get_or rights i d) ∷ []) ∙ ap (λ (ns : List ℤ). numbers ++ ns) (sym (map_more f rights i d below))

-- of one more of the boxes with all others
reaches_more : (lefts rights : List Box3) (i : ℕ) (d : Box3) → i < length lefts
    → reaches (take i lefts) rights ++ map (reach_of (get_or lefts i d)) rights ≡ reaches (take (i + 1) lefts) rights
reaches_more lefts rights i d below =
    sym (ap (λ (boxes : List Box3). reaches boxes rights) (take_more lefts i d below)
    ∙ flat_map-append (λ left. map (reach_of left) rights) (take i lefts) (get_or lefts i d ∷ [])
    ∙ ap (λ (ns : List ℤ). reaches (take i lefts) rights ++ ns) (append-nil (map (reach_of (get_or lefts i d)) rights)))

pub one_more_of_all : (numbers : List ℤ) (lefts rights : List Box3) (i : ℕ) (d : Box3) → i < length lefts
    → (numbers ++ reaches (take i lefts) rights) ++ map (reach_of (get_or lefts i d)) rights ≡ numbers ++ reaches (take (i + 1) lefts) rights
one_more_of_all numbers lefts rights i d below =
    append_assoc numbers (reaches (take i lefts) rights) (map (reach_of (get_or lefts i d)) rights) ∙ ap (λ (ns : List ℤ). numbers ++ ns) (reaches_more lefts rights i d below)
