-- Boxes in which others lie, and groups of boxes.
use Rattle.std.proofs.Common.{◌≡◌, ◌∙◌, ℕ, zero, suc, ℤ, pos, w32, ◌≤ℤ◌, ◌+◌, ◌<◌, ◌≤◌, nat_lt, ◌⊎◌, inl, inr, ◌&&◌, ◌||◌, Bool, true, false, List, [], ◌∷◌, ◌++◌, get_or, length, Option, None, refl, sym, ap, arith}
use Rattle.std.proofs.lemmas.Bool.Decides.{nat_tests}
use Rattle.std.proofs.lemmas.Int.{ints, clamps, to_z-of_z}
use Rattle.std.proofs.lemmas.List.{get_or_default}
use Rattle.std.specs.Int.{int_max, int_min}
use Rattle.std.specs.List.{list_any}
use mir.Val.{to_z, of_z, SFits}
use Rattle.box_tree.specs.Hulls.{LiesIn, IsGroup, AreGroups}
use Rattle.box_tree.specs.declared.groups.Group.{Group}
use Rattle.swept_boxes.proofs.MeetTests.{touch_of, touch_passes}
use Rattle.swept_boxes.specs.Boxes.{low_of, high_of, do_touch, boxes_meet}
use Rattle.swept_boxes.specs.declared.Box3.{Box3}

-- ---- boxes in which others lie

at_most_itself : (a : ℤ) → a ≤ℤ a
at_most_itself a = omega (arith, ints)

pub lies_in_itself : (box : Box3) → LiesIn box box
lies_in_itself box = record { low = λ direction. at_most_itself (low_of box direction); high = λ direction. at_most_itself (high_of box direction) }

-- ---- a box by its bounds

-- a signed number that is stored keeps its value
pub stored : (z v : ℤ) → SFits w32 z → z ≡ v → to_z w32 (of_z w32 z) ≡ v
stored z v fits e = to_z-of_z w32 z fits ∙ e

past_three : (xs : List ℤ) (k : ℕ) → length xs ≡ 3 → get_or xs (suc (suc (suc k))) (pos 0) ≡ pos 0
past_three [] k three = absurd (omega arith)
past_three (x ∷ []) k three = absurd (omega arith)
past_three (x ∷ y ∷ []) k three = absurd (omega arith)
past_three (x ∷ y ∷ z ∷ []) k three = refl
past_three (x ∷ y ∷ z ∷ w ∷ xs) k three = absurd (omega arith)

in_each : (xs ys : List ℤ) → length xs ≡ 3 → length ys ≡ 3 → get_or xs 0 (pos 0) ≤ℤ get_or ys 0 (pos 0) → get_or xs 1 (pos 0) ≤ℤ get_or ys 1 (pos 0) → get_or xs 2 (pos 0) ≤ℤ get_or ys 2 (pos 0)
    → (direction : ℕ) → get_or xs direction (pos 0) ≤ℤ get_or ys direction (pos 0)
in_each xs ys three three' x y z zero = x
in_each xs ys three three' x y z (suc zero) = y
in_each xs ys three three' x y z (suc (suc zero)) = z
in_each xs ys three three' x y z (suc (suc (suc k))) = rw (past_three xs k three, past_three ys k three') (at_most_itself (pos 0))

-- a box lies in another where its three low bounds are not below, and its three high bounds not above
pub lies_by : (inner outer : Box3) → length inner.lo ≡ 3 → length inner.hi ≡ 3 → length outer.lo ≡ 3 → length outer.hi ≡ 3 → low_of outer 0 ≤ℤ low_of inner 0 → low_of outer 1 ≤ℤ low_of inner 1
    → low_of outer 2 ≤ℤ low_of inner 2 → high_of inner 0 ≤ℤ high_of outer 0 → high_of inner 1 ≤ℤ high_of outer 1 → high_of inner 2 ≤ℤ high_of outer 2 → LiesIn inner outer
lies_by inner outer lo hi lo' hi' l m n p q r = record { low = in_each outer.lo inner.lo lo' lo l m n; high = in_each inner.hi outer.hi hi hi' p q r }

-- ---- boxes that meet

wider : (a a' b p p' q : ℤ) → a' ≤ℤ a → p ≤ℤ p' → int_max a b ≤ℤ int_min p q → int_max a' b ≤ℤ int_min p' q
wider a a' b p p' q low high less = omega (arith, ints, clamps)

swapped : (a b p q : ℤ) → int_max a b ≤ℤ int_min p q → int_max b a ≤ℤ int_min q p
swapped a b p q less = omega (arith, ints, clamps)

all_pass : (a b c a' b' c' : Bool) → (a ≡ true → a' ≡ true) → (b ≡ true → b' ≡ true) → (c ≡ true → c' ≡ true) → (a && (b && c)) ≡ true → (a' && (b' && c')) ≡ true
all_pass true true true a' b' c' p q r e = rw (p refl, q refl, r refl) refl
all_pass true true false a' b' c' p q r e = absurd cc
all_pass true false c a' b' c' p q r e = absurd cc
all_pass false b c a' b' c' p q r e = absurd cc

touch_wider : (inner outer other : Box3) → LiesIn inner outer → (direction : ℕ) → do_touch inner other direction ≡ true → do_touch outer other direction ≡ true
touch_wider inner outer other lies direction e =
    touch_passes outer other direction
    (wider (low_of inner direction) (low_of outer direction) (low_of other direction) (high_of inner direction) (high_of outer direction) (high_of other direction)
    (lies.low direction) (lies.high direction) (touch_of inner other direction e))

touch_swapped : (left right : Box3) (direction : ℕ) → do_touch left right direction ≡ true → do_touch right left direction ≡ true
touch_swapped left right direction e =
    touch_passes right left direction
    (swapped (low_of left direction) (low_of right direction) (high_of left direction) (high_of right direction) (touch_of left right direction e))

-- what meets a box meets each box that it lies in
pub meet_wider : (inner outer other : Box3) → LiesIn inner outer → boxes_meet inner other ≡ true → boxes_meet outer other ≡ true
unfolding boxes_meet
meet_wider inner outer other lies e =
    all_pass (do_touch inner other 0) (do_touch inner other 1) (do_touch inner other 2) (do_touch outer other 0) (do_touch outer other 1) (do_touch outer other 2)
    (touch_wider inner outer other lies 0) (touch_wider inner outer other lies 1) (touch_wider inner outer other lies 2) e

-- and the other way round
meet_back : (left right : Box3) → boxes_meet left right ≡ true → boxes_meet right left ≡ true
unfolding boxes_meet
meet_back left right e =
    all_pass (do_touch left right 0) (do_touch left right 1) (do_touch left right 2) (do_touch right left 0) (do_touch right left 1) (do_touch right left 2)
    (touch_swapped left right 0) (touch_swapped left right 1) (touch_swapped left right 2) e

pub meet_swapped : (left right : Box3) → boxes_meet left right ≡ boxes_meet right left
meet_swapped left right = same (boxes_meet left right) (boxes_meet right left) (meet_back left right) (meet_back right left)
  where
    same : (a b : Bool) → (a ≡ true → b ≡ true) → (b ≡ true → a ≡ true) → a ≡ b
    same true true p q = refl
    same false false p q = refl
    same true false p q = sym (p refl)
    same false true p q = q refl

pub meet_wider_last : (other inner outer : Box3) → LiesIn inner outer → boxes_meet other inner ≡ true → boxes_meet other outer ≡ true
meet_wider_last other inner outer lies e = meet_back outer other (meet_wider inner outer other lies (meet_back other inner e))

pub not_met : (met inner outer : Box3) → LiesIn inner outer → boxes_meet outer met ≡ false → boxes_meet inner met ≡ false
not_met met inner outer lies off = by_test (boxes_meet inner met) refl
  where
    by_test : (b : Bool) → boxes_meet inner met ≡ b → boxes_meet inner met ≡ false
    by_test true is = absurd (let on : boxes_meet outer met ≡ true = meet_wider inner outer met lies is in cc)
    by_test false is = is

-- ---- groups

pub below_or_not : (a b : ℕ) → (a < b) ⊎ (b ≤ a)
below_or_not zero zero = inr (omega arith)
below_or_not zero (suc b) = inl (omega arith)
below_or_not (suc a) zero = inr (omega arith)
below_or_not (suc a) (suc b) = by_order (below_or_not a b)
  where
    by_order : (a < b) ⊎ (b ≤ a) → (suc a < suc b) ⊎ (suc b ≤ suc a)
    by_order (inl less) = inl (omega (arith, less))
    by_order (inr more) = inr (omega (arith, more))

-- the groups of the places before one
abbrev pub GroupsUpto : List Box3 → List Group → ℕ → Type 0
GroupsUpto boxes groups count = (place : ℕ) (d : Group) → place < count → IsGroup boxes place (get_or groups place d)

-- a group whose hull is not met is passed over
pub past_group : (boxes : List Box3) (met : Box3) (from place : ℕ) (group : Group) → IsGroup boxes place group → boxes_meet group.hull met ≡ false
    → ((k : ℕ) (d : Box3) → from ≤ k → k < place → boxes_meet (get_or boxes k d) met ≡ false) → (k : ℕ) (d : Box3) → from ≤ k → k < group.next → boxes_meet (get_or boxes k d) met ≡ false
past_group boxes met from place group is off none k d on below = by_order (below_or_not k place)
  where
    by_order : (k < place) ⊎ (place ≤ k) → boxes_meet (get_or boxes k d) met ≡ false
    by_order (inl less) = none k d on less
    by_order (inr most) = not_met met (get_or boxes k d) group.hull (is.lie k d most below) off

-- ---- whether any box meets any other

pub any_at : {X : Type 0} (test : X → Bool) (xs : List X) (k : ℕ) (d : X) → k < length xs → test (get_or xs k d) ≡ true → list_any test xs ≡ true
any_at test [] k d within passes = absurd (omega (arith, within))
any_at test (x ∷ xs) zero d within passes = rw passes refl
any_at test (x ∷ xs) (suc k) d within passes = by_test (test x) (any_at test xs k d (omega (arith, within)) passes)
  where
    by_test : (b : Bool) → list_any test xs ≡ true → (b || list_any test xs) ≡ true
    by_test true rest = refl
    by_test false rest = rest

pub none_any : {X : Type 0} (test : X → Bool) (xs : List X) → ((k : ℕ) (d : X) → k < length xs → test (get_or xs k d) ≡ false) → list_any test xs ≡ false
none_any test [] none = refl
none_any test (x ∷ xs) none = rw (none zero x (omega arith)) (none_any test xs (λ k d below. none (suc k) d (omega (arith, below))))

-- ---- two lists by their groups

-- the place after a group whose hull is not met
pub past_group_at : (boxes : List Box3) (groups : List Group) (met : Box3) (from place : ℕ) (e : Group) → AreGroups boxes groups → place < length boxes → boxes_meet (get_or groups place e).hull met ≡ false → from ≤ place
    → ((k : ℕ) (d : Box3) → from ≤ k → k < place → boxes_meet (get_or boxes k d) met ≡ false)
    → (from ≤ (get_or groups place e).next) × ((k : ℕ) (d : Box3) → from ≤ k → k < (get_or groups place e).next → boxes_meet (get_or boxes k d) met ≡ false)
past_group_at boxes groups met from place e are within off on none =
    let is : IsGroup boxes place (get_or groups place e) = are.each place e within in
    let some = is.some in
    (omega (arith, some, on), past_group boxes met from place (get_or groups place e) is off none)

-- no box before a place on the left meets one on the right
abbrev pub NoneAmong : List Box3 → List Box3 → ℕ → Type 0
NoneAmong boxes others place = (k m : ℕ) (d e : Box3) → k < place → m < length others → boxes_meet (get_or boxes k d) (get_or others m e) ≡ false

pub past_groups : (boxes others : List Box3) (groups : List Group) (place first : ℕ) (g : Group) → AreGroups boxes groups → place < length boxes
    → ((m : ℕ) (e : Box3) → 0 ≤ m → m < first → boxes_meet (get_or others m e) (get_or groups place g).hull ≡ false) → length others ≤ first → NoneAmong boxes others place
    → NoneAmong boxes others (get_or groups place g).next
past_groups boxes others groups place first g are within off all none k m d e below there = by_order (below_or_not k place)
  where
    hull : Box3
    hull = (get_or groups place g).hull

    by_order : (k < place) ⊎ (place ≤ k) → boxes_meet (get_or boxes k d) (get_or others m e) ≡ false
    by_order (inl less) = none k m d e less there
    by_order (inr most) =
        let is : IsGroup boxes place (get_or groups place g) = are.each place g within in
        not_met (get_or others m e) (get_or boxes k d) (get_or groups place g).hull (is.lie k d most below)
        (meet_swapped (get_or groups place g).hull (get_or others m e) ∙ off m e (omega arith) (omega (arith, there, all)))

pub past_own : (boxes others : List Box3) (groups : List Group) (place first second : ℕ) (g : Group) (o : Box3) → AreGroups boxes groups → place < length boxes
    → ((m : ℕ) (e : Box3) → 0 ≤ m → m < first → boxes_meet (get_or others m e) (get_or groups place g).hull ≡ false)
    → ((m : ℕ) (e : Box3) → first ≤ m → m < second → boxes_meet (get_or others m e) (get_or boxes place o) ≡ false) → length others ≤ second → NoneAmong boxes others place
    → NoneAmong boxes others (place + 1)
past_own boxes others groups place first second g o are within off past all none k m d e below there = by_order (below_or_not k place)
  where
    own : Box3
    own = get_or boxes place o

    at_place : (m < first) ⊎ (first ≤ m) → boxes_meet (get_or boxes place o) (get_or others m e) ≡ false
    at_place (inl less) =
        let is : IsGroup boxes place (get_or groups place g) = are.each place g within in
        let some = is.some in
        not_met (get_or others m e) (get_or boxes place o) (get_or groups place g).hull (is.lie place o (omega arith) some)
        (meet_swapped (get_or groups place g).hull (get_or others m e) ∙ off m e (omega arith) less)
    at_place (inr most) = meet_swapped (get_or boxes place o) (get_or others m e) ∙ past m e most (omega (arith, there, all))

    by_order : (k < place) ⊎ (place ≤ k) → boxes_meet (get_or boxes k d) (get_or others m e) ≡ false
    by_order (inl less) = none k m d e less there
    by_order (inr most) =
        let same : place ≡ k = omega (arith, most, below) in
        ap (λ (b : Box3). boxes_meet b (get_or others m e)) (sym (get_or_default boxes place o d within ∙ ap (λ (n : ℕ). get_or boxes n d) same)) ∙ at_place (below_or_not m first)

pub some_among : (boxes others : List Box3) (place second : ℕ) (o : Box3) → place < length boxes → second < length others → ((e : Box3) → boxes_meet (get_or others second e) (get_or boxes place o) ≡ true)
    → true ≡ list_any (λ own. list_any (boxes_meet own) others) boxes
some_among boxes others place second o within there meets =
    sym (any_at (λ own. list_any (boxes_meet own) others) boxes place o within
    (any_at (boxes_meet (get_or boxes place o)) others second o there (meet_swapped (get_or boxes place o) (get_or others second o) ∙ meets o)))

pub none_among : (boxes others : List Box3) (place : ℕ) → length boxes ≤ place → NoneAmong boxes others place → false ≡ list_any (λ own. list_any (boxes_meet own) others) boxes
none_among boxes others place all none =
    sym (none_any (λ own. list_any (boxes_meet own) others) boxes
    (λ k d below. none_any (boxes_meet (get_or boxes k d)) others (λ m e there. none k m d e (omega (arith, below, all)) there)))

-- a place before the end is one that passes
pub found_is : (test : Box3 → Bool) (boxes : List Box3) (place count : ℕ) → count ≡ length boxes → place ≤ count → (place < count → (d : Box3) → test (get_or boxes place d) ≡ true)
    → ((k : ℕ) (d : Box3) → 0 ≤ k → k < place → test (get_or boxes k d) ≡ false) → nat_lt place count ≡ list_any test boxes
found_is test boxes place count all within meets none = by_order (below_or_not place count)
  where
    lower : (a b : ℕ) → a < b → nat_lt a b ≡ true
    lower a b less = grind (arith, nat_tests)

    not_lower : (a b : ℕ) → b ≤ a → nat_lt a b ≡ false
    not_lower a b most = grind (arith, nat_tests)

    at_place : place < length boxes → (d : Box3) → test (get_or boxes place d) ≡ true → list_any test boxes ≡ true
    at_place less d passes = any_at test boxes place d less passes

    some_box : (xs : List Box3) → place < length xs → Box3
    some_box [] less = absurd (omega (arith, less))
    some_box (x ∷ xs) less = x

    by_order : (place < count) ⊎ (count ≤ place) → nat_lt place count ≡ list_any test boxes
    by_order (inl less) =
        let here : place < length boxes = omega (arith, less, all) in
        lower place count less ∙ sym (at_place here (some_box boxes here) (meets less (some_box boxes here)))
    by_order (inr most) = not_lower place count most ∙ sym (none_any test boxes (λ k d below. none k d (omega arith) (omega (arith, below, most, all))))

-- ---- rows

-- a place with no row keeps none
pub no_row : {X : Type 0} (rows : List (Option X)) (k : ℕ) → get_or (rows ++ None ∷ []) k None ≡ get_or rows k None
no_row [] zero = refl
no_row [] (suc k) = refl
no_row (r ∷ rs) zero = refl
no_row (r ∷ rs) (suc k) = no_row rs k
