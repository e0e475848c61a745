-- Lots of boxes in parts: what a cover does not come near, none of its boxes does; and one part more.
use Rattle.std.proofs.Common.{◌≡◌, ◌∙◌, ◌<◌, ◌+◌, ◌==◌, inl, inr, ℕ, ℤ, zero, suc, ◌≤ℤ◌, Bool, true, false, not, List, take, [], ◌∷◌, ◌++◌, Option, None, Some, map, length, get_or, All, Contains, ap, subst, sym, refl, arith, length-append}
use Rattle.std.specs.Prelude.{◌-ℤ◌, ◌||◌, nat_lt, option_to_list}
use Rattle.std.specs.Int.{int_max, int_min}
use Rattle.std.specs.Int.RustNames.{int_lt}
use Rattle.std.specs.List.{flat_map, list_any}
use Rattle.std.proofs.lemmas.Grind.{flat_map-append}
use Rattle.std.proofs.lemmas.Int.{ints, clamps}
use Rattle.std.proofs.lemmas.List.{append-nil, append_assoc, get_or-map, length-map, take_more}
use Rattle.std.proofs.lemmas.List.Elements.{All-nil, All-cons, All-head, All-tail, All-append, All-contains, All-map, All-weaker, Contains-append_left, Contains-append_right, Contains-append_cases}
use Rattle.std.proofs.lemmas.List.Folds.{list_any-append, list_any_none}
use Rattle.swept_boxes.proofs.Meeting.{meet-from_touch, touch-from_meet}
use Rattle.swept_boxes.proofs.MeetTests.{meet_passes}
use Rattle.swept_boxes.specs.Boxes.{boxes_meet, low_of, high_of}
use Rattle.swept_boxes.specs.declared.Box3.{Box3}
use Rattle.explain_reach.proofs.LotLaws.{from_reaches, in_front, in_reaches, le_itself, le_trans, meet_of}
use Rattle.explain_reach.proofs.ShapeLaws.{along-from_least, least-from_along}
use Rattle.explain_reach.specs.Lots.{IsGreatest, IsGreatestOver, greater, is_over, lots_meet, reaches}
use Rattle.explain_reach.specs.Parts.{AreCovers, IsCovered, LiesIn, boxes_in}
use Rattle.explain_reach.specs.Reaches.{reach_along, reach_of}
use Rattle.explain_reach.specs.declared.parts.Part.{Part}

-- ---- boxes in which others lie

-- by three low bounds and three high bounds
pub lies_by : (outer inner : Box3) → low_of outer 0 ≤ℤ low_of inner 0 → low_of outer 1 ≤ℤ low_of inner 1 → low_of outer 2 ≤ℤ low_of inner 2
    → high_of inner 0 ≤ℤ high_of outer 0 → high_of inner 1 ≤ℤ high_of outer 1 → high_of inner 2 ≤ℤ high_of outer 2 → LiesIn outer inner
lies_by outer inner l m n p q r =
    record { low = lows; high = highs }
  where
    lows : (direction : ℕ) → direction < 3 → low_of outer direction ≤ℤ low_of inner direction
    lows zero below = l
    lows (suc zero) below = m
    lows (suc (suc zero)) below = n
    lows (suc (suc (suc k))) below = absurd (omega (arith, below))

    highs : (direction : ℕ) → direction < 3 → high_of inner direction ≤ℤ high_of outer direction
    highs zero below = p
    highs (suc zero) below = q
    highs (suc (suc zero)) below = r
    highs (suc (suc (suc k))) below = absurd (omega (arith, below))

pub lies_over : (most outer inner : Box3) → LiesIn most outer → LiesIn outer inner → LiesIn most inner
lies_over most outer inner far near = record {
  low = λ d h. le_trans (low_of most d) (low_of outer d) (low_of inner d) (far.low d h) (near.low d h);
  high = λ d h. le_trans (high_of inner d) (high_of outer d) (high_of most d) (near.high d h) (far.high d h);
}

touches : (a b c d a' b' c' d' : ℤ) → a' ≤ℤ a → b' ≤ℤ b → c ≤ℤ c' → d ≤ℤ d' → int_max a b ≤ℤ int_min c d → int_max a' b' ≤ℤ int_min c' d'
touches a b c d a' b' c' d' p q r s h = omega (arith, ints, clamps)

further : (a b c d a' b' c' d' m : ℤ) → a' ≤ℤ a → b' ≤ℤ b → c ≤ℤ c' → d ≤ℤ d' → m ≤ℤ int_min (c -ℤ b) (d -ℤ a) → m ≤ℤ int_min (c' -ℤ b') (d' -ℤ a')
further a b c d a' b' c' d' m p q r s h = omega (arith, ints, clamps)

module _ (outer other inner met : Box3) (own : LiesIn outer inner) (later : LiesIn other met) where
  meet_within : boxes_meet inner met ≡ true → boxes_meet outer other ≡ true
  meet_within on =
      meet_passes outer other (meet-from_touch outer other
      (λ d h. touches (low_of inner d) (low_of met d) (high_of inner d) (high_of met d) (low_of outer d) (low_of other d) (high_of outer d) (high_of other d)
      (own.low d h) (later.low d h) (own.high d h) (later.high d h) (touch-from_meet inner met (meet_of inner met on) d h)))

  reach_within : reach_of inner met ≤ℤ reach_of outer other
  reach_within =
      least-from_along outer other (reach_of inner met)
      (λ d h. further (low_of inner d) (low_of met d) (high_of inner d) (high_of met d) (low_of outer d) (low_of other d) (high_of outer d) (high_of other d) (reach_of inner met)
      (own.low d h) (later.low d h) (own.high d h) (later.high d h) (along-from_least inner met (reach_of inner met) (le_itself (reach_of inner met)) d h))

-- ---- what is passed over

not_met : (a b : Bool) → (a ≡ true → b ≡ true) → b ≡ false → a ≡ false
not_met true b f e = sym (f refl) ∙ e
not_met false b f e = refl

-- boxes of covers that do not meet
pub none_meet : (outer other : Box3) (lefts rights : List Box3) → All (LiesIn outer) lefts → All (LiesIn other) rights → boxes_meet outer other ≡ false → lots_meet lefts rights ≡ false
none_meet outer other lefts rights own later apart =
    list_any_none (λ left. list_any (boxes_meet left) rights) lefts
    (All-weaker (LiesIn outer) (λ left. list_any (boxes_meet left) rights ≡ false)
    (λ left within. list_any_none (boxes_meet left) rights
    (All-weaker (LiesIn other) (λ right. boxes_meet left right ≡ false)
    (λ right lies. not_met (boxes_meet left right) (boxes_meet outer other) (meet_within outer other left right within lies) apart) rights later)) lefts own)

not_over : (n m : ℤ) → int_lt n m ≡ false → m ≤ℤ n
not_over n m e = grind (arith, ints)

reaches_within : (outer other : Box3) (lefts rights : List Box3) → All (LiesIn outer) lefts → All (LiesIn other) rights → All (λ n. n ≤ℤ reach_of outer other) (reaches lefts rights)
reaches_within outer other [] rights own later = All-nil (λ n. n ≤ℤ reach_of outer other)
reaches_within outer other (l ∷ lefts) rights own later =
    All-append (λ n. n ≤ℤ reach_of outer other) (map (reach_of l) rights) (reaches lefts rights)
    (All-map (λ n. n ≤ℤ reach_of outer other) (reach_of l) rights
    (All-weaker (LiesIn other) (λ r. reach_of l r ≤ℤ reach_of outer other) (λ r within. reach_within outer other l r (All-head (LiesIn outer) l lefts own) within) rights later))
    (reaches_within outer other lefts rights (All-tail (LiesIn outer) l lefts own) later)

-- boxes of covers that reach no further than a number
pub passed_over : (before : Option ℤ) (numbers : List ℤ) (outer other : Box3) (lefts rights : List Box3) → All (LiesIn outer) lefts → All (LiesIn other) rights
    → is_over before (reach_of outer other) ≡ false → IsGreatest before numbers → IsGreatest before (numbers ++ reaches lefts rights)
passed_over None numbers outer other lefts rights own later low none = absurd cc
passed_over (Some n) numbers outer other lefts rights own later low (inside, all) = (
  Contains-append_left numbers (reaches lefts rights) n inside,
  All-append (λ m. m ≤ℤ n) numbers (reaches lefts rights) all
      (All-weaker (λ m. m ≤ℤ reach_of outer other) (λ m. m ≤ℤ n) (λ m within. le_trans m (reach_of outer other) n within (not_over n (reach_of outer other) low))
      (reaches lefts rights) (reaches_within outer other lefts rights own later)),
)

greatest_is : (b n : ℤ) → int_lt b n ≡ true → n ≡ int_max b n
greatest_is b n e = grind (arith, ints)

least_is : (b n : ℤ) → int_lt b n ≡ false → b ≡ int_max b n
least_is b n e = grind (arith, ints)

pub over_is : (most : Option ℤ) (n : ℤ) → is_over most n ≡ true → n ≡ greater most n
over_is None n e = refl
over_is (Some b) n e = greatest_is b n e

pub under_is : (most : Option ℤ) (n : ℤ) → is_over most n ≡ false → most ≡ Some (greater most n)
under_is None n e = absurd cc
under_is (Some b) n e = ap (λ (m : ℤ). let o : Option ℤ = Some m in o) (least_is b n e)

under_x : (n a b c : ℤ) → int_lt n a ≡ false → int_lt n (int_min (int_min a b) c) ≡ false
under_x n a b c e = grind (arith, ints)

under_y : (n a b c : ℤ) → int_lt n b ≡ false → int_lt n (int_min (int_min a b) c) ≡ false
under_y n a b c e = grind (arith, ints)

over_z : (n a b c : ℤ) → int_lt n a ≡ true → int_lt n b ≡ true → int_lt n c ≡ int_lt n (int_min (int_min a b) c)
over_z n a b c p q = grind (arith, ints)

module _ (number : ℤ) (left right : Box3) where
  -- boxes that reach no further along X than a number, or along Y
  pub not_over_x : int_lt number (reach_along left right 0) ≡ false → int_lt number (reach_of left right) ≡ false
  unfolding reach_of
  not_over_x off = under_x number (reach_along left right 0) (reach_along left right 1) (reach_along left right 2) off

  pub not_over_y : int_lt number (reach_along left right 1) ≡ false → int_lt number (reach_of left right) ≡ false
  unfolding reach_of
  not_over_y off = under_y number (reach_along left right 0) (reach_along left right 1) (reach_along left right 2) off

  -- and further along both
  pub over_by_z : int_lt number (reach_along left right 0) ≡ true → int_lt number (reach_along left right 1) ≡ true → int_lt number (reach_along left right 2) ≡ int_lt number (reach_of left right)
  unfolding reach_of
  over_by_z x y = over_z number (reach_along left right 0) (reach_along left right 1) (reach_along left right 2) x y

-- ---- the greatest where it is over a number

below : (f n m : ℤ) → n ≤ℤ m → int_lt f m ≡ false → int_lt f n ≡ false
below f n m h off = grind (arith, ints)

apart : (f : ℤ) → int_lt f f ≡ true → ⊥
apart f on = omega (arith, ints, on)

pub none_at_all : (floor : Option ℤ) (numbers : List ℤ) → IsGreatest None (option_to_list floor ++ numbers) → All (λ n. is_over floor n ≡ false) numbers
none_at_all None numbers none = subst (λ (ns : List ℤ). All (λ n. true ≡ false) ns) (sym none) (All-nil (λ (n : ℤ). true ≡ false))
none_at_all (Some f) numbers none = absurd cc

none_over : (f m : ℤ) (numbers : List ℤ) → int_lt f m ≡ false → IsGreatest (Some m) (f ∷ numbers) → All (λ n. int_lt f n ≡ false) numbers
none_over f m numbers off (inside, all) = All-weaker (λ n. n ≤ℤ m) (λ n. int_lt f n ≡ false) (λ n h. below f n m h off) numbers (All-tail (λ n. n ≤ℤ m) f numbers all)

one_over : (f m : ℤ) (numbers : List ℤ) → int_lt f m ≡ true → IsGreatest (Some m) (f ∷ numbers) → IsGreatestOver (Some f) (Some m) numbers
one_over f m numbers on ((zero, within, is), all) = absurd (apart f (subst (λ (n : ℤ). int_lt f n ≡ true) (sym is) on))
one_over f m numbers on ((suc k, within, is), all) = (((k, omega arith, is), All-tail (λ n. n ≤ℤ m) f numbers all), on)

module _ (floor most : Option ℤ) (f m : ℤ) (numbers : List ℤ) (before : floor ≡ Some f) (number : most ≡ Some m) where
  pub none_by : int_lt f m ≡ false → IsGreatest most (option_to_list floor ++ numbers) → All (λ n. is_over floor n ≡ false) numbers
  none_by off great =
      subst (λ (o : Option ℤ). All (λ n. is_over o n ≡ false) numbers) (sym before)
      (none_over f m numbers off (subst (λ (o : Option ℤ). IsGreatest o (f ∷ numbers)) number (subst (λ (o : Option ℤ). IsGreatest most (option_to_list o ++ numbers)) before great)))

  pub one_by : int_lt f m ≡ true → IsGreatest most (option_to_list floor ++ numbers) → IsGreatestOver floor most numbers
  one_by on great =
      subst (λ (o : Option ℤ). IsGreatestOver o most numbers) (sym before)
      (subst (λ (o : Option ℤ). IsGreatestOver (Some f) o numbers) (sym number)
      (one_over f m numbers on (subst (λ (o : Option ℤ). IsGreatest o (f ∷ numbers)) number (subst (λ (o : Option ℤ). IsGreatest most (option_to_list o ++ numbers)) before great))))

pub starts_there : (floor : Option ℤ) → IsGreatest floor (option_to_list floor)
starts_there None = refl
starts_there (Some f) = (in_front f [], All-cons (λ n. n ≤ℤ f) f [] (le_itself f) (All-nil (λ n. n ≤ℤ f)))

-- ---- one part more

flat_more : (parts : List Part) (i : ℕ) (d : Part) → i < length parts → flat_map boxes_in (take i parts) ++ boxes_in (get_or parts i d) ≡ flat_map boxes_in (take (i + 1) parts)
flat_more parts i d below =
    sym (ap (λ (ps : List Part). flat_map boxes_in ps) (take_more parts i d below)
    ∙ flat_map-append boxes_in (take i parts) (get_or parts i d ∷ [])
    ∙ ap (λ (bs : List Box3). flat_map boxes_in (take i parts) ++ bs) (append-nil (boxes_in (get_or parts i d))))

-- the cover of a part, among those of all
pub covers_long : (covers : List Box3) (parts : List Part) (i : ℕ) → AreCovers covers parts → i < length parts → i < length covers
covers_long covers parts i are below = rw (are, length-map parts (λ (part : Part). part.cover)) below

pub lie_at : (covers : List Box3) (parts : List Part) (i : ℕ) (cover : Box3) (part : Part) → AreCovers covers parts → All IsCovered parts → i < length parts
    → cover ≡ get_or covers i cover → part ≡ get_or parts i part → All (LiesIn cover) (boxes_in part)
lie_at covers parts i cover part are all below cover_is part_is =
    let is : cover ≡ part.cover =
    cover_is ∙ ap (λ (cs : List Box3). get_or cs i cover) are ∙ get_or-map (λ (p : Part). p.cover) parts i part cover below ∙ ap (λ (p : Part). p.cover) (sym part_is) in
    subst (λ (c : Box3). All (LiesIn c) (boxes_in part)) (sym is) (subst IsCovered (sym part_is) (all i part below))

-- the same numbers, in whatever order
same_greatest : (most : Option ℤ) (xs ys : List ℤ) → ((n : ℤ) → Contains xs n → Contains ys n) → ((n : ℤ) → Contains ys n → Contains xs n) → IsGreatest most xs → IsGreatest most ys
same_greatest None xs [] there back none = refl
same_greatest None xs (y ∷ ys) there back none = absurd (never y (subst (λ (ns : List ℤ). Contains ns y) none (back y (in_front y ys))))
  where
    never : (n : ℤ) → Contains [] n → ⊥
    never n (k, below, is) = absurd (omega arith)
same_greatest (Some m) xs ys there back (inside, all) = (
  there m inside,
  λ k d below. All-contains (λ n. n ≤ℤ m) xs (get_or ys k d) all (back (get_or ys k d) (k, below, get_or_same ys k d (get_or ys k d) below)),
)
  where
    get_or_same : (ns : List ℤ) (k : ℕ) (d e : ℤ) → k < length ns → get_or ns k e ≡ get_or ns k d
    get_or_same [] k d e below = absurd (omega arith)
    get_or_same (n ∷ ns) zero d e below = refl
    get_or_same (n ∷ ns) (suc k) d e below = get_or_same ns k d e (omega arith)

-- a lot with two others and with both together
module _ (owns front later : List Box3) where
  into : (n : ℤ) → Contains (reaches owns front ++ reaches owns later) n → Contains (reaches owns (front ++ later)) n
  into n inside = elim (Contains-append_cases (reaches owns front) (reaches owns later) n inside) [
    | inl here ↦ let p = from_reaches owns front n here in subst (λ (m : ℤ). Contains (reaches owns (front ++ later)) m) p.4 (in_reaches owns (front ++ later) p.0 p.1 p.2 (Contains-append_left front later p.1 p.3))
    | inr there ↦ let p = from_reaches owns later n there in subst (λ (m : ℤ). Contains (reaches owns (front ++ later)) m) p.4 (in_reaches owns (front ++ later) p.0 p.1 p.2 (Contains-append_right front later p.1 p.3))
  ]

  back : (n : ℤ) → Contains (reaches owns (front ++ later)) n → Contains (reaches owns front ++ reaches owns later) n
  back n inside =
      let p = from_reaches owns (front ++ later) n inside in
      subst (λ (m : ℤ). Contains (reaches owns front ++ reaches owns later) m) p.4 (elim (Contains-append_cases front later p.1 p.3) [
        | inl here ↦ Contains-append_left (reaches owns front) (reaches owns later) (reach_of p.0 p.1) (in_reaches owns front p.0 p.1 p.2 here)
        | inr there ↦ Contains-append_right (reaches owns front) (reaches owns later) (reach_of p.0 p.1) (in_reaches owns later p.0 p.1 p.2 there)
      ])

  with_more : (xs ys zs : List ℤ) → ((n : ℤ) → Contains ys n → Contains zs n) → (n : ℤ) → Contains (xs ++ ys) n → Contains (xs ++ zs) n
  with_more xs ys zs there n inside = elim (Contains-append_cases xs ys n inside) [
    | inl here ↦ Contains-append_left xs zs n here
    | inr more ↦ Contains-append_right xs zs n (there n more)
  ]

  pub greatest_of_both : (most : Option ℤ) (numbers : List ℤ) → IsGreatest most ((numbers ++ reaches owns front) ++ reaches owns later) → IsGreatest most (numbers ++ reaches owns (front ++ later))
  greatest_of_both most numbers great =
      same_greatest most (numbers ++ (reaches owns front ++ reaches owns later)) (numbers ++ reaches owns (front ++ later))
      (with_more numbers (reaches owns front ++ reaches owns later) (reaches owns (front ++ later)) into)
      (with_more numbers (reaches owns (front ++ later)) (reaches owns front ++ reaches owns later) back)
      (subst (λ (ns : List ℤ). IsGreatest most ns) (append_assoc numbers (reaches owns front) (reaches owns later)) great)

-- with no others
pub no_reaches : (numbers : List ℤ) (owns : List Box3) → numbers ++ reaches owns [] ≡ numbers
no_reaches numbers owns = ap (λ (ns : List ℤ). numbers ++ ns) (none_with owns) ∙ append-nil numbers
  where
    none_with : (bs : List Box3) → reaches bs [] ≡ []
    none_with [] = refl
    none_with (b ∷ bs) = none_with bs

-- of a part with one part more of the others
pub greatest_by_more : (most : Option ℤ) (numbers : List ℤ) (owns : List Box3) (parts : List Part) (i : ℕ) (d : Part) → i < length parts
    → IsGreatest most ((numbers ++ reaches owns (flat_map boxes_in (take i parts))) ++ reaches owns (boxes_in (get_or parts i d))) → IsGreatest most (numbers ++ reaches owns (flat_map boxes_in (take (i + 1) parts)))
greatest_by_more most numbers owns parts i d below great =
    subst (λ (bs : List Box3). IsGreatest most (numbers ++ reaches owns bs)) (flat_more parts i d below)
    (greatest_of_both owns (flat_map boxes_in (take i parts)) (boxes_in (get_or parts i d)) most numbers great)

-- of one part more with all others
pub reaches_by_more : (numbers : List ℤ) (parts : List Part) (others : List Box3) (i : ℕ) (d : Part) → i < length parts
    → (numbers ++ reaches (flat_map boxes_in (take i parts)) others) ++ reaches (boxes_in (get_or parts i d)) others ≡ numbers ++ reaches (flat_map boxes_in (take (i + 1) parts)) others
reaches_by_more numbers parts others i d below =
    append_assoc numbers (reaches (flat_map boxes_in (take i parts)) others) (reaches (boxes_in (get_or parts i d)) others)
    ∙ ap (λ (ns : List ℤ). numbers ++ ns) (sym (flat_map-append (λ left. map (reach_of left) others) (flat_map boxes_in (take i parts)) (boxes_in (get_or parts i d)))
    ∙ ap (λ (bs : List Box3). reaches bs others) (flat_more parts i d below))

-- a part and those before it
pub part_put : (before rest front later : List Box3) (boxes : List Box3) (parts more : List Part) (part : Part) → flat_map boxes_in parts ++ rest ≡ boxes → rest ≡ front ++ later → boxes_in part ≡ front
    → more ≡ parts ++ part ∷ [] → flat_map boxes_in more ++ later ≡ boxes
part_put before rest front later boxes parts more part so_far split is put =
    ap (λ (ps : List Part). flat_map boxes_in ps ++ later) put
    ∙ ap (λ (bs : List Box3). bs ++ later) (flat_map-append boxes_in parts (part ∷ []) ∙ ap (λ (bs : List Box3). flat_map boxes_in parts ++ bs) (append-nil (boxes_in part) ∙ is))
    ∙ append_assoc (flat_map boxes_in parts) front later
    ∙ ap (λ (bs : List Box3). flat_map boxes_in parts ++ bs) (sym split)
    ∙ so_far

-- what meets a lot meets one of its parts
any_of_four : (a b c d : Bool) → ((a || b) || (c || d)) ≡ ((a || c) || (b || d))
any_of_four true b c d = refl
any_of_four false true true d = refl
any_of_four false true false d = refl
any_of_four false false c d = refl

meets_both : (owns front later : List Box3) → lots_meet owns (front ++ later) ≡ (lots_meet owns front || lots_meet owns later)
meets_both [] front later = refl
meets_both (own ∷ owns) front later =
    ap (λ (b : Bool). b || lots_meet owns (front ++ later)) (list_any-append (boxes_meet own) front later)
    ∙ ap (λ (b : Bool). (list_any (boxes_meet own) front || list_any (boxes_meet own) later) || b) (meets_both owns front later)
    ∙ any_of_four (list_any (boxes_meet own) front) (list_any (boxes_meet own) later) (lots_meet owns front) (lots_meet owns later)

none_of : (owns : List Box3) → lots_meet owns [] ≡ false
none_of [] = refl
none_of (own ∷ owns) = none_of owns

pub any_by : (owns : List Box3) (parts : List Part) → list_any (λ part. lots_meet owns (boxes_in part)) parts ≡ lots_meet owns (flat_map boxes_in parts)
any_by owns [] = sym (none_of owns)
any_by owns (part ∷ parts) = ap (λ (b : Bool). lots_meet owns (boxes_in part) || b) (any_by owns parts) ∙ sym (meets_both owns (boxes_in part) (flat_map boxes_in parts))

pub any_part : (p : Box3 → Bool) (parts : List Part) → list_any (λ part. list_any p (boxes_in part)) parts ≡ list_any p (flat_map boxes_in parts)
any_part p [] = refl
any_part p (part ∷ parts) = ap (λ (b : Bool). list_any p (boxes_in part) || b) (any_part p parts) ∙ sym (list_any-append p (boxes_in part) (flat_map boxes_in parts))

-- a lot has boxes where one of its parts has
some_of_both : (m n : ℕ) → (nat_lt 0 m || nat_lt 0 n) ≡ nat_lt 0 (m + n)
some_of_both m n = grind arith

pub any_has : (parts : List Part) → list_any (λ part. nat_lt 0 (length (boxes_in part))) parts ≡ nat_lt 0 (length (flat_map boxes_in parts))
any_has [] = refl
any_has (part ∷ parts) =
    ap (λ (b : Bool). nat_lt 0 (length (boxes_in part)) || b) (any_has parts)
    ∙ some_of_both (length (boxes_in part)) (length (flat_map boxes_in parts))
    ∙ ap (λ (n : ℕ). nat_lt 0 n) (sym (length-append (boxes_in part) (flat_map boxes_in parts)))

pub no_length : (n : ℕ) → not (nat_lt 0 n) ≡ (n == 0)
no_length n = grind arith
