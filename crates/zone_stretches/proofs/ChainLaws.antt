-- Stretches of a zone that ascend: those that may overlap a stretch of another zone stand side by side.
use Rattle.std.proofs.Common.{◌≡◌, ◌∙◌, ℕ, zero, suc, ◌+◌, ◌<◌, ◌≤◌, ◌||◌, not, nat_le, Bool, true, false, cond, List, [], ◌∷◌, ◌++◌, drop, take, length, get_or, Option, None, Some, All, refl, sym, ap, subst, arith}
use Rattle.std.specs.Prelude.{IfSome, ◌==◌, if◌then◌else◌}
use Rattle.std.specs.List.Sorted.{IsPartitionPoint, IsPartitionedBy}
use Rattle.std.proofs.lemmas.Bool.{and_parts, eqb-true, le-leb, lt-leb}
use Rattle.std.proofs.lemmas.List.Elements.{All-nil, All-cons, All-head, All-tail, All-weaker, All-get_or}
use Rattle.order_clocks.specs.Before.{Follows}
use Rattle.order_clocks.specs.Chains.{IsPath, Leads}
use Rattle.order_clocks.specs.Clocked.{IsOrderOf}
use Rattle.sync_types.specs.Boards.{Board}
use Rattle.sync_types.specs.Events.{IsLowestName, is_same_event}
use Rattle.sync_types.specs.Turns.{Move}
use Rattle.sync_types.specs.declared.runs.EventId.{EventId}
use Rattle.zone_stretches.specs.Ascents.{leading, PassFirst, is_over, is_in_order, is_forward, is_over_at_first, is_chain, passes, IsTimed}
use Rattle.zone_stretches.specs.Overlaps.{Order, is_open_at}
use Rattle.zone_stretches.specs.SoundStretches.{HasLowNames}
use Rattle.zone_stretches.specs.Stretches.{StretchView}

-- ---- lists of which the first elements pass a test

-- past the end of a part there is nothing
pub past_part : {X : Type 0} (from upto : ℕ) (xs : List X) → upto < from → drop from (take upto xs) ≡ []
past_part zero upto xs past = absurd (omega arith)
past_part (suc from) zero xs past = refl
past_part (suc from) (suc upto) [] past = refl
past_part (suc from) (suc upto) (x ∷ xs) past = past_part from upto xs (omega arith)

-- from a place on before which the last passes
pub leading_from : {X : Type 0} (test : X → Bool) (xs : List X) (k : ℕ) (d : X) → PassFirst test xs → k < length xs → test (get_or xs k d) ≡ true
    → suc k + leading test (drop (suc k) xs) ≡ leading test xs
leading_from test [] k d first within on = absurd (omega arith)
leading_from test (x ∷ xs) zero d first within on = rw on (omega arith)
leading_from test (x ∷ xs) (suc k) d first within on = by_test (test x) refl (leading_from test xs k d first.1 (omega arith) on)
  where
    by_test : (b : Bool) → test x ≡ b → suc k + leading test (drop (suc k) xs) ≡ leading test xs → suc (suc k) + leading test (drop (suc k) xs) ≡ cond b (suc (leading test xs)) 0
    by_test true is rest = omega (arith, rest)
    by_test false is rest =
        let none : test (get_or xs k d) ≡ false = All-get_or (λ y. test y ≡ false) xs k d (omega arith) (first.0 is) in
        absurd (let both : true ≡ false = sym on ∙ none in cc)

-- so many pass at least
pub leading_on : {X : Type 0} (test : X → Bool) (xs : List X) (k : ℕ) → k ≤ leading test xs → k + leading test (drop k xs) ≡ leading test xs
leading_on test xs zero low = omega arith
leading_on test [] (suc k) low = absurd (omega (arith, low))
leading_on test (x ∷ xs) (suc k) low = by_test (test x) low (leading_on test xs k)
  where
    by_test : (b : Bool) → suc k ≤ cond b (suc (leading test xs)) 0 → (k ≤ leading test xs → k + leading test (drop k xs) ≡ leading test xs)
        → suc k + leading test (drop k xs) ≡ cond b (suc (leading test xs)) 0
    by_test true low rest = let more = rest (omega (arith, low)) in omega (arith, more)
    by_test false low rest = absurd (omega (arith, low))

pub leading_within : {X : Type 0} (test : X → Bool) (xs : List X) → leading test xs ≤ length xs
leading_within test [] = omega arith
leading_within test (x ∷ xs) = by_test (test x) (leading_within test xs)
  where
    by_test : (b : Bool) → leading test xs ≤ length xs → cond b (suc (leading test xs)) 0 ≤ suc (length xs)
    by_test true rest = omega (arith, rest)
    by_test false rest = omega arith

-- one that passes is among those that pass before the first that does not, and one that does not is not
pub leading_past : {X : Type 0} (test : X → Bool) (xs : List X) (k : ℕ) (d : X) → PassFirst test xs → k < length xs → test (get_or xs k d) ≡ true → suc k ≤ leading test xs
leading_past test xs k d first within on = let all = leading_from test xs k d first within on in omega (arith, all)

pub leading_by : {X : Type 0} (test : X → Bool) (xs : List X) (k : ℕ) (d : X) → k < length xs → test (get_or xs k d) ≡ false → leading test xs ≤ k
leading_by test [] k d within off = absurd (omega arith)
leading_by test (x ∷ xs) zero d within off = rw off (omega arith)
leading_by test (x ∷ xs) (suc k) d within off = by_test (test x) (leading_by test xs k d (omega arith) off)
  where
    by_test : (b : Bool) → leading test xs ≤ k → cond b (suc (leading test xs)) 0 ≤ suc k
    by_test true rest = omega (arith, rest)
    by_test false rest = omega arith

-- one that passes comes after none that does not
pub are_parted : {X : Type 0} (test : X → Bool) (xs : List X) → PassFirst test xs → IsPartitionedBy test xs
are_parted test [] first i j d low high on = absurd (omega (arith, high))
are_parted test (x ∷ xs) first zero zero d low high on = on
are_parted test (x ∷ xs) first (suc i) zero d low high on = absurd (omega (arith, low))
are_parted test (x ∷ xs) first (suc i) (suc j) d low high on = are_parted test xs first.1 i j d (omega (arith, low)) (omega (arith, high)) on
are_parted test (x ∷ xs) first zero (suc j) d low high on = by_test (test x) refl
  where
    by_test : (b : Bool) → test x ≡ b → test x ≡ true
    by_test true is = is
    by_test false is =
        let none : test (get_or xs j d) ≡ false = All-get_or (λ y. test y ≡ false) xs j d (omega (arith, high)) (first.0 is) in
        absurd (let both : true ≡ false = sym on ∙ none in cc)

-- where all before a place pass and none from it on, so many pass before the first that does not
pub leading_is : {X : Type 0} (test : X → Bool) (xs : List X) (k : ℕ) → k ≤ length xs → IsPartitionPoint (λ y. test y ≡ true) (λ y. test y ≡ false) xs k → k ≡ leading test xs
leading_is test [] k within point = omega (arith, within)
leading_is test (x ∷ xs) zero within point = rw (point.1 0 x (omega arith) (omega arith)) refl
leading_is test (x ∷ xs) (suc k) within point =
    let rest = leading_is test xs k (omega (arith, within)) ((λ i d low high. point.0 (suc i) d (omega arith) (omega (arith, high))), (λ i d low high. point.1 (suc i) d (omega (arith, low)) (omega (arith, high)))) in
    rw (point.0 0 x (omega arith) (omega arith)) (ap suc rest)

-- so many pass where the last of them does, and no more than there are
pub leading_at : {X : Type 0} (test : X → Bool) (xs : List X) (k count : ℕ) (d : X) → PassFirst test xs → k < length xs → count ≡ suc k → test (get_or xs k d) ≡ nat_le count (leading test xs)
leading_at test xs k count d first within is = by_test (test (get_or xs k d)) refl
  where
    by_test : (b : Bool) → test (get_or xs k d) ≡ b → b ≡ nat_le count (leading test xs)
    by_test true on = sym (ap (λ (n : ℕ). nat_le n (leading test xs)) is ∙ le-leb (suc k) (leading test xs) (leading_past test xs k d first within on))
    by_test false off = sym (ap (λ (n : ℕ). nat_le n (leading test xs)) is ∙ lt-leb (suc k) (leading test xs) (let few = leading_by test xs k d within off in omega (arith, few)))

pub leading_over : {X : Type 0} (test : X → Bool) (xs : List X) (count : ℕ) → length xs < count → nat_le count (leading test xs) ≡ false
leading_over test xs count over = lt-leb count (leading test xs) (let within = leading_within test xs in omega (arith, over, within))

-- no fewer pass a test that each passes that passes another
leading_more : {X : Type 0} (test test' : X → Bool) (xs : List X) → All (λ x. test x ≡ true → test' x ≡ true) xs → leading test xs ≤ leading test' xs
leading_more test test' [] all = omega arith
leading_more test test' (x ∷ xs) all =
    by_tests (test x) (test' x) (All-head (λ y. test y ≡ true → test' y ≡ true) x xs all) (leading_more test test' xs (All-tail (λ y. test y ≡ true → test' y ≡ true) x xs all))
  where
    by_tests : (b b' : Bool) → (b ≡ true → b' ≡ true) → leading test xs ≤ leading test' xs → cond b (suc (leading test xs)) 0 ≤ cond b' (suc (leading test' xs)) 0
    by_tests true true on rest = omega (arith, rest)
    by_tests true false on rest = absurd (let off : false ≡ true = on refl in cc)
    by_tests false true on rest = omega arith
    by_tests false false on rest = omega arith

-- what a list gives, where an element that passes the one test gives nothing, nor one that does not pass the other
module _ {X M : Type 0} (F : List X → M) (early late : X → Bool) (same : (x : X) (xs ys : List X) → F xs ≡ F ys → F (x ∷ xs) ≡ F (x ∷ ys))
    (skip_early : (x : X) (xs : List X) → early x ≡ true → F (x ∷ xs) ≡ F xs) (skip_late : (x : X) (xs : List X) → late x ≡ false → F (x ∷ xs) ≡ F xs) where
  none_left : (xs : List X) → All (λ x. late x ≡ false) xs → F xs ≡ F []
  none_left [] all = refl
  none_left (x ∷ xs) all = skip_late x xs (All-head (λ x. late x ≡ false) x xs all) ∙ none_left xs (All-tail (λ x. late x ≡ false) x xs all)

  first_part : (xs : List X) → PassFirst late xs → F (take (leading late xs) xs) ≡ F xs
  first_part [] first = refl
  first_part (x ∷ xs) first = by_late (late x) refl (first_part xs first.1)
    where
      by_late : (b : Bool) → late x ≡ b → F (take (leading late xs) xs) ≡ F xs → F (take (cond b (suc (leading late xs)) 0) (x ∷ xs)) ≡ F (x ∷ xs)
      by_late true is rest = same x (take (leading late xs) xs) xs rest
      by_late false is rest = sym (skip_late x xs is ∙ none_left xs (first.0 is))

  pub part_is : (xs : List X) → PassFirst late xs → F (drop (leading early xs) (take (leading late xs) xs)) ≡ F xs
  part_is [] first = refl
  part_is (x ∷ xs) first = by_tests (early x) (late x) refl refl (part_is xs first.1)
    where
      by_tests : (e l : Bool) → early x ≡ e → late x ≡ l → F (drop (leading early xs) (take (leading late xs) xs)) ≡ F xs
          → F (drop (cond e (suc (leading early xs)) 0) (take (cond l (suc (leading late xs)) 0) (x ∷ xs))) ≡ F (x ∷ xs)
      by_tests true true is_e is_l rest = rest ∙ sym (skip_early x xs is_e)
      by_tests false true is_e is_l rest = same x (take (leading late xs) xs) xs (first_part xs first.1)
      by_tests true false is_e is_l rest = sym (skip_late x xs is_l ∙ none_left xs (first.0 is_l))
      by_tests false false is_e is_l rest = sym (skip_late x xs is_l ∙ none_left xs (first.0 is_l))

-- ---- the order of events

joined : {E : Type 0} (Next : E → E → Type 0) (a b d : E) → Leads Next a b → Leads Next b d → Leads Next a d
joined {E} Next a b d one two = (one.0 ++ (b ∷ two.0), through one.0 a one.1)
  where
    through : (es : List E) (x : E) → IsPath Next x es b → IsPath Next x (es ++ (b ∷ two.0)) d
    through [] x path = (path, two.1)
    through (e ∷ es) x path = (path.0, through es e path.1)

same_go : (g h : Bool) → (if g then h else not h) ≡ true → g ≡ h
same_go true true on = refl
same_go true false on = absurd cc
same_go false true on = absurd cc
same_go false false on = refl

is_same_from : (a b : EventId) → is_same_event a b ≡ true → a ≡ b
is_same_from a b on =
    let one = and_parts (a.step == b.step) _ on in
    let two = and_parts (a.channel == b.channel) _ one.1 in
    ap (λ (s : ℕ). let e : EventId = record { step = s; channel = a.channel; go = a.go } in e) (eqb-true a.step b.step one.0)
    ∙ (ap (λ (c : ℕ). let e : EventId = record { step = b.step; channel = c; go = a.go } in e) (eqb-true a.channel b.channel two.0)
    ∙ ap (λ (g : Bool). let e : EventId = record { step = b.step; channel = b.channel; go = g } in e) (same_go a.go b.go two.1))

twice_not : (b : Bool) → not (not b) ≡ b
twice_not true = refl
twice_not false = refl

or_last : (a b : Bool) → b ≡ true → (a || b) ≡ true
or_last true b on = refl
or_last false b on = on

never : {A : Type 0} (b : Bool) → b ≡ true → b ≡ false → A
never true on off = absurd cc
never false on off = absurd cc

module _ (b : Board) (moves : List Move) (before : Order) (order : IsOrderOf b moves before) where
  abbrev upto : EventId → EventId → Bool
  upto e f = is_same_event e f || before e f

  upto_trans : (d e f : EventId) → IsLowestName b moves d → IsLowestName b moves e → IsLowestName b moves f → upto d e ≡ true → upto e f ≡ true → upto d f ≡ true
  upto_trans d e f low_d low_e low_f one two = by_first (is_same_event d e) refl one
    where
      by_first : (s : Bool) → is_same_event d e ≡ s → (s || before d e) ≡ true → upto d f ≡ true
      by_first true is on = subst (λ (x : EventId). upto x f ≡ true) (sym (is_same_from d e is)) two
      by_first false is on = by_second (is_same_event e f) refl two
        where
          by_second : (s : Bool) → is_same_event e f ≡ s → (s || before e f) ≡ true → upto d f ≡ true
          by_second true is' on' = subst (λ (x : EventId). upto d x ≡ true) (is_same_from e f is') one
          by_second false is' on' =
              or_last (is_same_event d f) (before d f) ((order d f low_d low_f).1 (joined (Follows b moves) d e f ((order d e low_d low_e).0 on) ((order e f low_e low_f).0 on')))

  abbrev Low : Option EventId → Type 0
  Low e = IfSome e (IsLowestName b moves)

  ends_trans : (d e e' f : Option EventId) → Low d → Low e → Low e' → Low f
      → not (is_open_at before d e) ≡ true → is_in_order before e e' ≡ true → not (is_open_at before e' f) ≡ true → not (is_open_at before d f) ≡ true
  ends_trans None e e' f ld le le' lf one two three = absurd cc
  ends_trans (Some d) None e' f ld le le' lf one two three = absurd cc
  ends_trans (Some d) (Some e) None f ld le le' lf one two three = absurd cc
  ends_trans (Some d) (Some e) (Some e') None ld le le' lf one two three = absurd cc
  ends_trans (Some d) (Some e) (Some e') (Some f) ld le le' lf one two three =
      twice_not (upto d f)
      ∙ upto_trans d e' f ld le' lf (upto_trans d e e' ld le le' (sym (twice_not (upto d e)) ∙ one) two) (sym (twice_not (upto e' f)) ∙ three)

  over_trans : (x y z : StretchView) → HasLowNames b moves x → HasLowNames b moves y → HasLowNames b moves z
      → is_over before x y ≡ true → is_forward before y ≡ true → is_over before y z ≡ true → is_over before x z ≡ true
  over_trans x y z low_x low_y low_z one two three = ends_trans x.last y.first y.last z.first low_x.last low_y.first low_y.last low_z.first one two three

  -- ---- stretches that ascend

  pub record IsLater (x y : StretchView) : Type 0 where
    pub low : HasLowNames b moves y
    pub over : is_over before x y ≡ true
    pub forward : is_forward before y ≡ true

  -- each is over as any later one begins
  all_later : (x : StretchView) (xs : List StretchView) → HasLowNames b moves x → All (HasLowNames b moves) xs → is_chain before (x ∷ xs) ≡ true → All (IsLater x) xs
  all_later x [] low lows ascend = All-nil (IsLater x)
  all_later x (y ∷ ys) low lows ascend =
      let parts = and_parts (is_forward before x) _ ascend in
      let rest = and_parts (is_over before x y) _ parts.1 in
      let own = and_parts (is_forward before y) _ rest.1 in
      let low_y : HasLowNames b moves y = All-head (HasLowNames b moves) y ys lows in
      All-cons (IsLater x) y ys (record { low = low_y; over = rest.0; forward = own.0 })
      (All-weaker (IsLater y) (IsLater x) (λ z later. record { low = later.low; over = over_trans x y z low low_y later.low rest.0 own.0 later.over; forward = later.forward }) ys
      (all_later y ys low_y (All-tail (HasLowNames b moves) y ys lows) rest.1))

  ended_first : (own : StretchView) (xs : List StretchView) → HasLowNames b moves own → All (HasLowNames b moves) xs → is_chain before xs ≡ true → PassFirst (passes before true own) xs
  ended_first own [] low lows ascend = tt
  ended_first own (x ∷ xs) low lows ascend =
      let low_x : HasLowNames b moves x = All-head (HasLowNames b moves) x xs lows in
      let parts = and_parts (is_forward before x) _ ascend in
      let rest = and_parts (is_over_at_first before x xs) _ parts.1 in (
        λ still. All-weaker (IsLater x) (λ y. is_over before y own ≡ false) (λ y later. still_open x y low_x still later (is_over before y own) refl) xs
            (all_later x xs low_x (All-tail (HasLowNames b moves) x xs lows) ascend),
        ended_first own xs low (All-tail (HasLowNames b moves) x xs lows) rest.1,
      )
    where
      still_open : (x y : StretchView) → HasLowNames b moves x → is_over before x own ≡ false → IsLater x y → (o : Bool) → is_over before y own ≡ o → o ≡ false
      still_open x y low_x still later true is = never (is_over before x own) (over_trans x y own low_x later.low low later.over later.forward is) still
      still_open x y low_x still later false is = refl

  begun_first : (own : StretchView) (xs : List StretchView) → HasLowNames b moves own → All (HasLowNames b moves) xs → is_chain before xs ≡ true → PassFirst (passes before false own) xs
  begun_first own [] low lows ascend = tt
  begun_first own (x ∷ xs) low lows ascend =
      let low_x : HasLowNames b moves x = All-head (HasLowNames b moves) x xs lows in
      let parts = and_parts (is_forward before x) _ ascend in
      let rest = and_parts (is_over_at_first before x xs) _ parts.1 in (
        λ over. All-weaker (IsLater x) (λ y. not (is_over before own y) ≡ false)
            (λ y later. ap (λ (o : Bool). not o) (over_trans own x y low low_x later.low (sym (twice_not (is_over before own x)) ∙ ap (λ (o : Bool). not o) over) parts.0 later.over)) xs
            (all_later x xs low_x (All-tail (HasLowNames b moves) x xs lows) ascend),
        begun_first own xs low (All-tail (HasLowNames b moves) x xs lows) rest.1,
      )

  pub pass_first : (own : StretchView) (xs : List StretchView) → HasLowNames b moves own → All (HasLowNames b moves) xs → is_chain before xs ≡ true → (ended : Bool) → PassFirst (passes before ended own) xs
  pass_first own xs low lows ascend true = ended_first own xs low lows ascend
  pass_first own xs low lows ascend false = begun_first own xs low lows ascend

  -- ---- stretches of two zones, of which those of the first ascend

  -- what passes at a stretch passes at a later one
  passes_on : (x y z : StretchView) → HasLowNames b moves x → is_forward before x ≡ true → IsLater x y → HasLowNames b moves z → (ended : Bool)
      → passes before ended x z ≡ true → passes before ended y z ≡ true
  passes_on x y z low_x forward later low_z true on = over_trans z x y low_z low_x later.low on forward later.over
  passes_on x y z low_x forward later low_z false on = by_over (is_over before y z) refl
    where
      by_over : (o : Bool) → is_over before y z ≡ o → not o ≡ true
      by_over true is = never (is_over before x z) (over_trans x y z low_x later.low low_z later.over later.forward is) (sym (twice_not (is_over before x z)) ∙ ap (λ (o : Bool). not o) on)
      by_over false is = refl

  later_at : (xs : List StretchView) (i j : ℕ) (d : StretchView) → All (HasLowNames b moves) xs → is_chain before xs ≡ true → i < j → j < length xs
      → (is_forward before (get_or xs i d) ≡ true) × IsLater (get_or xs i d) (get_or xs j d)
  later_at [] i j d lows ascend less within = absurd (omega arith)
  later_at (x ∷ xs) i zero d lows ascend less within = absurd (omega arith)
  later_at (x ∷ xs) zero (suc j) d lows ascend less within =
      let parts = and_parts (is_forward before x) _ ascend in (
        parts.0,
        All-get_or (IsLater x) xs j d (omega arith) (all_later x xs (All-head (HasLowNames b moves) x xs lows) (All-tail (HasLowNames b moves) x xs lows) ascend),
      )
  later_at (x ∷ xs) (suc i) (suc j) d lows ascend less within =
      let parts = and_parts (is_forward before x) _ ascend in
      let rest = and_parts (is_over_at_first before x xs) _ parts.1 in
      later_at xs i j d (All-tail (HasLowNames b moves) x xs lows) rest.1 (omega arith) (omega arith)

  -- no fewer pass at a later one
  pub leading_grows : (own others : List StretchView) (i j : ℕ) (d : StretchView) → All (HasLowNames b moves) own → All (HasLowNames b moves) others → is_chain before own ≡ true → i < j → j < length own
      → (ended : Bool) → leading (passes before ended (get_or own i d)) others ≤ leading (passes before ended (get_or own j d)) others
  leading_grows own others i j d lows low_others ascend less within ended =
      let at = later_at own i j d lows ascend less within in
      leading_more (passes before ended (get_or own i d)) (passes before ended (get_or own j d)) others
      (All-weaker (HasLowNames b moves) (λ z. passes before ended (get_or own i d) z ≡ true → passes before ended (get_or own j d) z ≡ true)
      (λ z low. passes_on (get_or own i d) (get_or own j d) z (All-get_or (HasLowNames b moves) own i d (omega arith) lows) at.0 at.1 low ended) others low_others)

-- the stretches of the second zone, at one of the first
pub passing_at : (before : Order) (own others : List StretchView) (place : ℕ) (d : StretchView) → IsTimed before (own ∷ (others ∷ [])) → is_chain before others ≡ true → place < length own
    → (ended : Bool) → PassFirst (passes before ended (get_or own place d)) others
passing_at before own others place d timed ascend within ended =
    let later : All (All (HasLowNames timed.board timed.moves)) (others ∷ []) = All-tail (All (HasLowNames timed.board timed.moves)) own (others ∷ []) timed.names in
    pass_first timed.board timed.moves before timed.order (get_or own place d) others
    (All-get_or (HasLowNames timed.board timed.moves) own place d within (All-head (All (HasLowNames timed.board timed.moves)) own (others ∷ []) timed.names))
    (All-head (All (HasLowNames timed.board timed.moves)) others [] later) ascend ended
