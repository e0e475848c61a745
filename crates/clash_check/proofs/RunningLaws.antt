-- Boxes and channels of stretches, counted as places go on.
use Rattle.std.proofs.Common.{◌≡◌, ◌∙◌, nat_lt, ℕ, zero, suc, ◌+◌, ◌-◌, ◌*◌, ◌^◌, ◌<◌, ◌≤◌, ◌==◌, ◌&&◌, not, Bool, true, false, cond, min, List, [], ◌∷◌, take, length, get_or, Option, None, Some, All, refl, sym, ap, arith}
use Rattle.std.specs.Prelude.{if◌then◌else◌, slice_index}
use Rattle.std.specs.List.{sum_by}
use Rattle.std.proofs.lemmas.Bool.{eqb-true, ltb-true, ltb-false}
use Rattle.std.proofs.lemmas.List.{get_or_default}
use Rattle.std.proofs.lemmas.List.Elements.{All-head, All-tail}
use Rattle.std.proofs.lemmas.List.Sums.{sum_by-cons, sum_by_more}
use Rattle.axis_sets.specs.declared.limits.TheConstants.{CHANNEL_PLACES}
use Rattle.clash_check.proofs.NearLaws.{sum_skips}
use Rattle.clash_check.specs.PairCounts.{count_against, count_in_stretches, count_in_boxes, count_sharing}
use Rattle.clash_check.specs.Running.{boxes_in, IsSum, has_boxes_of, IsLatest}
use Rattle.zone_stretches.proofs.NearLaws.{apart_early, apart_late}
use Rattle.zone_stretches.specs.Ascents.{leading, PassFirst, passes}
use Rattle.zone_stretches.specs.Overlaps.{Order, is_open_at, may_overlap, share_channel}
use Rattle.zone_stretches.specs.Stretches.{StretchView}

-- ---- sums

pub one_more : (others : List StretchView) (place : ℕ) (d : StretchView) (boxes next : ℕ) → place < length others → next ≡ min (boxes + length (get_or others place d).boxes) (2 ^ 64 - 1)
    → IsSum others place boxes → IsSum others (place + 1) next
one_more others place d boxes next within next_is so_far =
    let more = sum_by_more (λ (s : StretchView). length s.boxes) others place d within in omega (arith, next_is, so_far, more)

-- ---- the latest stretches of channels

pub marked_more : (others : List StretchView) (at : ℕ) (stretch : StretchView) (places next : List ℕ) → at < length others → stretch ≡ get_or others at stretch
    → ((channel : ℕ) → channel < CHANNEL_PLACES → slice_index next channel ≡ (if has_boxes_of channel stretch then at + 1 else slice_index places channel))
    → IsLatest others at places → IsLatest others (at + 1) next
marked_more others at stretch places next there is marks latest channel k d low before within has = by_has (has_boxes_of channel stretch) refl (marks channel low) (λ less. latest channel k d low less within has)
  where
    by_has : (b : Bool) → has_boxes_of channel stretch ≡ b → slice_index next channel ≡ cond b (at + 1) (slice_index places channel) → (k < at → k < slice_index places channel) → k < slice_index next channel
    by_has true is_b marked old = omega (arith, marked, before)
    by_has false is_b marked old = by_place (nat_lt k at) refl
      where
        by_place : (b : Bool) → nat_lt k at ≡ b → k < slice_index next channel
        by_place true e = let less : k < at = ltb-true k at e in let was = old less in omega (arith, marked, was)
        by_place false e =
            let more : at ≤ k = ltb-false k at e in
            let same : k ≡ at = omega (arith, more, before) in
            let one : get_or others k d ≡ stretch = ap (λ (n : ℕ). get_or others n d) same ∙ get_or_default others at d stretch there ∙ sym is in
            absurd (let both : true ≡ false = sym has ∙ ap (has_boxes_of channel) one ∙ is_b in cc)

-- ---- a stretch with those in its range

-- a stretch of the channel of another, with boxes
abbrev is_shared : StretchView → StretchView → Bool
is_shared left right = not (length right.boxes == 0) && share_channel left.name.channel right.name.channel

pub alone : (left : StretchView) (others : List StretchView) (from upto : ℕ) (places : List ℕ) (d : StretchView) → IsLatest others upto places
    → ((channel : ℕ) → left.name.channel ≡ Some channel → (channel < CHANNEL_PLACES) × (slice_index places channel ≤ from))
    → (k : ℕ) → from ≤ k → k < upto → k < length others → is_shared left (get_or others k d) ≡ false
alone left others from upto places d latest kept k start end within = by_channel left.name.channel kept
  where
    by_and : (b : Bool) → (b && false) ≡ false
    by_and true = refl
    by_and false = refl

    by_channel : (o : Option ℕ) → ((channel : ℕ) → o ≡ Some channel → (channel < CHANNEL_PLACES) × (slice_index places channel ≤ from))
        → (not (length (get_or others k d).boxes == 0) && share_channel o (get_or others k d).name.channel) ≡ false
    by_channel None kept = by_and (not (length (get_or others k d).boxes == 0))
    by_channel (Some channel) kept = by_has (has_boxes_of channel (get_or others k d)) refl
      where
        by_has : (b : Bool) → has_boxes_of channel (get_or others k d) ≡ b → b ≡ false
        by_has false is = refl
        by_has true is =
            let own = kept channel refl in let past = own.1 in
            let less : k < slice_index places channel = latest channel k d own.0 end within is in absurd (omega (arith, less, past, start))

mul-add : (a b c : ℕ) → a * b + a * c ≡ a * (b + c)
mul-add zero b c = omega arith
mul-add (suc a) b c = let rest = mul-add a b c in omega (arith, rest)

module _ (before : Order) (left d : StretchView) where
  abbrev early : StretchView → Bool
  early = passes before true left

  abbrev late : StretchView → Bool
  late = passes before false left

  counts_all : (x : StretchView) → early x ≡ false → late x ≡ true → is_shared left x ≡ false → count_in_stretches before left x ≡ length left.boxes * length x.boxes
  unfolding count_in_stretches count_in_boxes may_overlap
  counts_all x is_e is_l apart = by_tests (is_open_at before left.last x.first) (is_open_at before x.last left.first) is_e is_l (length x.boxes == 0) refl (share_channel left.name.channel x.name.channel) apart
    where
      by_tests : (o p : Bool) → not p ≡ false → not (not o) ≡ true → (e : Bool) → (length x.boxes == 0) ≡ e → (s : Bool) → (not e && s) ≡ false
          → cond e 0 (cond (o && p) (cond s (count_sharing left.boxes x.boxes) (length left.boxes * length x.boxes)) 0) ≡ length left.boxes * length x.boxes
      by_tests true true is_e is_l true empty s apart = let none : length x.boxes ≡ 0 = eqb-true (length x.boxes) 0 empty in rw none (omega arith)
      by_tests true true is_e is_l false some false apart = refl
      by_tests true true is_e is_l false some true apart = absurd cc
      by_tests true false is_e is_l e is s apart = absurd cc
      by_tests false p is_e is_l e is s apart = absurd cc

  no_leading : (xs : List StretchView) → All (λ y. early y ≡ false) xs → leading early xs ≡ 0
  no_leading [] all = refl
  no_leading (x ∷ xs) all = let first : early x ≡ false = All-head (λ y. early y ≡ false) x xs all in rw first refl

  none_late : (xs : List StretchView) → All (λ y. late y ≡ false) xs → sum_by (count_in_stretches before left) xs ≡ 0
  none_late [] all = refl
  none_late (x ∷ xs) all =
      sum_skips before left x xs (apart_late before left x (All-head (λ y. late y ≡ false) x xs all)) ∙ none_late xs (All-tail (λ y. late y ≡ false) x xs all)

  abbrev by_sums_is : List StretchView → Type 0
  by_sums_is xs = sum_by (count_in_stretches before left) xs ≡ length left.boxes * (boxes_in (take (leading late xs) xs) - boxes_in (take (leading early xs) xs))

  abbrev apart_in : List StretchView → Type 0
  apart_in xs = (k : ℕ) → leading early xs ≤ k → k < leading late xs → k < length xs → is_shared left (get_or xs k d) ≡ false

  by_sums : (xs : List StretchView) → PassFirst early xs → PassFirst late xs → apart_in xs → by_sums_is xs
  by_sums [] first_e first_l apart = omega arith
  by_sums (x ∷ xs) first_e first_l apart = by_tests (early x) (late x) refl refl apart (λ rest. by_sums xs first_e.1 first_l.1 rest)
    where
      found : StretchView → ℕ
      found = count_in_stretches before left

      by_tests : (e l : Bool) → early x ≡ e → late x ≡ l
          → ((k : ℕ) → cond e (suc (leading early xs)) 0 ≤ k → k < cond l (suc (leading late xs)) 0 → k < length (x ∷ xs) → is_shared left (get_or (x ∷ xs) k d) ≡ false) → (apart_in xs → by_sums_is xs)
          → sum_by found (x ∷ xs) ≡ length left.boxes * (boxes_in (take (cond l (suc (leading late xs)) 0) (x ∷ xs)) - boxes_in (take (cond e (suc (leading early xs)) 0) (x ∷ xs)))
      by_tests e false is_e is_l apart rest =
          let none : sum_by found (x ∷ xs) ≡ 0 = sum_skips before left x xs (apart_late before left x is_l) ∙ none_late xs (first_l.0 is_l) in
          let nothing : 0 - boxes_in (take (cond e (suc (leading early xs)) 0) (x ∷ xs)) ≡ 0 = omega arith in
          none ∙ sym (ap (λ (n : ℕ). length left.boxes * n) nothing ∙ by_none)
        where
          by_none : length left.boxes * 0 ≡ 0
          by_none = omega arith
      by_tests true true is_e is_l apart rest =
          let same : boxes_in (take (suc (leading late xs)) (x ∷ xs)) - boxes_in (take (suc (leading early xs)) (x ∷ xs)) ≡ boxes_in (take (leading late xs) xs) - boxes_in (take (leading early xs) xs) =
          (let one = sum_by-cons (λ (s : StretchView). length s.boxes) x (take (leading late xs) xs) in let two = sum_by-cons (λ (s : StretchView). length s.boxes) x (take (leading early xs) xs) in omega (arith, one, two)) in
          sum_skips before left x xs (apart_early before left x is_e) ∙ rest (λ k start end within. apart (suc k) (omega (arith, start)) (omega (arith, end)) (omega (arith, within)))
          ∙ sym (ap (λ (n : ℕ). length left.boxes * n) same)
      by_tests false true is_e is_l apart rest =
          let none : (leading early xs) ≡ 0 = no_leading xs (first_e.0 is_e) in
          let here : found x ≡ length left.boxes * length x.boxes = counts_all x is_e is_l (apart 0 (omega arith) (omega arith) (omega arith)) in
          let later : sum_by found xs ≡ length left.boxes * (boxes_in (take (leading late xs) xs) - boxes_in (take (leading early xs) xs)) =
          rest (λ k start end within. apart (suc k) (omega arith) (omega (arith, end)) (omega (arith, within))) in
          let more : sum_by found xs ≡ length left.boxes * boxes_in (take (leading late xs) xs) = later ∙ ap (λ (n : ℕ). length left.boxes * (boxes_in (take (leading late xs) xs) - boxes_in (take n xs))) none ∙ no_less in
          let all : boxes_in (take (suc (leading late xs)) (x ∷ xs)) - boxes_in (take 0 (x ∷ xs)) ≡ length x.boxes + boxes_in (take (leading late xs) xs) =
          (let one = sum_by-cons (λ (s : StretchView). length s.boxes) x (take (leading late xs) xs) in omega (arith, one)) in
          sum_by-cons found x xs ∙ ap (λ (n : ℕ). n + sum_by found xs) here ∙ ap (λ (n : ℕ). length left.boxes * length x.boxes + n) more
          ∙ sym (ap (λ (n : ℕ). length left.boxes * n) all ∙ sym (mul-add (length left.boxes) (length x.boxes) (boxes_in (take (leading late xs) xs))))
        where
          no_less : length left.boxes * (boxes_in (take (leading late xs) xs) - boxes_in (take 0 xs)) ≡ length left.boxes * boxes_in (take (leading late xs) xs)
          no_less = let same : boxes_in (take (leading late xs) xs) - boxes_in (take 0 xs) ≡ boxes_in (take (leading late xs) xs) = omega arith in ap (λ (n : ℕ). length left.boxes * n) same

-- so many pairs has a stretch with those of another zone, by the boxes before its range and up to its end
pub count_by_sums : (before : Order) (left : StretchView) (others : List StretchView) (from upto boxes_before boxes_upto : ℕ) (d : StretchView) → ((ended : Bool) → PassFirst (passes before ended left) others)
    → from ≡ leading (passes before true left) others → upto ≡ leading (passes before false left) others → IsSum others from boxes_before → IsSum others upto boxes_upto
    → boxes_before < 2 ^ 64 - 1 → boxes_upto < 2 ^ 64 - 1 → ((k : ℕ) → from ≤ k → k < upto → k < length others → is_shared left (get_or others k d) ≡ false)
    → length left.boxes * (boxes_upto - boxes_before) ≡ count_against before others left
unfolding count_against
count_by_sums before left others from upto boxes_before boxes_upto d passing from_is upto_is sum_before sum_upto small_before small_upto apart =
    let exact_before : boxes_before ≡ boxes_in (take from others) = omega (arith, sum_before, small_before) in
    let exact_upto : boxes_upto ≡ boxes_in (take upto others) = omega (arith, sum_upto, small_upto) in
    let sums : sum_by (count_in_stretches before left) others ≡ length left.boxes * (boxes_upto - boxes_before) =
    by_sums before left d others (passing true) (passing false) (λ k start end within. apart k (omega (arith, start, from_is)) (omega (arith, end, upto_is)) within)
    ∙ ap (λ (n : ℕ). length left.boxes * (boxes_in (take n others) - boxes_in (take (leading (passes before true left) others) others))) (sym upto_is)
    ∙ ap (λ (n : ℕ). length left.boxes * (boxes_in (take upto others) - boxes_in (take n others))) (sym from_is)
    ∙ ap (λ (n : ℕ). length left.boxes * (n - boxes_in (take from others))) (sym exact_upto) ∙ ap (λ (n : ℕ). length left.boxes * (boxes_upto - n)) (sym exact_before) in
    by_empty (length left.boxes == 0) refl sums
  where
    by_empty : (e : Bool) → (length left.boxes == 0) ≡ e → sum_by (count_in_stretches before left) others ≡ length left.boxes * (boxes_upto - boxes_before)
        → length left.boxes * (boxes_upto - boxes_before) ≡ cond e 0 (sum_by (count_in_stretches before left) others)
    by_empty true empty sums = let none : length left.boxes ≡ 0 = eqb-true (length left.boxes) 0 empty in rw none (omega arith)
    by_empty false some sums = sym sums
