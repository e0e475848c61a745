-- The count of compared boxes, part by part, is the number of the compared pairs.
use Rattle.std.proofs.Common.{◌≡◌, ◌∙◌, ℕ, ◌+◌, ◌-◌, ◌*◌, ◌^◌, ◌<◌, ◌≤◌, ◌||◌, not, Bool, true, false, cond, List, [], ◌∷◌, ◌++◌, take, map, filter, length, length-append, get_or, min, refl, sym, ap, arith}
use Rattle.std.specs.List.{count_by, sum_by}
use Rattle.std.proofs.lemmas.List.{length-map, take_all}
use Rattle.std.proofs.lemmas.List.Concat.{length-flat_map}
use Rattle.std.proofs.lemmas.List.Sums.{length-filter, sum_by-cons, sum_by_more}
use Rattle.job_types.specs.declared.job.ZoneLine.{ZoneLine}
use Rattle.explain_meetings.specs.CountSteps.{count_in_boxes, count_sharing}
use Rattle.explain_meetings.specs.Groups.{capped}
use Rattle.zone_stretches.specs.Overlaps.{Pair, are_compared, box_pairs, share_channel, share_place}
use Rattle.zone_stretches.specs.Stretches.{StretchView}
use Rattle.zone_stretches.specs.declared.stretches.ZoneBox.{ZoneBox}

-- ---- what is counted of the first elements of a list

module _ {X : Type 0} (f : X → ℕ) where
  -- the element of a place
  pub counted_at : (xs : List X) (i : ℕ) (d : X) (count one next : ℕ) → i < length xs → one ≡ capped (f (get_or xs i d)) → next ≡ min (count + one) (2 ^ 64 - 1)
      → count ≡ capped (sum_by f (take i xs)) → next ≡ capped (sum_by f (take (i + 1) xs))
  counted_at xs i d count one next within one_is next_is so_far = let more = sum_by_more f xs i d within in omega (arith, more, one_is, next_is, so_far)

  -- all of them
  pub counted_all : (xs : List X) (i count : ℕ) → length xs ≤ i → count ≡ capped (sum_by f (take i xs)) → count ≡ capped (sum_by f xs)
  counted_all xs i count past so_far = so_far ∙ ap (λ (ys : List X). capped (sum_by f ys)) (take_all i xs past)

-- ---- two stretches

sum_by-same : {X : Type 0} (f g : X → ℕ) → ((x : X) → f x ≡ g x) → (xs : List X) → sum_by f xs ≡ sum_by g xs
sum_by-same f g same [] = refl
sum_by-same f g same (x ∷ xs) =
    sum_by-cons f x xs ∙ ap (λ (n : ℕ). n + sum_by f xs) (same x) ∙ ap (λ (n : ℕ). g x + n) (sum_by-same f g same xs) ∙ sym (sum_by-cons g x xs)

sum_by-constant : {X : Type 0} (n : ℕ) (xs : List X) → sum_by (λ x. n) xs ≡ length xs * n
sum_by-constant n [] = omega arith
sum_by-constant {X = X} n (x ∷ xs) = let rest = sum_by-constant n xs in let first = sum_by-cons {X = X} (λ y. n) x xs in omega arith

kept_all : {X : Type 0} (xs : List X) → length (filter (λ x. true) xs) ≡ length xs
kept_all [] = refl
kept_all (x ∷ xs) = let rest = kept_all xs in omega arith

pub count_boxes : (zone : ZoneLine) (left : StretchView) (other : ZoneLine) (right : StretchView) → length (box_pairs zone left other right) ≡ count_in_boxes left right
unfolding count_in_boxes count_sharing
count_boxes zone left other right =
    length-flat_map (λ (own : ZoneBox). map (pair own) (filter (are_compared left right own) right.boxes)) left.boxes
    ∙ sum_by-same (λ (own : ZoneBox). length (map (pair own) (filter (are_compared left right own) right.boxes))) (λ own. length (filter (are_compared left right own) right.boxes))
    (λ own. length-map (filter (are_compared left right own) right.boxes) (pair own)) left.boxes
    ∙ by_channel (share_channel left.name.channel right.name.channel)
  where
    pair : ZoneBox → ZoneBox → Pair
    pair own later = (record { zone = zone; stretch = left; box = own }, record { zone = other; stretch = right; box = later })

    by_channel : (b : Bool) → sum_by (λ (own : ZoneBox). length (filter (λ (later : ZoneBox). not b || share_place own later) right.boxes)) left.boxes
        ≡ cond b (sum_by (λ (own : ZoneBox). count_by (share_place own) right.boxes) left.boxes) (length left.boxes * length right.boxes)
    by_channel true = sum_by-same (λ (own : ZoneBox). length (filter (share_place own) right.boxes)) (λ own. count_by (share_place own) right.boxes)
        (λ own. length-filter (share_place own) right.boxes) left.boxes
    by_channel false =
        sum_by-same (λ (own : ZoneBox). length (filter (λ (later : ZoneBox). true) right.boxes)) (λ own. length right.boxes) (λ own. kept_all right.boxes) left.boxes
        ∙ sum_by-constant (length right.boxes) left.boxes

-- with so many more
pub count_more : (pairs more : List Pair) (count one next : ℕ) → one ≡ capped (length more) → next ≡ min (count + one) (2 ^ 64 - 1) → count ≡ capped (length pairs) → next ≡ capped (length (pairs ++ more))
count_more pairs more count one next one_is next_is so_far = let both = length-append pairs more in omega (arith, both, one_is, next_is, so_far)
