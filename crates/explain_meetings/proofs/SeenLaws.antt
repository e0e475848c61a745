-- What is seen of pairs, element by element of a list that gives them.
use Rattle.std.proofs.Common.{◌≡◌, ◌∙◌, ℕ, ◌+◌, ◌<◌, ◌≤◌, Bool, true, false, cond, List, [], ◌∷◌, ◌++◌, take, filter, length, get_or, map, refl, sym, ap, subst, append_assoc}
use Rattle.std.specs.List.{flat_map}
use Rattle.std.proofs.lemmas.List.{append-nil, take_all, take_more}
use Rattle.std.proofs.lemmas.List.Concat.{flat_map-append}
use Rattle.job_types.specs.declared.job.ZoneLine.{ZoneLine}
use Rattle.explain_meetings.proofs.AddLaws.{flat_map_same}
use Rattle.explain_meetings.specs.NearSteps.{pair_where, pairs_by, pairs_in_boxes}
use Rattle.zone_stretches.specs.Cases.{place_of}
use Rattle.zone_stretches.specs.Overlaps.{BoxPlace, Pair, are_compared, box_pairs}
use Rattle.zone_stretches.specs.Stretches.{StretchView}
use Rattle.zone_stretches.specs.declared.stretches.ZoneBox.{ZoneBox}

-- of a list whose elements give pairs something is so of the pairs of the first elements; these are left
pub record IsSeen {X : Type 0} (f : X → List Pair) (P : List Pair → Type 0) (left all : List X) : Type 0 where
  pub first : List X
  pub are : first ++ left ≡ all
  pub so_far : P (flat_map f first)

module _ {X : Type 0} (f : X → List Pair) where
  -- of none
  pub seen_start : (P : List Pair → Type 0) (left all : List X) → left ≡ all → P [] → IsSeen f P left all
  seen_start P left all is so_far = record { first = []; are = is; so_far = so_far }

  -- of one element more
  pub seen_next : (P Q : List Pair → Type 0) (left later all : List X) (x : X) → left ≡ x ∷ later → ((pairs : List Pair) → P pairs → Q (pairs ++ f x)) → IsSeen f P left all → IsSeen f Q later all
  seen_next P Q left later all x is step seen = record {
    first = seen.first ++ x ∷ [];
    are = append_assoc seen.first (x ∷ []) later ∙ ap (λ (xs : List X). seen.first ++ xs) (sym is) ∙ seen.are;
    so_far = subst Q (sym (flat_map-append f seen.first (x ∷ []) ∙ ap (λ (ps : List Pair). flat_map f seen.first ++ ps) (append-nil (f x)))) (step (flat_map f seen.first) seen.so_far);
  }

  -- of all
  pub seen_end : (P : List Pair → Type 0) (left all : List X) → left ≡ [] → IsSeen f P left all → P (flat_map f all)
  seen_end P left all none seen = subst (λ (xs : List X). P (flat_map f xs)) (sym (append-nil seen.first) ∙ ap (λ (xs : List X). seen.first ++ xs) (sym none) ∙ seen.are) seen.so_far

module _ {X : Type 0} (f : X → List Pair) (P : List Pair → Type 0) where
  -- the element of a place
  pub seen_at : (xs : List X) (i : ℕ) (d : X) (seen : List Pair) → i < length xs → P ((seen ++ flat_map f (take i xs)) ++ f (get_or xs i d)) → P (seen ++ flat_map f (take (i + 1) xs))
  seen_at xs i d seen within so_far =
      let step : flat_map f (take (i + 1) xs) ≡ flat_map f (take i xs) ++ f (get_or xs i d) =
      ap (flat_map f) (take_more xs i d within) ∙ flat_map-append f (take i xs) (get_or xs i d ∷ [])
      ∙ ap (λ (ps : List Pair). flat_map f (take i xs) ++ ps) (append-nil (f (get_or xs i d))) in
      subst P (append_assoc seen (flat_map f (take i xs)) (f (get_or xs i d)) ∙ ap (λ (ps : List Pair). seen ++ ps) (sym step)) so_far

  -- none yet
  pub seen_none : (seen : List Pair) → P seen → P (seen ++ [])
  seen_none seen so_far = subst P (sym (append-nil seen)) so_far

  -- all of them
  pub seen_all : (xs : List X) (i : ℕ) (seen : List Pair) → length xs ≤ i → P (seen ++ flat_map f (take i xs)) → P (seen ++ flat_map f xs)
  seen_all xs i seen past so_far = subst (λ (ys : List X). P (seen ++ flat_map f ys)) (take_all i xs past) so_far

-- ---- the compared pairs of two stretches

by_is : (left : BoxPlace) (other : ZoneLine) (right : StretchView) (boxes : List ZoneBox)
    → flat_map (pair_where left other right) boxes ≡ map (λ later. (left, place_of other right later)) (filter (are_compared left.stretch right left.box) boxes)
unfolding pair_where
by_is left other right [] = refl
by_is left other right (x ∷ xs) = by_compared (are_compared left.stretch right left.box x) (by_is left other right xs)
  where
    mk : ZoneBox → Pair
    mk later = (left, place_of other right later)

    by_compared : (b : Bool) → flat_map (pair_where left other right) xs ≡ map mk (filter (are_compared left.stretch right left.box) xs) → cond b (mk x ∷ []) [] ++ flat_map (pair_where left other right) xs
        ≡ map mk (cond b (x ∷ filter (are_compared left.stretch right left.box) xs) (filter (are_compared left.stretch right left.box) xs))
    by_compared true rest = ap (λ (ps : List Pair). mk x ∷ ps) rest
    by_compared false rest = rest

pub boxes_are : (zone : ZoneLine) (left : StretchView) (other : ZoneLine) (right : StretchView) → pairs_in_boxes zone left other right ≡ box_pairs zone left other right
boxes_are zone left other right =
    flat_map_same (λ (own : ZoneBox). pairs_by other right (place_of zone left own))
    (λ (own : ZoneBox). map (λ later. (place_of zone left own, place_of other right later)) (filter (are_compared left right own) right.boxes))
    (λ own. by_is (place_of zone left own) other right right.boxes) left.boxes
