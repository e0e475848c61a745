-- Of two lists of boxes the first on the left that meets one on the right.
use Rattle.std.proofs.Common.{◌≡◌, ◌∙◌, ℕ, ◌+◌, ◌<◌, ◌≤◌, ◌⊎◌, inl, inr, Bool, true, false, List, get_or, length, sym, ap, arith}
use Rattle.box_tree.proofs.HullLaws.{below_or_not}
use Rattle.box_tree.specs.Firsts.{NoneBetween, IsFirstOfAny}
use Rattle.swept_boxes.specs.Boxes.{boxes_meet}
use Rattle.swept_boxes.specs.declared.Box3.{Box3}

-- one more box on the right
pub any_more : (left right : List Box3) (from upto next i : ℕ) (met : Box3) → IsFirstOfAny left right from upto i → i < length right → ((e : Box3) → get_or right i e ≡ met) → next ≤ upto → (next < upto → from ≤ next)
    → (next < upto → (d : Box3) → boxes_meet (get_or left next d) met ≡ true) → NoneBetween (λ box. boxes_meet box met) left from next → IsFirstOfAny left right from next (i + 1)
any_more left right from upto next i met first here met_is low on meets none = record {
  within = (let w = first.within in omega (arith, w, low));
  on = λ less. by_place_on less (below_or_not next upto);
  met = λ less. by_place less (below_or_not next upto);
  none = λ k m d e above below count. by_number k m d e above below count (below_or_not m i);
}
  where
    by_place_on : next < length left → (next < upto) ⊎ (upto ≤ next) → from ≤ next
    by_place_on less (inl before) = on before
    by_place_on less (inr most) = let same : upto ≡ next = omega (arith, low, most) in (let o = first.on (omega (arith, less, same)) in omega (arith, o, same))

    by_place : next < length left → (next < upto) ⊎ (upto ≤ next) → (m : ℕ) × (m < length right) × ((d e : Box3) → boxes_meet (get_or left next d) (get_or right m e) ≡ true)
    by_place less (inl before) = (i, here, λ d e. ap (λ (b : Box3). boxes_meet (get_or left next d) b) (met_is e) ∙ meets before d)
    by_place less (inr most) =
        let same : upto ≡ next = omega (arith, low, most) in
        let found = first.met (omega (arith, less, same)) in
        (found.0, found.1, λ d e. ap (λ (n : ℕ). boxes_meet (get_or left n d) (get_or right found.0 e)) (sym same) ∙ found.2 d e)

    by_number : (k m : ℕ) (d e : Box3) → from ≤ k → k < next → m < i + 1 → (m < i) ⊎ (i ≤ m) → boxes_meet (get_or left k d) (get_or right m e) ≡ false
    by_number k m d e above below count (inl less) = first.none k m d e above (omega (arith, below, low)) less
    by_number k m d e above below count (inr most) =
        let same : m ≡ i = omega (arith, most, count) in
        ap (λ (n : ℕ). boxes_meet (get_or left k d) (get_or right n e)) same ∙ ap (λ (b : Box3). boxes_meet (get_or left k d) b) (met_is e) ∙ none k d above below

clash : (a : Bool) → a ≡ true → a ≡ false → ⊥
clash a on off = cc

-- a box that meets one of some others has a first that it meets
pub some_first : (left boxes right : List Box3) (from i : ℕ) (own : Box3) → IsFirstOfAny left right from i (length right) → i < length left → left ≡ boxes → own ≡ get_or boxes i own
    → NoneBetween (boxes_meet own) right 0 (length right) → ⊥
some_first left boxes right from i own first less same own_is none =
    let found = first.met less in
    let met : boxes_meet own (get_or right found.0 own) ≡ true =
    ap (λ (b : Box3). boxes_meet b (get_or right found.0 own)) (own_is ∙ ap (λ (bs : List Box3). get_or bs i own) (sym same)) ∙ found.2 own own in
    clash (boxes_meet own (get_or right found.0 own)) met (none found.0 own (omega arith) found.1)
