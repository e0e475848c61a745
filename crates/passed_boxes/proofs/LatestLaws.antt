-- The latest boxes that passed a test, and the row in which they are kept.
use Rattle.std.proofs.Common.{◌≡◌, ◌∙◌, ℕ, suc, ◌+◌, ◌-◌, ◌%◌, ◌<◌, ◌≤◌, ◌⊎◌, inl, inr, Bool, true, Option, List, [], ◌∷◌, ◌++◌, length, length-append, drop, take, set, get_or, All, append-nil, append_assoc, take-append-drop, take_all, drop-cons, drop-set-lt, mod-eq_of_lt, refl, sym, ap, subst, arith}
use Rattle.std.proofs.lemmas.Bool.{cases_lt}
use Rattle.std.proofs.lemmas.List.{drop_all, get_or_default}
use Rattle.std.proofs.lemmas.Nat.{mod_below}
use Rattle.std.proofs.lemmas.List.Elements.{All-nil, All-cons, All-head, All-tail, All-append, All-drop, All-push}
use lib.Seq.{take-suc-set}
use Rattle.passed_boxes.specs.Latest.{from_place, latest}
use Rattle.passed_boxes.specs.declared.passed.PassedBox.{PassedBox}
use Rattle.passed_boxes.specs.declared.passed.TheConstants.{PASSED_LIMIT}
use Rattle.path_geometry.specs.declared.motion.Motion.{Motion}
use Rattle.swept_boxes.specs.declared.Box3.{Box3}

module _ (P : PassedBox → Type 0) where
  all_left : (xs ys : List PassedBox) → All P (xs ++ ys) → All P xs
  all_left [] ys all = All-nil P
  all_left (x ∷ xs) ys all = All-cons P x xs (All-head P x (xs ++ ys) all) (all_left xs ys (All-tail P x (xs ++ ys) all))

  all_right : (xs ys : List PassedBox) → All P (xs ++ ys) → All P ys
  all_right [] ys all = all
  all_right (x ∷ xs) ys all = all_right xs ys (All-tail P x (xs ++ ys) all)

  -- what holds of all from a place on and of those before it holds of all, and the other way round
  pub all_in_row : (place : ℕ) (boxes : List PassedBox) → All P (from_place place boxes) → All P boxes
  all_in_row place boxes all =
      subst (All P) (take-append-drop place boxes)
      (All-append P (take place boxes) (drop place boxes) (all_right (drop place boxes) (take place boxes) all) (all_left (drop place boxes) (take place boxes) all))

  pub all_from_place : (place : ℕ) (boxes : List PassedBox) → All P boxes → All P (from_place place boxes)
  all_from_place place boxes all =
      let both : All P (take place boxes ++ drop place boxes) = subst (All P) (sym (take-append-drop place boxes)) all in
      All-append P (drop place boxes) (take place boxes) (all_right (take place boxes) (drop place boxes) both) (all_left (take place boxes) (drop place boxes) both)

  pub all_latest : (boxes : List PassedBox) (x : PassedBox) → All P boxes → P x → All P (latest (boxes ++ x ∷ []))
  all_latest boxes x all here = All-drop P (length (boxes ++ x ∷ []) - PASSED_LIMIT) (boxes ++ x ∷ []) (All-push P boxes x all here)

-- ---- one more box

latest_few : (boxes : List PassedBox) → length boxes ≤ PASSED_LIMIT → latest boxes ≡ boxes
latest_few boxes few = let none : length boxes - PASSED_LIMIT ≡ 0 = omega (arith, few) in ap (λ (n : ℕ). drop n boxes) none

-- where there is room it comes last
pub keep_more : (boxes : List PassedBox) (next : ℕ) (x : PassedBox) → next ≡ 0 → length boxes < PASSED_LIMIT → from_place next (boxes ++ x ∷ []) ≡ latest (from_place next boxes ++ x ∷ [])
keep_more boxes next x none few =
    rw none
    (append-nil (boxes ++ x ∷ [])
    ∙ sym (ap (λ (ys : List PassedBox). latest (ys ++ x ∷ [])) (append-nil boxes) ∙ latest_few (boxes ++ x ∷ []) (let long = length-append boxes (x ∷ []) in omega (arith, long, few))))

length_row : (place : ℕ) (boxes : List PassedBox) → length (from_place place boxes) ≡ length boxes
length_row place boxes =
    let one = length-append (drop place boxes) (take place boxes) in
    let other = length-append (take place boxes) (drop place boxes) in
    let whole = ap (λ (ys : List PassedBox). length ys) (take-append-drop place boxes) in
    omega (arith, one, other, whole)

-- where there is none it stands in the place of the earliest, and is the latest
pub keep_next : (boxes : List PassedBox) (place : ℕ) (x : PassedBox) → length boxes ≡ PASSED_LIMIT → place < length boxes
    → from_place (place + 1) (set boxes place x) ≡ latest (from_place place boxes ++ x ∷ [])
keep_next boxes place x full within =
    let next : place + 1 ≡ suc place = omega arith in
    ap (λ (n : ℕ). from_place n (set boxes place x)) next
    ∙ ap (λ (ys : List PassedBox). ys ++ take (suc place) (set boxes place x)) (drop-set-lt (suc place) boxes place x (omega arith))
    ∙ ap (λ (ys : List PassedBox). drop (suc place) boxes ++ ys) (take-suc-set boxes place x within)
    ∙ sym (append_assoc (drop (suc place) boxes) (take place boxes) (x ∷ []))
    ∙ sym (ap (λ (n : ℕ). drop n (from_place place boxes ++ x ∷ [])) over ∙ ap (λ (ys : List PassedBox). drop 1 ((ys ++ take place boxes) ++ x ∷ [])) (drop-cons boxes place x within))
  where
    over : length (from_place place boxes ++ x ∷ []) - PASSED_LIMIT ≡ 1
    over = let long = length-append (from_place place boxes) (x ∷ []) in let row = length_row place boxes in omega (arith, long, row, full)

-- past the last place stands the first
pub row_again : (boxes : List PassedBox) (next : ℕ) → length boxes ≡ PASSED_LIMIT → next ≤ length boxes → from_place next boxes ≡ from_place (next % length boxes) boxes
row_again boxes next full within = by_order (cases_lt next (length boxes))
  where
    by_order : (next < length boxes) ⊎ (length boxes ≤ next) → from_place next boxes ≡ from_place (next % length boxes) boxes
    by_order (inl less) = ap (λ (n : ℕ). from_place n boxes) (sym (mod-eq_of_lt less))
    by_order (inr past) =
        let last : next ≡ PASSED_LIMIT = omega (arith, past, within, full) in
        let first : next % length boxes ≡ 0 = rw (last, full) refl in
        ap (λ (ys : List PassedBox). ys ++ take next boxes) (drop_all next boxes past) ∙ take_all next boxes past ∙ sym (ap (λ (n : ℕ). from_place n boxes) first ∙ append-nil boxes)

-- ---- what is kept after one more box

-- the box is one of this cover and this motion
pub is_box : (x : PassedBox) (cover : Box3) (motion : Option Motion) → x.cover ≡ cover → x.motion ≡ motion → x ≡ record { cover = cover; motion = motion }
is_box x cover motion p q i = record { cover = p i; motion = q i }

pub with_box : (old new : List PassedBox) (cover : Box3) (motion : Option Motion) (x : PassedBox) → x.cover ≡ cover → x.motion ≡ motion → new ≡ latest (old ++ x ∷ [])
    → new ≡ latest (old ++ record { cover = cover; motion = motion } ∷ [])
with_box old new cover motion x p q is = is ∙ ap (λ (box : PassedBox). latest (old ++ box ∷ [])) (is_box x cover motion p q)

-- what passes a test still does
pub all_kept : (test : Box3 → Option Motion → Bool) (old new : List PassedBox) (cover : Box3) (motion : Option Motion) (x : PassedBox) → x.cover ≡ cover → x.motion ≡ motion
    → (new ≡ old) ⊎ (new ≡ latest (old ++ x ∷ [])) → All (λ (kept : PassedBox). test kept.cover kept.motion ≡ true) old → test cover motion ≡ true
    → All (λ (kept : PassedBox). test kept.cover kept.motion ≡ true) new
all_kept test old new cover motion x p q (inl same) all here = subst (All (λ (kept : PassedBox). test kept.cover kept.motion ≡ true)) (sym same) all
all_kept test old new cover motion x p q (inr is) all here =
    let P : PassedBox → Type 0 = λ kept. test kept.cover kept.motion ≡ true in
    subst (All P) (sym is) (all_latest P old x all (subst P (sym (is_box x cover motion p q)) here))

-- the row after one more box, where there is room and where there is none
pub kept_latest : (boxes : List PassedBox) (next count : ℕ) (x : PassedBox) (old : List PassedBox) → from_place next boxes ≡ old
    → (length boxes ≤ PASSED_LIMIT) × (next ≤ length boxes) × (length boxes < PASSED_LIMIT → next ≡ 0)
    → (len : ℕ) → len ≡ length boxes → PASSED_LIMIT ≤ len → count ≡ length boxes
    → from_place (next % count + 1) (set boxes (next % count) x) ≡ latest (old ++ x ∷ [])
kept_latest boxes next count x old view row len long full same =
    let few = row.0 in
    let all : length boxes ≡ PASSED_LIMIT = omega (arith, few, long, full) in
    let some : 0 < length boxes = omega (arith, all) in
    rw same
    (keep_next boxes (next % length boxes) x all (mod_below next (length boxes) some)
    ∙ ap (λ (ys : List PassedBox). latest (ys ++ x ∷ [])) (sym (row_again boxes next all row.1) ∙ view))

pub kept_more : (boxes : List PassedBox) (next : ℕ) (x : PassedBox) (old : List PassedBox) → from_place next boxes ≡ old
    → (length boxes ≤ PASSED_LIMIT) × (next ≤ length boxes) × (length boxes < PASSED_LIMIT → next ≡ 0)
    → (len : ℕ) → len ≡ length boxes → len < PASSED_LIMIT → from_place next (boxes ++ x ∷ []) ≡ latest (old ++ x ∷ [])
kept_more boxes next x old view row len long few =
    let less : length boxes < PASSED_LIMIT = omega (arith, long, few) in
    keep_more boxes next x (row.2 less) less ∙ ap (λ (ys : List PassedBox). latest (ys ++ x ∷ [])) view

-- ---- a box that is kept

-- an equal box of an equal motion passes what all that are kept pass
pub test_passes : (test : Box3 → Option Motion → Bool) (boxes now : List PassedBox) (next k : ℕ) (x : PassedBox) (cover : Box3) (motion : Option Motion) → from_place next boxes ≡ now → k < length boxes → x ≡ get_or boxes k x
    → x.cover ≡ cover → x.motion ≡ motion → All (λ (kept : PassedBox). test kept.cover kept.motion ≡ true) now → test cover motion ≡ true
test_passes test boxes now next k x cover motion view within is p q all =
    let P : PassedBox → Type 0 = λ kept. test kept.cover kept.motion ≡ true in
    let each : All P boxes = all_in_row P next boxes (subst (All P) (sym view) all) in
    subst P (is_box x cover motion p q) (subst P (sym is) (each k x within))

-- one more that is none
pub none_more : (boxes : List PassedBox) (k : ℕ) (x : PassedBox) (cover : Box3) (motion : Option Motion) → k < length boxes → x ≡ get_or boxes k x → (x.cover ≡ cover → x.motion ≡ motion → ⊥)
    → ((j : ℕ) (d : PassedBox) → j < k → (get_or boxes j d).cover ≡ cover → (get_or boxes j d).motion ≡ motion → ⊥)
    → (j : ℕ) (d : PassedBox) → j < k + 1 → (get_or boxes j d).cover ≡ cover → (get_or boxes j d).motion ≡ motion → ⊥
none_more boxes k x cover motion within is other none j d below p q = by_order (cases_lt j k)
  where
    by_order : (j < k) ⊎ (k ≤ j) → ⊥
    by_order (inl less) = none j d less p q
    by_order (inr most) =
        let same : j ≡ k = omega (arith, most, below) in
        let at : get_or boxes j d ≡ x = ap (λ (n : ℕ). get_or boxes n d) same ∙ get_or_default boxes k d x within ∙ sym is in
        other (ap (λ (box : PassedBox). box.cover) (sym at) ∙ p) (ap (λ (box : PassedBox). box.motion) (sym at) ∙ q)

pub in_view : (P : PassedBox → Type 0) (boxes now : List PassedBox) (next : ℕ) → from_place next boxes ≡ now → All P boxes → All P now
in_view P boxes now next view all = subst (All P) view (all_from_place P next boxes all)
