-- Meaning. Of some boxes the first that passes a test, and of two lists of boxes the first two that meet, and the next.
use Rattle.std.specs.Prelude.{◌≡◌, ◌⊎◌, ℕ, ◌<◌, ◌≤◌, Bool, true, false, List, length, slice_index_or}
use Rattle.swept_boxes.specs.Boxes.{boxes_meet}
use Rattle.swept_boxes.specs.declared.Box3.{Box3}

-- ---- of one list

-- of the boxes from a number on the first that passes a test
pub record IsFirstFrom (test : Box3 → Bool) (boxes : List Box3) (from place : ℕ) : Type 0 where
  pub on : from ≤ place
  pub within : place < length boxes
  pub passes : (d : Box3) → test (slice_index_or boxes place d) ≡ true
  pub others : (k : ℕ) (d : Box3) → from ≤ k → k < place → test (slice_index_or boxes k d) ≡ false

-- none passes from a number on up to another
abbrev pub NoneBetween : (Box3 → Bool) → List Box3 → ℕ → ℕ → Type 0
NoneBetween test boxes from upto = (k : ℕ) (d : Box3) → from ≤ k → k < upto → test (slice_index_or boxes k d) ≡ false

-- ---- of two lists

-- a pair of numbers comes before another: by the number on the left, and where that is the same, by the one on the right
abbrev pub ComesBefore : ℕ → ℕ → ℕ → ℕ → Type 0
ComesBefore i j k m = (i < k) ⊎ ((i ≡ k) × (j < m))

-- it comes before it or is the same
abbrev pub ComesFirst : ℕ → ℕ → ℕ → ℕ → Type 0
ComesFirst i j k m = (i < k) ⊎ ((i ≡ k) × (j ≤ m))

-- no box of the one meets a box of the other
abbrev pub NoneMeet : List Box3 → List Box3 → Type 0
NoneMeet left right = (i j : ℕ) (d : Box3) → i < length left → j < length right → boxes_meet (slice_index_or left i d) (slice_index_or right j d) ≡ false

-- the boxes of these numbers meet, and no pair of boxes that meet comes before them: each has a higher number on the left, or the same there and none
-- lower on the right
pub record IsFirstMeeting (left right : List Box3) (i j : ℕ) : Type 0 where
  pub left_number : i < length left
  pub right_number : j < length right
  pub meet : (d : Box3) → boxes_meet (slice_index_or left i d) (slice_index_or right j d) ≡ true
  pub least : (k m : ℕ) (d : Box3) → k < length left → m < length right → boxes_meet (slice_index_or left k d) (slice_index_or right m d) ≡ true → ComesFirst i j k m

-- no two meet that come after a pair of numbers
abbrev pub NoneMeetAfter : List Box3 → List Box3 → ℕ → ℕ → Type 0
NoneMeetAfter left right i j =
    (k m : ℕ) (d : Box3) → k < length left → m < length right → ComesBefore i j k m → boxes_meet (slice_index_or left k d) (slice_index_or right m d) ≡ false

-- the boxes of the numbers i and j meet and come after the pair a and b, and each pair of boxes that meet and come after that pair is theirs or comes after it
pub record IsNextMeeting (left right : List Box3) (a b i j : ℕ) : Type 0 where
  pub left_number : i < length left
  pub right_number : j < length right
  pub after : ComesBefore a b i j
  pub meet : (d : Box3) → boxes_meet (slice_index_or left i d) (slice_index_or right j d) ≡ true
  pub least : (k m : ℕ) (d : Box3) → k < length left → m < length right → ComesBefore a b k m → boxes_meet (slice_index_or left k d) (slice_index_or right m d) ≡ true
      → ComesFirst i j k m

-- ---- from a number on the left on

abbrev pub NoneMeetFrom : List Box3 → List Box3 → ℕ → Type 0
NoneMeetFrom left right from =
    (k m : ℕ) (d e : Box3) → from ≤ k → k < length left → m < length right → boxes_meet (slice_index_or left k d) (slice_index_or right m e) ≡ false

-- the first two that meet of those with this number on the left or a higher one
pub record IsFirstMeetingFrom (left right : List Box3) (from i j : ℕ) : Type 0 where
  pub on : from ≤ i
  pub left_number : i < length left
  pub right_number : j < length right
  pub meet : (d e : Box3) → boxes_meet (slice_index_or left i d) (slice_index_or right j e) ≡ true
  pub least : (k m : ℕ) (d e : Box3) → from ≤ k → k < length left → m < length right → boxes_meet (slice_index_or left k d) (slice_index_or right m e) ≡ true
      → ComesFirst i j k m

-- this is the number of the first box on the left, from a number on, that meets one of the first so many on the right, or the length where none does
pub record IsFirstOfAny (left right : List Box3) (from upto count : ℕ) : Type 0 where
  pub within : upto ≤ length left
  pub on : upto < length left → from ≤ upto
  pub met : upto < length left → (m : ℕ) × (m < length right) × ((d e : Box3) → boxes_meet (slice_index_or left upto d) (slice_index_or right m e) ≡ true)
  pub none : (k m : ℕ) (d e : Box3) → from ≤ k → k < upto → m < count → boxes_meet (slice_index_or left k d) (slice_index_or right m e) ≡ false
