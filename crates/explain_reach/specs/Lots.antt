-- Meaning. How far the boxes of two lots reach into each other.
use Rattle.std.specs.Prelude.{◌≡◌, ℤ, ◌≤ℤ◌, Bool, true, false, All, Contains, List, [], map, Option, None, Some}
use Rattle.std.specs.Int.{int_max}
use Rattle.std.specs.Int.RustNames.{int_lt}
use Rattle.std.specs.List.{flat_map, list_any}
use Rattle.explain_reach.specs.Reaches.{reach_of}
use Rattle.swept_boxes.specs.Boxes.{DoMeet, boxes_meet}
use Rattle.swept_boxes.specs.declared.Box3.{Box3}

-- a box of the one lot shares a point with one of the other
abbrev pub DoLotsMeet : List Box3 → List Box3 → Type 0
DoLotsMeet lefts rights = (left : Box3) × (right : Box3) × Contains lefts left × Contains rights right × DoMeet left right

-- the same as a test
abbrev pub lots_meet : List Box3 → List Box3 → Bool
lots_meet lefts rights = list_any (λ left. list_any (boxes_meet left) rights) lefts

-- how far each box of the one lot and each of the other reach into each other
abbrev pub reaches : List Box3 → List Box3 → List ℤ
reaches lefts rights = flat_map (λ left. map (reach_of left) rights) lefts

-- the greater of a number and one that may be there
abbrev pub greater : Option ℤ → ℤ → ℤ
greater None number = number
greater (Some before) number = int_max before number

-- the greatest of some numbers; none where there are none
abbrev pub IsGreatest : Option ℤ → List ℤ → Type 0
IsGreatest None numbers = numbers ≡ []
IsGreatest (Some greatest) numbers = Contains numbers greatest × All (λ number. number ≤ℤ greatest) numbers

-- a number is greater than one that may be there
abbrev pub is_over : Option ℤ → ℤ → Bool
is_over None number = true
is_over (Some before) number = int_lt before number

-- the greatest of some numbers, where it is greater than one that may be there; none where none of them is
abbrev pub IsGreatestOver : Option ℤ → Option ℤ → List ℤ → Type 0
IsGreatestOver floor None numbers = All (λ number. is_over floor number ≡ false) numbers
IsGreatestOver floor (Some greatest) numbers = IsGreatest (Some greatest) numbers × (is_over floor greatest ≡ true)
