-- Rows that are kept for places, and how many boxes these have.
use Rattle.std.proofs.Common.{◌≡◌, ℕ, ◌+◌, ◌<◌, ◌≤◌, List, [], ◌∷◌, ◌++◌, length, get_or, set, Option, None, Some, sym, ap, subst, arith}
use Rattle.std.proofs.lemmas.List.Sums.{sum_by-set, sum_by_push}
use Rattle.box_tree.specs.Rows.{IsRowOf, boxes_of_row, box_count, row_of}
use Rattle.swept_boxes.specs.declared.Box3.{Box3}

-- where nothing is kept, nothing else is
pub none_is_row : (boxes : List Box3) (row : Option (List Box3)) → row ≡ None → IsRowOf boxes row
none_is_row boxes row none = subst (λ (r : Option (List Box3)). IsRowOf boxes r) (sym none) tt

pub some_is_row : (boxes tree : List Box3) (row : Option (List Box3)) → row ≡ Some tree → tree ≡ boxes → IsRowOf boxes row
some_is_row boxes tree row is same = subst (λ (r : Option (List Box3)). IsRowOf boxes r) (sym is) same

-- one place more, with nothing
pub count_push : (rows : List (Option (List Box3))) → box_count (rows ++ None ∷ []) ≡ box_count rows
count_push rows = let more = sum_by_push boxes_of_row rows None in omega (arith, more)

-- a place with nothing gets a row
pub count_keep : (rows : List (Option (List Box3))) (place : ℕ) (row : List Box3) → place < length rows → row_of rows place ≡ None
    → box_count (set rows place (Some row)) ≡ box_count rows + length row
count_keep rows place row within none =
    let both = sum_by-set boxes_of_row rows place (Some row) None within in
    let nothing : boxes_of_row (get_or rows place None) ≡ 0 = ap boxes_of_row none in
    omega (arith, both, nothing)

-- a place gets nothing
pub count_clear : (rows : List (Option (List Box3))) (place : ℕ) → place < length rows → box_count (set rows place None) ≤ box_count rows
count_clear rows place within = let both = sum_by-set boxes_of_row rows place None None within in omega (arith, both)
