-- Rows of one step more.
use Rattle.std.proofs.Common.{◌≡◌, ℕ, ◌<◌, ◌≤◌, inl, inr, List, [], ◌∷◌, ◌++◌, length, slice_index_or, ◌∙◌, length-append, arith}
use Rattle.std.proofs.lemmas.Bool.{cases_lt}
use Rattle.std.proofs.lemmas.List.{get_or_append_left, get_or_default}
use Rattle.std.proofs.Math.Seq.{get_or-append_seam}
use Rattle.counter_rows.specs.Tables.{TableView, IsWhole, act_in, go_in, no_places, place_in}
use Rattle.counter_rows.specs.declared.table.StepPlaces.{StepPlaces}

-- more rows
pub whole_still : (steps : List StepPlaces) (rows more : List (List ℕ)) → IsWhole (record { rows = rows; steps = steps }) → length rows ≤ length more → IsWhole (record { rows = more; steps = steps })
whole_still steps rows more whole up = λ i c within. let old = whole i c within in omega arith

-- and one step more
pub whole_more : (steps : List StepPlaces) (rows : List (List ℕ)) (places : StepPlaces) → IsWhole (record { rows = rows; steps = steps }) → ((c : ℕ) → place_in places c < length rows)
    → IsWhole (record { rows = rows; steps = steps ++ places ∷ [] })
whole_more steps rows places whole new = λ i c within. elim (cases_lt i (length steps)) [
  | inl early ↦ rw (get_or_append_left steps (places ∷ []) no_places i early) (whole i c early)
  | inr late ↦
      let size = length-append steps (places ∷ []) in
      let here : i ≡ length steps = omega arith in
      rw (here, get_or-append_seam steps places [] no_places) (new c)
]

-- the rows of the earlier steps are kept
pub kept_rows : (steps : List StepPlaces) (rows more : List (List ℕ)) (places : StepPlaces) → IsWhole (record { rows = rows; steps = steps })
    → ((k : ℕ) → k < length rows → slice_index_or more k [] ≡ slice_index_or rows k [])
    → (i c : ℕ) → i < length steps
    → (act_in (record { rows = more; steps = steps ++ places ∷ [] }) i ≡ act_in (record { rows = rows; steps = steps }) i)
    × (go_in (record { rows = more; steps = steps ++ places ∷ [] }) i c ≡ go_in (record { rows = rows; steps = steps }) i c)
kept_rows steps rows more places whole kept i c within =
    let same = get_or_append_left steps (places ∷ []) no_places i within in
    let at = whole i c within in
    (rw same (kept (slice_index_or steps i no_places).first (omega arith)), rw same (kept (place_in (slice_index_or steps i no_places) c) at))

-- the same of a table that is seen so
pub kept_in : (old : TableView) (steps : List StepPlaces) (rows more : List (List ℕ)) (places : StepPlaces) → old ≡ record { rows = rows; steps = steps } → IsWhole (record { rows = rows; steps = steps })
    → ((k : ℕ) → k < length rows → slice_index_or more k [] ≡ slice_index_or rows k [])
    → (i c : ℕ) → i < length old.steps
    → (act_in (record { rows = more; steps = steps ++ places ∷ [] }) i ≡ act_in old i) × (go_in (record { rows = more; steps = steps ++ places ∷ [] }) i c ≡ go_in old i c)
kept_in old steps rows more places is whole kept i c within = rw is (kept_rows steps rows more places whole kept i c (rw is at within))

-- the places of a step are within
pub place_below : (steps : List StepPlaces) (rows : List (List ℕ)) (i c : ℕ) (places : StepPlaces) → IsWhole (record { rows = rows; steps = steps }) → i < length steps
    → places ≡ slice_index_or steps i places → place_in places c < length rows
place_below steps rows i c places whole within is =
    let same : places ≡ slice_index_or steps i no_places = is ∙ get_or_default steps i places no_places within in
    rw same (whole i c within)
