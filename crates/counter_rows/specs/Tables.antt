-- Steps. The rows of the events of steps, as a contract sees them.
use Rattle.std.specs.Prelude.{ℕ, ◌+◌, ◌<◌, Bool, List, [], length, nat_lt, slice_index, slice_index_or, if◌then◌else◌}
use Rattle.counter_rows.specs.declared.table.StepPlaces.{StepPlaces}

-- all rows, and where those of each step stand
pub record TableView : Type 0 where
  pub rows : List (List ℕ)
  pub steps : List StepPlaces

abbrev pub no_places : StepPlaces
no_places = record { first = 0; goes = [] }

-- where the row of a channel that goes on in the step stands
abbrev pub place_in : StepPlaces → ℕ → ℕ
place_in places c = places.first + slice_index places.goes c

-- the row of the act of a step, and of a channel that goes on in it
abbrev pub act_in : TableView → ℕ → List ℕ
act_in t i = slice_index_or t.rows (slice_index_or t.steps i no_places).first []

abbrev pub go_in : TableView → ℕ → ℕ → List ℕ
go_in t i c = slice_index_or t.rows (place_in (slice_index_or t.steps i no_places) c) []

-- that of either; no counters past the last step
abbrev pub row_at : TableView → ℕ → ℕ → Bool → List ℕ
row_at t i c go = if nat_lt i (length t.steps) then (if go then go_in t i c else act_in t i) else []

-- each step has its rows
abbrev pub IsWhole : TableView → Type 0
IsWhole t = (i c : ℕ) → i < length t.steps → place_in (slice_index_or t.steps i no_places) c < length t.rows
