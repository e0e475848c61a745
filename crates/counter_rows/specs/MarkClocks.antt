-- Steps. Rows by mark and channel as lists: for each mark the list of the rows of the channels.
use Rattle.std.specs.Prelude.{ℕ, List, [], slice_index_or}

-- the row of a mark and a channel, no counters past the end
abbrev pub row_in : List (List (List ℕ)) → ℕ → ℕ → List ℕ
row_in rows mark channel = slice_index_or (slice_index_or rows mark []) channel []
