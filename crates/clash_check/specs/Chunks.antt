-- Steps. What is found in the chunks of a list.
use Rattle.std.specs.Prelude.{◌≡◌, ℕ, ◌+◌, ◌/◌, ◌%◌, ◌<◌, List, length, min, slice_index_or, Option, None}
use Rattle.std.specs.Fork.{slice_chunk}

-- into how many chunks of this size so many are cut
abbrev pub chunk_count : ℕ → ℕ → ℕ
chunk_count count size = count / size + min 1 (count % size)

-- these are the answers in the chunks of this size, one after another
pub record AreOfChunks {X Y : Type 0} (found : List X → Option Y) (size : ℕ) (xs : List X) (answers : List (Option Y)) : Type 0 where
  pub count : length answers ≡ chunk_count (length xs) size
  pub each : (n : ℕ) → n < length answers → slice_index_or answers n None ≡ found (slice_chunk xs size n)
