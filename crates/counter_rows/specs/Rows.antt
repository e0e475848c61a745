-- Steps. Rows of counters as lists: for each channel a number.
use Rattle.std.specs.Prelude.{◌≡◌, ℕ, suc, ◌<◌, ◌==◌, ◌&&◌, max, Bool, false, List, [], ◌∷◌, filter, slice_index, slice_index_or, if◌then◌else◌}
use Rattle.std.specs.List.{range_with_len}
use Rattle.axis_sets.specs.Sets.{has}
use Rattle.axis_sets.specs.declared.limits.TheConstants.{CHANNEL_PLACES}

-- the greatest value, 0 where there is none
abbrev pub top : {A : Type 0} → (A → ℕ) → List A → ℕ
top f [] = 0
top f (x ∷ xs) = max (f x) (top f xs)

-- the counter of a channel, 0 past the end
abbrev pub count_of : List ℕ → ℕ → ℕ
count_of row c = slice_index row c

-- those that go with one number
abbrev pub in_group : List Bool → List ℕ → ℕ → ℕ → Bool
in_group goes group number c = has goes c && (slice_index group c == number)

-- the greatest of their own rows, and one more for each of them
abbrev pub joint_top : List (List ℕ) → List Bool → List ℕ → ℕ → ℕ → ℕ
joint_top own goes group number x = top (λ m. count_of (slice_index_or own m []) x) (filter (in_group goes group number) (range_with_len 0 CHANNEL_PLACES))

abbrev pub joint_count : List (List ℕ) → List Bool → List ℕ → ℕ → ℕ → ℕ
joint_count own goes group number x = if in_group goes group number x then suc (joint_top own goes group number x) else joint_top own goes group number x

-- the number of some other channel is below its limit
abbrev pub IsMissed : ℕ → List ℕ → List ℕ → Type 0
IsMissed but seen limit = (c : ℕ) × (((c == but) ≡ false) × (count_of seen c < count_of limit c))
