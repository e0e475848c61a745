-- Meaning. Sets of small numbers: for each number from 0 on, whether it is a member.
use Rattle.std.specs.Prelude.{◌≡◌, ℕ, ◌<◌, Bool, true, false, List, length, filter, slice_index_or, Option, MatchOption}
use Rattle.std.specs.List.{range_with_len}

-- a number is a member of the set
abbrev pub has : List Bool → ℕ → Bool
has set member = slice_index_or set member false

-- the members, ascending
abbrev pub members_of : List Bool → List ℕ
members_of set = filter (has set) (range_with_len 0 (length set))

-- no number is a member
abbrev pub IsEmpty : List Bool → Type 0
IsEmpty set = (m : ℕ) → has set m ≡ false

-- a member that no other member is below
pub record IsLowest (set : List Bool) (member : ℕ) : Type 0 where
  pub is_member : has set member ≡ true
  pub none_below : (m : ℕ) → m < member → has set m ≡ false

-- the lowest member, or none where the set is empty
abbrev pub GivesLowest : List Bool → Option ℕ → Type 0
GivesLowest set answer = MatchOption answer (IsEmpty set) (IsLowest set)

-- the same where the member itself is given, by its number
abbrev pub GivesLowestOf : {M : Type 0} → (M → ℕ) → List Bool → Option M → Type 0
GivesLowestOf number_of set answer = MatchOption answer (IsEmpty set) (λ member. IsLowest set (number_of member))
