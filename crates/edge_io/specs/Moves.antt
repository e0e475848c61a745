-- Meaning. What a read and a write do to the bytes that a source or a sink tells of, and to its count of faults.
use Rattle.std.specs.Prelude.{◌≡◌, ℕ, ◌+◌, ◌^◌, ◌<◌, ◌≤◌, nat_lt, if◌then◌else◌, List, [], ◌++◌, length, take, ⊤, Option, None, Some, Result, Ok, Err}

-- a failed call raises the count of faults, and no other call changes it
abbrev pub HasCause : {T E : Type 0} → ℕ → ℕ → Result T E → Type 0
HasCause before now (Ok x) = now ≡ before
HasCause before now (Err e) = before < now

-- what is told stays as it was
abbrev pub Stays : {A : Type 0} → Option A → Option A → Type 0
Stays None new = ⊤
Stays (Some x) new = new ≡ Some x

-- the bytes left began with these, and lose them
abbrev pub Loses : Option (List ℕ) → Option (List ℕ) → List ℕ → Type 0
Loses None new bytes = ⊤
Loses (Some xs) None bytes = ⊥
Loses (Some xs) (Some ys) bytes = xs ≡ bytes ++ ys

-- no byte is left
abbrev pub IsEmptied : Option (List ℕ) → Type 0
IsEmptied None = ⊤
IsEmptied (Some xs) = xs ≡ []

-- the bytes written grow by these at their end
abbrev pub Grows : Option (List ℕ) → Option (List ℕ) → List ℕ → Type 0
Grows None new bytes = ⊤
Grows (Some xs) new bytes = new ≡ Some (xs ++ bytes)

-- a number of bytes, None where it does not fit 64 bits
abbrev pub count_in_64_bits : ℕ → Option ℕ
count_in_64_bits total = if nat_lt total (2 ^ 64) then Some total else None

-- the number of bytes written grows by n, and is told exactly while it fits 64 bits
abbrev pub Counts : Option ℕ → Option ℕ → ℕ → Type 0
Counts None new n = new ≡ None
Counts (Some k) new n = k < 2 ^ 64 → new ≡ count_in_64_bits (k + n)

-- a read puts the first n bytes left into the buffer, and none only where none is left; a failed one takes nothing
abbrev pub Reads : {E : Type 0} → Option (List ℕ) → Option (List ℕ) → Result ℕ E → List ℕ → Type 0
Reads old new (Ok n) buffer = Loses old new (take n buffer) × (n ≡ 0 → IsEmptied old)
Reads old new (Err e) buffer = Stays old new

-- a write takes the first n bytes of the piece; a failed one takes nothing
abbrev pub Writes : {E : Type 0} → Option (List ℕ) → Option (List ℕ) → Result ℕ E → List ℕ → Type 0
Writes old new (Ok n) piece = Grows old new (take n piece)
Writes old new (Err e) piece = Stays old new

-- the same of the number of bytes written
abbrev pub WritesCount : {E : Type 0} → Option ℕ → Option ℕ → Result ℕ E → Type 0
WritesCount old new (Ok n) = Counts old new n
WritesCount old new (Err e) = Stays old new

-- the bytes written grow by a front of these
abbrev pub GrowsByFront : Option (List ℕ) → Option (List ℕ) → List ℕ → Type 0
GrowsByFront old new bytes = (n : ℕ) × (n ≤ length bytes) × Grows old new (take n bytes)
