-- Meaning. The places of a list, counted from 0.
use Rattle.std.specs.Prelude.{ℕ, ◌+◌, List, take, drop, reverse}
use Rattle.std.specs.List.{enumerate_from}

-- each element with its place
abbrev pub with_places : {B : Type 0} → List B → List (ℕ × B)
with_places blocks = enumerate_from 0 blocks

-- those after a place, the nearest first
abbrev pub those_after : {B : Type 0} → ℕ → List B → List (ℕ × B)
those_after pc blocks = drop (pc + 1) (with_places blocks)

-- those before a place, the nearest first
abbrev pub those_before : {B : Type 0} → ℕ → List B → List (ℕ × B)
those_before pc blocks = reverse (take pc (with_places blocks))
