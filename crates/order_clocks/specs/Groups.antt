-- Steps. Numbers for channels that chains of pairs join.
use Rattle.std.specs.Prelude.{ℕ, ◌==◌, List, [], ◌∷◌, if◌then◌else◌}
use Rattle.sync_types.specs.Events.{Pair}

unfoldable pub relabelled : (ℕ → ℕ) → Pair → ℕ → ℕ
relabelled label p c = if label c == label p.one then label p.two else label c

-- each pair gives its first's group the number of its second's
abbrev pub labels : List Pair → ℕ → ℕ
labels [] c = c
labels (p ∷ ps) c = relabelled (labels ps) p c
