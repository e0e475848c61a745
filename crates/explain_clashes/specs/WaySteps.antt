-- Steps. The least of ways that are looked at one after another.
use Rattle.std.specs.Prelude.{◌≡◌, ℕ, ◌<◌, Bool, false, if◌then◌else◌, Option, None, Some}
use Rattle.std.specs.Int.RustNames.{int_lt}
use Rattle.explain_clashes.specs.Ways.{IsLeastWay}
use Rattle.explain_reach.specs.declared.ways.Way.{Way}
use Rattle.swept_boxes.specs.declared.Box3.{Box3}

-- the lesser of a way that was found and one more, or the one that was found where they are equal
abbrev pub lesser : Option Way → Way → Way
lesser None way = way
lesser (Some found) way = if int_lt way.shift found.shift then way else found

-- the least of the directions below a number that count; none where none counts
abbrev pub IsLeastSoFar : (ℕ → Bool) → Box3 → Box3 → ℕ → Option Way → Type 0
IsLeastSoFar counts left right below None = (other : ℕ) → other < below → counts other ≡ false
IsLeastSoFar counts left right below (Some way) = IsLeastWay counts left right below way
