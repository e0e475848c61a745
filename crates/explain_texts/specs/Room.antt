-- Meaning. How near two groups come to each other, and by how much the margin could be greater.
use Rattle.std.specs.Prelude.{ℕ, ℤ, pos, ◌-ℤ◌, if◌then◌else◌, List, ◌++◌, codes, int_div}
use Rattle.std.specs.Fmt.{decimal}
use Rattle.std.specs.Int.{w64, saturate_signed}
use Rattle.std.specs.Int.RustNames.{int_le}
use Rattle.growing_text.specs.Lengths.{millimetres_text}

-- by how much two boxes are apart that reach so far into each other
abbrev pub apart_of : ℤ → ℤ
apart_of reach = saturate_signed w64 (pos 0 -ℤ reach)

-- by how much the margin could be greater, where boxes are so far apart: both grow at the ends that face each other
unfoldable pub margin_left : ℤ → ℤ
margin_left apart = if int_le apart (pos 0) then pos 0 else int_div (apart -ℤ pos 1) (pos 2)

-- two groups
unfoldable pub groups_text : ℕ × ℕ → List ℕ
groups_text groups = codes "Groups " ++ (decimal groups.0 ++ (codes " and " ++ decimal groups.1))

-- how near they come, and how much is left
unfoldable pub room_text : ℤ → ℤ → List ℕ
room_text apart left = codes " come as near as " ++ (millimetres_text apart ++ (codes " mm: MARGIN could be " ++ (millimetres_text left ++ codes " greater.\n")))
