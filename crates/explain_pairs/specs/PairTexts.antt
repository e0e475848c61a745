-- Meaning. How each two zones are told, in a line.
use Rattle.std.specs.Prelude.{ℕ, ℤ, pos, ◌-ℤ◌, ◌==◌, if◌then◌else◌, List, [], ◌∷◌, ◌++◌, codes}
use Rattle.std.specs.Fmt.{decimal}
use Rattle.std.specs.Int.{w64, saturate_signed}
use Rattle.std.specs.List.{flat_map}
use Rattle.growing_text.specs.Lengths.{millimetres_text}
use Rattle.explain_pairs.specs.declared.pairs.Absent.{Absent}
use Rattle.explain_pairs.specs.declared.pairs.Absent.TheVariants.{First, Second, Both}
use Rattle.explain_pairs.specs.declared.pairs.Comparison.{Comparison}
use Rattle.explain_pairs.specs.declared.pairs.PairKind.{PairKind}
use Rattle.explain_pairs.specs.declared.pairs.PairKind.TheVariants.{OneGroup, NeverOn, Compared, OneChannel, Coordinated}
use Rattle.explain_pairs.specs.declared.pairs.ZonePair.{ZonePair}

-- by how much boxes are apart that reach so far into each other
abbrev pub apart_of : ℤ → ℤ
apart_of reach = saturate_signed w64 (pos 0 -ℤ reach)

-- so many pairs
unfoldable pub count_text : ℕ → List ℕ
count_text count = decimal count ++ (if count == 1 then codes " pair of boxes is compared" else codes " pairs of boxes are compared")

-- how many, and how near they come
unfoldable pub found_text : Comparison → List ℕ
found_text found = count_text found.count ++ (codes ", as near as " ++ (millimetres_text (apart_of found.reach) ++ codes " mm"))

-- a zone
unfoldable pub never_text : ℕ → List ℕ
never_text zone = codes "zone " ++ (decimal zone ++ codes " is never on")

-- which of the two are never on
unfoldable pub absent_text : ℕ × ℕ → Absent → List ℕ
absent_text zones First = never_text zones.0
absent_text zones Second = never_text zones.1
absent_text zones Both = codes "neither is ever on"

-- a channel whose own blocks keep them apart
unfoldable pub order_text : ℕ → List ℕ
order_text channel = codes "kept apart in time by the order of the blocks of channel " ++ decimal channel

-- what is found of their boxes, or why none are compared
unfoldable pub kind_text : ℕ × ℕ → PairKind → List ℕ
kind_text zones OneGroup = codes "of one group, so they may touch"
kind_text zones (NeverOn absent) = absent_text zones absent
kind_text zones (Compared found) = found_text found
kind_text zones (OneChannel channel) = order_text channel
kind_text zones Coordinated = codes "kept apart in time by marks or other coordination"

-- two zones in a line
unfoldable pub pair_text : ZonePair → List ℕ
pair_text row =
    codes "  zone " ++ (decimal row.zones.0 ++ (codes " and zone " ++ (decimal row.zones.1 ++ (codes ": " ++ (kind_text row.zones row.kind ++ codes "\n")))))

-- what stands above them, where there are two
abbrev pub heading_text : List ZonePair → List ℕ
heading_text [] = []
heading_text (row ∷ rows) = codes "Of each two zones:\n"

-- each two; nothing where there are no two
unfoldable pub pairs_text : List ZonePair → List ℕ
pairs_text rows = heading_text rows ++ flat_map pair_text rows
