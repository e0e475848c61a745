-- Steps. Boxes of a stretch that begin and end one after another, and those of them that hold a place in common with a box.
use Rattle.std.specs.Prelude.{◌&&◌, not, nat_le, Bool, true, false, List, [], ◌∷◌}
use Rattle.zone_stretches.specs.declared.stretches.ZoneBox.{ZoneBox}

-- a box ends before this one begins, or begins before this one has ended
abbrev pub passes_place : Bool → ZoneBox → ZoneBox → Bool
passes_place true own other = not (nat_le own.from other.to)
passes_place false own other = nat_le other.from own.to

-- neither begins nor ends after the first of these, if there is one
abbrev pub is_by_first : ZoneBox → List ZoneBox → Bool
is_by_first box [] = true
is_by_first box (later ∷ boxes) = nat_le box.from later.from && nat_le box.to later.to

-- each neither begins nor ends after the next
abbrev pub do_boxes_ascend : List ZoneBox → Bool
do_boxes_ascend [] = true
do_boxes_ascend (box ∷ boxes) = is_by_first box boxes && do_boxes_ascend boxes
