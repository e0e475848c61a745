-- The boxes of a zone as the code makes them are those of the walk.
use Rattle.std.proofs.Common.{◌≡◌, ℕ, suc, ℤ, ◌+◌, ◌<◌, ◌++◌, Bool, true, false, List, [], ◌∷◌, map, Option, Some, None, refl, sym, ap, ◌∙◌, length, drop, get_or, add-one}
use Rattle.std.proofs.Math.Seq.{drop-cons, drop-length}
use Rattle.std.specs.Option.{option_to_list}
use mathlib.Core.Path.{fun_ext}
use Rattle.job_types.specs.declared.job.ZoneLine.{ZoneLine}
use Rattle.protection_zones.specs.Sweeps.{standing_box, moving_box, box_until, ended_before, opened_after, sweep, opened_at_first}
use Rattle.sync_types.specs.declared.Item.{Item}
use Rattle.zone_stretches.specs.ZoneBoxes.{stand_after, Opened, Shut, Waiting, Moving, closed, closed_before, next_open, walk, boxes_of, seen, shown_box}
use Rattle.zone_stretches.specs.declared.sights.ZoneEffect.{ZoneEffect}
use Rattle.zone_stretches.specs.declared.sights.ZoneEffect.TheVariants.{Nothing, Turns, Moves}
use Rattle.zone_stretches.specs.declared.stretches.ZoneBox.{ZoneBox}

-- what is open, as the code has it
abbrev shown_open : ℤ → ZoneLine → Opened → Option ZoneBox
shown_open margin zone Shut = None
shown_open margin zone (Waiting from line at) = Some (standing_box margin zone from line at)
shown_open margin zone (Moving from place item at) = Some (moving_box margin zone from place item at)

shown_closed : (margin : ℤ) (zone : ZoneLine) (to : ℕ) (o : Opened) → map (shown_box margin zone) (closed to o) ≡ option_to_list (box_until to (shown_open margin zone o))
unfolding shown_box standing_box moving_box
shown_closed margin zone to Shut = refl
shown_closed margin zone to (Waiting from line at) = refl
shown_closed margin zone to (Moving from place item at) = refl

shown_ended : (margin : ℤ) (zone : ZoneLine) (to : ℕ) (o : Opened) (sight : ZoneEffect) → map (shown_box margin zone) (closed_before to o sight) ≡ option_to_list (ended_before to (shown_open margin zone o) sight)
unfolding shown_box standing_box moving_box
shown_ended margin zone to Shut Nothing = refl
shown_ended margin zone to Shut (Turns true) = refl
shown_ended margin zone to Shut (Turns false) = refl
shown_ended margin zone to Shut Moves = refl
shown_ended margin zone to (Waiting from line at) Nothing = refl
shown_ended margin zone to (Waiting from line at) (Turns true) = refl
shown_ended margin zone to (Waiting from line at) (Turns false) = refl
shown_ended margin zone to (Waiting from line at) Moves = refl
shown_ended margin zone to (Moving from place item at) Nothing = refl
shown_ended margin zone to (Moving from place item at) (Turns true) = refl
shown_ended margin zone to (Moving from place item at) (Turns false) = refl
shown_ended margin zone to (Moving from place item at) Moves = refl

shown_next : (margin : ℤ) (zone : ZoneLine) (place : ℕ) (at : ℕ → ℤ) (item : Item) (o : Opened) (sight : ZoneEffect)
    → shown_open margin zone (next_open place at item o sight) ≡ opened_after margin zone place at item (shown_open margin zone o) sight
unfolding standing_box moving_box
shown_next margin zone place at item Shut Nothing = refl
shown_next margin zone place at item Shut (Turns true) = refl
shown_next margin zone place at item Shut (Turns false) = refl
shown_next margin zone place at item Shut Moves = refl
shown_next margin zone place at item (Waiting from line began) Nothing = refl
shown_next margin zone place at item (Waiting from line began) (Turns true) = refl
shown_next margin zone place at item (Waiting from line began) (Turns false) = refl
shown_next margin zone place at item (Waiting from line began) Moves = refl
shown_next margin zone place at item (Moving from before first began) Nothing = refl
shown_next margin zone place at item (Moving from before first began) (Turns true) = refl
shown_next margin zone place at item (Moving from before first began) (Turns false) = refl
shown_next margin zone place at item (Moving from before first began) Moves = refl

map-append : {X Y : Type 0} (f : X → Y) (xs ys : List X) → map f (xs ++ ys) ≡ map f xs ++ map f ys
map-append f [] ys = refl
map-append f (x ∷ xs) ys = ap (λ (rest : List _). f x ∷ rest) (map-append f xs ys)

shown_walk : (margin : ℤ) (zone : ZoneLine) (place : ℕ) (o : Opened) (at : ℕ → ℤ) (items : List Item)
    → map (shown_box margin zone) (walk zone place o at items) ≡ sweep margin zone place (shown_open margin zone o) at items
shown_walk margin zone place o at [] = shown_closed margin zone place o
shown_walk margin zone place o at (item ∷ items) =
    map-append (shown_box margin zone) (closed_before place o (seen zone item)) (walk zone (suc place) (next_open (suc place) at item o (seen zone item)) (stand_after item at) items)
    ∙ rw (
      shown_ended margin zone place o (seen zone item),
      shown_walk margin zone (suc place) (next_open (suc place) at item o (seen zone item)) (stand_after item at) items,
      shown_next margin zone (suc place) at item o (seen zone item),
    ) refl

-- the boxes of a span
pub shown_boxes : (margin : ℤ) (zone : ZoneLine) (on : Bool) (line : ℕ) (at : ℕ → ℤ) (items : List Item)
    → map (shown_box margin zone) (boxes_of zone on line at items) ≡ sweep margin zone 0 (opened_at_first margin zone on line at) at items
unfolding boxes_of
shown_boxes margin zone true line at items = shown_walk margin zone 0 (Waiting 0 line at) at items
shown_boxes margin zone false line at items = shown_walk margin zone 0 Shut at items

-- those of a span in which nothing is done
pub box_at_rest : (margin : ℤ) (zone : ZoneLine) (line : ℕ) (at : ℕ → ℤ) → standing_box margin zone 0 line at ∷ [] ≡ map (shown_box margin zone) (boxes_of zone true line at [])
unfolding boxes_of shown_box standing_box
box_at_rest margin zone line at = refl

pub no_box_at_rest : (margin : ℤ) (zone : ZoneLine) (line : ℕ) (at : ℕ → ℤ) → [] ≡ map (shown_box margin zone) (boxes_of zone false line at [])
unfolding boxes_of
no_box_at_rest margin zone line at = refl

-- one item of the walk
pub sweep_step : (margin : ℤ) (zone : ZoneLine) (place : ℕ) (opened : Option ZoneBox) (at moved : ℕ → ℤ) (items : List Item) (item : Item) → place < length items
    → item ≡ get_or items place item → ((axis : ℕ) → moved axis ≡ stand_after item at axis)
    → sweep margin zone place opened at (drop place items)
    ≡ option_to_list (ended_before place opened (seen zone item)) ++ sweep margin zone (place + 1) (opened_after margin zone (place + 1) at item opened (seen zone item)) moved (drop (place + 1) items)
sweep_step margin zone place opened at moved items item within is stands =
    let same : moved ≡ stand_after item at = fun_ext stands in
    rw (add-one, same, drop-cons items place item within, sym is) refl

pub sweep_end : (margin : ℤ) (zone : ZoneLine) (place : ℕ) (opened : Option ZoneBox) (at : ℕ → ℤ) (items : List Item) → length items ≡ place
    → sweep margin zone place opened at (drop place items) ≡ option_to_list (box_until (length items) opened)
sweep_end margin zone place opened at items all = rw (sym all, drop-length items) refl
