-- Meaning. What a start state says of each channel, axis and zone, and when it is sound.
use Rattle.std.specs.Prelude.{◌≡◌, ℕ, ℤ, pos, ◌==◌, ◌&&◌, not, Bool, true, false, List, [], ◌∷◌, map, find, Option, Some, None, is_some}
use Rattle.std.specs.List.{list_any}
use Rattle.std.specs.Option.{option_map_or}
use Rattle.axis_sets.specs.Sets.{has}
use Rattle.sync_types.specs.Views.{StartView}

abbrev pub has_channel : StartView → ℕ → Bool
has_channel start c = list_any (λ line. line.0 == c) start.channels

-- the selected program of a channel, or none
abbrev pub first_program : StartView → ℕ → Option ℕ
first_program start c = option_map_or (λ line. line.1) (find (λ line. line.0 == c) start.channels) None

abbrev pub runs_at_first : StartView → ℕ → Bool
runs_at_first start c = option_map_or (λ line. line.2) (find (λ line. line.0 == c) start.channels) false

abbrev pub has_axis : StartView → ℕ → Bool
has_axis start x = list_any (λ line. line.0 == x) start.axes

-- the channel that owns an axis, or none where it is free
abbrev pub first_owner : StartView → ℕ → Option ℕ
first_owner start x = option_map_or (λ line. line.1) (find (λ line. line.0 == x) start.axes) None

abbrev pub first_position : StartView → ℕ → ℤ
first_position start x = option_map_or (λ line. line.2) (find (λ line. line.0 == x) start.axes) (pos 0)

-- the axes that carry a zone
abbrev pub axes_of_zone : StartView → ℕ → List Bool
axes_of_zone start z = option_map_or (λ line. line.1) (find (λ line. line.0 == z) start.zones) []

-- the channel that holds a zone, or none
abbrev pub first_holder : StartView → ℕ → Option ℕ
first_holder start z = option_map_or (λ line. line.2) (find (λ line. line.0 == z) start.zones) None

abbrev pub is_on_at_first : StartView → ℕ → Bool
is_on_at_first start z = option_map_or (λ line. line.3) (find (λ line. line.0 == z) start.zones) false

-- no number stands in the list twice
abbrev pub stand_once : List ℕ → Bool
stand_once [] = true
stand_once (n ∷ ns) = not (list_any (λ m. m == n) ns) && stand_once ns

-- Each channel, axis and zone stands in it once; owners and holders are its channels; the axes of a zone
-- are its axes, and all are owned by the zone's holder, or free where it has none; what runs has a program.
pub record IsSound (start : StartView) : Type 0 where
  pub channels_once : stand_once (map (λ line. line.0) start.channels) ≡ true
  pub axes_once : stand_once (map (λ line. line.0) start.axes) ≡ true
  pub zones_once : stand_once (map (λ line. line.0) start.zones) ≡ true
  pub owners : (x c : ℕ) → first_owner start x ≡ Some c → has_channel start c ≡ true
  pub holders : (z c : ℕ) → first_holder start z ≡ Some c → has_channel start c ≡ true
  pub zone_axes : (z x : ℕ) → has (axes_of_zone start z) x ≡ true → has_axis start x ≡ true
  pub zone_owners : (z x : ℕ) → has (axes_of_zone start z) x ≡ true → first_owner start x ≡ first_holder start z
  pub programs : (c : ℕ) → runs_at_first start c ≡ true → is_some (first_program start c) ≡ true
