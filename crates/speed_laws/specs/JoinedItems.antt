-- Meaning. Items of which each begins where those before it left the axes.
use Rattle.std.specs.Prelude.{◌≡◌, ℕ, ℤ, List, [], ◌∷◌, All, ⊤}
use Rattle.path_geometry.specs.Motions.{axes_of, IsSound}
use Rattle.sync_types.specs.Items.{movement_of}
use Rattle.sync_types.specs.declared.Item.{Item}
use Rattle.zone_stretches.specs.ZoneBoxes.{stand_after}

-- a motion is sound, begins where its axes stand, and leaves them at its ends
abbrev pub Joins : (ℕ → ℤ) → Item → Type 0
Joins at item = IsSound (movement_of item) × All (λ e. (e.1 ≡ at e.0) × (e.2 ≡ stand_after item at e.0)) (axes_of (movement_of item))

-- so does each of them, one after the other
abbrev pub AllJoin : (ℕ → ℤ) → List Item → Type 0
AllJoin at [] = ⊤
AllJoin at (item ∷ items) = Joins at item × AllJoin (stand_after item at) items
