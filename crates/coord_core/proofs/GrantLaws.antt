-- Grants, by lists for each axis and zone.
use Rattle.std.proofs.Common.{eqb-true, inl, inr, ◌≡◌, ℕ, ℤ, ◌==◌, ◌&&◌, Bool, false, List, ◌∷◌, map, length, Option, Some, None, if◌then◌else◌, refl, sym, ap, ◌∙◌, slice_index_or}
use Rattle.std.proofs.lemmas.Bool.{cases_Bool}
use Rattle.std.proofs.lemmas.List.FromFn.{fill_by_all}
use Rattle.std.specs.List.{list_any}
use Rattle.axis_exchange.specs.Owners.{axis_state, is_owned_by}
use Rattle.axis_exchange.specs.declared.AxisState.{AxisState}
use Rattle.axis_exchange.specs.declared.AxisState.TheVariants.{Owned, Free}
use Rattle.axis_sets.specs.Positions.{position_of}
use Rattle.axis_sets.specs.Sets.{has}
use Rattle.axis_sets.specs.declared.limits.TheConstants.{AXIS_LIMIT, ZONE_PLACES}
use Rattle.coord_core.proofs.ZoneLaws.{zone_found, held_and_on}
use Rattle.coord_core.specs.Tables.{board_in, IsTable, ownership_in, zone_in, holder_in, is_on_in}
use Rattle.coord_core.specs.declared.activities.Activity.{Activity}
use Rattle.coord_core.specs.declared.table.Table.{Table}
use Rattle.sync_types.specs.Boards.{owner_of, owns, is_this, grant_with, no_positions, positions_where, axis_numbers, zone_numbers}

pub owned_alike : (s : Option AxisState) (c : ℕ) → is_owned_by s c ≡ is_this (owner_of (ownership_in s)) c
owned_alike (Some (Owned owner)) c = refl
owned_alike (Some (Free position)) c = refl
owned_alike None c = refl

pub no_positions_listed : (at : List (Option ℤ)) → ((x : ℕ) → position_of at x ≡ None) → length at ≡ AXIS_LIMIT → at ≡ no_positions
no_positions_listed at none size = fill_by_all (λ (x : ℕ). let o : Option ℤ = None in o) at AXIS_LIMIT None size (λ x below. none x)

pub positions_listed : (at : List (Option ℤ)) (test : ℕ → Bool) (place : ℕ → ℤ) → ((x : ℕ) → position_of at x ≡ (if test x then Some (place x) else None)) → length at ≡ AXIS_LIMIT → at ≡ positions_where test place
positions_listed at test place is size = fill_by_all (λ (x : ℕ). if test x then Some (place x) else None) at AXIS_LIMIT None size (λ x below. is x)

zones_listed : (on : List Bool) (g : ℕ → Bool) → ((z : ℕ) → has on z ≡ g z) → has on 0 ≡ false → length on ≡ ZONE_PLACES → on ≡ false ∷ map g zone_numbers
zones_listed on g is none size = fill_by_all (λ (z : ℕ). if z == 0 then false else g z) on ZONE_PLACES false size (λ z below. elim (cases_Bool (z == 0)) [
  | inl here ↦ ap (has on) (eqb-true z 0 here) ∙ none ∙ sym (rw here refl)
  | inr other ↦ is z ∙ sym (rw other refl)
])

pub granted : (t : Table) (channels : List Activity) (c : ℕ) (at : List (Option ℤ)) (own on : List Bool) (program : Option ℕ) → IsTable t
    → ((x : ℕ) → has own x ≡ is_owned_by (axis_state t.owners x) c) → length own ≡ AXIS_LIMIT
    → ((z : ℕ) → has on z ≡ list_any (λ zone. (zone.zone == z) && (is_this zone.holder c && zone.on)) t.zones.items) → has on 0 ≡ false → length on ≡ ZONE_PLACES
    → program ≡ slice_index_or t.programs c None
    → record { axes = own; at = at; on = on; program = program } ≡ grant_with (board_in t channels) c at
unfolding grant_with
granted t channels c at own on program kept owned own_size held none on_size selected =
    let axes : own ≡ map (owns (board_in t channels) c) axis_numbers =
    fill_by_all (owns (board_in t channels) c) own AXIS_LIMIT false own_size (λ x below. owned x ∙ owned_alike (axis_state t.owners x) c) in
    let zones : on ≡ false ∷ map (λ z. is_this (holder_in t.zones.items z) c && is_on_in t.zones.items z) zone_numbers =
    zones_listed on (λ z. is_this (holder_in t.zones.items z) c && is_on_in t.zones.items z)
    (λ z. held z ∙ zone_found (λ zone. is_this zone.holder c && zone.on) t.zones.items z kept.zones_once ∙ held_and_on (zone_in t.zones.items z) c) none on_size in
    rw (axes, zones, selected) refl
