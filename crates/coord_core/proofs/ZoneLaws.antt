-- Zones by their numbers, before and after a step.
use Rattle.std.proofs.Common.{eqb-true, inl, inr, ◌≡◌, ℕ, ◌==◌, ◌&&◌, ◌||◌, not, Bool, true, false, cond, List, [], ◌∷◌, map, Option, Some, None, if◌then◌else◌, refl, sym, ap, ◌∙◌}
use Rattle.std.proofs.lemmas.Bool.{cases_Bool, and_parts}
use Rattle.std.specs.List.{list_any, list_all}
use Rattle.std.specs.Option.{option_map, option_map_or}
use Rattle.axis_sets.specs.Sets.{has, members_of}
use Rattle.coord_core.specs.Tables.{zone_in, holder_in, is_on_in, axes_in, zone_after_step, zone_handed, shares}
use Rattle.coord_core.specs.declared.zones.ZoneState.{ZoneState}
use Rattle.sync_types.proofs.BoardTests.{no_truth}
use Rattle.sync_types.specs.BoardAlarms.{is_whole}
use Rattle.sync_types.specs.Boards.{is_this}
use Rattle.sync_types.specs.Starts.{stand_once}

-- a change that leaves the numbers
choice_changed : (f : ZoneState → ZoneState) (s : ZoneState) (a b : Bool) (m o : Option ZoneState) → a ≡ b → m ≡ option_map f o → cond a (Some (f s)) m ≡ option_map f (cond b (Some s) o)
choice_changed f s true true m o same rest = refl
choice_changed f s false false m o same rest = rest
choice_changed f s true false m o same rest = no_truth true refl same
choice_changed f s false true m o same rest = no_truth true refl (sym same)

found_changed : (f : ZoneState → ZoneState) → ((s : ZoneState) → (f s).zone ≡ s.zone) → (zones : List ZoneState) (z : ℕ) → zone_in (map f zones) z ≡ option_map f (zone_in zones z)
found_changed f same [] z = refl
found_changed f same (s ∷ zones) z =
    choice_changed f s ((f s).zone == z) (s.zone == z) (zone_in (map f zones) z) (zone_in zones z) (ap (λ (n : ℕ). n == z) (same s)) (found_changed f same zones z)

numbers_kept : (f : ZoneState → ZoneState) → ((s : ZoneState) → (f s).zone ≡ s.zone) → (zones : List ZoneState) → map (λ zone. zone.zone) (map f zones) ≡ map (λ zone. zone.zone) zones
numbers_kept f same [] = refl
numbers_kept f same (s ∷ zones) =
    let number : (f s).zone ≡ s.zone = same s in
    let rest : map (λ zone. zone.zone) (map f zones) ≡ map (λ zone. zone.zone) zones = numbers_kept f same zones in
    rw (number, rest) refl

none_in_empty : (xs : List ℕ) → list_any (has []) xs ≡ false
none_in_empty [] = refl
none_in_empty (x ∷ xs) = none_in_empty xs

-- after axes are handed over
pub holder_handed : (axes : List Bool) (holder : Option ℕ) (zones : List ZoneState) (z : ℕ)
    → holder_in (map (zone_handed axes holder) zones) z ≡ (if shares (axes_in zones z) axes then holder else holder_in zones z)
holder_handed axes holder zones z =
    ap (λ (o : Option ZoneState). option_map_or (λ zone. zone.holder) o None) (found_changed (zone_handed axes holder) (λ s. refl) zones z) ∙ each (zone_in zones z)
  where
    each : (found : Option ZoneState) → option_map_or (λ zone. zone.holder) (option_map (zone_handed axes holder) found) None
        ≡ (if shares (option_map_or (λ zone. zone.axes) found []) axes then holder else option_map_or (λ zone. zone.holder) found None)
    each (Some zone) = refl
    each None = sym (rw (none_in_empty (members_of axes)) refl)

pub on_handed : (axes : List Bool) (holder : Option ℕ) (zones : List ZoneState) (z : ℕ) → is_on_in (map (zone_handed axes holder) zones) z ≡ is_on_in zones z
on_handed axes holder zones z =
    ap (λ (o : Option ZoneState). option_map_or (λ zone. zone.on) o false) (found_changed (zone_handed axes holder) (λ s. refl) zones z) ∙ each (zone_in zones z)
  where
    each : (found : Option ZoneState) → option_map_or (λ zone. zone.on) (option_map (zone_handed axes holder) found) false ≡ option_map_or (λ zone. zone.on) found false
    each (Some zone) = refl
    each None = refl

pub axes_handed : (axes : List Bool) (holder : Option ℕ) (zones : List ZoneState) (z : ℕ) → axes_in (map (zone_handed axes holder) zones) z ≡ axes_in zones z
axes_handed axes holder zones z =
    ap (λ (o : Option ZoneState). option_map_or (λ zone. zone.axes) o []) (found_changed (zone_handed axes holder) (λ s. refl) zones z) ∙ each (zone_in zones z)
  where
    each : (found : Option ZoneState) → option_map_or (λ zone. zone.axes) (option_map (zone_handed axes holder) found) [] ≡ option_map_or (λ zone. zone.axes) found []
    each (Some zone) = refl
    each None = refl

pub numbers_handed : (axes : List Bool) (holder : Option ℕ) (zones : List ZoneState) → map (λ zone. zone.zone) (map (zone_handed axes holder) zones) ≡ map (λ zone. zone.zone) zones
numbers_handed axes holder zones = numbers_kept (zone_handed axes holder) (λ s. refl) zones

-- after a step has told of the zones of its channel
pub holder_noted : (c : ℕ) (on : List Bool) (zones : List ZoneState) (z : ℕ) → holder_in (map (zone_after_step c on) zones) z ≡ holder_in zones z
holder_noted c on zones z =
    ap (λ (o : Option ZoneState). option_map_or (λ zone. zone.holder) o None) (found_changed (zone_after_step c on) (λ s. refl) zones z) ∙ each (zone_in zones z)
  where
    each : (found : Option ZoneState) → option_map_or (λ zone. zone.holder) (option_map (zone_after_step c on) found) None ≡ option_map_or (λ zone. zone.holder) found None
    each (Some zone) = refl
    each None = refl

pub axes_noted : (c : ℕ) (on : List Bool) (zones : List ZoneState) (z : ℕ) → axes_in (map (zone_after_step c on) zones) z ≡ axes_in zones z
axes_noted c on zones z =
    ap (λ (o : Option ZoneState). option_map_or (λ zone. zone.axes) o []) (found_changed (zone_after_step c on) (λ s. refl) zones z) ∙ each (zone_in zones z)
  where
    each : (found : Option ZoneState) → option_map_or (λ zone. zone.axes) (option_map (zone_after_step c on) found) [] ≡ option_map_or (λ zone. zone.axes) found []
    each (Some zone) = refl
    each None = refl

pub numbers_noted : (c : ℕ) (on : List Bool) (zones : List ZoneState) → map (λ zone. zone.zone) (map (zone_after_step c on) zones) ≡ map (λ zone. zone.zone) zones
numbers_noted c on zones = numbers_kept (zone_after_step c on) (λ s. refl) zones

pub on_noted : (c : ℕ) (on : List Bool) (zones : List ZoneState) (z : ℕ)
    → is_on_in (map (zone_after_step c on) zones) z ≡ (if is_this (holder_in zones z) c then has on z else is_on_in zones z)
on_noted c on [] z = refl
on_noted c on (s ∷ zones) z = elim (cases_Bool (s.zone == z)) [
  | inl here ↦ rw here (ap (λ (n : ℕ). if is_this s.holder c then has on n else s.on) (eqb-true s.zone z here))
  | inr other ↦ rw other (on_noted c on zones z)
]

-- where each number stands once, some zone of a number passes exactly where the one that is found does
none_of_number : (q : ZoneState → Bool) (zones : List ZoneState) (z : ℕ) → list_any (λ m. m == z) (map (λ zone. zone.zone) zones) ≡ false → list_any (λ zone. (zone.zone == z) && q zone) zones ≡ false
none_of_number q [] z none = refl
none_of_number q (s ∷ zones) z none =
    let parts = or_parts (s.zone == z) (list_any (λ m. m == z) (map (λ zone. zone.zone) zones)) none in
    let rest : list_any (λ zone. (zone.zone == z) && q zone) zones ≡ false = none_of_number q zones z parts.1 in
    rw (parts.0, rest) refl
  where
    or_parts : (a b : Bool) → (a || b) ≡ false → (a ≡ false) × (b ≡ false)
    or_parts true b off = no_truth true refl off
    or_parts false b off = (refl, off)

pub zone_found : (q : ZoneState → Bool) (zones : List ZoneState) (z : ℕ) → stand_once (map (λ zone. zone.zone) zones) ≡ true
    → list_any (λ zone. (zone.zone == z) && q zone) zones ≡ option_map_or q (zone_in zones z) false
zone_found q [] z once = refl
zone_found q (s ∷ zones) z once =
    let parts = and_parts (not (list_any (λ m. m == s.zone) (map (λ zone. zone.zone) zones))) (stand_once (map (λ zone. zone.zone) zones)) once in
    elim (cases_Bool (s.zone == z)) [
      | inl here ↦
          let none : list_any (λ m. m == z) (map (λ zone. zone.zone) zones) ≡ false =
          sym (ap (λ (n : ℕ). list_any (λ m. m == n) (map (λ zone. zone.zone) zones)) (eqb-true s.zone z here)) ∙ off_of _ parts.0 in
          let rest : list_any (λ zone. (zone.zone == z) && q zone) zones ≡ false = none_of_number q zones z none in
          rw (here, rest) (or_none (q s))
      | inr other ↦ rw other (zone_found q zones z parts.1)
    ]
  where
    off_of : (b : Bool) → not b ≡ true → b ≡ false
    off_of true on = sym on
    off_of false on = refl

    or_none : (b : Bool) → (b || false) ≡ b
    or_none true = refl
    or_none false = refl

pub held_and_on : (found : Option ZoneState) (c : ℕ) → option_map_or (λ zone. is_this zone.holder c && zone.on) found false
    ≡ (is_this (option_map_or (λ zone. zone.holder) found None) c && option_map_or (λ zone. zone.on) found false)
held_and_on (Some zone) c = refl
held_and_on None c = refl

-- no axis of a zone is named where none is named at all
pub whole_where_none : (lines : List (ℕ × List Bool × Option ℕ × Bool)) → list_all (λ line. is_whole [] line.1) lines ≡ true
whole_where_none [] = refl
whole_where_none (line ∷ lines) = rw (or_true (list_all (has []) (members_of line.1)) _ (none_named (members_of line.1)), whole_where_none lines) refl
  where
    none_named : (xs : List ℕ) → list_all (λ x. not (has [] x)) xs ≡ true
    none_named [] = refl
    none_named (x ∷ xs) = none_named xs

    or_true : (a b : Bool) → b ≡ true → (a || b) ≡ true
    or_true true b on = refl
    or_true false b on = on
