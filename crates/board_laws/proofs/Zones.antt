-- A zone goes with its axes, on boards.
use Rattle.axis_sets.specs.declared.limits.TheConstants.{CHANNEL_LIMIT}
use Rattle.std.proofs.Math.Path.{fun_ext}
use Rattle.std.proofs.Common.{◌≡◌, ℕ, ℤ, zero, suc, ◌==◌, ◌&&◌, Bool, true, false, cond, List, [], ◌∷◌, map, Option, None, Some, refl, sym, ap, ◌∙◌}
use Rattle.std.proofs.lemmas.Bool.{eq-eqb, or_left}
use Rattle.axis_sets.specs.Sets.{has, members_of}
use Rattle.axis_sets.proofs.SetLaws.{list_any-members_of}
use Rattle.sync_types.proofs.BoardTests.{by_test, not_not, some_alike, none_pass, whole_alike, whole_found}
use Rattle.sync_types.proofs.TakenAxes.{taken_alike}
use Rattle.sync_types.specs.BoardActions.{carries, channels_to_start, axes_to_free, ownership_after, holder_after, state_after_alarm, state_after_action, state_of_actor, after_alarm, after_effects, after_action, after_part, after_own_part}
use Rattle.sync_types.specs.BoardAlarms.{alarm_of, named_axes, splits_a_zone}
use Rattle.sync_types.specs.Boards.{State as Doing, Ownership, OwnedBy, FreeAt, Board, among, axis_numbers, zone_numbers, is_this, owner_of, owns, ownership_of, grant_with, first_board, first_state}
use Rattle.sync_types.specs.GoingOn.{first_of, axes_asked, goers_at_once, state_after_goes, after_goes, axes_to_take, ownership_after_taking, holder_after_taking, state_after_taking, with_its_axes, after_taking, takings, takings_from, next_taker}
use Rattle.sync_types.specs.Starts.{axes_of_zone, first_owner, first_position, first_holder, runs_at_first, IsSound}
use Rattle.sync_types.specs.Turns.{after_step}
use Rattle.sync_types.specs.Views.{StartView}
use Rattle.sync_types.specs.declared.Action.{Action}
use Rattle.sync_types.specs.declared.Action.TheVariants.{Release, Get}
use Rattle.sync_types.specs.declared.Grant.{Grant}
use Rattle.sync_types.specs.declared.Step.{Step}
use Rattle.board_laws.specs.Machine.{holds_by_carrier, carrier, holds_zone, grant_by}
use Rattle.board_laws.specs.Zones.{Zones}
use Rattle.board_laws.proofs.Footprint.{no_alarm}

-- it asks for both axes or for neither
abbrev AsksAlike : ℕ → ℕ → Doing → Type 0
AsksAlike x y s = among (axes_asked s) x ≡ among (axes_asked s) y

first_member : (start : StartView) (z x : ℕ) → first_of (members_of (axes_of_zone start z)) ≡ Some x → has (axes_of_zone start z) x ≡ true
first_member start z x e = sym (list_any-members_of (axes_of_zone start z) x) ∙ in_it (members_of (axes_of_zone start z)) e
  where
    in_it : (xs : List ℕ) → first_of xs ≡ Some x → among xs x ≡ true
    in_it [] h = let bad : ⊥ = cc in absurd bad
    in_it (y ∷ ys) h = let s : y ≡ x = cc in or_left (y == x) (among ys x) (eq-eqb y x s)

no_member : (start : StartView) (z x : ℕ) → first_of (members_of (axes_of_zone start z)) ≡ None → has (axes_of_zone start z) x ≡ false
no_member start z x e = sym (list_any-members_of (axes_of_zone start z) x) ∙ out (members_of (axes_of_zone start z)) e
  where
    out : (xs : List ℕ) → first_of xs ≡ None → among xs x ≡ false
    out [] h = refl
    out (y ∷ ys) h = let bad : ⊥ = cc in absurd bad

-- so its holder is told by its first axis
pub holder_told : (b : Board) → Zones b → (z : ℕ) → b.holder z ≡ carrier (first_of (members_of (axes_of_zone b.start z))) (λ a. owner_of (b.axis a)) (first_holder b.start z)
holder_told b zs z = go (first_of (members_of (axes_of_zone b.start z))) refl
  where
    go : (o : Option ℕ) → first_of (members_of (axes_of_zone b.start z)) ≡ o → b.holder z ≡ carrier o (λ a. owner_of (b.axis a)) (first_holder b.start z)
    go (Some x) is = sym (zs.owner z x (first_member b.start z x is))
    go None is = zs.bare z is

pub held_told : (b : Board) → Zones b → (c z : ℕ) → is_this (b.holder z) c ≡ holds_zone b.start (owns b c) c z
unfolding holds_zone
held_told b zs c z = ap (λ (o : Option ℕ). is_this o c) (holder_told b zs z) ∙ go (first_of (members_of (axes_of_zone b.start z)))
  where
    go : (o : Option ℕ) → is_this (carrier o (λ a. owner_of (b.axis a)) (first_holder b.start z)) c ≡ holds_by_carrier o (owns b c) (is_this (first_holder b.start z) c)
    go (Some a) = refl
    go None = refl

abbrev grant_made : List Bool → List (Option ℤ) → Option ℕ → List Bool → Grant
grant_made axes at program on = record { axes = axes; at = at; on = false ∷ on; program = program }

-- a grant by the axes that a channel owns
pub grant_told : (b : Board) → Zones b → (c : ℕ) (at : List (Option ℤ)) → grant_with b c at ≡ grant_by b.start c (owns b c) at b.is_on (b.program c)
unfolding grant_with grant_by
grant_told b zs c at = ap (λ (f : ℕ → Bool). grant_made (map (owns b c) axis_numbers) at (b.program c) (map f zone_numbers)) (fun_ext λ z. ap (λ (t : Bool). t && b.is_on z) (held_told b zs c z))

bare_free : (b : Board) (axes : List ℕ) (z : ℕ) → first_of (members_of (axes_of_zone b.start z)) ≡ None → carries b axes z ≡ false
bare_free b axes z none = none_pass (has (axes_of_zone b.start z)) axes (λ x on. no_member b.start z x none)

-- an axis and its zone go the same way
goes_free : (test holds_by_carrier : Bool) (a : Ownership) (holder : Option ℕ) (position : ℤ) → holds_by_carrier ≡ test → owner_of a ≡ holder
    → owner_of (cond test (FreeAt position) a) ≡ cond holds_by_carrier None holder
goes_free true holds_by_carrier a holder position same at_holder = sym (ap (λ t. cond t None holder) same)
goes_free false holds_by_carrier a holder position same at_holder = at_holder ∙ sym (ap (λ t. cond t None holder) same)

goes_to : (test holds_by_carrier : Bool) (a : Ownership) (holder : Option ℕ) (c : ℕ) → holds_by_carrier ≡ test → owner_of a ≡ holder
    → owner_of (cond test (OwnedBy c) a) ≡ cond holds_by_carrier (Some c) holder
goes_to true holds_by_carrier a holder c same at_holder = sym (ap (λ t. cond t (Some c) holder) same)
goes_to false holds_by_carrier a holder c same at_holder = at_holder ∙ sym (ap (λ t. cond t (Some c) holder) same)

named_alike : (b : Board) (action : Action) (z x y : ℕ) → splits_a_zone b action ≡ false → has (axes_of_zone b.start z) x ≡ true → has (axes_of_zone b.start z) y ≡ true
    → has (named_axes action) x ≡ has (named_axes action) y
named_alike b action z x y whole on_x on_y = whole_alike (named_axes action) (axes_of_zone b.start z) x y (whole_found (named_axes action) b.start.zones z (not_not _ whole)) on_x on_y

freed_alike : (action : Action) (x y : ℕ) → has (named_axes action) x ≡ has (named_axes action) y → among (axes_to_free action) x ≡ among (axes_to_free action) y
freed_alike (Release axes) x y same = list_any-members_of axes x ∙ same ∙ sym (list_any-members_of axes y)
freed_alike other x y same = refl

actor_alike : (b : Board) (c line : ℕ) (action : Action) (x y : ℕ) → has (named_axes action) x ≡ has (named_axes action) y → AsksAlike x y (state_of_actor b c line action)
actor_alike b c line (Get axes) x y same = list_any-members_of axes x ∙ same ∙ sym (list_any-members_of axes y)
actor_alike b c line other x y same = refl

zones_alarm : (b : Board) (c : ℕ) (step : Step) (code : ℕ) → Zones b → Zones (after_alarm b c step code)
unfolding state_after_alarm
zones_alarm b c step code k = record {
  owner = k.owner;
  bare = k.bare;
  asks = λ d z x y on_x on_y. by_test (AsksAlike x y) (d == c) _ _ (λ here. refl) (λ other. k.asks d z x y on_x on_y);
}

freed_zone : (b : Board) (step : Step) (z x : ℕ) → splits_a_zone b step.action ≡ false → Zones b → has (axes_of_zone b.start z) x ≡ true
    → owner_of (ownership_after b step x) ≡ holder_after b step z
unfolding ownership_after holder_after
freed_zone b step z x whole k on_x = goes_free (among (axes_to_free step.action) x) (carries b (axes_to_free step.action) z) (b.axis x) (b.holder z) _
    (some_alike (has (axes_of_zone b.start z)) (axes_to_free step.action) x on_x (λ y on_y. freed_alike step.action y x (named_alike b step.action z y x whole on_y on_x)))
    (k.owner z x on_x)

freed_bare : (b : Board) (step : Step) (z : ℕ) → Zones b → first_of (members_of (axes_of_zone b.start z)) ≡ None → holder_after b step z ≡ first_holder b.start z
unfolding holder_after
freed_bare b step z k none = rw (bare_free b (axes_to_free step.action) z none) (k.bare z none)

pub zones_effects : (b : Board) (c : ℕ) (step : Step) → splits_a_zone b step.action ≡ false → Zones b → Zones (after_effects b c step)
zones_effects b c step whole k = record {
  owner = λ z x on_x. freed_zone b step z x whole k on_x;
  bare = λ z none. freed_bare b step z k none;
  asks = k.asks;
}

zones_action : (b : Board) (c : ℕ) (step : Step) → splits_a_zone b step.action ≡ false → Zones b → Zones (after_action b c step)
unfolding state_after_action
zones_action b c step whole k = record {
  owner = λ z x on_x. freed_zone b step z x whole k on_x;
  bare = λ z none. freed_bare b step z k none;
  asks = λ d z x y on_x on_y. by_test (AsksAlike x y) (d == c) _ _
      (λ here. actor_alike (after_effects b c step) c step.line step.action x y (named_alike b step.action z x y whole on_x on_y))
      (λ other. by_test (AsksAlike x y) (among (channels_to_start step.action) d) _ _ (λ starts. refl) (λ stays. k.asks d z x y on_x on_y));
}

zones_at : (b : Board) (c : ℕ) (step : Step) (alarm : Option ℕ) → alarm_of b c step.action ≡ alarm → Zones b → Zones (after_part b c step alarm)
zones_at b c step (Some code) is k = zones_alarm b c step code k
zones_at b c step None is k = zones_action b c step (no_alarm b c step.action is).whole k

pub zones_part : (b : Board) (c : ℕ) (step : Step) → Zones b → Zones (after_own_part b c step)
zones_part b c step k = zones_at b c step (alarm_of b c step.action) refl k

pub zones_goes : (b : Board) → Zones b → Zones (after_goes b)
unfolding state_after_goes
zones_goes b k = record {
  owner = k.owner;
  bare = k.bare;
  asks = λ d z x y on_x on_y. by_test (AsksAlike x y) (among (goers_at_once b) d) _ _ (λ goes. refl) (λ stays. k.asks d z x y on_x on_y);
}

taken_zone : (b : Board) (c z x : ℕ) → Zones b → has (axes_of_zone b.start z) x ≡ true → owner_of (ownership_after_taking b c x) ≡ holder_after_taking b c z
unfolding ownership_after_taking holder_after_taking
taken_zone b c z x k on_x = goes_to (among (axes_to_take b c) x) (carries b (axes_to_take b c) z) (b.axis x) (b.holder z) c
    (some_alike (has (axes_of_zone b.start z)) (axes_to_take b c) x on_x (λ y on_y. taken_alike b c y x (k.asks c z y x on_y on_x) (k.owner z y on_y ∙ sym (k.owner z x on_x))))
    (k.owner z x on_x)

taken_bare : (b : Board) (c z : ℕ) → Zones b → first_of (members_of (axes_of_zone b.start z)) ≡ None → holder_after_taking b c z ≡ first_holder b.start z
unfolding holder_after_taking
taken_bare b c z k none = rw (bare_free b (axes_to_take b c) z none) (k.bare z none)

pub zones_with : (b : Board) (c : ℕ) → Zones b → Zones (with_its_axes b c)
zones_with b c k = record {
  owner = λ z x on_x. taken_zone b c z x k on_x;
  bare = λ z none. taken_bare b c z k none;
  asks = k.asks;
}

pub zones_taking : (b : Board) (c : ℕ) → Zones b → Zones (after_taking b c)
unfolding state_after_taking
zones_taking b c k = record {
  owner = λ z x on_x. taken_zone b c z x k on_x;
  bare = λ z none. taken_bare b c z k none;
  asks = λ d z x y on_x on_y. by_test (AsksAlike x y) (d == c) _ _ (λ here. refl) (λ other. k.asks d z x y on_x on_y);
}

pub zones_takings : (n : ℕ) (b : Board) → Zones b → Zones (takings n b).board
zones_takings zero b k = k
zones_takings (suc n) b k = next (zones_takings n) (next_taker b)
  where
    next : ((a : Board) → Zones a → Zones (takings n a).board) → (taker : Option ℕ) → Zones (takings_from (takings n) b taker).board
    next rest None = k
    next rest (Some c) = rest (after_taking b c) (zones_taking b c k)

pub zones_step : (b : Board) (c : ℕ) (step : Step) → Zones b → Zones (after_step b c step)
zones_step b c step k = zones_takings CHANNEL_LIMIT (after_goes (after_own_part b c step)) (zones_goes (after_own_part b c step) (zones_part b c step k))

owner_at_first : (owner : Option ℕ) (position : ℤ) → owner_of (ownership_of owner position) ≡ owner
owner_at_first (Some c) position = refl
owner_at_first None position = refl

pub zones_first : (start : StartView) → IsSound start → Zones (first_board start)
unfolding first_state
zones_first start sound = record {
  owner = λ z x on_x. owner_at_first (first_owner start x) (first_position start x) ∙ sound.zone_owners z x on_x;
  bare = λ z none. refl;
  asks = λ c z x y on_x on_y. by_test (AsksAlike x y) (runs_at_first start c) _ _ (λ runs. refl) (λ rests. refl);
}
