-- What the start of an accepted job says of its axes, zones and programs.
use Rattle.axis_sets.specs.declared.limits.TheConstants.{AXIS_LIMIT}
use Rattle.std.proofs.Common.{◌≡◌, ◌≢◌, ◌∙◌, ◌⊎◌, inl, inr, ℕ, suc, ℤ, ◌<◌, ◌≤◌, ◌==◌, ◌&&◌, ◌||◌, not, Bool, true, false, cond, List, [], ◌∷◌, find, length, is_some, slice_get, Option, Some, None, zero-add, refl, sym, ap, subst, arith, eqb-true, eq-eqb}
use Rattle.std.proofs.lemmas.Bool.{and_parts}
use Rattle.std.proofs.lemmas.List.{length-map}
use Rattle.std.proofs.lemmas.List.Elements.{All-head, All-tail}
use Rattle.std.proofs.lemmas.List.FromFn.{get_or-map-range_with_len, length-map-range_with_len}
use Rattle.std.proofs.lemmas.List.Quantifiers.{position-Some}
use Rattle.std.proofs.lemmas.Option.{slice_get_within}
use Rattle.std.specs.List.{All, AllPairs, list_all, list_any}
use Rattle.std.specs.Map.{keys_of}
use Rattle.std.specs.Option.{option_and_then, option_map, option_map_or}
use Rattle.std.specs.Str.{bytes_eq}
use Rattle.axis_sets.proofs.SetLaws.{has-past}
use Rattle.axis_sets.specs.Sets.{has}
use Rattle.block_motions.proofs.Ends.{le_or_lt}
use Rattle.channel_machine.proofs.StartLaws.{axis_found, channel_found, zone_found}
use Rattle.channel_machine.specs.Coordination.{has_all_of, is_carried, is_side_of}
use Rattle.channel_machine.specs.Grants.{has_none_of, is_side_apart}
use Rattle.channel_machine.specs.StartStates.{first_axes, first_axis, first_channel, first_zone, first_zones, line_of_channel, place_of_name, start_of}
use Rattle.job_types.proofs.Owners.{carrier_there}
use Rattle.job_types.specs.Job.{JobView, ProgramView}
use Rattle.job_types.specs.SoundJob.{IsSoundJob, IsSoundZone}
use Rattle.job_types.specs.Zones.{carriers, has_axis, is_carrier, zone_line}
use Rattle.job_types.specs.declared.job.AxisLine.{AxisLine}
use Rattle.job_types.specs.declared.job.ChannelLine.{ChannelLine}
use Rattle.job_types.specs.declared.job.Side.{Side}
use Rattle.job_types.specs.declared.job.ZoneLine.{ZoneLine}
use Rattle.number_laws.proofs.Lists.{All-found, none_found, some-list_any}
use Rattle.product_run.proofs.KeptMachines.{is_zone}
use Rattle.sync_types.proofs.BoardTests.{no_truth}
use Rattle.sync_types.specs.Starts as start

-- ---- lists

-- what passes a test is found
found_some : {X : Type 0} (test : X → Bool) (xs : List X) → list_any test xs ≡ true → find test xs ≡ None → ⊥
found_some test xs some none = none_found test xs none (some-list_any test xs some)

or_true : (a b : Bool) → a ≡ true → (a || b) ≡ true
or_true true b on = refl
or_true false b on = no_truth false on refl

or_more : (a b : Bool) → b ≡ true → (a || b) ≡ true
or_more true b on = refl
or_more false b on = on

-- of elements with other keys that one is found by its key which passes
pub found_once : {X : Type 0} (key : X → ℕ) (test : X → Bool) (xs : List X) (n : ℕ) → AllPairs (λ x y. key x ≢ key y) xs → list_any (λ x. (key x == n) && test x) xs ≡ true
    → (x : X) × (find (λ x. key x == n) xs ≡ Some x) × (test x ≡ true)
found_once key test [] n pairs some = no_truth false some refl
found_once {X} key test (x ∷ xs) n pairs some = by_key (key x == n) (test x) refl refl some (found_once key test xs n (λ i j d less within. pairs (suc i) (suc j) d (omega arith) (omega arith)))
  where
    others : All (λ y. key x ≢ key y) xs
    others k d within = pairs 0 (suc k) d (omega arith) (omega arith)

    none_later : (ys : List X) → All (λ y. key x ≢ key y) ys → key x ≡ n → list_any (λ y. (key y == n) && test y) ys ≡ false
    none_later [] apart at = refl
    none_later (y ∷ ys) apart at = by_y (key y == n) refl (none_later ys (All-tail (λ z. key x ≢ key z) y ys apart) at)
      where
        by_y : (b : Bool) → (key y == n) ≡ b → list_any (λ z. (key z == n) && test z) ys ≡ false → ((b && test y) || list_any (λ z. (key z == n) && test z) ys) ≡ false
        by_y true same rest = absurd (All-head (λ z. key x ≢ key z) y ys apart (at ∙ sym (eqb-true (key y) n same)))
        by_y false same rest = rest

    by_key : (here passes : Bool) → (key x == n) ≡ here → test x ≡ passes → ((here && passes) || list_any (λ y. (key y == n) && test y) xs) ≡ true
        → (list_any (λ y. (key y == n) && test y) xs ≡ true → (y : X) × (find (λ y. key y == n) xs ≡ Some y) × (test y ≡ true))
        → (y : X) × (cond here (Some x) (find (λ y. key y == n) xs) ≡ Some y) × (test y ≡ true)
    by_key true true at is more rest = (x, refl, is)
    by_key true false at is more rest = no_truth (list_any (λ y. (key y == n) && test y) xs) more (none_later xs others (eqb-true (key x) n at))
    by_key false passes at is more rest = rest more

-- what is found and passes
pub passes_found : {X : Type 0} (key test : X → Bool) (xs : List X) (x : X) → find key xs ≡ Some x → test x ≡ true → list_any (λ y. key y && test y) xs ≡ true
passes_found key test [] x is on = absurd cc
passes_found {X} key test (y ∷ ys) x is on = by_key (key y) is (λ found. passes_found key test ys x found on)
  where
    by_key : (here : Bool) → cond here (Some y) (find key ys) ≡ Some x → (find key ys ≡ Some x → list_any (λ z. key z && test z) ys ≡ true)
        → ((here && test y) || list_any (λ z. key z && test z) ys) ≡ true
    by_key true is rest = let same : y ≡ x = cc in or_true (test y) (list_any (λ z. key z && test z) ys) (ap test same ∙ on)
    by_key false is rest = rest is

-- what passes wherever it is found by its key
pub each_by_key : {X : Type 0} (key : X → ℕ) (test : X → Bool) (xs : List X) → AllPairs (λ x y. key x ≢ key y) xs
    → ((n : ℕ) (x : X) → find (λ y. key y == n) xs ≡ Some x → test x ≡ true) → list_all test xs ≡ true
each_by_key {X} key test xs pairs each = by_all (list_all test xs) refl
  where
    failing : (ys : List X) → list_all test ys ≡ false → (n : ℕ) × (list_any (λ y. (key y == n) && not (test y)) ys ≡ true)
    failing [] off = no_truth true refl off
    failing (y ∷ ys) off = by_test (test y) refl off (failing ys)
      where
        by_test : (b : Bool) → test y ≡ b → (b && list_all test ys) ≡ false → (list_all test ys ≡ false → (n : ℕ) × (list_any (λ z. (key z == n) && not (test z)) ys ≡ true))
            → (n : ℕ) × (((key y == n) && not (test y)) || list_any (λ z. (key z == n) && not (test z)) ys) ≡ true
        by_test true is all rest = let found = rest all in (found.0, or_more ((key y == found.0) && not (test y)) _ found.1)
        by_test false is all rest = (key y, rw (eq-eqb (key y) (key y) refl, is) refl)

    not_off : (b : Bool) → not b ≡ true → b ≡ false
    not_off true on = sym on
    not_off false on = refl

    by_all : (b : Bool) → list_all test xs ≡ b → list_all test xs ≡ true
    by_all true is = is
    by_all false is =
        let fails = failing xs is in
        let found = found_once key (λ y. not (test y)) xs fails.0 pairs fails.1 in
        no_truth (test found.0) (each fails.0 found.0 found.1) (not_off (test found.0) found.2)

-- ---- axes

pub axis_within : (job : JobView) → IsSoundJob job → (x : ℕ) → start.has_axis (start_of job) x ≡ true → x < length job.axes
unfolding start_of
axis_within job sound x there = by_line (slice_get job.axes x) refl
  where
    by_line : (o : Option AxisLine) → slice_get job.axes x ≡ o → x < length job.axes
    by_line None at = absurd (found_some (λ (e : ℕ × Option ℕ × ℤ). e.0 == x) (first_axes job) there (axis_found job sound x ∙ ap (option_map (first_axis x)) at))
    by_line (Some line) at = slice_get_within job.axes x line at

-- ---- zones

pub zone_there : (job : JobView) → IsSoundJob job → (z : ℕ) → is_zone (start_of job) z ≡ true → (zone : ZoneLine) × (zone_line job z ≡ Some zone)
unfolding start_of
zone_there job sound z there = by_line (zone_line job z) refl
  where
    by_line : (o : Option ZoneLine) → zone_line job z ≡ o → (zone : ZoneLine) × (o ≡ Some zone)
    by_line None at = absurd (found_some (λ (e : ℕ × List Bool × Option ℕ × Bool). e.0 == z) (first_zones job) there (zone_found job sound z ∙ ap (option_map first_zone) at))
    by_line (Some zone) at = (zone, refl)

pub axes_of_line : (job : JobView) → IsSoundJob job → (z : ℕ) (zone : ZoneLine) → zone_line job z ≡ Some zone → start.axes_of_zone (start_of job) z ≡ carriers zone
unfolding start_of
axes_of_line job sound z zone at =
    ap (λ (o : Option (ℕ × List Bool × Option ℕ × Bool)). option_map_or (λ line. line.1) o []) (zone_found job sound z ∙ ap (option_map first_zone) at)

pub holder_of_line : (job : JobView) → IsSoundJob job → (z : ℕ) (zone : ZoneLine) → zone_line job z ≡ Some zone → start.first_holder (start_of job) z ≡ zone.holder
unfolding start_of
holder_of_line job sound z zone at =
    ap (λ (o : Option (ℕ × List Bool × Option ℕ × Bool)). option_map_or (λ line. line.2) o None) (zone_found job sound z ∙ ap (option_map first_zone) at)

carriers_are : (zone : ZoneLine) (x : ℕ) → x < AXIS_LIMIT → has (carriers zone) x ≡ has_axis zone x
unfolding carriers
carriers_are zone x within = get_or-map-range_with_len (has_axis zone) 0 AXIS_LIMIT x x false within (zero-add x)

-- an axis of the zone
pub carrier_of : (job : JobView) → IsSoundJob job → (z : ℕ) (zone : ZoneLine) → zone_line job z ≡ Some zone → (x : ℕ) → has_axis zone x ≡ true
    → (x < AXIS_LIMIT) × (has (start.axes_of_zone (start_of job) z) x ≡ true)
carrier_of job sound z zone at x on =
    let few : length job.axes ≤ AXIS_LIMIT = sound.few_axes in
    let there : x < length job.axes = (carrier_there job zone (All-found (IsSoundZone job) (λ (l : ZoneLine). l.zone == z) job.zones zone sound.zones at) x on).0 in
    let within : x < AXIS_LIMIT = omega (arith, few, there) in
    (within, ap (λ (axes : List Bool). has axes x) (axes_of_line job sound z zone at) ∙ carriers_are zone x within ∙ on)

none_past : (zone : ZoneLine) (x : ℕ) → AXIS_LIMIT ≤ x → has (carriers zone) x ≡ false
unfolding carriers
none_past zone x past = has-past (carriers zone) x (subst (λ (n : ℕ). n ≤ x) (sym (length-map-range_with_len (has_axis zone) 0 AXIS_LIMIT)) past)

-- ---- the axes of a zone in a set

-- an axis that carries a zone is in each set that has all of it
pub in_all : (axes : List Bool) (zone : ZoneLine) (x : ℕ) → has_all_of axes zone ≡ true → has_axis zone x ≡ true → has axes x ≡ true
unfolding has_all_of has_axis
in_all axes zone x all on = by_sides zone.sides all on
  where
    by_carrier : (o : Option (ℕ × Bool)) → is_side_of axes o ≡ true → is_carrier x o ≡ true → has axes x ≡ true
    by_carrier None all on = no_truth false on refl
    by_carrier (Some carrier) all on = ap (has axes) (sym (eqb-true carrier.0 x on)) ∙ all

    by_sides : (sides : List Side) → list_all (λ side. is_side_of axes side.carrier) sides ≡ true → list_any (λ side. is_carrier x side.carrier) sides ≡ true → has axes x ≡ true
    by_sides [] all on = no_truth false on refl
    by_sides (side ∷ sides) all on =
        let parts = and_parts (is_side_of axes side.carrier) (list_all (λ s. is_side_of axes s.carrier) sides) all in
        by_here (is_carrier x side.carrier) refl on (by_sides sides parts.1)
      where
        by_here : (here : Bool) → is_carrier x side.carrier ≡ here → (here || list_any (λ s. is_carrier x s.carrier) sides) ≡ true
            → (list_any (λ s. is_carrier x s.carrier) sides ≡ true → has axes x ≡ true) → has axes x ≡ true
        by_here true is on rest = by_carrier side.carrier (and_parts (is_side_of axes side.carrier) (list_all (λ s. is_side_of axes s.carrier) sides) all).0 is
        by_here false is on rest = rest on

-- and a set that has each of them has all of it
pub all_of : (axes : List Bool) (zone : ZoneLine) → ((x : ℕ) → has_axis zone x ≡ true → has axes x ≡ true) → has_all_of axes zone ≡ true
unfolding has_all_of has_axis
all_of axes zone each = by_sides zone.sides each
  where
    by_carrier : (o : Option (ℕ × Bool)) → ((x : ℕ) → is_carrier x o ≡ true → has axes x ≡ true) → is_side_of axes o ≡ true
    by_carrier None each = refl
    by_carrier (Some carrier) each = each carrier.0 (eq-eqb carrier.0 carrier.0 refl)

    by_sides : (sides : List Side) → ((x : ℕ) → list_any (λ side. is_carrier x side.carrier) sides ≡ true → has axes x ≡ true) → list_all (λ side. is_side_of axes side.carrier) sides ≡ true
    by_sides [] each = refl
    by_sides (side ∷ sides) each =
        rw (by_carrier side.carrier (λ x on. each x (or_true (is_carrier x side.carrier) (list_any (λ s. is_carrier x s.carrier) sides) on))) (by_sides sides (λ x on. each x (or_more (is_carrier x side.carrier) (list_any (λ s. is_carrier x s.carrier) sides) on)))

-- one that has none of them has none of it
pub none_of : (axes : List Bool) (zone : ZoneLine) → ((x : ℕ) → has_axis zone x ≡ true → has axes x ≡ false) → has_none_of axes zone ≡ true
unfolding has_none_of has_axis
none_of axes zone each = by_sides zone.sides each
  where
    by_carrier : (o : Option (ℕ × Bool)) → ((x : ℕ) → is_carrier x o ≡ true → has axes x ≡ false) → is_side_apart axes o ≡ true
    by_carrier None each = refl
    by_carrier (Some carrier) each = ap not (each carrier.0 (eq-eqb carrier.0 carrier.0 refl))

    by_sides : (sides : List Side) → ((x : ℕ) → list_any (λ side. is_carrier x side.carrier) sides ≡ true → has axes x ≡ false) → list_all (λ side. is_side_apart axes side.carrier) sides ≡ true
    by_sides [] each = refl
    by_sides (side ∷ sides) each =
        rw (by_carrier side.carrier (λ x on. each x (or_true (is_carrier x side.carrier) (list_any (λ s. is_carrier x s.carrier) sides) on))) (by_sides sides (λ x on. each x (or_more (is_carrier x side.carrier) (list_any (λ s. is_carrier x s.carrier) sides) on)))

-- an axis of a zone that some axis carries
pub carried_by : (zone : ZoneLine) → is_carried zone ≡ true → (x : ℕ) × (has_axis zone x ≡ true)
unfolding is_carried has_axis
carried_by zone carried = by_sides zone.sides carried
  where
    by_sides : (sides : List Side) → list_any (λ side. is_some side.carrier) sides ≡ true → (x : ℕ) × (list_any (λ side. is_carrier x side.carrier) sides ≡ true)
    by_sides [] some = no_truth false some refl
    by_sides (side ∷ sides) some = by_carrier side.carrier some (by_sides sides)
      where
        by_carrier : (o : Option (ℕ × Bool)) → (is_some o || list_any (λ s. is_some s.carrier) sides) ≡ true
            → (list_any (λ s. is_some s.carrier) sides ≡ true → (x : ℕ) × (list_any (λ s. is_carrier x s.carrier) sides ≡ true))
            → (x : ℕ) × ((is_carrier x o || list_any (λ s. is_carrier x s.carrier) sides) ≡ true)
        by_carrier None some rest = rest some
        by_carrier (Some carrier) some rest = (carrier.0, rw (eq-eqb carrier.0 carrier.0 refl) refl)

not_carried : (zone : ZoneLine) → is_carried zone ≡ false → (x : ℕ) → has_axis zone x ≡ false
unfolding is_carried has_axis
not_carried zone still x = by_sides zone.sides still
  where
    by_sides : (sides : List Side) → list_any (λ side. is_some side.carrier) sides ≡ false → list_any (λ side. is_carrier x side.carrier) sides ≡ false
    by_sides [] none = refl
    by_sides (side ∷ sides) none = by_carrier side.carrier none (by_sides sides)
      where
        by_carrier : (o : Option (ℕ × Bool)) → (is_some o || list_any (λ s. is_some s.carrier) sides) ≡ false
            → (list_any (λ s. is_some s.carrier) sides ≡ false → list_any (λ s. is_carrier x s.carrier) sides ≡ false)
            → (is_carrier x o || list_any (λ s. is_carrier x s.carrier) sides) ≡ false
        by_carrier None none rest = rest none
        by_carrier (Some carrier) none rest = no_truth true refl none

-- a zone that no axis carries
pub no_carrier : (job : JobView) → IsSoundJob job → (z : ℕ) (zone : ZoneLine) → zone_line job z ≡ Some zone → is_carried zone ≡ false
    → (x : ℕ) → has (start.axes_of_zone (start_of job) z) x ≡ false
no_carrier job sound z zone at still x = ap (λ (axes : List Bool). has axes x) (axes_of_line job sound z zone at) ∙ by_place (le_or_lt AXIS_LIMIT x)
  where
    by_place : (AXIS_LIMIT ≤ x) ⊎ (x < AXIS_LIMIT) → has (carriers zone) x ≡ false
    by_place (inl past) = none_past zone x past
    by_place (inr within) = carriers_are zone x within ∙ not_carried zone still x

-- ---- programs

pub first_programs : (job : JobView) → IsSoundJob job → (d p : ℕ) → start.first_program (start_of job) d ≡ Some p → p < length job.programs
unfolding start_of
first_programs job sound d p is =
    by_line (line_of_channel job d)
    (ap (λ (o : Option (ℕ × Option ℕ × Bool)). option_map_or (λ line. line.1) o None) (sym (channel_found job sound d)) ∙ is)
  where
    by_name : (o : Option (List ℕ)) → option_and_then (place_of_name job) o ≡ Some p → p < length job.programs
    by_name None is = absurd cc
    by_name (Some name) is =
        subst (λ (n : ℕ). p < n) (length-map job.programs (λ (program : List ℕ × ProgramView). program.0)) (position-Some (bytes_eq name) (keys_of job.programs) p [] is).0

    by_line : (o : Option ChannelLine) → option_map_or (λ (e : ℕ × Option ℕ × Bool). e.1) (option_map (first_channel job) o) None ≡ Some p → p < length job.programs
    by_line None is = absurd cc
    by_line (Some line) is = by_name line.program is
