-- Who holds a zone, event by event: who lets its axes go held it, and who takes them takes them from nobody.
use Rattle.axis_sets.specs.declared.limits.TheConstants.{CHANNEL_LIMIT}
use Rattle.std.proofs.Common.{◌≡◌, ◌∙◌, inl, inr, ℕ, zero, suc, ◌==◌, ◌||◌, Bool, true, false, cond, List, [], ◌∷◌, ◌++◌, map, Option, None, Some, refl, sym, ap, subst}
use Rattle.std.specs.Prelude.{⊤}
use Rattle.std.specs.List.{list_any}
use Rattle.std.proofs.lemmas.Bool.{cases_Bool, eqb-true, eq-eqb, or_cases}
use Rattle.axis_sets.specs.Sets.{has, members_of}
use Rattle.board_laws.proofs.Footprint.{no_alarm}
use Rattle.board_laws.proofs.Zones.{zones_goes, zones_part, zones_step, zones_taking}
use Rattle.board_laws.specs.Zones.{Zones}
use Rattle.job_types.specs.Zones.{has_axis, is_carrier}
use Rattle.job_types.specs.declared.job.Side.{Side}
use Rattle.job_types.specs.declared.job.ZoneLine.{ZoneLine}
use Rattle.order_clocks.specs.Happenings.{axes_freed, happening_of}
use Rattle.zone_stretches.specs.Occurrences.{OccurrenceView, act_of, going_on_of, occurrences_in, occurrences_from}
use Rattle.zone_stretches.specs.Tenures.{carry, changes_hands, is_carried_by}
use Rattle.sync_types.proofs.BoardTests.{first_passes, no_truth, passes, not_not, some_pass}
use Rattle.sync_types.proofs.FreeTakings.{NobodyRobs, goes_rob_nobody, own_part_robs_nobody, step_robs_nobody, taking_robs_nobody}
use Rattle.sync_types.proofs.TakenAxes.{taken_is_free}
use Rattle.sync_types.specs.BoardActions.{after_part, after_own_part, axes_to_free, carries, channels_started, holder_after, ownership_after}
use Rattle.sync_types.specs.BoardAlarms.{alarm_of, lets_go_of_others}
use Rattle.sync_types.specs.Boards.{Ownership, OwnedBy, FreeAt, Board, among, channel_numbers, is_free, is_this, owner_of, owns}
use Rattle.sync_types.specs.GoingOn.{Going, after_goes, after_taking, all_takings, axes_to_take, can_take, going_at_once, going_of_start, going_of_taker, goers_at_once, goings_on, holder_after_taking, next_taker, takings, takings_from}
use Rattle.sync_types.specs.Starts.{axes_of_zone}
use Rattle.sync_types.specs.Turns.{Move, after_step, goings_in_step}
use Rattle.sync_types.specs.declared.Action.{Action}
use Rattle.sync_types.specs.declared.Action.TheVariants.{Release}
use Rattle.sync_types.specs.declared.Step.{Step}

-- ---- axes that carry a zone

carries_none : (carrier : Option (ℕ × Bool)) → is_carried_by (λ axis. false) carrier ≡ false
carries_none None = refl
carries_none (Some carrier) = refl

any_none : (sides : List Side) → list_any (λ side. is_carried_by (λ axis. false) side.carrier) sides ≡ false
any_none [] = refl
any_none (side ∷ sides) = rw (carries_none side.carrier) (any_none sides)

pub carry_none : (zone : ZoneLine) → carry zone (λ axis. false) ≡ false
carry_none zone = any_none zone.sides

or_here : (p q : Bool) → p ≡ true → (p || q) ≡ true
or_here true q on = refl
or_here false q on = no_truth false on refl

or_there : (p q : Bool) → q ≡ true → (p || q) ≡ true
or_there true q on = refl
or_there false q on = on

carrier_from : (test : ℕ → Bool) (carrier : Option (ℕ × Bool)) → is_carried_by test carrier ≡ true → (x : ℕ) × (is_carrier x carrier ≡ true) × (test x ≡ true)
carrier_from test None on = no_truth false on refl
carrier_from test (Some carrier) on = (carrier.0, eq-eqb carrier.0 carrier.0 refl, on)

carrier_to : (test : ℕ → Bool) (carrier : Option (ℕ × Bool)) (x : ℕ) → is_carrier x carrier ≡ true → test x ≡ true → is_carried_by test carrier ≡ true
carrier_to test None x is on = no_truth false is refl
carrier_to test (Some carrier) x is on = ap test (eqb-true carrier.0 x is) ∙ on

sides_from : (test : ℕ → Bool) (sides : List Side) → list_any (λ side. is_carried_by test side.carrier) sides ≡ true
    → (x : ℕ) × (list_any (λ side. is_carrier x side.carrier) sides ≡ true) × (test x ≡ true)
sides_from test [] on = no_truth false on refl
sides_from test (side ∷ sides) on = elim (or_cases (is_carried_by test side.carrier) (list_any (λ s. is_carried_by test s.carrier) sides) on) [
  | inl here ↦ let w = carrier_from test side.carrier here in (w.0, or_here (is_carrier w.0 side.carrier) (list_any (λ s. is_carrier w.0 s.carrier) sides) w.1, w.2)
  | inr later ↦ let w = sides_from test sides later in (w.0, or_there (is_carrier w.0 side.carrier) (list_any (λ s. is_carrier w.0 s.carrier) sides) w.1, w.2)
]

sides_to : (test : ℕ → Bool) (sides : List Side) (x : ℕ) → list_any (λ side. is_carrier x side.carrier) sides ≡ true → test x ≡ true → list_any (λ side. is_carried_by test side.carrier) sides ≡ true
sides_to test [] x is on = no_truth false is refl
sides_to test (side ∷ sides) x is on = elim (or_cases (is_carrier x side.carrier) (list_any (λ s. is_carrier x s.carrier) sides) is) [
  | inl here ↦ or_here (is_carried_by test side.carrier) (list_any (λ s. is_carried_by test s.carrier) sides) (carrier_to test side.carrier x here on)
  | inr later ↦ or_there (is_carried_by test side.carrier) (list_any (λ s. is_carried_by test s.carrier) sides) (sides_to test sides x later on)
]

-- an axis of the zone passes the test
pub carry_from : (zone : ZoneLine) (test : ℕ → Bool) → carry zone test ≡ true → (x : ℕ) × (has_axis zone x ≡ true) × (test x ≡ true)
unfolding has_axis
carry_from zone test on = sides_from test zone.sides on

pub carry_to : (zone : ZoneLine) (test : ℕ → Bool) (x : ℕ) → has_axis zone x ≡ true → test x ≡ true → carry zone test ≡ true
unfolding has_axis
carry_to zone test x is on = sides_to test zone.sides x is on

-- ---- boards that have the zone

-- the board has the zone with its axes
abbrev pub IsFor : ZoneLine → Board → Type 0
IsFor zone b = (x : ℕ) → has (axes_of_zone b.start zone.zone) x ≡ has_axis zone x

any_from : (test : ℕ → Bool) (xs : List ℕ) → list_any test xs ≡ true → (x : ℕ) × (among xs x ≡ true) × (test x ≡ true)
any_from test [] on = no_truth false on refl
any_from test (y ∷ ys) on = elim (or_cases (test y) (list_any test ys) on) [
  | inl here ↦ (y, or_here (y == y) (among ys y) (eq-eqb y y refl), here)
  | inr later ↦ let w = any_from test ys later in (w.0, or_there (y == w.0) (among ys w.0) w.1, w.2)
]

alike : (s t : Bool) → (s ≡ true → t ≡ true) → (t ≡ true → s ≡ true) → s ≡ t
alike true t to from = sym (to refl)
alike false true to from = from refl
alike false false to from = refl

carries_alike : (b : Board) (zone : ZoneLine) (xs : List ℕ) → IsFor zone b → carries b xs zone.zone ≡ carry zone (among xs)
carries_alike b zone xs for =
    alike (carries b xs zone.zone) (carry zone (among xs))
    (λ on. let w = any_from (has (axes_of_zone b.start zone.zone)) xs on in carry_to zone (among xs) w.0 (sym (for w.0) ∙ w.2) w.1)
    (λ on. let w = carry_from zone (among xs) on in some_pass (has (axes_of_zone b.start zone.zone)) xs w.0 w.2 (for w.0 ∙ w.1))

-- ---- hands

-- who holds the zone after an event
abbrev pub owner_next : ZoneLine → Option ℕ → OccurrenceView → Option ℕ
owner_next zone owner o = cond (changes_hands zone o) (cond (carry zone o.takes) (Some o.channel) None) owner

abbrev pub owners_next : ZoneLine → Option ℕ → List OccurrenceView → Option ℕ
owners_next zone owner [] = owner
owners_next zone owner (o ∷ os) = owners_next zone (owner_next zone owner o) os

-- who lets axes of the zone go holds it then, and lets all go; and nobody holds it where they are taken
abbrev pub HandsAre : ZoneLine → Option ℕ → List OccurrenceView → Type 0
HandsAre zone owner [] = ⊤
HandsAre zone owner (o ∷ os) =
    (carry zone o.frees ≡ true → owner ≡ Some o.channel) × (carry zone o.frees ≡ true → (x : ℕ) → has_axis zone x ≡ true → o.frees x ≡ true) × (carry zone o.takes ≡ true → owner ≡ None)
    × HandsAre zone (owner_next zone owner o) os

hands-append : (zone : ZoneLine) (owner : Option ℕ) (os ps : List OccurrenceView) → HandsAre zone owner os → HandsAre zone (owners_next zone owner os) ps → HandsAre zone owner (os ++ ps)
hands-append zone owner [] ps hands rest = rest
hands-append zone owner (o ∷ os) ps hands rest = (hands.0, hands.1, hands.2, hands-append zone (owner_next zone owner o) os ps hands.3 rest)

pub owners-append : (zone : ZoneLine) (owner : Option ℕ) (os ps : List OccurrenceView) → owners_next zone owner (os ++ ps) ≡ owners_next zone (owners_next zone owner os) ps
owners-append zone owner [] ps = refl
owners-append zone owner (o ∷ os) ps = owners-append zone (owner_next zone owner o) os ps

-- ---- an act

free_none : (a : Ownership) → is_free a ≡ true → owner_of a ≡ None
free_none (OwnedBy c) free = no_truth false free refl
free_none (FreeAt p) free = refl

owned_some : (o : Option ℕ) (c : ℕ) → is_this o c ≡ true → o ≡ Some c
owned_some (Some d) c on = ap (λ (k : ℕ). Some k) (eqb-true d c on)
owned_some None c on = no_truth false on refl

freed_owned : (b : Board) (c : ℕ) (action : Action) (x : ℕ) → lets_go_of_others b c action ≡ false → among (axes_to_free action) x ≡ true → owns b c x ≡ true
freed_owned b c (Release axes) x own on = passes (owns b c) (members_of axes) x (not_not _ own) on
freed_owned b c other x own on = no_truth false on refl

-- who lets axes of the zone go holds it
pub release_holds : (b : Board) (c : ℕ) (step : Step) (zone : ZoneLine) → Zones b → IsFor zone b → carry zone (among (happening_of b c step).frees) ≡ true → b.holder zone.zone ≡ Some c
release_holds b c step zone zones for on = by_alarm (alarm_of b c step.action) refl on
  where
    by_alarm : (a : Option ℕ) → alarm_of b c step.action ≡ a → carry zone (among (axes_freed a step.action)) ≡ true → b.holder zone.zone ≡ Some c
    by_alarm (Some code) is none = no_truth (carry zone (λ axis. false)) none (carry_none zone)
    by_alarm None is freed =
        let w = carry_from zone (among (axes_to_free step.action)) freed in
        let mine : owns b c w.0 ≡ true = freed_owned b c step.action w.0 (no_alarm b c step.action is).own w.2 in
        sym (zones.owner zone.zone w.0 (for w.0 ∙ w.1)) ∙ owned_some (owner_of (b.axis w.0)) c mine

-- and lets all of them go
none_owned : (a : Ownership) (c : ℕ) → owner_of a ≡ Some c → owner_of a ≡ None → ⊥
none_owned a c some none = let bad : None ≡ Some c = sym none ∙ some in cc

pub release_frees : (b : Board) (c : ℕ) (step : Step) (zone : ZoneLine) → Zones b → IsFor zone b → carry zone (among (happening_of b c step).frees) ≡ true
    → (x : ℕ) → has_axis zone x ≡ true → among (happening_of b c step).frees x ≡ true
unfolding ownership_after holder_after
release_frees b c step zone zones for on x axis = by_alarm (alarm_of b c step.action) refl on (zones_part b c step zones)
  where
    holds : b.holder zone.zone ≡ Some c
    holds = release_holds b c step zone zones for on

    by_alarm : (a : Option ℕ) → alarm_of b c step.action ≡ a → carry zone (among (axes_freed a step.action)) ≡ true → Zones (after_part b c step a) → among (axes_freed a step.action) x ≡ true
    by_alarm (Some code) is none later = no_truth (carry zone (λ axis. false)) none (carry_none zone)
    by_alarm None is freed later = elim (cases_Bool (among (axes_to_free step.action) x)) [
      | inl freed_too ↦ freed_too
      | inr stays ↦
          let there : has (axes_of_zone b.start zone.zone) x ≡ true = for x ∙ axis in
          let carried : carries b (axes_to_free step.action) zone.zone ≡ true = carries_alike b zone (axes_to_free step.action) for ∙ freed in
          let after = later.owner zone.zone x there in
          let none : owner_of (b.axis x) ≡ None = rw (stays, carried) at after in
          absurd (none_owned (b.axis x) c (zones.owner zone.zone x there ∙ holds) none)
    ]

act_owner : (zone : ZoneLine) (owner : Option ℕ) (i c : ℕ) (b : Board) (step : Step)
    → owner_next zone owner (act_of i step (happening_of b c step)) ≡ cond (carry zone (among (happening_of b c step).frees)) None owner
act_owner zone owner i c b step = rw (carry_none zone) (by_test (carry zone (among (happening_of b c step).frees)))
  where
    by_test : (t : Bool) → cond (t || false) None owner ≡ cond t None owner
    by_test true = refl
    by_test false = refl

-- the holder after the channel's own part
part_holder : (b : Board) (c : ℕ) (step : Step) (zone : ZoneLine) → IsFor zone b
    → (after_own_part b c step).holder zone.zone ≡ cond (carry zone (among (happening_of b c step).frees)) None (b.holder zone.zone)
unfolding holder_after
part_holder b c step zone for = by_alarm (alarm_of b c step.action)
  where
    by_alarm : (a : Option ℕ) → (after_part b c step a).holder zone.zone ≡ cond (carry zone (among (axes_freed a step.action))) None (b.holder zone.zone)
    by_alarm (Some code) = rw (carry_none zone) refl
    by_alarm None = rw (carries_alike b zone (axes_to_free step.action) for) refl

-- ---- those that go on

going_owner : (zone : ZoneLine) (owner : Option ℕ) (i : ℕ) (all : List Going) (g : Going) → owner_next zone owner (going_on_of i all g) ≡ cond (carry zone (among g.took)) (Some g.channel) owner
going_owner zone owner i all g = rw (carry_none zone) (by_test (carry zone (among g.took)))
  where
    by_test : (t : Bool) → cond t (cond t (Some g.channel) None) owner ≡ cond t (Some g.channel) owner
    by_test true = refl
    by_test false = refl

-- those that take nothing
bare_hands : (zone : ZoneLine) (owner : Option ℕ) (i : ℕ) (all : List Going) (f : ℕ → Going) (cs : List ℕ) → ((c : ℕ) → (f c).took ≡ [])
    → HandsAre zone owner (map (going_on_of i all) (map f cs)) × (owners_next zone owner (map (going_on_of i all) (map f cs)) ≡ owner)
bare_hands zone owner i all f [] none = (tt, refl)
bare_hands zone owner i all f (c ∷ cs) none =
    let off : carry zone (among (f c).took) ≡ false = ap (λ (xs : List ℕ). carry zone (among xs)) (none c) ∙ carry_none zone in
    let same : owner_next zone owner (going_on_of i all (f c)) ≡ owner = going_owner zone owner i all (f c) ∙ rw off refl in
    let rest = bare_hands zone owner i all f cs none in (
      (
        (λ on. no_truth (carry zone (λ axis. false)) on (carry_none zone)),
        (λ on. no_truth (carry zone (λ axis. false)) on (carry_none zone)),
        (λ on. no_truth (carry zone (among (f c).took)) on off),
        subst (λ (p : Option ℕ). HandsAre zone p (map (going_on_of i all) (map f cs))) (sym same) rest.0,
      ),
      subst (λ (p : Option ℕ). owners_next zone p (map (going_on_of i all) (map f cs)) ≡ owner) (sym same) rest.1,
    )

-- who takes the axes of a zone takes them from nobody
taker_none : (b : Board) (c : ℕ) (zone : ZoneLine) → NobodyRobs b → can_take b c ≡ true → Zones b → IsFor zone b → carry zone (among (axes_to_take b c)) ≡ true → b.holder zone.zone ≡ None
taker_none b c zone none takes zones for on =
    let w = carry_from zone (among (axes_to_take b c)) on in
    sym (zones.owner zone.zone w.0 (for w.0 ∙ w.1)) ∙ free_none (b.axis w.0) (taken_is_free b c w.0 (none c) takes w.2)

taker_holder : (b : Board) (c : ℕ) (zone : ZoneLine) → IsFor zone b → (after_taking b c).holder zone.zone ≡ cond (carry zone (among (axes_to_take b c))) (Some c) (b.holder zone.zone)
unfolding holder_after_taking
taker_holder b c zone for = rw (carries_alike b zone (axes_to_take b c) for) refl

-- along the takings of a step
record TakenOn (zone : ZoneLine) (i : ℕ) (all goings : List Going) (b after : Board) : Type 0 where
  hands : HandsAre zone (b.holder zone.zone) (map (going_on_of i all) goings)
  holder : owners_next zone (b.holder zone.zone) (map (going_on_of i all) goings) ≡ after.holder zone.zone
  start : after.start ≡ b.start

takings_hands : (n : ℕ) (b : Board) (zone : ZoneLine) (i : ℕ) (all : List Going) → NobodyRobs b → Zones b → IsFor zone b → TakenOn zone i all (takings n b).goings b (takings n b).board
takings_hands zero b zone i all none zones for = record { hands = tt; holder = refl; start = refl }
takings_hands (suc n) b zone i all none zones for = next (takings_hands n) (next_taker b) refl
  where
    next : ((a : Board) (z : ZoneLine) (j : ℕ) (gs : List Going) → NobodyRobs a → Zones a → IsFor z a → TakenOn z j gs (takings n a).goings a (takings n a).board)
        → (taker : Option ℕ) → next_taker b ≡ taker → TakenOn zone i all (takings_from (takings n) b taker).goings b (takings_from (takings n) b taker).board
    next rest None is = record { hands = tt; holder = refl; start = refl }
    next rest (Some c) is =
        let more = rest (after_taking b c) zone i all (taking_robs_nobody b c none) (zones_taking b c zones) for in
        let gs : List Going = (takings n (after_taking b c)).goings in
        let same : owner_next zone (b.holder zone.zone) (going_on_of i all (going_of_taker b c)) ≡ (after_taking b c).holder zone.zone =
        going_owner zone (b.holder zone.zone) i all (going_of_taker b c) ∙ sym (taker_holder b c zone for) in
        record {
          hands = (
            (λ on. no_truth (carry zone (λ axis. false)) on (carry_none zone)),
            (λ on. no_truth (carry zone (λ axis. false)) on (carry_none zone)),
            (λ on. taker_none b c zone none (first_passes (can_take b) channel_numbers c is) zones for on),
            subst (λ (p : Option ℕ). HandsAre zone p (map (going_on_of i all) gs)) (sym same) more.hands,
          );
          holder = subst (λ (p : Option ℕ). owners_next zone p (map (going_on_of i all) gs) ≡ (takings n (after_taking b c)).board.holder zone.zone) (sym same) more.holder;
          start = more.start;
        }

-- ---- a step, and the run

map-append : {A C : Type 0} (f : A → C) (xs ys : List A) → map f (xs ++ ys) ≡ map f xs ++ map f ys
map-append f [] ys = refl
map-append f (x ∷ xs) ys = ap (λ (rest : List _). f x ∷ rest) (map-append f xs ys)

goings_hands : (b : Board) (starts : List ℕ) (zone : ZoneLine) (i : ℕ) (all : List Going) → NobodyRobs b → Zones b → IsFor zone b → TakenOn zone i all (goings_on b starts) b (all_takings (after_goes b)).board
goings_hands b starts zone i all none zones for =
    let one = bare_hands zone (b.holder zone.zone) i all (going_of_start b) starts (λ c. refl) in
    let two = bare_hands zone (b.holder zone.zone) i all (going_at_once b) (goers_at_once b) (λ c. refl) in
    let three = takings_hands CHANNEL_LIMIT (after_goes b) zone i all (goes_rob_nobody b none) (zones_goes b zones) for in
    let started : List OccurrenceView = map (going_on_of i all) (map (going_of_start b) starts) in
    let at_once : List OccurrenceView = map (going_on_of i all) (map (going_at_once b) (goers_at_once b)) in
    let takers : List OccurrenceView = map (going_on_of i all) (all_takings (after_goes b)).goings in
    let parts : map (going_on_of i all) (goings_on b starts) ≡ started ++ (at_once ++ takers) =
    map-append (going_on_of i all) (map (going_of_start b) starts) (map (going_at_once b) (goers_at_once b) ++ (all_takings (after_goes b)).goings)
    ∙ ap (λ (os : List OccurrenceView). started ++ os) (map-append (going_on_of i all) (map (going_at_once b) (goers_at_once b)) (all_takings (after_goes b)).goings) in
    let later : HandsAre zone (b.holder zone.zone) (at_once ++ takers) =
    hands-append zone (b.holder zone.zone) at_once takers two.0 (subst (λ (p : Option ℕ). HandsAre zone p takers) (sym two.1) three.hands) in
    record {
      hands = subst (λ (os : List OccurrenceView). HandsAre zone (b.holder zone.zone) os) (sym parts)
          (hands-append zone (b.holder zone.zone) started (at_once ++ takers) one.0 (subst (λ (p : Option ℕ). HandsAre zone p (at_once ++ takers)) (sym one.1) later));
      holder = ap (owners_next zone (b.holder zone.zone)) parts
          ∙ owners-append zone (b.holder zone.zone) started (at_once ++ takers)
          ∙ ap (λ (p : Option ℕ). owners_next zone p (at_once ++ takers)) one.1
          ∙ owners-append zone (b.holder zone.zone) at_once takers
          ∙ ap (λ (p : Option ℕ). owners_next zone p takers) two.1
          ∙ three.holder;
      start = three.start;
    }

start_of_part : (b : Board) (c : ℕ) (step : Step) (alarm : Option ℕ) → (after_part b c step alarm).start ≡ b.start
start_of_part b c step (Some code) = refl
start_of_part b c step None = refl

pub step_hands : (b : Board) (m : Move) (zone : ZoneLine) (i : ℕ) → NobodyRobs b → Zones b → IsFor zone b
    → HandsAre zone (b.holder zone.zone) (occurrences_in i m.step (happening_of b m.channel m.step))
    × (owners_next zone (b.holder zone.zone) (occurrences_in i m.step (happening_of b m.channel m.step)) ≡ (after_step b m.channel m.step).holder zone.zone)
    × IsFor zone (after_step b m.channel m.step)
step_hands b m zone i none zones for =
    let own : Board = after_own_part b m.channel m.step in
    let goings : List Going = goings_in_step b m.channel m.step in
    let kept : own.start ≡ b.start = start_of_part b m.channel m.step (alarm_of b m.channel m.step.action) in
    let for_own : IsFor zone own = λ x. ap (λ s. has (axes_of_zone s zone.zone) x) kept ∙ for x in
    let rest = goings_hands own (channels_started (alarm_of b m.channel m.step.action) m.step.action) zone i goings (own_part_robs_nobody b m.channel m.step none) (zones_part b m.channel m.step zones) for_own in
    let same : owner_next zone (b.holder zone.zone) (act_of i m.step (happening_of b m.channel m.step)) ≡ own.holder zone.zone =
    act_owner zone (b.holder zone.zone) i m.channel b m.step ∙ sym (part_holder b m.channel m.step zone for) in (
      (
        (λ on. release_holds b m.channel m.step zone zones for on),
        (λ on. release_frees b m.channel m.step zone zones for on),
        (λ on. no_truth (carry zone (λ axis. false)) on (carry_none zone)),
        subst (λ (p : Option ℕ). HandsAre zone p (map (going_on_of i goings) goings)) (sym same) rest.hands,
      ),
      subst (λ (p : Option ℕ). owners_next zone p (map (going_on_of i goings) goings) ≡ (after_step b m.channel m.step).holder zone.zone) (sym same) rest.holder,
      λ x. ap (λ s. has (axes_of_zone s zone.zone) x) (rest.start ∙ kept) ∙ for x,
    )

-- along the events of a run
pub run_hands : (ms : List Move) (b : Board) (zone : ZoneLine) (i : ℕ) → NobodyRobs b → Zones b → IsFor zone b → HandsAre zone (b.holder zone.zone) (occurrences_from b i ms)
run_hands [] b zone i none zones for = tt
run_hands (m ∷ ms) b zone i none zones for =
    let here = step_hands b m zone i none zones for in
    hands-append zone (b.holder zone.zone) (occurrences_in i m.step (happening_of b m.channel m.step)) (occurrences_from (after_step b m.channel m.step) (suc i) ms) here.0
    (subst (λ (p : Option ℕ). HandsAre zone p (occurrences_from (after_step b m.channel m.step) (suc i) ms)) (sym here.1)
    (run_hands ms (after_step b m.channel m.step) zone (suc i) (step_robs_nobody b m.channel m.step none) (zones_step b m.channel m.step zones) here.2))
