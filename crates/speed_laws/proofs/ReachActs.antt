-- Each channel that runs can go on to where it acts, and its motions join.
use Rattle.std.proofs.Common.{◌≡◌, ℕ, zero, suc, ◌-◌, ◌≤◌, Bool, true, false, cond, ◌==◌, List, [], ◌∷◌, length, Option, None, Some, IfSome, slice_get, refl, sym, subst, arith}
use Rattle.std.proofs.lemmas.Bool.{eqb-true, eq-eqb}
use Rattle.std.specs.Option.{option_map_or}
use Rattle.channel_machine.specs.StartStates.{start_of}
use Rattle.job_types.specs.Job.{JobView}
use Rattle.path_geometry.specs.Path.{Point}
use Rattle.speed_laws.proofs.PlaceEnds.{last_end, place_within}
use Rattle.speed_laws.proofs.Positions.{begins_at_left, one_under}
use Rattle.speed_laws.proofs.RunPlaces.{IsSpot, WellSpotted, opening_spotted, well_spotted}
use Rattle.speed_laws.specs.DoingLaws.{AreSound, stage_by}
use Rattle.speed_laws.specs.Doings.{Doings, stands_before}
use Rattle.speed_laws.specs.JoinedItems.{AllJoin}
use Rattle.speed_laws.specs.Places.{IsEndOf, IsAtPlace, IsAtEnd}
use Rattle.speed_laws.specs.Safety.{CanAct, MotionsJoin}
use Rattle.speed_laws.specs.SmallSteps.{span_number, runs, items_now, begins_at, place_zero, spot_now, after_small_step, after_small_steps, IsLawfulStep, AreLawfulSteps, Spot, State, SmallStep, Advance, Act, opening}
use Rattle.sync_types.specs.Starts.{IsSound}
use Rattle.sync_types.specs.declared.Item.{Item}

-- each motion begins where those before it left the axes
pub motions_join : (job : JobView) (doings : Doings) → AreSound job doings → MotionsJoin job doings
motions_join job doings are turns channel place item run running is =
    begins_at_left (stands_before job doings channel ((stage_by job doings turns).grants channel)) (doings.items channel ((stage_by job doings turns).grants channel))
    (are.move turns channel run running).joined place item is

module _ (job : JobView) (doings : Doings) (start_sound : IsSound (start_of job)) where
  -- ---- where a channel is

  module _ (state : State) (well : WellSpotted job doings start_sound state) (c : ℕ) where
    abbrev Place : Spot → Type 0
    Place spot = IsAtPlace (begins_at job doings state c) (items_now job doings state c) spot.place spot.point

    at_zero : Place (place_zero job doings state c)
    unfolding place_zero
    at_zero = record { fraction = omega arith; stand = λ axis. one_under (begins_at job doings state c axis) }

    -- it is at a place of its present items
    pub is_placed : Place (spot_now job doings state c)
    unfolding spot_now
    is_placed = by_spot (state.spots c) (well.spots c)
      where
        by_spot : (o : Option Spot) → IfSome o (IsSpot job doings start_sound state c)
            → Place (option_map_or (λ spot. cond (spot.span == span_number job doings state c) spot (place_zero job doings state c)) o (place_zero job doings state c))
        by_spot None is = at_zero
        by_spot (Some spot) is = by_span (spot.span == span_number job doings state c) refl
          where
            by_span : (t : Bool) → (spot.span == span_number job doings state c) ≡ t → Place (cond t spot (place_zero job doings state c))
            by_span true same = (is.placed (eqb-true spot.span (span_number job doings state c) same)).1
            by_span false apart = at_zero

    -- and one that does not run is at place 0
    pub stands_still : runs job doings state c ≡ false → spot_now job doings state c ≡ place_zero job doings state c
    unfolding spot_now
    stands_still rests = by_spot (state.spots c) (well.spots c)
      where
        by_spot : (o : Option Spot) → IfSome o (IsSpot job doings start_sound state c)
            → option_map_or (λ spot. cond (spot.span == span_number job doings state c) spot (place_zero job doings state c)) o (place_zero job doings state c) ≡ place_zero job doings state c
        by_spot None is = refl
        by_spot (Some spot) is = by_span (spot.span == span_number job doings state c) refl
          where
            by_span : (t : Bool) → (spot.span == span_number job doings state c) ≡ t → cond t spot (place_zero job doings state c) ≡ place_zero job doings state c
            by_span true same = let on : runs job doings state c ≡ true = (is.placed (eqb-true spot.span (span_number job doings state c) same)).0 in absurd cc
            by_span false apart = refl

    -- ---- steps

    -- from here it can go on to where it acts
    abbrev pub CanActFrom : Type 0
    CanActFrom = (more : List SmallStep) × AreLawfulSteps job doings state more × IsLawfulStep job doings (after_small_steps job doings state more) (Act c)

    runs_on : (place : ℕ) (point : Point) → runs job doings state c ≡ true → runs job doings (after_small_step job doings state (Advance c place point)) c ≡ true
    unfolding runs after_small_step
    runs_on place point running = running

    is_there : (place : ℕ) (point : Point) → spot_now job doings (after_small_step job doings state (Advance c place point)) c ≡ record { span = span_number job doings state c; place = place; point = point }
    unfolding spot_now span_number after_small_step
    is_there place point = rw (eq-eqb c c refl, eq-eqb (span_number job doings state c) (span_number job doings state c) refl) refl

    items_on : (place : ℕ) (point : Point) → items_now job doings (after_small_step job doings state (Advance c place point)) c ≡ items_now job doings state c
    unfolding items_now after_small_step
    items_on place point = refl

    -- it advances to the end of its last item
    advances : runs job doings state c ≡ true → (place : ℕ) (point : Point) → (spot_now job doings state c).place ≤ place → IsAtPlace (begins_at job doings state c) (items_now job doings state c) place point
        → IsAtEnd (items_now job doings state c) place point → CanActFrom
    unfolding IsLawfulStep
    advances running place point on there end = (
      Advance c place point ∷ [],
      ((running, on, there), tt),
      (
        runs_on place point running,
        subst (λ (items : List Item). IsAtEnd items (spot_now job doings (after_small_step job doings state (Advance c place point)) c).place (spot_now job doings (after_small_step job doings state (Advance c place point)) c).point)
            (sym (items_on place point)) (subst (λ (s : Spot). IsAtEnd (items_now job doings state c) s.place s.point) (sym (is_there place point)) end),
      ),
    )

    joins : AreSound job doings → runs job doings state c ≡ true → AllJoin (begins_at job doings state c) (items_now job doings state c)
    unfolding begins_at items_now runs
    joins are running = rw running (are.move state.run c well.run running).joined

    goes_on : AreSound job doings → runs job doings state c ≡ true → CanActFrom
    unfolding IsLawfulStep
    goes_on are running = by_length (length (items_now job doings state c)) refl
      where
        within : (spot_now job doings state c).place ≤ length (items_now job doings state c)
        within = place_within (begins_at job doings state c) (items_now job doings state c) (spot_now job doings state c).place (spot_now job doings state c).point is_placed

        no_last : (items : List Item) → length items ≡ 0 → (k : ℕ) (point : Point) → IfSome (slice_get items k) (λ item. IsEndOf item point)
        no_last [] long k point = tt
        no_last (item ∷ items) long k point = absurd cc

        by_length : (n : ℕ) → length (items_now job doings state c) ≡ n → CanActFrom
        by_length zero none =
            ([], tt, (running, (omega (arith, within), no_last (items_now job doings state c) none ((spot_now job doings state c).place - 1) (spot_now job doings state c).point)))
        by_length (suc n) long =
            let last = last_end (begins_at job doings state c) (items_now job doings state c) (joins are running) n long in
            advances running (suc n) last.0 (omega (arith, within)) last.1 last.2

  -- from every state that small steps reach
  pub can_act : AreSound job doings → CanAct job doings
  can_act are steps channel lawful running = goes_on (after_small_steps job doings opening steps)
      (well_spotted job doings start_sound opening steps (opening_spotted job doings start_sound) lawful) channel are running
