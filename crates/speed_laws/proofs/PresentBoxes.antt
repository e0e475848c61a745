-- In each state a zone that is on is in a piece of a box of its present stretch.
use Rattle.std.proofs.Common.{◌≡◌, ◌∙◌, ℕ, ℤ, ◌<◌, Bool, true, false, cond, ◌==◌, List, [], take, find, slice_index_or, None, Some, inl, inr, refl, sym, ap, ap₂, subst, arith}
use Rattle.std.proofs.lemmas.Bool.{cases_Bool}
use Rattle.axis_sets.specs.Sets.{has}
use Rattle.channel_machine.specs.StartStates.{start_of}
use Rattle.job_types.specs.Job.{JobView}
use Rattle.job_types.specs.SoundJob.{IsSoundJob, IsSoundZone}
use Rattle.job_types.specs.Zones.{has_axis}
use Rattle.job_types.specs.declared.job.ZoneLine.{ZoneLine}
use Rattle.number_laws.proofs.Lists.{SomeOf}
use Rattle.number_laws.specs.Fractions.{Fraction, IsIn, whole}
use Rattle.path_geometry.specs.Path.{Point}
use Rattle.speed_laws.proofs.RunBoards.{IsRunBoard, run_board_first}
use Rattle.zone_stretches.specs.SoundStretches.{IsZoneOf}
use Rattle.zone_stretches.specs.Spans.{SpanStartView, entry_of_beginning, is_on_at_first}
use Rattle.zone_stretches.specs.Stretches.{StretchView, free_stretch, stretch_of_span}
use Rattle.zone_stretches.specs.Tenures.{TenureView}
use Rattle.zone_stretches.specs.ZoneBoxes.{boxes_of}
use Rattle.schedule_laws.specs.Schedules.{IsQuietRun}
use Rattle.speed_laws.proofs.BoxPieces.{AxesWithin}
use Rattle.speed_laws.proofs.ComparedPairs.{HoldsPlace, IsInPiece}
use Rattle.speed_laws.proofs.Covers.{Covers, box_covers, place_fraction}
use Rattle.speed_laws.proofs.FreeZones.{BeginsAsBoard, StandsNow}
use Rattle.speed_laws.proofs.HandedAxes.{keeps_first, keeps_run}
use Rattle.speed_laws.proofs.PresentSpans.{ItemsAre, PresentSpan}
use Rattle.speed_laws.proofs.ReachActs.{is_placed, stands_still}
use Rattle.speed_laws.proofs.RunPlaces.{WellSpotted, run_zones}
use Rattle.speed_laws.proofs.Standing.{made_stand}
use Rattle.speed_laws.proofs.Positions.{one_under}
use Rattle.speed_laws.proofs.StretchBoxes.{first_on, in_stretch, standing_covers}
use Rattle.speed_laws.proofs.SwitchedZones.{made_on}
use Rattle.speed_laws.proofs.ZoneLemmas.{FractionsWithin}
use Rattle.speed_laws.specs.DoingLaws.{AreSound}
use Rattle.speed_laws.specs.Doings.{Doings, on_after}
use Rattle.speed_laws.specs.Histories.{items_by}
use Rattle.speed_laws.specs.JoinedItems.{AllJoin}
use Rattle.speed_laws.specs.Places.{IsAtPlace}
use Rattle.speed_laws.specs.Safety.{on_now, on_with, owner_now, position_now, IsInZone, fraction_of}
use Rattle.speed_laws.specs.SmallSteps.{begins_at, items_now, place_zero, runs, spot_now, Spot, State}
use Rattle.swept_boxes.specs.Boxes.{SpacePoint}
use Rattle.sync_types.specs.Boards.{Board, FreeAt, is_running, owner_of}
use Rattle.sync_types.specs.Runs.{Stage, first_stage, stage_after}
use Rattle.sync_types.specs.Starts.{axes_of_zone}
use Rattle.sync_types.specs.Views.{RunView}
use Rattle.sync_types.specs.declared.Item.{Item}

-- ---- where a zone is

module _ (job : JobView) (doings : Doings) (sound : IsSoundJob job) (are : AreSound job doings) (qs : List ℕ) (quiet : IsQuietRun doings.script (start_of job) qs)
    (state : State) (well : WellSpotted job doings quiet.sound state) (zone : ZoneLine) (z : IsSoundZone job zone) (there : IsZoneOf (start_of job) zone) (found : find (λ o. o.zone == zone.zone) job.zones ≡ Some zone) where
  abbrev stage : Stage
  stage = stage_after doings.script (first_stage (start_of job)) state.run

  abbrev board : Board
  board = (stage_after doings.script (first_stage (start_of job)) state.run).board

  zones_now : IsRunBoard board
  zones_now = run_zones job doings quiet.sound state.run (first_stage (start_of job)) (run_board_first (start_of job) quiet.sound)

  start_now : board.start ≡ start_of job
  start_now = (keeps_run doings.script (start_of job) (first_stage (start_of job)) state.run (run_board_first (start_of job) quiet.sound) well.run (keeps_first (start_of job))).start

  -- its axes are its holder's
  carrier_owner : (axis : ℕ) → has_axis zone axis ≡ true → owner_of (board.axis axis) ≡ board.holder zone.zone
  carrier_owner axis carries =
      zones_now.zones.owner zone.zone axis (ap (λ s. has (axes_of_zone s zone.zone) axis) start_now ∙ there.axes axis ∙ carries)

  within_by : (here : Point) → ((axis : ℕ) → has_axis zone axis ≡ true → position_now job doings state axis ≡ fraction_of here axis) → 0 < here.under
      → (low high : ℕ → ℤ) → AxesWithin zone low high here → FractionsWithin zone low high (position_now job doings state)
  within_by here at some low high within = λ axis carries.
      subst (λ (f : Fraction). (0 < f.under) × IsIn (low axis) (high axis) f.top f.under) (sym (at axis carries)) (some, within axis carries)

  -- where its axes are
  held_position : (c : ℕ) → board.holder zone.zone ≡ Some c → (axis : ℕ) → has_axis zone axis ≡ true → position_now job doings state axis ≡ fraction_of (spot_now job doings state c).point axis
  unfolding position_now owner_now
  held_position c held axis carries = rw (carrier_owner axis carries ∙ held) refl

  free_there : (axis : ℕ) (position : ℤ) → board.axis axis ≡ FreeAt position → position_now job doings state axis ≡ whole position
  unfolding position_now owner_now
  free_there axis position free = rw free refl

  held_on : (c : ℕ) → board.holder zone.zone ≡ Some c → on_now job doings state zone ≡ on_with job doings state zone c
  unfolding on_now
  held_on c held = rw held refl

  free_on : board.holder zone.zone ≡ None → on_now job doings state zone ≡ board.is_on zone.zone
  unfolding on_now
  free_on free = rw free refl

  -- ---- its present stretch

  -- a stretch of the zone that is so
  abbrev pub IsSeen : StretchView → Type 0
  IsSeen = StandsNow job doings qs state.run quiet well.run zone sound there found

  abbrev rows : List (List Item)
  rows = items_by doings (first_stage (start_of job)) qs

  module _ (run : RunView) (items : run.items ≡ items_by doings (first_stage (start_of job)) qs) (on : on_now job doings state zone ≡ true) (point : SpacePoint) (in_zone : IsInZone job.margin (position_now job doings state) zone point) where
    abbrev places : ℕ → ℕ
    places c = (spot_now job doings state c).place

    abbrev InBox : StretchView → Type 0
    InBox stretch = SomeOf (λ box. HoldsPlace places stretch box × IsInPiece job run point zone stretch box) stretch.boxes

    free_in_box : board.holder zone.zone ≡ None → (t : TenureView) → BeginsAsBoard zone board t → InBox (free_stretch job zone t)
    free_in_box free t stands =
        let here : Point = record { top = t.begins.at; under = 1 } in
        in_stretch job run (position_now job doings state) zone z.directions None t.begins t.last (entry_of_beginning t.begins) [] places 0 here tt
        (within_by here (λ axis carries. free_there axis (t.begins.at axis) (stands.at axis carries)) (omega arith)) point in_zone
        (standing_covers zone (slice_index_or run.items (entry_of_beginning t.begins) []) t.begins.line t.begins.at (t.begins.on zone.zone) here (stands.on ∙ sym (free_on free) ∙ on) (λ axis carries. one_under (t.begins.at axis)))

    module _ (c : ℕ) (held : board.holder zone.zone ≡ Some c) (span : PresentSpan job doings qs state.run quiet well.run c) where
      abbrev begins : SpanStartView
      begins = span.span.begins

      -- the span begins where the channel's axes stand
      stands_there : begins.at ≡ begins_at job doings state c
      unfolding begins_at runs
      stands_there = span.at ∙ made_stand job doings sound are.tell state.run quiet.sound well.run (items_by doings (first_stage (start_of job)) state.run) c

      first_switched : (first_stage (start_of job)).board.holder zone.zone ≡ Some c → is_on_at_first job zone.zone ≡ (first_stage (start_of job)).board.is_on zone.zone
      first_switched held_first = sym (first_on job sound zone found)

      -- with the zone on, or not, as the board has it
      switched_there : begins.on zone.zone ≡ board.is_on zone.zone
      switched_there =
          ap (λ (f : ℕ → Bool). f zone.zone) span.on
          ∙ made_on doings zone.zone z.low_number z.high_number state.run (first_stage (start_of job)) 0 (items_by doings (first_stage (start_of job)) state.run) c (is_on_at_first job)
          (run_board_first (start_of job) quiet.sound) well.run first_switched held

      held_within : (here : Point) → (spot_now job doings state c).point ≡ here → 0 < here.under → (low high : ℕ → ℤ) → AxesWithin zone low high here → FractionsWithin zone low high (position_now job doings state)
      held_within here at some = within_by here (λ axis carries. held_position c held axis carries ∙ ap (λ (p : Point). fraction_of p axis) at) some

      -- it runs
      running_in_box : runs job doings state c ≡ true → InBox (stretch_of_span job zone c span.span)
      unfolding runs items_now on_with begins_at
      running_in_box on_run =
          let spot = spot_now job doings state c in
          let items_are = subst (λ (t : Bool). ItemsAre doings rows stage c t span.span) on_run span.items in
          let placed = is_placed job doings quiet.sound state well c in
          let joins : AllJoin (begins_at job doings state c) span.span.items = subst (λ (xs : List Item). AllJoin (begins_at job doings state c) xs) (sym items_are.0) (are_joined on_run) in
          let here = subst (λ (xs : List Item). IsAtPlace (begins_at job doings state c) xs spot.place spot.point) (sym items_are.0) placed in
          let on_there : on_after zone (begins.on zone.zone) (take spot.place span.span.items) ≡ true =
          ap₂ (λ (b : Bool) (xs : List Item). on_after zone b (take spot.place xs)) switched_there items_are.0 ∙ running_on on_run in
          let covered = box_covers zone begins.line (begins_at job doings state c) (begins.on zone.zone) span.span.items joins spot.place spot.point here on_there in
          in_stretch job run (position_now job doings state) zone z.directions (Some c) begins span.span.last span.span.entry span.span.items places spot.place spot.point refl
          (held_within spot.point refl (place_fraction (begins_at job doings state c) span.span.items spot.place spot.point here)) point in_zone
          (subst (λ (xs : List Item). SomeOf (Covers zone xs spot.place spot.point) (boxes_of zone (begins.on zone.zone) begins.line begins.at span.span.items)) (items_are.1 ∙ ap (λ (rs : List (List Item)). slice_index_or rs span.span.entry []) (sym items))
          (subst (λ (at : ℕ → ℤ). SomeOf (Covers zone span.span.items spot.place spot.point) (boxes_of zone (begins.on zone.zone) begins.line at span.span.items)) (sym stands_there) covered))
        where
          are_joined : is_running (board.state c) ≡ true → AllJoin (begins_at job doings state c) (doings.items c (stage.grants c))
          are_joined on_run = rw on_run (are.move state.run c well.run on_run).joined

          running_on : is_running (board.state c) ≡ true → on_after zone (board.is_on zone.zone) (take (spot_now job doings state c).place (doings.items c (stage.grants c))) ≡ true
          running_on on_run = by_test (is_running (board.state c)) on_run (sym (held_on c held) ∙ on)
            where
              by_test : (t : Bool) → t ≡ true → cond t (on_after zone (board.is_on zone.zone) (take (spot_now job doings state c).place (doings.items c (stage.grants c)))) (board.is_on zone.zone) ≡ true
                  → on_after zone (board.is_on zone.zone) (take (spot_now job doings state c).place (doings.items c (stage.grants c))) ≡ true
              by_test true is e = e
              by_test false is e = absurd cc

      -- it stands
      standing_in_box : runs job doings state c ≡ false → InBox (stretch_of_span job zone c span.span)
      unfolding runs place_zero on_with
      standing_in_box rests =
          let none : span.span.items ≡ [] = subst (λ (t : Bool). ItemsAre doings rows stage c t span.span) rests span.items in
          let still = stands_still job doings quiet.sound state well c rests in
          let here : Point = record { top = begins_at job doings state c; under = 1 } in
          let at_place : places c ≡ 0 = ap (λ (s : Spot). s.place) still in
          let at_point : (spot_now job doings state c).point ≡ here = ap (λ (s : Spot). s.point) still in
          let on_there : begins.on zone.zone ≡ true = switched_there ∙ resting_on rests in
          in_stretch job run (position_now job doings state) zone z.directions (Some c) begins span.span.last span.span.entry span.span.items places 0 here at_place
          (held_within here at_point (omega arith)) point in_zone
          (subst (λ (xs : List Item). SomeOf (Covers zone (slice_index_or run.items span.span.entry []) 0 here) (boxes_of zone (begins.on zone.zone) begins.line begins.at xs)) (sym none)
          (standing_covers zone (slice_index_or run.items span.span.entry []) begins.line begins.at (begins.on zone.zone) here on_there
          (λ axis carries. ap (λ (at : ℕ → ℤ). at axis) (sym stands_there) ∙ one_under (begins.at axis))))
        where
          resting_on : is_running (board.state c) ≡ false → board.is_on zone.zone ≡ true
          resting_on rests = by_test (is_running (board.state c)) rests (sym (held_on c held) ∙ on)
            where
              by_test : (t : Bool) → t ≡ false → cond t (on_after zone (board.is_on zone.zone) (take (spot_now job doings state c).place (items_now job doings state c))) (board.is_on zone.zone) ≡ true
                  → board.is_on zone.zone ≡ true
              by_test true is e = absurd cc
              by_test false is e = e

      held_in_box : InBox (stretch_of_span job zone c span.span)
      held_in_box = elim (cases_Bool (runs job doings state c)) [ inl on_run ↦ running_in_box on_run | inr rests ↦ standing_in_box rests ]

    -- whichever it is
    pub seen_in_box : (stretch : StretchView) → IsSeen stretch → SomeOf (λ box. HoldsPlace (λ c. (spot_now job doings state c).place) stretch box × IsInPiece job run point zone stretch box) stretch.boxes
    seen_in_box stretch (inl held) = subst InBox (sym held.3) (held_in_box held.0 held.1 held.2)
    seen_in_box stretch (inr free) = subst InBox (sym free.3) (free_in_box free.0 free.1 free.2)
