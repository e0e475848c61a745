-- What the channels of an accepted job do: in every run they know where their axes stand, move their own axes alone, and tell which
-- of their zones are on.
use Rattle.axis_sets.specs.declared.limits.TheConstants.{AXIS_LIMIT, ZONE_LIMIT, ZONE_PLACES}
use Rattle.std.proofs.Common.{◌≡◌, ◌⊎◌, ◌∙◌, ℕ, ℤ, ◌≤◌, ◌<◌, ◌==◌, Bool, true, false, cond, inl, inr, List, [], ◌∷◌, ◌++◌, length, find, get_or, take, Contains, is_some, Option, None, Some, unwrap_or, All, zero-add, refl, sym, ap, subst, arith}
use Rattle.std.proofs.lemmas.Bool.{eqb-true, eq-eqb}
use Rattle.std.proofs.lemmas.List.{get_or_past}
use Rattle.std.proofs.lemmas.List.Elements.{All-contains, All-head, All-tail, All-weaker}
use Rattle.std.proofs.lemmas.List.FromFn.{get_or-map-range_with_len, length-map-range_with_len}
use Rattle.std.specs.Option.{option_map_or}
use Rattle.axis_sets.specs.Positions.{position_of}
use Rattle.axis_sets.specs.Sets.{has}
use Rattle.channel_machine.proofs.StartLaws.{start_sound}
use Rattle.channel_machine.specs.Run.{owned_at}
use Rattle.channel_machine.specs.StartStates.{start_of}
use Rattle.job_types.specs.Job.{JobView}
use Rattle.job_types.specs.SoundJob.{IsSoundJob, IsSoundZone}
use Rattle.job_types.specs.declared.job.ZoneLine.{ZoneLine}
use Rattle.number_laws.proofs.Lists.{All-found, by_places, found_passes}
use Rattle.path_geometry.specs.Motions.{axes_of, IsSound}
use Rattle.product_run.proofs.GoodBoards.{IsGoodState}
use Rattle.product_run.proofs.GoodRuns.{good_beginning, good_stage, has_within, script_moves}
use Rattle.product_run.proofs.Motions.{moves_from, step_places}
use Rattle.product_run.proofs.OwnedRuns.{own_run, running_got}
use Rattle.product_run.proofs.Switching.{owner_is, owns_its_grant}
use Rattle.coord_core.proofs.Usage.{no_usage, usage_from}
use Rattle.product_run.proofs.ZoneSteps.{script_switches, switched, switched_by}
use Rattle.product_run.specs.RunLaws as laws
use Rattle.product_run.specs.RunLaws.{MovesSoundly}
use Rattle.channel_machine.specs.Scripts.{script_of, segment_after}
use Rattle.zone_stretches.specs.ZoneBoxes.{moves_zone, seen, sight_of, stand_after}
use Rattle.zone_stretches.specs.declared.sights.ZoneEffect.TheVariants.{Nothing, Turns, Moves}
use Rattle.schedule_laws.specs.Schedules.{IsRunOf}
use Rattle.speed_laws.proofs.KnownZones.{grant_tells}
use Rattle.speed_laws.proofs.Positions.{left_at-cons}
use Rattle.speed_laws.proofs.Runs.{Follow, All-place, all_join, left_at_same}
use Rattle.speed_laws.specs.DoingLaws.{AreSound, MovesItsAxes, TellTheBoard, TellsWhereAxesStand, TellsWhereItsAxesStand, TellsWhichZonesAreOn, stage_by}
use Rattle.speed_laws.specs.Doings.{on_after, stands_after, stands_before, turned}
use Rattle.speed_laws.specs.JoinedItems.{AllJoin}
use Rattle.sync_types.proofs.BoardTests.{no_truth}
use Rattle.sync_types.proofs.Positions.{left_at-nil}
use Rattle.sync_types.specs.Boards.{Board, IsRunning, is_running, owner_of}
use Rattle.sync_types.specs.Items.{left_at, movement_of}
use Rattle.sync_types.specs.Runs.{Stage, first_stage}
use Rattle.sync_types.specs.declared.Grant.{Grant}
use Rattle.sync_types.specs.declared.Item.{Item}
use Rattle.sync_types.specs.declared.Part.{Part}
use Rattle.sync_types.specs.declared.Part.TheVariants as part
use Rattle.turnmill.proofs.JobStands.{StandAlike, stand_alike, was_last}
use Rattle.turnmill.specs.JobDoings.{doings_of}

-- ---- rows of positions

le_or_lt : (a b : ℕ) → (a ≤ b) ⊎ (b < a)
le_or_lt a b = grind arith

-- an axis of the set is told
told_at : (axes : List Bool) (at : ℕ → ℤ) (x : ℕ) → x < AXIS_LIMIT → has axes x ≡ true → position_of (owned_at axes at) x ≡ Some (at x)
told_at axes at x within on = get_or-map-range_with_len (λ (y : ℕ). cond (has axes y) (Some (at y)) None) 0 AXIS_LIMIT x x None within (zero-add x) ∙ rw on refl

-- and no other
untold_at : (axes : List Bool) (at : ℕ → ℤ) (x : ℕ) → has axes x ≡ false → position_of (owned_at axes at) x ≡ None
untold_at axes at x off = by_place (le_or_lt AXIS_LIMIT x)
  where
    row : ℕ → Option ℤ
    row y = cond (has axes y) (Some (at y)) None

    by_place : (AXIS_LIMIT ≤ x) ⊎ (x < AXIS_LIMIT) → position_of (owned_at axes at) x ≡ None
    by_place (inl past) =
        let long = length-map-range_with_len row 0 AXIS_LIMIT in
        get_or_past (owned_at axes at) x None (omega (arith, long, past))
    by_place (inr within) = get_or-map-range_with_len row 0 AXIS_LIMIT x x None within (zero-add x) ∙ rw off refl

-- ---- axes that do not move

-- the item moves axes of the set alone
abbrev MovesAmong : List Bool → Item → Type 0
MovesAmong axes item = All (λ e. has axes e.0 ≡ true) (axes_of (movement_of item))

stays : (axes : List Bool) (item : Item) (at : ℕ → ℤ) (x : ℕ) → MovesAmong axes item → has axes x ≡ false → stand_after item at x ≡ at x
unfolding stand_after
stays axes item at x among off = by_found (find (λ e. e.0 == x) (axes_of (movement_of item))) refl
  where
    by_found : (o : Option (ℕ × ℤ × ℤ)) → find (λ e. e.0 == x) (axes_of (movement_of item)) ≡ o → option_map_or (λ e. e.2) o (at x) ≡ at x
    by_found None is = refl
    by_found (Some e) is =
        let same : e.0 ≡ x = eqb-true e.0 x (found_passes (λ (f : ℕ × ℤ × ℤ). f.0 == x) (axes_of (movement_of item)) e is) in
        let on : has axes e.0 ≡ true = All-found (λ (f : ℕ × ℤ × ℤ). has axes f.0 ≡ true) (λ f. f.0 == x) (axes_of (movement_of item)) e among is in
        no_truth (has axes x) (subst (λ (n : ℕ). has axes n ≡ true) same on) off

left_there : (axes : List Bool) (items : List Item) (at : ℕ → ℤ) (x : ℕ) → All (MovesAmong axes) items → has axes x ≡ false → left_at items at x ≡ at x
left_there axes [] at x among off = left_at-nil at x
left_there axes (item ∷ items) at x among off =
    left_at-cons item items at x
    ∙ left_there axes items (stand_after item at) x (All-tail (MovesAmong axes) item items among) off
    ∙ stays axes item at x (All-head (MovesAmong axes) item items among) off

-- ---- switches

turned_same : (zone : ZoneLine) (on : Bool) (item : Item) → turned on (seen zone item) ≡ switched zone.zone on item.part
turned_same zone on item = by_part item.part
  where
    by_part : (p : Part) → turned on (sight_of zone item p) ≡ switched zone.zone on p
    by_part (part.Move motion) = by_sight (moves_zone zone item)
      where
        by_sight : (moves : Bool) → turned on (cond moves Moves Nothing) ≡ on
        by_sight true = refl
        by_sight false = refl
    by_part (part.Switch number new) = by_number (number == zone.zone)
      where
        by_number : (here : Bool) → turned on (cond here (Turns new) Nothing) ≡ cond here new on
        by_number true = refl
        by_number false = refl

switched_same : (zone : ZoneLine) (on : Bool) (items : List Item) → switched_by zone.zone on items ≡ on_after zone on items
switched_same zone on [] = refl
switched_same zone on (item ∷ items) =
    ap (λ (now : Bool). switched_by zone.zone now items) (sym (turned_same zone on item)) ∙ switched_same zone (turned on (seen zone item)) items

-- ---- a channel that runs, in a run of an accepted job

module _ (job : JobView) (sound : IsSoundJob job) (cs : List ℕ) (run : IsRunOf (script_of job) (start_of job) cs) (c : ℕ) where
  abbrev stage : Stage
  stage = stage_by job (doings_of job) cs

  abbrev b : Board
  b = stage.board

  abbrev items_by_grants : List Grant → List Item
  items_by_grants grants = (segment_after job c grants).items

  sound_motions : All (λ item. IsSound (movement_of item)) (items_by_grants (stage.grants c))
  sound_motions =
      All-weaker MovesSoundly (λ item. IsSound (movement_of item)) (λ item moves. moves.sound) (items_by_grants (stage.grants c))
      (script_moves job c (stage.grants c) ((good_stage job (first_stage (start_of job)) cs (good_beginning job sound)).grants c))

  -- with the grants that it has got, this last
  module _ (made : List Grant) (grant : Grant) (got : stage.grants c ≡ made ++ grant ∷ []) (runs : b.state c ≡ IsRunning grant) where
    abbrev grants : List Grant
    grants = made ++ grant ∷ []

    within_row : (x : ℕ) → has grant.axes x ≡ true → x < AXIS_LIMIT
    within_row x on = has_within grant.axes x
        (subst IsGoodState runs ((good_stage job (first_stage (start_of job)) cs (good_beginning job sound)).board.states c)).axes on

    alike : (x : ℕ) → has grant.axes x ≡ true → laws.stands_before job c grants x ≡ stands_before job (doings_of job) c grants x
    alike x on = (subst (StandAlike job c) got (stand_alike job sound cs run c)).alike x (within_row x on) (was_last made grant x ∙ on)

    moves_among : All (MovesAmong grant.axes) (items_by_grants grants)
    moves_among = by_places (MovesAmong grant.axes) (items_by_grants grants) (λ place item is. (moves_from job c made grant place item is).owned)

    tells : TellsWhereAxesStand job (doings_of job) c grants
    unfolding stands_after
    tells = record { tells = λ x. by_axis x (has grant.axes x) refl }
      where
        places : (script_of job c grants).at ≡ owned_at grant.axes (left_at (items_by_grants grants) (laws.stands_before job c grants))
        places = step_places job c made grant

        by_axis : (x : ℕ) (on : Bool) → has grant.axes x ≡ on
            → unwrap_or (position_of (script_of job c grants).at x) (stands_before job (doings_of job) c grants x) ≡ stands_after job (doings_of job) c grants x
        by_axis x true is =
            ap (λ (row : List (Option ℤ)). unwrap_or (position_of row x) (stands_before job (doings_of job) c grants x)) places
            ∙ ap (λ (o : Option ℤ). unwrap_or o (stands_before job (doings_of job) c grants x))
            (told_at grant.axes (left_at (items_by_grants grants) (laws.stands_before job c grants)) x (within_row x is) is)
            ∙ left_at_same (items_by_grants grants) (laws.stands_before job c grants) (stands_before job (doings_of job) c grants) x (alike x is)
        by_axis x false is =
            ap (λ (row : List (Option ℤ)). unwrap_or (position_of row x) (stands_before job (doings_of job) c grants x)) places
            ∙ ap (λ (o : Option ℤ). unwrap_or o (stands_before job (doings_of job) c grants x))
            (untold_at grant.axes (left_at (items_by_grants grants) (laws.stands_before job c grants)) x is)
            ∙ sym (left_there grant.axes (items_by_grants grants) (stands_before job (doings_of job) c grants) x moves_among is)

    motions_here : All (λ item. IsSound (movement_of item)) (items_by_grants grants)
    motions_here = subst (λ (gs : List Grant). All (λ item. IsSound (movement_of item)) (items_by_grants gs)) got sound_motions

    follow : Follow grant.axes (stands_before job (doings_of job) c grants) (items_by_grants grants)
    follow place item is =
        let motion = moves_from job c made grant place item is in
        let before : List Item = take place (items_by_grants grants) in
        record {
          once = motion.once;
          owned = motion.owned;
          begins = λ k d within.
              let e : ℕ × ℤ × ℤ = get_or (axes_of (movement_of item)) k d in
              motion.begins k d within
              ∙ left_at_same before (laws.stands_before job c grants) (stands_before job (doings_of job) c grants) e.0 (alike e.0 (motion.owned k d within));
          in_range = motion.in_range;
          sound = λ in_range. All-place (λ i. IsSound (movement_of i)) (items_by_grants grants) motions_here place item is;
        }

    joined : AllJoin (stands_before job (doings_of job) c grants) (items_by_grants grants)
    joined = all_join grant.axes (stands_before job (doings_of job) c grants) (items_by_grants grants) follow motions_here

    owned : All (λ item. All (λ e. owner_of (b.axis e.0) ≡ Some c) (axes_of (movement_of item))) (items_by_grants grants)
    owned =
        All-weaker (MovesAmong grant.axes) (λ item. All (λ e. owner_of (b.axis e.0) ≡ Some c) (axes_of (movement_of item)))
        (λ item among. All-weaker (λ e. has grant.axes e.0 ≡ true) (λ e. owner_of (b.axis e.0) ≡ Some c)
        (λ e on. owner_is (owner_of (b.axis e.0)) c (sym (owns_its_grant job cs c grant (sound, run) runs e.0 (within_row e.0 on)) ∙ on))
        (axes_of (movement_of item)) among)
        (items_by_grants grants) moves_among

    told_there : (x : ℕ) → x < AXIS_LIMIT → owner_of (b.axis x) ≡ Some c → is_some (position_of (script_of job c grants).at x) ≡ true
    told_there x within own =
        let on : has grant.axes x ≡ true = owns_its_grant job cs c grant (sound, run) runs x within ∙ rw own (eq-eqb c c refl) in
        ap (λ (row : List (Option ℤ)). is_some (position_of row x)) (step_places job c made grant)
        ∙ ap (λ (o : Option ℤ). is_some o) (told_at grant.axes (left_at (items_by_grants grants) (laws.stands_before job c grants)) x within on)

    switched_on : (zone : ZoneLine) → IsSoundZone job zone → b.holder zone.zone ≡ Some c
        → has (script_of job c grants).on zone.zone ≡ on_after zone (b.is_on zone.zone) (items_by_grants grants)
    switched_on zone sides held =
        let told = grant_tells zone.zone sides.low_number sides.high_number (script_of job) (start_of job) (start_sound job sound) cs c grant runs held in
        let high : zone.zone ≤ ZONE_LIMIT = sides.high_number in
        let row : length grant.on ≡ ZONE_PLACES = told.row in
        script_switches job c made grant zone.zone (omega (arith, high, row))
        ∙ ap (λ (on : Bool). switched_by zone.zone on (items_by_grants grants)) told.told
        ∙ switched_same zone (b.is_on zone.zone) (items_by_grants grants)

  -- its last grant
  abbrev HasLast : Type 0
  HasLast = (made : List Grant) × (grant : Grant) × (stage.grants c ≡ made ++ grant ∷ []) × (b.state c ≡ IsRunning grant)

  has_last : is_running (b.state c) ≡ true → HasLast
  has_last running =
      let usage = usage_from (script_of job) (first_stage (start_of job)) no_usage cs in
      let last = running_got stage usage c (own_run job sound cs run).accords running in
      (usage c, last.0, last.1, last.2)

  tells_where : is_running (b.state c) ≡ true → TellsWhereAxesStand job (doings_of job) c (stage.grants c)
  tells_where running =
      let (made, grant, got, runs) = has_last running in
      subst (TellsWhereAxesStand job (doings_of job) c) (sym got) (tells made grant got runs)

  moves_its_axes : is_running (b.state c) ≡ true → MovesItsAxes job (doings_of job) stage c
  moves_its_axes running =
      let (made, grant, got, runs) = has_last running in
      record {
        joined = subst (λ (gs : List Grant). AllJoin (stands_before job (doings_of job) c gs) (items_by_grants gs)) (sym got) (joined made grant got runs);
        owned = subst (λ (gs : List Grant). All (λ item. All (λ e. owner_of (b.axis e.0) ≡ Some c) (axes_of (movement_of item))) (items_by_grants gs)) (sym got) (owned made grant got runs);
      }

  -- the step of a channel has those zones on that its items left on, of the zones that it holds
  pub switches_told : is_running (b.state c) ≡ true → (zone : ZoneLine) → Contains job.zones zone → TellsWhichZonesAreOn job (doings_of job) stage c zone
  switches_told running zone line held =
      let (made, grant, got, runs) = has_last running in
      subst (λ (gs : List Grant). has (script_of job c gs).on zone.zone ≡ on_after zone (b.is_on zone.zone) (items_by_grants gs)) (sym got)
      (switched_on made grant got runs zone (All-contains (IsSoundZone job) job.zones zone sound.zones line) held)

  -- the step tells where each axis of the channel stands
  pub places_told : is_running (b.state c) ≡ true → TellsWhereItsAxesStand (doings_of job) stage c
  places_told running x within own =
      let (made, grant, got, runs) = has_last running in
      subst (λ (gs : List Grant). is_some (position_of (script_of job c gs).at x) ≡ true) (sym got) (told_there made grant got runs x within own)

-- ---- in every run

nothing_at_rest : (job : JobView) (c : ℕ) → (doings_of job).items c [] ≡ []
unfolding segment_after
nothing_at_rest job c = refl

-- they know where their axes stand, and move their own axes alone
pub sound_doings : (job : JobView) → IsSoundJob job → AreSound job (doings_of job)
sound_doings job sound = record {
  tell = record { idle = nothing_at_rest job; in_runs = λ cs c run running. tells_where job sound cs run c running };
  move = λ cs c run running. moves_its_axes job sound cs run c running;
}

-- and their steps tell the board where all their axes stand, and which of their zones are on
pub tell_the_board : (job : JobView) → IsSoundJob job → TellTheBoard job (doings_of job)
tell_the_board job sound = record {
  places = λ cs c run running. places_told job sound cs run c running;
  zones = λ cs c zone run running line. switches_told job sound cs run c running zone line;
}
