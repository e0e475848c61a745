-- In each run of an accepted job a segment switches zones that its channel holds.
use Rattle.axis_sets.specs.declared.limits.TheConstants.{AXIS_LIMIT}
use Rattle.std.proofs.Common.{◌≡◌, ◌∙◌, ℕ, zero, suc, ◌<◌, Bool, true, false, cond, List, [], ◌∷◌, ◌++◌, length, slice_get, Option, Some, None, refl, sym, ap, subst, eqb-true, eq-eqb}
use Rattle.axis_sets.specs.Sets.{has}
use Rattle.channel_machine.specs.Coordination.{has_all_of, holds_zone, is_carried, is_held}
use Rattle.job_types.specs.Zones.{zone_line}
use Rattle.channel_machine.specs.StartStates.{start_of}
use Rattle.coordination_words.specs.Settings.{SettingView}
use Rattle.job_types.specs.Axes.{is_of}
use Rattle.job_types.specs.Job.{JobView}
use Rattle.job_types.specs.SoundJob.{IsSoundJob}
use Rattle.job_types.specs.declared.job.ZoneLine.{ZoneLine}
use Rattle.product_run.proofs.AskedSegments.{AllSwitchHeld, SwitchesHeld}
use Rattle.product_run.proofs.JobStarts.{carried_by, carrier_of, found_once, holder_of_line, in_all, no_carrier}
use Rattle.product_run.proofs.KeptMachines.{IsKept}
use Rattle.product_run.proofs.OwnedRuns.{asked_after, found_by, own_run, running_got}
use Rattle.product_run.proofs.Owning.{IsOwnState}
use Rattle.coord_core.proofs.Usage.{Usage, no_usage, usage_from}
use Rattle.product_run.specs.RunLaws.{HoldsZone, OwnsItsGrant, SwitchesWhatItHolds, run_stage}
use Rattle.channel_machine.specs.Scripts.{script_of, segment_after}
use Rattle.sync_types.proofs.BoardTests.{no_truth}
use Rattle.sync_types.specs.Boards.{State, Board, is_this, owner_of, owns}
use Rattle.sync_types.specs.Runs.{Stage, first_stage}
use Rattle.sync_types.specs.Starts.{axes_of_zone, first_holder}
use Rattle.sync_types.specs.Views.{StartView}
use Rattle.sync_types.specs.declared.Grant.{Grant}
use Rattle.sync_types.specs.declared.Item.{Item}
use Rattle.sync_types.specs.declared.Part.{Part}

held_at : (setting : SettingView) (items : List Item) → AllSwitchHeld setting items → (place : ℕ) (item : Item) → slice_get items place ≡ Some item → SwitchesHeld setting item.part
held_at setting [] all place item is = absurd cc
held_at setting (first ∷ items) all zero item is = let same : first ≡ item = cc in subst (λ (i : Item). SwitchesHeld setting i.part) same all.0
held_at setting (first ∷ items) all (suc place) item is = held_at setting items all.1 place item is

pub owner_is : (o : Option ℕ) (c : ℕ) → is_this o c ≡ true → o ≡ Some c
owner_is None c is = no_truth false is refl
owner_is (Some d) c is = ap (λ (n : ℕ). Some n) (eqb-true d c is)

of_channel : (o : Option ℕ) (c : ℕ) → is_of c o ≡ true → o ≡ Some c
of_channel None c is = no_truth false is refl
of_channel (Some d) c is = ap (λ (n : ℕ). Some n) (eqb-true d c is)

-- the line of a zone that a channel with these axes holds
held_line : (job : JobView) → IsSoundJob job → (c : ℕ) (axes : List Bool) (z : ℕ) → holds_zone c job.zones axes z ≡ true
    → (zone : ZoneLine) × (zone_line job z ≡ Some zone) × (is_held c axes zone ≡ true)
unfolding holds_zone
held_line job sound c axes z holds = found_once (λ (l : ZoneLine). l.zone) (is_held c axes) job.zones z sound.zone_numbers holds

-- on a board where the channel owns these axes
module _ (job : JobView) (sound : IsSoundJob job) (count : ℕ) (b : Board) (at : b.start ≡ start_of job) (k : IsKept count b) (c : ℕ) (axes : List Bool)
    (own : (x : ℕ) → x < AXIS_LIMIT → has axes x ≡ owns b c x) where
  from_start : (z x : ℕ) → has (axes_of_zone (start_of job) z) x ≡ true → has (axes_of_zone b.start z) x ≡ true
  from_start z x on = ap (λ (s : StartView). has (axes_of_zone s z) x) at ∙ on

  pub holder_there : (z : ℕ) (zone : ZoneLine) → zone_line job z ≡ Some zone → is_held c axes zone ≡ true → b.holder z ≡ Some c
  unfolding is_held
  holder_there z zone line held = by_carried (is_carried zone) refl held
    where
      by_carried : (carried : Bool) → is_carried zone ≡ carried → cond carried (has_all_of axes zone) (is_of c zone.holder) ≡ true → b.holder z ≡ Some c
      by_carried true is held =
          let some = carried_by zone is in
          let there = carrier_of job sound z zone line some.0 some.1 in
          let owned : owns b c some.0 ≡ true = sym (own some.0 there.0) ∙ in_all axes zone some.0 held some.1 in
          sym (k.zones z some.0 (from_start z some.0 there.1)) ∙ owner_is (owner_of (b.axis some.0)) c owned
      by_carried false is held =
          k.alone z (λ x. ap (λ (s : StartView). has (axes_of_zone s z) x) at ∙ no_carrier job sound z zone line is x)
          ∙ ap (λ (s : StartView). first_holder s z) at ∙ holder_of_line job sound z zone line ∙ of_channel zone.holder c held

  pub holds_there : (z : ℕ) (zone : ZoneLine) → zone_line job z ≡ Some zone → is_held c axes zone ≡ true → HoldsZone b c z
  holds_there z zone line held =
      let holder : b.holder z ≡ Some c = holder_there z zone line held in
      record {
        holder = holder;
        axes = λ x on. ap (λ (o : Option ℕ). is_this o c) (k.zones z x on ∙ holder) ∙ eq-eqb c c refl;
      }

-- ---- in each run

pub owns_its_grant : (job : JobView) (cs : List ℕ) (c : ℕ) (grant : Grant) → OwnsItsGrant job cs c grant
owns_its_grant job cs c grant run runs =
    let stage : Stage = run_stage job cs in
    let own = own_run job run.0 cs run.1 in
    (subst (λ (s : State). IsOwnState (length job.programs) (usage_from (script_of job) (first_stage (start_of job)) no_usage cs c) stage.board.start (owns stage.board c) s) runs (own.owned.own.states c)).axes

pub switches_what_it_holds : (job : JobView) (cs : List ℕ) (c : ℕ) → SwitchesWhatItHolds job cs c
switches_what_it_holds job cs c run runs place item zone on is switches =
    let stage : Stage = run_stage job cs in
    let usage : Usage = usage_from (script_of job) (first_stage (start_of job)) no_usage cs in
    let own = own_run job run.0 cs run.1 in
    let last = running_got stage usage c own.accords runs in
    let grant : Grant = last.0 in
    let held = held_at (found_by job c grant) (segment_after job c (usage c ++ grant ∷ [])).items (asked_after job c (usage c) grant).held place item
    (ap (λ (gs : List Grant). slice_get (segment_after job c gs).items place) (sym last.1) ∙ is) in
    let line = held_line job run.0 c grant.axes zone (subst (λ (p : Part). SwitchesHeld (found_by job c grant) p) switches held) in
    holds_there job run.0 (length job.programs) stage.board own.start own.owned.kept c grant.axes (owns_its_grant job cs c grant run last.2) zone line.0 line.1 line.2
