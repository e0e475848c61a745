-- In each run of an accepted job the grant with which a channel runs fits what is kept of the channel.
use Rattle.axis_sets.specs.declared.limits.TheConstants.{AXIS_LIMIT, ZONE_LIMIT}
use Rattle.std.proofs.Common.{◌≡◌, ◌∙◌, ℕ, zero, suc, ℤ, ◌+◌, ◌<◌, ◌≤◌, ◌==◌, ◌&&◌, ◌||◌, not, nat_lt, Bool, true, false, List, [], ◌∷◌, ◌++◌, fold, length, is_some, Option, Some, None, IfSome, refl, sym, ap, ap₂, subst, arith}
use Rattle.std.proofs.lemmas.Bool.{le-leb, lt-ltb}
use Rattle.std.specs.List.{list_all, range_with_len}
use Rattle.std.specs.Option.{option_map_or}
use Rattle.axis_sets.specs.Positions.{position_of}
use Rattle.axis_sets.specs.Sets.{has}
use Rattle.channel_machine.proofs.Pasts.{grant-got}
use Rattle.channel_machine.proofs.RunLaws.{grant_then}
use Rattle.channel_machine.specs.Coordination.{has_all_of}
use Rattle.channel_machine.specs.Grants.{grant_fits, has_none_of, has_program, is_axis_fit, is_owned_in, is_placed, is_zone_fit, is_zone_of, names_axis}
use Rattle.channel_machine.specs.Kept.{StateView}
use Rattle.channel_machine.specs.Run.{Channel, SurroundingsView, channel_at_start, grant_after, segment_of, surroundings_of}
use Rattle.channel_machine.specs.StartStates.{start_of}
use Rattle.job_types.specs.Job.{JobView}
use Rattle.job_types.specs.SoundJob.{IsSoundJob}
use Rattle.job_types.specs.Zones.{has_axis, zone_line}
use Rattle.job_types.specs.declared.job.ZoneLine.{ZoneLine}
use Rattle.micro_units.specs.Position.{IsPosition, is_position}
use Rattle.product_run.proofs.GoodBoards.{IsGoodGrant, IsGoodState}
use Rattle.product_run.proofs.GoodRuns.{good_beginning, good_stage}
use Rattle.product_run.proofs.JobStarts.{all_of, axis_within, carrier_of, each_by_key, none_of, passes_found, zone_there}
use Rattle.product_run.proofs.KeptMachines.{IsKept, is_zone}
use Rattle.product_run.proofs.OwnedRuns.{own_run}
use Rattle.product_run.proofs.Owning.{IsOwnGrant, IsOwnState, was_owned}
use Rattle.product_run.proofs.Switching.{owner_is}
use Rattle.coord_core.proofs.Usage.{Usage, no_usage, usage_from}
use Rattle.channel_machine.specs.Locals.{IsKeptOf}
use Rattle.product_run.specs.RunLaws.{GrantsFit, run_stage}
use Rattle.channel_machine.specs.Scripts.{channel_after_grants, channel_after_segment, script_of, segment_after}
use Rattle.sync_types.proofs.BoardTests.{no_truth}
use Rattle.sync_types.specs.Boards.{State, Board, grant_in, is_this, owner_of, owns}
use Rattle.sync_types.specs.Runs.{Stage, as_list, first_stage}
use Rattle.sync_types.specs.Starts.{axes_of_zone}
use Rattle.sync_types.specs.Starts as start
use Rattle.sync_types.specs.Views.{StartView}
use Rattle.sync_types.specs.declared.Grant.{Grant}

-- ---- tests

both : (a b : Bool) → a ≡ true → b ≡ true → (a && b) ≡ true
both true b on rest = rest
both false b on rest = no_truth false on refl

implied : (a b : Bool) → (a ≡ true → b ≡ true) → (not a || b) ≡ true
implied true b then = then refl
implied false b then = refl

either : (a b c : Bool) → (a || b) ≡ true → (a ≡ true → c ≡ true) → (b ≡ true → c ≡ true) → c ≡ true
either true b c some first second = first refl
either false b c some first second = second some

first_or : (a b : Bool) → a ≡ true → (a || b) ≡ true
first_or true b on = refl
first_or false b on = no_truth false on refl

second_or : (a b : Bool) → b ≡ true → (a || b) ≡ true
second_or true b on = refl
second_or false b on = on

all_in_range : (test : ℕ → Bool) (a n : ℕ) → ((x : ℕ) → a ≤ x → x < a + n → test x ≡ true) → list_all test (range_with_len a n) ≡ true
all_in_range test a zero each = refl
all_in_range test a (suc n) each = both (test a) (list_all test (range_with_len (a + 1) n)) (each a (omega arith) (omega arith)) (all_in_range test (a + 1) n (λ x low high. each x (omega arith) (omega arith)))

-- ---- what a channel had before

last_grant : Grant → List Grant → Grant
last_grant first rest = fold (λ _ g. g) first rest

was_last : (first : Grant) (rest : List Grant) (x : ℕ) → was_owned (first ∷ rest) x ≡ has (last_grant first rest).axes x
unfolding last_grant
was_last first [] x = refl
was_last first (g ∷ rest) x = was_last g rest x

last_granted : (s : SurroundingsView) (c : Channel) (grants : List Grant) → grant_after s (fold (channel_after_segment s) c grants).past ≡ last_grant (grant_after s c.past) grants
unfolding last_grant
last_granted s c [] = refl
last_granted s c (g ∷ grants) = last_granted s (channel_after_segment s c g) grants ∙ ap (λ (first : Grant). fold (λ (_ g : Grant). g) first grants) (grant-got s (segment_of s c).after.past g)

-- what is kept of a channel knows its last grant
owned_in : (job : JobView) (c : ℕ) (made : List Grant) (kept : Option StateView) (x : ℕ) → IsKeptOf job c made kept → is_owned_in kept x ≡ was_owned made x
unfolding segment_after
owned_in job c [] None x is = refl
owned_in job c [] (Some kept) x is = absurd is
owned_in job c (first ∷ rest) None x is = absurd is
owned_in job c (first ∷ rest) (Some kept) x is =
    let s : SurroundingsView = surroundings_of job c first in
    let channel : Channel = channel_after_grants s rest in
    ap (λ (axes : List Bool). has axes x) is.keeps.axes
    ∙ ap (λ (g : Grant). has g.axes x) (grant_then s channel ∙ last_granted s (channel_at_start s) rest)
    ∙ sym (was_last first rest x)

-- ---- a grant on a board

module _ (job : JobView) (sound : IsSoundJob job) (b : Board) (at : b.start ≡ start_of job) (k : IsKept (length job.programs) b) (c : ℕ) (made : List Grant) (grant : Grant)
    (own : IsOwnGrant (length job.programs) made b.start (owns b c) grant) (good : IsGoodGrant grant) (kept : Option StateView) (is_kept : IsKeptOf job c made kept) where
  axis_there : (x : ℕ) → x < AXIS_LIMIT → has grant.axes x ≡ true → x < length job.axes
  axis_there x within on =
      axis_within job sound x
      (ap (λ (s : StartView). start.has_axis s x) (sym at) ∙ k.there x c (owner_is (owner_of (b.axis x)) c (sym (own.axes x within) ∙ on)))

  named_there : (x : ℕ) → x < AXIS_LIMIT → names_axis grant x ≡ true → nat_lt x (length job.axes) ≡ true
  named_there x within named = lt-ltb x (length job.axes) (axis_there x within
      (either (has grant.axes x) (is_some (position_of grant.at x)) (has grant.axes x) named (λ on. on) (λ some. own.at x within some)))

  in_range : (o : Option ℤ) → IfSome o IsPosition → option_map_or is_position o true ≡ true
  in_range None given = refl
  in_range (Some position) given = le-leb _ _ given

  placed : (x : ℕ) → x < AXIS_LIMIT → is_placed kept grant x ≡ true
  placed x within = implied (has grant.axes x) (is_some (position_of grant.at x) || is_owned_in kept x)
      (λ on. ap (λ (was : Bool). is_some (position_of grant.at x) || was) (owned_in job c made kept x is_kept) ∙ own.placed x within on)

  axis_fit : (x : ℕ) → x < AXIS_LIMIT → is_axis_fit job kept grant x ≡ true
  axis_fit x within = both _ _ (implied (names_axis grant x) (nat_lt x (length job.axes)) (named_there x within))
      (both _ _ (in_range (position_of grant.at x) (good.at x)) (placed x within))

  -- each axis of a zone is in the grant where the channel holds the zone, and else none
  zone_axis : (z : ℕ) (zone : ZoneLine) → zone_line job z ≡ Some zone → (x : ℕ) → has_axis zone x ≡ true → has grant.axes x ≡ is_this (b.holder z) c
  zone_axis z zone line x on =
      let there = carrier_of job sound z zone line x on in
      own.axes x there.0 ∙ ap (λ (o : Option ℕ). is_this o c) (k.zones z x (ap (λ (s : StartView). has (axes_of_zone s z) x) at ∙ there.1))

  zone_whole : (z : ℕ) (zone : ZoneLine) → zone_line job z ≡ Some zone → (has_all_of grant.axes zone || has_none_of grant.axes zone) ≡ true
  zone_whole z zone line = by_holder (is_this (b.holder z) c) refl
    where
      by_holder : (held : Bool) → is_this (b.holder z) c ≡ held → (has_all_of grant.axes zone || has_none_of grant.axes zone) ≡ true
      by_holder true held = first_or (has_all_of grant.axes zone) (has_none_of grant.axes zone) (all_of grant.axes zone (λ x on. zone_axis z zone line x on ∙ held))
      by_holder false held = second_or (has_all_of grant.axes zone) (has_none_of grant.axes zone) (none_of grant.axes zone (λ x on. zone_axis z zone line x on ∙ held))

  zone_on : (z : ℕ) → has grant.on z ≡ true → is_zone_of job grant.axes z ≡ true
  unfolding is_zone_of
  zone_on z on =
      let told = own.on z on in
      let line = zone_there job sound z (ap (λ (s : StartView). is_zone s z) (sym at) ∙ told.0) in
      passes_found (λ (l : ZoneLine). l.zone == z) (has_all_of grant.axes) job.zones line.0 line.1
      (all_of grant.axes line.0 (λ x carries.
      let there = carrier_of job sound z line.0 line.1 x carries in
      told.1 x there.0 (ap (λ (s : StartView). has (axes_of_zone s z) x) at ∙ there.1)))

  program_there : (made : List Grant) (kept : Option StateView) → IsKeptOf job c made kept → (made ≡ [] → (p : ℕ) × (grant.program ≡ Some p) × (p < length job.programs))
      → has_program job kept grant.program ≡ true
  program_there made (Some kept) is first = refl
  program_there [] None is first =
      let known = first refl in
      ap (has_program job None) known.1 ∙ lt-ltb known.0 (length job.programs) known.2
  program_there (g ∷ made) None is first = absurd is

  pub fits : grant_fits job kept grant ≡ true
  unfolding grant_fits
  fits = both _ _ (all_in_range (is_axis_fit job kept grant) 0 AXIS_LIMIT (λ x low high. axis_fit x high))
      (both _ _ (each_by_key (λ (l : ZoneLine). l.zone) (λ zone. has_all_of grant.axes zone || has_none_of grant.axes zone) job.zones sound.zone_numbers zone_whole)
      (both _ _ (all_in_range (is_zone_fit job grant) 1 ZONE_LIMIT (λ z low high. implied (has grant.on z) (is_zone_of job grant.axes z) (zone_on z)))
      (program_there made kept is_kept own.program)))

-- ---- in each run

-- the grants before the last
before_last : (xs ys : List Grant) (a : Grant) → xs ++ a ∷ [] ≡ ys ++ a ∷ [] → xs ≡ ys
before_last [] [] a same = refl
before_last [] (y ∷ ys) a same = absurd (longer ys cc)
  where
    longer : (ys : List Grant) → [] ≡ ys ++ a ∷ [] → ⊥
    longer [] bad = cc
    longer (z ∷ zs) bad = cc
before_last (x ∷ xs) [] a same = absurd (longer xs cc)
  where
    longer : (xs : List Grant) → xs ++ a ∷ [] ≡ [] → ⊥
    longer [] bad = cc
    longer (z ∷ zs) bad = cc
before_last (x ∷ xs) (y ∷ ys) a same =
    let first : x ≡ y = cc in
    let rest : xs ++ a ∷ [] ≡ ys ++ a ∷ [] = cc in
    ap₂ (λ (g : Grant) (gs : List Grant). g ∷ gs) first (before_last xs ys a rest)

pub grants_fit : (job : JobView) (cs : List ℕ) (c : ℕ) (grant : Grant) → GrantsFit job cs c grant
grants_fit job cs c grant run runs made got kept is_kept =
    let stage : Stage = run_stage job cs in
    let usage : Usage = usage_from (script_of job) (first_stage (start_of job)) no_usage cs in
    let own = own_run job run.0 cs run.1 in
    let good = good_stage job (first_stage (start_of job)) cs (good_beginning job run.0) in
    let same : usage c ≡ made = before_last (usage c) made grant (sym (own.accords.grants c ∙ ap (λ (s : State). usage c ++ as_list (grant_in s)) runs) ∙ got) in
    let mine = subst (λ (s : State). IsOwnState (length job.programs) (usage c) stage.board.start (owns stage.board c) s) runs (own.owned.own.states c) in
    fits job run.0 stage.board own.start own.owned.kept c made grant
    (subst (λ (gs : List Grant). IsOwnGrant (length job.programs) gs stage.board.start (owns stage.board c) grant) same mine)
    (subst IsGoodState runs (good.board.states c)) kept is_kept
