-- The present tenure of a zone in the run that speaks for all: its owner holds the zone, and its present span is one of the tenure.
use Rattle.std.proofs.Common.{◌≡◌, ◌⊎◌, ◌∙◌, ℕ, suc, ◌+◌, ◌<◌, ◌≤◌, Bool, true, false, not, cond, ◌==◌, List, [], ◌∷◌, ◌++◌, append_assoc, length, map, filter, slice_get, Option, None, Some, IfSome, All, inl, inr, refl, sym, ap, subst, arith}
use Rattle.std.proofs.lemmas.Bool.{and_from, and_parts, cases_Bool}
use Rattle.std.proofs.lemmas.List.Elements.{All-nil, All-cons, All-append, All-head, All-map, All-tail}
use Rattle.axis_sets.specs.Positions.{stands}
use Rattle.axis_sets.specs.Sets.{has}
use Rattle.board_laws.specs.Machine.{Cell, Place, State as Machine}
use Rattle.board_laws.specs.Machine as machine
use Rattle.channel_machine.specs.StartStates.{start_of}
use Rattle.job_types.specs.Job.{JobView}
use Rattle.job_types.specs.Zones.{has_axis}
use Rattle.job_types.specs.declared.job.ZoneLine.{ZoneLine}
use Rattle.number_laws.proofs.Lists.{SomeOf, SomeOf-weaker}
use Rattle.order_clocks.specs.Chains.{IsIn}
use Rattle.order_clocks.specs.Happenings.{happening_of}
use Rattle.speed_laws.proofs.RunBoards.{IsRunBoard, run_board_first, run_board_goes, run_board_part, run_board_step}
use Rattle.zone_stretches.proofs.HandLaws.{HandsAre, IsFor, carry_from, carry_to, owner_next, owners-append, owners_next, run_hands, step_hands}
use Rattle.zone_stretches.proofs.HandLaws.{carry_none}
use Rattle.zone_stretches.specs.Occurrences.{OccurrenceView, act_of, going_on_of, occurrences_in, occurrences_from, occurrences_of}
use Rattle.zone_stretches.specs.SoundStretches.{IsZoneOf}
use Rattle.zone_stretches.specs.Spans.{SpanStartView}
use Rattle.zone_stretches.specs.Tenures.{TenureView, carry, changes_hands, first_tenure, tenures_from, tenures_of}
use Rattle.schedule_laws.proofs.EventLaws.{events_told}
use Rattle.schedule_laws.proofs.RunLaws.{speaks_of_states}
use Rattle.schedule_laws.specs.Schedules.{HasChannelNumbers, IsQuietRun, IsRunOf, moves_by}
use Rattle.schedule_laws.specs.Tracked.{cell_at, tenures_at}
use Rattle.speed_laws.proofs.Hands.{counts_after, counts_read, hands, hands_append, taker_in, tenures_read}
use Rattle.speed_laws.proofs.JoinedRuns.{moves_joined}
use Rattle.speed_laws.proofs.PastEvents.{made_counts}
use Rattle.speed_laws.proofs.ZoneTenures.{At, BeginsBy, EndsBy, IsNewest, IsPlaceOf, KnownOwner, Match, TakesAll, UptoIs, each_read, last_hand, lasts, newest, newest_began}
use Rattle.sync_types.proofs.BoardTests.{no_truth}
use Rattle.sync_types.proofs.Replays.{run_is_replay}
use Rattle.sync_types.specs.BoardActions.{after_own_part, after_part}
use Rattle.sync_types.specs.BoardAlarms.{alarm_of}
use Rattle.sync_types.specs.Boards.{Board, among, channel_numbers, first_board, is_running, is_this, owner_of, owns}
use Rattle.sync_types.specs.GoingOn.{Going, after_goes, axes_asked}
use Rattle.sync_types.specs.Runs.{Script, first_stage, moves_of, stage_after}
use Rattle.sync_types.specs.Starts.{IsSound, axes_of_zone, first_holder}
use Rattle.sync_types.specs.Turns.{AreOfRunning, Move, after_moves, after_step, goings_in_step}
use Rattle.sync_types.specs.Views.{StartView}
use Rattle.sync_types.specs.declared.Step.{Step}

-- ---- who takes axes of a zone takes all of them

pub part_start : (b : Board) (p : ℕ) (step : Step) → (after_own_part b p step).start ≡ b.start
part_start b p step = by_alarm (alarm_of b p step.action)
  where
    by_alarm : (a : Option ℕ) → (after_part b p step a).start ≡ b.start
    by_alarm (Some code) = refl
    by_alarm None = refl

going_takes : (b : Board) (p : ℕ) (step : Step) (zone : ZoneLine) (x : ℕ) → IsRunBoard b → is_running (b.state p) ≡ true → IsFor zone b → has_axis zone x ≡ true
    → (g : Going) → IsIn g (goings_in_step b p step) → carry zone (among g.took) ≡ true → (among g.took x ≡ true) × (among channel_numbers g.channel ≡ true)
going_takes b p step zone x zs running for carries g within on =
    let w = carry_from zone (among g.took) on in
    let t = taker_in b p step zs running w.0 g within w.2 in
    let before : Board = after_goes (after_own_part b p step) in
    let whole : IsRunBoard before = run_board_goes (after_own_part b p step) (run_board_part b p step zs) in
    let start : before.start ≡ b.start = part_start b p step in
    let has_w : has (axes_of_zone before.start zone.zone) w.0 ≡ true = ap (λ (s : StartView). has (axes_of_zone s zone.zone) w.0) start ∙ for w.0 ∙ w.1 in
    let has_x : has (axes_of_zone before.start zone.zone) x ≡ true = ap (λ (s : StartView). has (axes_of_zone s zone.zone) x) start ∙ for x ∙ carries in
    let both = and_parts _ _ (sym (t.took w.0) ∙ w.2) in
    let asked : among (axes_asked (before.state g.channel)) x ≡ true = sym (whole.zones.asks g.channel zone.zone w.0 x has_w has_x) ∙ both.0 in
    let other : not (owns before g.channel x) ≡ true =
    ap (λ (o : Option ℕ). not (is_this o g.channel)) (whole.zones.owner zone.zone x has_x ∙ sym (whole.zones.owner zone.zone w.0 has_w)) ∙ both.1 in
    (t.took x ∙ and_from (among (axes_asked (before.state g.channel)) x) (not (owns before g.channel x)) asked other, t.listed)

-- along a run
pub run_takes : (ms : List Move) (b : Board) (zone : ZoneLine) (i x : ℕ) (carries : has_axis zone x ≡ true) → IsRunBoard b → IsFor zone b → AreOfRunning b ms → All (TakesAll zone x carries) (occurrences_from b i ms)
run_takes [] b zone i x carries zs for run = All-nil (TakesAll zone x carries)
run_takes (m ∷ ms) b zone i x carries zs for run =
    All-append (TakesAll zone x carries) (occurrences_in i m.step (happening_of b m.channel m.step)) (occurrences_from (after_step b m.channel m.step) (suc i) ms)
    (All-cons (TakesAll zone x carries) (act_of i m.step (happening_of b m.channel m.step)) (map (going_on_of i goings) goings)
    (λ on. no_truth (carry zone (λ axis. false)) on (carry_none zone))
    (All-map (TakesAll zone x carries) (going_on_of i goings) goings (each goings (λ g within. within))))
    (run_takes ms (after_step b m.channel m.step) zone (suc i) x carries (run_board_step b m.channel m.step zs) (step_hands b m zone i zs.robs_nobody zs.zones for).2 run.1)
  where
    goings : List Going
    goings = goings_in_step b m.channel m.step

    each : (gs : List Going) → ((g : Going) → IsIn g gs → IsIn g (goings_in_step b m.channel m.step)) → All (λ g. TakesAll zone x carries (going_on_of i (goings_in_step b m.channel m.step) g)) gs
    each [] within = All-nil (λ g. TakesAll zone x carries (going_on_of i (goings_in_step b m.channel m.step) g))
    each (g ∷ gs) within =
        All-cons (λ h. TakesAll zone x carries (going_on_of i (goings_in_step b m.channel m.step) h)) g gs (λ on. going_takes b m.channel m.step zone x zs run.0 for carries g (within g (inl refl)) on)
        (each gs (λ h there. within h (inr there)))

-- who holds the zone at the end
run_owner : (ms : List Move) (b : Board) (zone : ZoneLine) (i : ℕ) → IsRunBoard b → IsFor zone b → owners_next zone (b.holder zone.zone) (occurrences_from b i ms) ≡ (after_moves b ms).holder zone.zone
run_owner [] b zone i zs for = refl
run_owner (m ∷ ms) b zone i zs for =
    let here = step_hands b m zone i zs.robs_nobody zs.zones for in
    owners-append zone (b.holder zone.zone) (occurrences_in i m.step (happening_of b m.channel m.step)) (occurrences_from (after_step b m.channel m.step) (suc i) ms)
    ∙ ap (λ (w : Option ℕ). owners_next zone w (occurrences_from (after_step b m.channel m.step) (suc i) ms)) here.1
    ∙ run_owner ms (after_step b m.channel m.step) zone (suc i) (run_board_step b m.channel m.step zs) here.2

pub events_joined : (ms ns : List Move) (b : Board) (i : ℕ) → occurrences_from b i (ms ++ ns) ≡ occurrences_from b i ms ++ occurrences_from (after_moves b ms) (i + length ms) ns
events_joined [] ns b i = let same : i ≡ i + 0 = omega arith in ap (λ (n : ℕ). occurrences_from b n ns) same
events_joined (m ∷ ms) ns b i =
    let next = after_step b m.channel m.step in
    let same : suc i + length ms ≡ i + suc (length ms) = omega arith in
    let here = occurrences_in i m.step (happening_of b m.channel m.step) in
    ap (λ (os : List OccurrenceView). here ++ os) (events_joined ms ns next (suc i) ∙ ap (λ (n : ℕ). occurrences_from next (suc i) ms ++ occurrences_from (after_moves next ms) n ns) same)
    ∙ sym (append_assoc here (occurrences_from next (suc i) ms) (occurrences_from (after_moves next ms) (i + suc (length ms)) ns))

-- a zone that no axis carries has one tenure
no_change : (zone : ZoneLine) → carry zone (λ axis. true) ≡ false → (o : OccurrenceView) → changes_hands zone o ≡ false
no_change zone bare o = rw (off o.frees, off o.takes) refl
  where
    off : (test : ℕ → Bool) → carry zone test ≡ false
    off test = elim (cases_Bool (carry zone test)) [
      | inr out ↦ out
      | inl on ↦ let w = carry_from zone test on in no_truth (carry zone (λ axis. true)) (carry_to zone (λ axis. true) w.0 w.1 refl) bare
    ]

pub one_tenure : (zone : ZoneLine) → carry zone (λ axis. true) ≡ false → (os : List OccurrenceView) (counts : ℕ → ℕ) (t : TenureView) → tenures_from zone counts t os ≡ t ∷ []
one_tenure zone bare [] counts t = refl
one_tenure zone bare (o ∷ os) counts t = rw (no_change zone bare o) (one_tenure zone bare os _ t)

one_owner : (zone : ZoneLine) → carry zone (λ axis. true) ≡ false → (os : List OccurrenceView) (owner : Option ℕ) → owners_next zone owner os ≡ owner
one_owner zone bare [] owner = refl
one_owner zone bare (o ∷ os) owner = one_owner zone bare os (owner_next zone owner o) ∙ rw (no_change zone bare o) refl

-- and no last event of its hands
no_last : (zone : ZoneLine) → carry zone (λ axis. true) ≡ false → (os : List OccurrenceView) (last : Option OccurrenceView) → last_hand zone last os ≡ last
no_last zone bare [] last = refl
no_last zone bare (o ∷ os) last =
    ap (λ (t : Bool). last_hand zone (cond t (Some o) last) os) (no_change zone bare o) ∙ no_last zone bare os last

-- ---- the present tenure

-- an event that the run has made, by its place, and one that it has not made
pub record BegunBy (all : List OccurrenceView) (counts : ℕ → ℕ) (t : TenureView) : Type 0 where
  pub place : Place
  pub event : OccurrenceView
  pub at : At all place event
  pub counted : 1 ≤ place.place
  pub made : place.place ≤ counts place.channel
  pub stand : t.begins.at ≡ stands event.at
  pub on : t.begins.on ≡ has event.on
  pub first : t.begins.first ≡ Some event.name

pub record EndedBy (all : List OccurrenceView) (counts : ℕ → ℕ) (t : TenureView) : Type 0 where
  pub place : Place
  pub event : OccurrenceView
  pub at : At all place event
  pub not_made : counts place.channel < place.place
  pub known : among channel_numbers place.channel ≡ true
  pub last : t.last ≡ Some event.name

pub record IsPresent (all : List OccurrenceView) (first : TenureView) (counts : ℕ → ℕ) (holder : Option ℕ) (t : TenureView) : Type 0 where
  pub owner : t.owner ≡ holder
  pub held : (c : ℕ) → holder ≡ Some c → (t.from ≤ counts c) × IfSome t.upto (λ u. counts c ≤ u)
  pub begins : (t.begins ≡ first.begins) ⊎ BegunBy all counts t
  pub ends : holder ≡ None → (t.last ≡ None) ⊎ EndedBy all counts t

-- A tenure in the one run begins with the event at the place of the last one of the other run in which the zone changed hands, or as
-- the job does where there is none.
pub record BeginsWithLast (all made : List OccurrenceView) (zone : ZoneLine) (first : SpanStartView) (t : TenureView) : Type 0 where
  pub place : Option Place
  pub begins : BeginsBy all first place t.begins
  pub last : IsPlaceOf made place (last_hand zone None made)

-- what a tenure of the zone has where one of the axis lasts or ends later
present_by : (all : List OccurrenceView) (first : TenureView) (counts : ℕ → ℕ) (holder : Option ℕ) (u v : machine.Tenure) (t : TenureView) → u.owner ≡ holder → IfSome u.owner (λ c. u.from ≤ counts c)
    → IfSome u.first (λ e. (1 ≤ e.place) × (e.place ≤ counts e.channel)) → v.owner ≡ u.owner → v.from ≡ u.from → v.first ≡ u.first → IfSome v.last (λ e. counts e.channel < e.place)
    → Match all first.begins v t → IsPresent all first counts holder t
present_by all first counts holder u v t owned from made owner' from' first' later m = record {
  owner = m.owner ∙ owner' ∙ owned;
  held = λ c is. (begun c (owned ∙ is), by_last c v.last refl (owner' ∙ owned ∙ is) m.ends later);
  begins = by_first v.first m.begins (subst (λ (w : Option Place). IfSome w (λ e. (1 ≤ e.place) × (e.place ≤ counts e.channel))) (sym first') made);
  ends = λ free. by_end v.last refl (owner' ∙ owned ∙ free) m.ends later;
}
  where
    begun : (c : ℕ) → u.owner ≡ Some c → t.from ≤ counts c
    begun c is = let up : u.from ≤ counts c = subst (λ (w : Option ℕ). IfSome w (λ d. u.from ≤ counts d)) is from in let same = m.from ∙ from' in omega (arith, up, same)

    by_last : (c : ℕ) (l : Option Place) → v.last ≡ l → v.owner ≡ Some c → EndsBy all v.owner l t → IfSome l (λ e. counts e.channel < e.place) → IfSome t.upto (λ w. counts c ≤ w)
    by_last c None is own ends later = subst (λ (w : Option ℕ). IfSome w (λ n. counts c ≤ n)) (sym ends.0) tt
    by_last c (Some e) is own ends later =
        let upto = subst (λ (w : Option ℕ). UptoIs w t.upto e) own ends.3 in
        let less : counts c < e.place = subst (λ (d : ℕ). counts d < e.place) upto.1 later in
        subst (λ (w : Option ℕ). IfSome w (λ n. counts c ≤ n)) (sym upto.0) (omega (arith, less))

    by_first : (w : Option Place) → BeginsBy all first.begins w t.begins → IfSome w (λ e. (1 ≤ e.place) × (e.place ≤ counts e.channel)) → (t.begins ≡ first.begins) ⊎ BegunBy all counts t
    by_first None same made = inl same
    by_first (Some e) by made = inr (record { place = e; event = by.0; at = by.1; counted = made.0; made = made.1; stand = by.2; on = by.3; first = by.4 })

    by_end : (l : Option Place) → v.last ≡ l → v.owner ≡ None → EndsBy all v.owner l t → IfSome l (λ e. counts e.channel < e.place) → (t.last ≡ None) ⊎ EndedBy all counts t
    by_end None is free ends later = inl ends.1
    by_end (Some e) is free ends later =
        inr (record { place = e; event = ends.0; at = ends.1; not_made = later; known = subst (λ (w : Option ℕ). UptoIs w t.upto e) free ends.3; last = ends.2 })

module _ (job : JobView) (script : Script) (qs rs : List ℕ) (quiet : IsQuietRun script (start_of job) qs) (run : IsRunOf script (start_of job) rs) (zone : ZoneLine) (there : IsZoneOf (start_of job) zone) where
  abbrev board : Board
  board = first_board (start_of job)

  abbrev speaking : List Move
  speaking = moves_by script (start_of job) qs

  abbrev made : List Move
  made = moves_by script (start_of job) rs

  abbrev counts : ℕ → ℕ
  counts = made_counts script (start_of job) qs rs quiet run

  abbrev holder : Option ℕ
  holder = (stage_after script (first_stage (start_of job)) rs).board.holder zone.zone

  zones : IsRunBoard board
  zones = run_board_first (start_of job) quiet.sound

  for : IsFor zone board
  for x = there.axes x

  made_runs : AreOfRunning board made
  made_runs = (run_is_replay script (first_stage (start_of job)) rs run).running

  speaking_runs : AreOfRunning board speaking
  speaking_runs = (run_is_replay script (first_stage (start_of job)) qs quiet.maximal.run).running

  owner_is : owners_next zone (board.holder zone.zone) (occurrences_from board 0 made) ≡ holder
  owner_is = run_owner made board zone 0 zones for ∙ ap (λ (b : Board). b.holder zone.zone) (run_is_replay script (first_stage (start_of job)) rs run).board

  abbrev Present : TenureView → Type 0
  Present = IsPresent (occurrences_from board 0 speaking) (first_tenure job zone) counts holder

  abbrev Found : TenureView → Type 0
  Found t = Present t × BeginsWithLast (occurrences_from board 0 speaking) (occurrences_from board 0 made) zone (first_tenure job zone).begins t

  bare_present : carry zone (λ axis. true) ≡ false → SomeOf Found (tenures_from zone (λ c. 0) (first_tenure job zone) (occurrences_from board 0 speaking))
  bare_present bare =
      subst (SomeOf Found) (sym (one_tenure zone bare (occurrences_from board 0 speaking) (λ c. 0) (first_tenure job zone)))
      (inl (
        record {
          owner = sym there.holder ∙ sym (one_owner zone bare (occurrences_from board 0 made) (board.holder zone.zone)) ∙ owner_is;
          held = λ c is. (omega arith, tt);
          begins = inl refl;
          ends = λ free. inl refl;
        },
        record {
          place = None;
          begins = refl;
          last = subst (λ (l : Option OccurrenceView). IsPlaceOf (occurrences_from board 0 made) None l) (sym (no_last zone bare (occurrences_from board 0 made) None)) tt;
        },
      ))

  carried_present : (x : ℕ) → has_axis zone x ≡ true → SomeOf Found (tenures_from zone (λ c. 0) (first_tenure job zone) (occurrences_from board 0 speaking))
  unfolding occurrences_of cell_at
  carried_present x carries =
      let spoken = speaks_of_states script (start_of job) qs rs quiet run in
      let rest = moves_of script (stage_after script (first_stage (start_of job)) rs) spoken.alike.rest in
      let whole = moves_by script (start_of job) (rs ++ spoken.alike.rest) in
      let joined : whole ≡ made ++ rest = moves_joined script (first_stage (start_of job)) rs spoken.alike.rest in
      let whole_runs : AreOfRunning board whole = (run_is_replay script (first_stage (start_of job)) (rs ++ spoken.alike.rest) spoken.alike.maximal.run).running in
      let first : machine.Tenure = record { owner = owner_of (board.axis x); first = None; last = None; from = 0; upto = 0 } in
      let owned : owner_of (board.axis x) ≡ board.holder zone.zone = zones.zones.owner zone.zone x (for x ∙ carries) in
      let begin : IsNewest zone x carries (λ d. 0) (board.holder zone.zone) (first ∷ []) =
      record { tenure = first; older = []; are = refl; owned = owned; lasting = refl; from = from_zero (owner_of (board.axis x)); first = tt } in
      let now = newest zone x carries (occurrences_from board 0 made) (λ d. 0) (board.holder zone.zone) (first ∷ []) begin (run_hands made board zone 0 zones.robs_nobody zones.zones for) (run_takes made board zone 0 x carries zones for made_runs) in
      let began = newest_began zone x carries (occurrences_from board 0 made) (occurrences_from board 0 made) (λ d. 0) (board.holder zone.zone) first [] None tt first_known (run_hands made board zone 0 zones.robs_nobody zones.zones for)
      (run_takes made board zone 0 x carries zones for made_runs) (places_from (occurrences_from board 0 made)) now.tenure now.older now.are in
      let later = occurrences_from (after_moves board made) (0 + length made) rest in
      let total : (d : ℕ) → counts_after (λ c. 0) (occurrences_from board 0 made) d ≡ counts d = λ d. counts_read board made d zones made_runs ∙ sym (events_told board made d (length made) (omega arith)).count in
      let last = lasts zone x carries later (counts_after (λ c. 0) (occurrences_from board 0 made)) counts now.tenure now.older now.lasting (λ d. let same = total d in omega (arith, same)) in
      let in_whole : hands x (counts_after (λ c. 0) (occurrences_from board 0 made)) (now.tenure ∷ now.older) later ≡ tenures_at board whole (length whole) x =
      ap (λ (ts : List machine.Tenure). hands x (counts_after (λ c. 0) (occurrences_from board 0 made)) ts later) (sym now.are)
      ∙ sym (hands_append x (λ c. 0) (first ∷ []) (occurrences_from board 0 made) later)
      ∙ ap (hands x (λ c. 0) (first ∷ [])) (sym (events_joined made rest board 0) ∙ ap (occurrences_from board 0) (sym joined))
      ∙ tenures_read board whole x zones whole_runs in
      let same_end : tenures_at board whole (length whole) x ≡ tenures_at board speaking (length speaking) x = ap (λ (t : Machine). (t.axis x).tenures) (sym spoken.state) in
      let in_speaking : IsIn last.tenure (hands x (λ c. 0) (first ∷ []) (occurrences_from board 0 speaking)) =
      subst (λ (ts : List machine.Tenure). IsIn last.tenure ts) (in_whole ∙ same_end ∙ sym (tenures_read board speaking x zones speaking_runs)) last.within in
      let read = each_read zone x carries (occurrences_from board 0 speaking) (first_tenure job zone).begins (occurrences_from board 0 speaking) (λ c. 0) (first_tenure job zone) first [] refl
      (record { owner = sym there.holder ∙ sym owned; from = refl; begins = refl; ends = (refl, refl) })
      (subst (λ (w : Option ℕ). HandsAre zone w (occurrences_from board 0 speaking)) there.holder (run_hands speaking board zone 0 zones.robs_nobody zones.zones for))
      (run_takes speaking board zone 0 x carries zones for speaking_runs)
      (places_from (occurrences_from board 0 speaking))
      last.tenure in_speaking in
      by_read last.tenure read
      (λ t m. (
        present_by (occurrences_from board 0 speaking) (first_tenure job zone) counts holder now.tenure last.tenure t (now.owned ∙ owner_is)
            (recounted now.tenure.owner now.tenure.from total now.from) (first_recounted now.tenure.first total now.first) last.owner last.from last.first last.later m,
        record {
          place = now.tenure.first;
          begins = subst (λ (w : Option Place). BeginsBy (occurrences_from board 0 speaking) (first_tenure job zone).begins w t.begins) last.first m.begins;
          last = began;
        },
      ))
    where
      first_known : KnownOwner (board.holder zone.zone)
      first_known c e = quiet.numbers c (quiet.sound.holders zone.zone c e)

      places_from : (os : List OccurrenceView) (c k : ℕ) → slice_get (filter (λ p. p.channel == c) os) (0 + k) ≡ slice_get (filter (λ p. p.channel == c) os) k
      places_from os c k = let same : 0 + k ≡ k = omega arith in ap (λ (n : ℕ). slice_get (filter (λ p. p.channel == c) os) n) same

      from_zero : (w : Option ℕ) → IfSome w (λ c. 0 ≤ 0)
      from_zero None = tt
      from_zero (Some c) = omega arith

      recounted : (w : Option ℕ) (from : ℕ) → ((d : ℕ) → counts_after (λ c. 0) (occurrences_from board 0 made) d ≡ counts d) → IfSome w (λ c. from ≤ counts_after (λ c. 0) (occurrences_from board 0 made) c) → IfSome w (λ c. from ≤ counts c)
      recounted None from total up = tt
      recounted (Some c) from total up = let same = total c in omega (arith, up, same)

      first_recounted : (w : Option Place) → ((d : ℕ) → counts_after (λ c. 0) (occurrences_from board 0 made) d ≡ counts d)
          → IfSome w (λ e. (1 ≤ e.place) × (e.place ≤ counts_after (λ c. 0) (occurrences_from board 0 made) e.channel)) → IfSome w (λ e. (1 ≤ e.place) × (e.place ≤ counts e.channel))
      first_recounted None total up = tt
      first_recounted (Some e) total up = let same = total e.channel in (up.0, omega (arith, up.1, same))

      by_read : (v : machine.Tenure) → (IsIn v []) ⊎ SomeOf (Match (occurrences_from board 0 speaking) (first_tenure job zone).begins v) (tenures_from zone (λ c. 0) (first_tenure job zone) (occurrences_from board 0 speaking))
          → ((t : TenureView) → Match (occurrences_from board 0 speaking) (first_tenure job zone).begins v t → Found t) → SomeOf Found (tenures_from zone (λ c. 0) (first_tenure job zone) (occurrences_from board 0 speaking))
      by_read v (inl none) make = absurd none
      by_read v (inr some) make = SomeOf-weaker (Match (occurrences_from board 0 speaking) (first_tenure job zone).begins v) Found make (tenures_from zone (λ c. 0) (first_tenure job zone) (occurrences_from board 0 speaking)) some

  -- some tenure of the zone in the run that speaks is the present one, and begins with the last change of hands
  pub present_tenure : SomeOf (λ t. IsPresent (occurrences_of (first_board (start_of job)) (moves_by script (start_of job) qs)) (first_tenure job zone) (made_counts script (start_of job) qs rs quiet run)
      ((stage_after script (first_stage (start_of job)) rs).board.holder zone.zone) t
      × BeginsWithLast (occurrences_of (first_board (start_of job)) (moves_by script (start_of job) qs)) (occurrences_of (first_board (start_of job)) (moves_by script (start_of job) rs)) zone (first_tenure job zone).begins t) (tenures_of job (occurrences_of (first_board (start_of job)) (moves_by script (start_of job) qs)) zone)
  unfolding occurrences_of tenures_of
  present_tenure = elim (cases_Bool (carry zone (λ axis. true))) [
    | inl some ↦ let w = carry_from zone (λ axis. true) some in carried_present w.0 w.1
    | inr bare ↦ bare_present bare
  ]

-- ---- holders have numbers

owner_known : (zone : ZoneLine) (x : ℕ) (carries : has_axis zone x ≡ true) (os : List OccurrenceView) (owner : Option ℕ) → All (TakesAll zone x carries) os → KnownOwner owner → KnownOwner (owners_next zone owner os)
owner_known zone x carries [] owner takes known = known
owner_known zone x carries (o ∷ os) owner takes known =
    owner_known zone x carries os (owner_next zone owner o) (All-tail (TakesAll zone x carries) o os takes) (next (changes_hands zone o) (carry zone o.takes) refl)
  where
    next : (t s : Bool) → carry zone o.takes ≡ s → (c : ℕ) → cond t (cond s (Some o.channel) None) owner ≡ Some c → among channel_numbers c ≡ true
    next false s is c e = known c e
    next true false is c e = absurd cc
    next true true is c e = let same : o.channel ≡ c = cc in subst (λ (d : ℕ). among channel_numbers d ≡ true) same (All-head (TakesAll zone x carries) o os takes is).1

pub holder_known : (start : StartView) (script : Script) (cs : List ℕ) (zone : ZoneLine) → IsSound start → HasChannelNumbers start → IsRunOf script start cs → IsZoneOf start zone
    → (c : ℕ) → (stage_after script (first_stage start) cs).board.holder zone.zone ≡ Some c → among channel_numbers c ≡ true
holder_known start script cs zone sound numbers run there c is =
    let zs = run_board_first start sound in
    let replay = run_is_replay script (first_stage start) cs run in
    let moves = moves_by script start cs in
    let end : owners_next zone (first_holder start zone.zone) (occurrences_from (first_board start) 0 moves) ≡ (stage_after script (first_stage start) cs).board.holder zone.zone =
    run_owner moves (first_board start) zone 0 zs there.axes ∙ ap (λ (b : Board). b.holder zone.zone) replay.board in
    let first : (d : ℕ) → first_holder start zone.zone ≡ Some d → among channel_numbers d ≡ true = λ d e. numbers d (sound.holders zone.zone d e) in
    elim (cases_Bool (carry zone (λ axis. true))) [
      | inl some ↦
          let w = carry_from zone (λ axis. true) some in
          owner_known zone w.0 w.1 (occurrences_from (first_board start) 0 moves) (first_holder start zone.zone) (run_takes moves (first_board start) zone 0 w.0 w.1 zs there.axes replay.running) first c (end ∙ is)
      | inr bare ↦ first c (sym (one_owner zone bare (occurrences_from (first_board start) 0 moves) (first_holder start zone.zone)) ∙ end ∙ is)
    ]
