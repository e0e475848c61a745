-- A channel that goes on is told which of the zones that it holds are on.
use Rattle.axis_sets.specs.declared.limits.TheConstants.{CHANNEL_LIMIT, ZONE_LIMIT}
use Rattle.std.proofs.Common.{◌≡◌, ◌⊎◌, ◌∙◌, ℕ, zero, suc, ◌+◌, ◌≤◌, Bool, true, false, cond, ◌==◌, ◌&&◌, ◌||◌, List, [], ◌∷◌, ◌++◌, map, filter, Option, None, Some, inl, inr, refl, sym, ap, subst, arith}
use Rattle.std.proofs.lemmas.Bool.{and_parts, cases_Bool, eqb-true, eq-eqb, ne_eqb}
use Rattle.std.proofs.lemmas.List.{map-append}
use Rattle.std.proofs.lemmas.List.Elements.{filter-append}
use Rattle.std.proofs.lemmas.List.FromFn.{get_or-map-range_with_len}
use Rattle.axis_sets.proofs.SetLaws.{list_any-members_of}
use Rattle.axis_sets.specs.Sets.{has, members_of}
use Rattle.board_laws.proofs.Takings.{IsOf, taker_grant}
use Rattle.board_laws.specs.Machine.{holds_by_carrier, grant_by, holds_zone}
use Rattle.order_clocks.proofs.MemberLaws.{in_append}
use Rattle.order_clocks.proofs.ReadLaws.{part_acts, part_alarms}
use Rattle.order_clocks.specs.Chains.{IsIn}
use Rattle.order_clocks.specs.Happenings.{going_of, happening_of}
use Rattle.speed_laws.proofs.Hands.{found_once}
use Rattle.speed_laws.proofs.Histories.{found_in, none_in}
use Rattle.speed_laws.proofs.PresentSpans.{told_on}
use Rattle.speed_laws.proofs.RunBoards.{IsRunBoard, run_board_goes, run_board_part, run_board_step, run_board_takings}
use Rattle.speed_laws.proofs.StepEvents.{as_goings, of_in, once, step_events, taken}
use Rattle.speed_laws.specs.Doings.{Doings}
use Rattle.speed_laws.specs.Histories.{Telling, telling_of}
use Rattle.sync_types.proofs.BoardTests.{no_truth}
use Rattle.sync_types.specs.BoardActions.{after_own_part, axes_to_free, carries, channels_started, holder_after, is_on_after}
use Rattle.sync_types.specs.BoardAlarms.{alarm_of}
use Rattle.sync_types.specs.Boards.{Board, OwnedBy, among, grant_with, is_running, is_this, owner_of, owns, start_grant, zone_numbers}
use Rattle.sync_types.specs.Events.{channels_in}
use Rattle.sync_types.specs.GoingOn.{Going, after_goes, all_takings, axes_asked, first_of, going_at_once, going_of_start, goers_at_once}
use Rattle.sync_types.specs.Runs.{Stage, IsRun, after_turn, moves_of, stage_after}
use Rattle.sync_types.specs.Starts.{axes_of_zone, first_holder}
use Rattle.sync_types.specs.Turns.{after_step, goings_in_step}
use Rattle.sync_types.specs.declared.Grant.{Grant}
use Rattle.sync_types.specs.declared.Item.{Item}
use Rattle.sync_types.specs.declared.Step.{Step}
use Rattle.zone_stretches.proofs.NameLaws.{in_mapped, listed}
use Rattle.zone_stretches.specs.Occurrences.{OccurrenceView, act_of, going_on_of, occurrences_in, occurrences_from}

first_there : (xs : List ℕ) (x : ℕ) → first_of xs ≡ Some x → among xs x ≡ true
first_there [] x is = absurd cc
first_there (y ∷ xs) x is = let same : y ≡ x = cc in rw (eq-eqb y x same) refl

pub first_has : (row : List Bool) (x : ℕ) → first_of (members_of row) ≡ Some x → has row x ≡ true
first_has row x is = sym (list_any-members_of row x) ∙ first_there (members_of row) x is

flag_at : (flag : ℕ → Bool) (z : ℕ) → 1 ≤ z → z ≤ ZONE_LIMIT → has (false ∷ map flag zone_numbers) z ≡ flag z
flag_at flag zero low high = absurd (omega arith)
flag_at flag (suc n) low high = let next : 1 + n ≡ suc n = omega arith in get_or-map-range_with_len flag 1 ZONE_LIMIT n (suc n) false (omega arith) next

pub owned_this : (o : Option ℕ) (c : ℕ) → o ≡ Some c → is_this o c ≡ true
owned_this o c is = rw is (eq-eqb c c refl)

module _ (b : Board) (p : ℕ) (step : Step) (zs : IsRunBoard b) (running : is_running (b.state p) ≡ true) (z : ℕ) where
  abbrev part : Board
  part = after_own_part b p step

  abbrev before : Board
  before = after_goes part

  abbrev final : Board
  final = (all_takings before).board

  zones_before : IsRunBoard before
  zones_before = run_board_goes part (run_board_part b p step zs)

  zones_final : IsRunBoard final
  zones_final = run_board_takings CHANNEL_LIMIT before zones_before

  -- a taker of an axis of the zone, which is this channel
  record TookIt (c : ℕ) : Type 0 where
    going : Going
    within : IsIn going (all_takings before).goings
    channel : going.channel ≡ c
    axis : ℕ
    took : among going.took axis ≡ true

  -- who holds the zone after the step held it before, or took it
  before_or_took : (c : ℕ) → final.holder z ≡ Some c → (before.holder z ≡ Some c) ⊎ TookIt c
  before_or_took c held = by_first (first_of (members_of (axes_of_zone before.start z))) refl
    where
      starts_same : final.start ≡ before.start
      starts_same = (taken b p step zs running).start

      to_in : (g : Going) (gs : List Going) → IsOf g gs → IsIn g gs
      to_in g [] within = absurd within
      to_in g (h ∷ gs) (inl e) = inl e
      to_in g (h ∷ gs) (inr later) = inr (to_in g gs later)

      by_first : (o : Option ℕ) → first_of (members_of (axes_of_zone before.start z)) ≡ o → (before.holder z ≡ Some c) ⊎ TookIt c
      by_first None is =
          let bare : final.holder z ≡ first_holder final.start z = zones_final.zones.bare z (ap (λ s. first_of (members_of (axes_of_zone s z))) starts_same ∙ is) in
          inl (zones_before.zones.bare z is ∙ ap (λ s. first_holder s z) (sym starts_same) ∙ sym bare ∙ held)
      by_first (Some x) is =
          let there : has (axes_of_zone before.start z) x ≡ true = first_has (axes_of_zone before.start z) x is in
          let last : owner_of (final.axis x) ≡ Some c = zones_final.zones.owner z x (ap (λ s. has (axes_of_zone s z) x) starts_same ∙ there) ∙ held in
          elim ((taken b p step zs running).axis x) [
            | inl same ↦ inl (sym (zones_before.zones.owner z x there) ∙ ap owner_of (sym same) ∙ last)
            | inr some ↦
                let t = (taken b p step zs running).each some.0 some.1.0 in
                let owned : final.axis x ≡ OwnedBy some.0.channel = t.has x (and_parts _ _ (sym (t.took x) ∙ some.1.1)).0 in
                let same : Some some.0.channel ≡ Some c = ap owner_of (sym owned) ∙ last in
                let channel : some.0.channel ≡ c = cc in
                inr (record { going = some.0; within = to_in some.0 (all_takings before).goings some.1.0; channel = channel; axis = x; took = some.1.1 })
          ]

  in_goings : (g : Going) → IsIn g (all_takings before).goings → IsIn g (goings_in_step b p step)
  in_goings g within =
      (in_append g (map (going_of_start part) (channels_started (alarm_of b p step.action) step.action)) (map (going_at_once part) (goers_at_once part) ++ (all_takings before).goings)).1
      (inr ((in_append g (map (going_at_once part) (goers_at_once part)) (all_takings before).goings).1 (inr within)))

  -- one that takes nothing is no taker
  no_taker : (g : Going) → IsIn g (goings_in_step b p step) → ((x : ℕ) → among g.took x ≡ false) → TookIt g.channel → ⊥
  no_taker g within none took =
      let one = found_once (goings_in_step b p step) g (once b p step zs running) within in
      let two = found_once (goings_in_step b p step) took.going (once b p step zs running) (in_goings took.going took.within) in
      let both : Some took.going ≡ Some g = sym two ∙ ap (going_of (goings_in_step b p step)) took.channel ∙ one in
      let same : took.going ≡ g = cc in
      no_truth (among g.took took.axis) (ap (λ (h : Going). among h.took took.axis) (sym same) ∙ took.took) (none took.axis)

  bare_on : (g : Going) → IsIn g (goings_in_step b p step) → ((x : ℕ) → among g.took x ≡ false) → g.grant.on ≡ false ∷ map (λ n. is_this (part.holder n) g.channel && part.is_on n) zone_numbers
      → 1 ≤ z → z ≤ ZONE_LIMIT → final.holder z ≡ Some g.channel → has g.grant.on z ≡ final.is_on z
  bare_on g within none on low high held =
      let held_before : part.holder z ≡ Some g.channel = elim (before_or_took g.channel held) [ inl old ↦ old | inr took ↦ absurd (no_taker g within none took) ] in
      ap (λ (row : List Bool). has row z) on
      ∙ flag_at (λ n. is_this (part.holder n) g.channel && part.is_on n) z low high
      ∙ rw (owned_this (part.holder z) g.channel held_before) (ap (λ (f : ℕ → Bool). f z) (sym (taken b p step zs running).on))

  start_on : (c : ℕ) → (start_grant part c).on ≡ false ∷ map (λ n. is_this (part.holder n) c && part.is_on n) zone_numbers
  unfolding start_grant grant_with
  start_on c = refl

  quick_on : (c : ℕ) → (going_at_once part c).grant.on ≡ false ∷ map (λ n. is_this (part.holder n) c && part.is_on n) zone_numbers
  unfolding grant_with
  quick_on c = refl

  -- one that takes axes
  taker_holds : (g : Going) → IsIn g (all_takings before).goings → final.holder z ≡ Some g.channel
      → holds_zone before.start (λ x. among (axes_asked (before.state g.channel)) x || owns before g.channel x) g.channel z ≡ true
  unfolding holds_zone
  taker_holds g within held = by_first (first_of (members_of (axes_of_zone before.start z))) refl
    where
      or_there : (u v : Bool) → v ≡ true → (u || v) ≡ true
      or_there true v on = refl
      or_there false v on = on

      by_first : (o : Option ℕ) → first_of (members_of (axes_of_zone before.start z)) ≡ o
          → holds_by_carrier (first_of (members_of (axes_of_zone before.start z))) (λ x. among (axes_asked (before.state g.channel)) x || owns before g.channel x) (is_this (first_holder before.start z) g.channel) ≡ true
      by_first None is =
          let starts_same : final.start ≡ before.start = (taken b p step zs running).start in
          let bare : final.holder z ≡ first_holder final.start z = zones_final.zones.bare z (ap (λ s. first_of (members_of (axes_of_zone s z))) starts_same ∙ is) in
          rw is (owned_this (first_holder before.start z) g.channel (ap (λ s. first_holder s z) (sym starts_same) ∙ sym bare ∙ held))
      by_first (Some x) is =
          let starts_same : final.start ≡ before.start = (taken b p step zs running).start in
          let there : has (axes_of_zone before.start z) x ≡ true = first_has (axes_of_zone before.start z) x is in
          let last : owner_of (final.axis x) ≡ Some g.channel = zones_final.zones.owner z x (ap (λ s. has (axes_of_zone s z) x) starts_same ∙ there) ∙ held in
          rw is (elim ((taken b p step zs running).axis x) [
            | inl same ↦ or_there (among (axes_asked (before.state g.channel)) x) (owns before g.channel x) (owned_this (owner_of (before.axis x)) g.channel (ap owner_of (sym same) ∙ last))
            | inr some ↦
                let t = (taken b p step zs running).each some.0 some.1.0 in
                let both = and_parts _ _ (sym (t.took x) ∙ some.1.1) in
                let owned : final.axis x ≡ OwnedBy some.0.channel = t.has x both.0 in
                let same : Some some.0.channel ≡ Some g.channel = ap owner_of (sym owned) ∙ last in
                let channel : some.0.channel ≡ g.channel = cc in
                let asked : among (axes_asked (before.state g.channel)) x ≡ true = subst (λ (c : ℕ). among (axes_asked (before.state c)) x ≡ true) channel both.0 in
                rw asked refl
          ])

  taker_row : (c : ℕ) → (taker_grant before c).on ≡ false ∷ map (λ n. holds_zone before.start (λ x. among (axes_asked (before.state c)) x || owns before c x) c n && before.is_on n) zone_numbers
  unfolding grant_by
  taker_row c = refl

  taker_on : (g : Going) → IsIn g (all_takings before).goings → 1 ≤ z → z ≤ ZONE_LIMIT → final.holder z ≡ Some g.channel → has g.grant.on z ≡ final.is_on z
  taker_on g within low high held =
      let t = (taken b p step zs running).each g (of_in g (all_takings before).goings within) in
      ap (λ (grant : Grant). has grant.on z) t.grant
      ∙ ap (λ (row : List Bool). has row z) (taker_row g.channel)
      ∙ flag_at (λ n. holds_zone before.start (λ x. among (axes_asked (before.state g.channel)) x || owns before g.channel x) g.channel n && before.is_on n) z low high
      ∙ rw (taker_holds g within held) (ap (λ (f : ℕ → Bool). f z) (sym (taken b p step zs running).on))

  -- who goes on is told of each zone that it holds then whether it is on
  pub going_on : (g : Going) → IsIn g (goings_in_step b p step) → 1 ≤ z → z ≤ ZONE_LIMIT → (after_step b p step).holder z ≡ Some g.channel → has g.grant.on z ≡ (after_step b p step).is_on z
  going_on g within low high held =
      elim ((in_append g (map (going_of_start part) (channels_started (alarm_of b p step.action) step.action)) (map (going_at_once part) (goers_at_once part) ++ (all_takings before).goings)).0 within) [
        | inl start ↦
            let w = in_mapped (going_of_start part) g (channels_started (alarm_of b p step.action) step.action) start in
            bare_on g within (λ x. ap (λ (h : Going). among h.took x) w.1.1) (subst (λ (h : Going). h.grant.on ≡ false ∷ map (λ n. is_this (part.holder n) h.channel && part.is_on n) zone_numbers) (sym w.1.1) (start_on w.0)) low high held
        | inr rest ↦ elim ((in_append g (map (going_at_once part) (goers_at_once part)) (all_takings before).goings).0 rest) [
          | inl quick ↦
              let w = in_mapped (going_at_once part) g (goers_at_once part) quick in
              bare_on g within (λ x. ap (λ (h : Going). among h.took x) w.1.1) (subst (λ (h : Going). h.grant.on ≡ false ∷ map (λ n. is_this (part.holder n) h.channel && part.is_on n) zone_numbers) (sym w.1.1) (quick_on w.0)) low high held
          | inr took ↦ taker_on g took low high held
        ]
      ]

  -- who does not go on held before the step what it holds after it
  pub held_before : (c : ℕ) → among (channels_in (goings_in_step b p step)) c ≡ false → (after_step b p step).holder z ≡ Some c → b.holder z ≡ Some c
  unfolding holder_after
  held_before c out held = by_alarm (alarm_of b p step.action) refl (elim (before_or_took c held) [
    | inl old ↦ old
    | inr took ↦ absurd (no_truth (among (channels_in (goings_in_step b p step)) c)
        (subst (λ (d : ℕ). among (channels_in (goings_in_step b p step)) d ≡ true) took.channel (listed (goings_in_step b p step) took.going (in_goings took.going took.within))) out)
  ])
    where
      by_carry : (t : Bool) → cond t None (b.holder z) ≡ Some c → b.holder z ≡ Some c
      by_carry true is = absurd cc
      by_carry false is = is

      by_alarm : (a : Option ℕ) → alarm_of b p step.action ≡ a → (after_own_part b p step).holder z ≡ Some c → b.holder z ≡ Some c
      by_alarm (Some code) e is = subst (λ (a : Board). a.holder z ≡ Some c) (part_alarms b p step code e) is
      by_alarm None e is = by_carry (carries b (axes_to_free step.action) z) (subst (λ (a : Board). a.holder z ≡ Some c) (part_acts b p step e) is)

  -- whether the zone is on after the step
  pub on_after_step : (after_step b p step).is_on z ≡ cond (is_this (b.holder z) p) (has step.on z) (b.is_on z)
  unfolding is_on_after
  on_after_step = ap (λ (f : ℕ → Bool). f z) (taken b p step zs running).on ∙ by_alarm (alarm_of b p step.action) refl
    where
      by_alarm : (a : Option ℕ) → alarm_of b p step.action ≡ a → (after_own_part b p step).is_on z ≡ cond (is_this (b.holder z) p) (has step.on z) (b.is_on z)
      by_alarm (Some code) e = ap (λ (a : Board). a.is_on z) (part_alarms b p step code e)
      by_alarm None e = ap (λ (a : Board). a.is_on z) (part_acts b p step e)

-- ---- a channel's events tell it

module _ (doings : Doings) (z : ℕ) (low : 1 ≤ z) (high : z ≤ ZONE_LIMIT) where
  on_append : (on : ℕ → Bool) (ts us : List Telling) → told_on on (ts ++ us) ≡ told_on (told_on on ts) us
  on_append on [] us = refl
  on_append on (t ∷ ts) us = on_append (has t.on) ts us

  step_on : (stage : Stage) (p i c : ℕ) (rows : List (List Item)) (zs : IsRunBoard stage.board) (running : is_running (stage.board.state p) ≡ true) (on : ℕ → Bool)
      → (stage.board.holder z ≡ Some c → on z ≡ stage.board.is_on z) → (after_step stage.board p (doings.script p (stage.grants p))).holder z ≡ Some c
      → told_on on (map (telling_of rows) (cond (p == c) (act_of i (doings.script p (stage.grants p)) (happening_of stage.board p (doings.script p (stage.grants p))) ∷ []) []
      ++ map (going_on_of i (goings_in_step stage.board p (doings.script p (stage.grants p)))) (as_goings (going_of (goings_in_step stage.board p (doings.script p (stage.grants p))) c)))) z
      ≡ (after_step stage.board p (doings.script p (stage.grants p))).is_on z
  step_on stage p i c rows zs running on was held = by_going (going_of (goings_in_step stage.board p (doings.script p (stage.grants p))) c) refl (cases_Bool (p == c))
    where
      by_going : (o : Option Going) → going_of (goings_in_step stage.board p (doings.script p (stage.grants p))) c ≡ o → ((p == c) ≡ true) ⊎ ((p == c) ≡ false)
          → told_on on (map (telling_of rows) (cond (p == c) (act_of i (doings.script p (stage.grants p)) (happening_of stage.board p (doings.script p (stage.grants p))) ∷ []) []
          ++ map (going_on_of i (goings_in_step stage.board p (doings.script p (stage.grants p)))) (as_goings (going_of (goings_in_step stage.board p (doings.script p (stage.grants p))) c)))) z
          ≡ (after_step stage.board p (doings.script p (stage.grants p))).is_on z
      by_going (Some g) e by =
          let f = found_in (goings_in_step stage.board p (doings.script p (stage.grants p))) c g e in
          let told = going_on stage.board p (doings.script p (stage.grants p)) zs running z g f.0 low high (held ∙ ap (λ (d : ℕ). Some d) (sym f.1)) in
          rw e (elim by [ inl same ↦ rw same told | inr apart ↦ rw apart told ])
      by_going None e (inl same) =
          let old = held_before stage.board p (doings.script p (stage.grants p)) zs running z c (none_in (goings_in_step stage.board p (doings.script p (stage.grants p))) c e) held in
          let mine : is_this (stage.board.holder z) p ≡ true = owned_this (stage.board.holder z) p (old ∙ ap (λ (d : ℕ). Some d) (sym (eqb-true p c same))) in
          rw (e, same) (sym (on_after_step stage.board p (doings.script p (stage.grants p)) zs running z ∙ rw mine refl))
      by_going None e (inr apart) =
          let old = held_before stage.board p (doings.script p (stage.grants p)) zs running z c (none_in (goings_in_step stage.board p (doings.script p (stage.grants p))) c e) held in
          let other : is_this (stage.board.holder z) p ≡ false = rw old (ne_eqb c p (λ is. no_truth (p == c) (eq-eqb p c (sym is)) apart)) in
          rw (e, apart) (was old ∙ sym (on_after_step stage.board p (doings.script p (stage.grants p)) zs running z ∙ rw other refl))

  -- after each run, of a zone that it holds a channel's events tell whether it is on
  pub made_on : (cs : List ℕ) (stage : Stage) (i : ℕ) (rows : List (List Item)) (c : ℕ) (on : ℕ → Bool) → IsRunBoard stage.board → IsRun doings.script stage cs → (stage.board.holder z ≡ Some c → on z ≡ stage.board.is_on z)
      → (stage_after doings.script stage cs).board.holder z ≡ Some c
      → told_on on (map (telling_of rows) (filter (λ o. o.channel == c) (occurrences_from stage.board i (moves_of doings.script stage cs)))) z ≡ (stage_after doings.script stage cs).board.is_on z
  made_on [] stage i rows c on zs run was held = was held
  made_on (p ∷ cs) stage i rows c on zs run was held =
      let step = doings.script p (stage.grants p) in
      let next = after_turn doings.script stage p in
      let here = filter (λ o. o.channel == c) (occurrences_in i step (happening_of stage.board p step)) in
      let there = filter (λ o. o.channel == c) (occurrences_from next.board (suc i) (moves_of doings.script next cs)) in
      let told = told_on on (map (telling_of rows) here) in
      let now : next.board.holder z ≡ Some c → told z ≡ next.board.is_on z = λ held_next.
      ap (λ (os : List OccurrenceView). told_on on (map (telling_of rows) os) z) (step_events stage.board p step i c run.0 zs) ∙ step_on stage p i c rows zs run.0 on was held_next in
      ap (λ (os : List OccurrenceView). told_on on (map (telling_of rows) os) z) (filter-append (λ o. o.channel == c) (occurrences_in i step (happening_of stage.board p step)) (occurrences_from next.board (suc i) (moves_of doings.script next cs)))
      ∙ ap (λ (ts : List Telling). told_on on ts z) (map-append (telling_of rows) here there)
      ∙ ap (λ (f : ℕ → Bool). f z) (on_append on (map (telling_of rows) here) (map (telling_of rows) there))
      ∙ made_on cs next (suc i) rows c told (run_board_step stage.board p step zs) run.1 now held
