-- The tenures of an axis, as the machine of the laws of the board keeps them, are read from the events of a run.
use Rattle.std.proofs.Common.{◌≡◌, ◌∙◌, ℕ, zero, suc, ◌+◌, ◌<◌, ◌≤◌, Bool, true, false, cond, ◌==◌, ◌||◌, List, [], ◌∷◌, ◌++◌, append-nil, append_assoc, length, map, filter, Option, None, Some, inl, inr, if◌then◌else◌, refl, sym, ap, ap₂, subst, arith}
use Rattle.std.proofs.lemmas.Bool.{and_parts, cases_Bool, eqb-true, eq-eqb, ne_eqb}
use Rattle.std.specs.Option.{option_map_or}
use Rattle.board_laws.proofs.Parts.{first_is}
use Rattle.board_laws.proofs.Takings.{Taken, taken_was_free}
use Rattle.board_laws.specs.Machine.{Place, Tenure, tenures_handed_on}
use Rattle.order_clocks.proofs.CounterLaws.{closed_other, opened_other}
use Rattle.order_clocks.proofs.DepartLaws.{going_there}
use Rattle.order_clocks.proofs.MemberLaws.{in_append}
use Rattle.order_clocks.specs.Chains.{IsIn}
use Rattle.order_clocks.specs.CourseOf.{course_of}
use Rattle.order_clocks.specs.Happenings.{Happening, board_at, going_of, happening_at, happening_of, of_going}
use Rattle.schedule_laws.proofs.EventLaws.{count_act, count_go}
use Rattle.schedule_laws.proofs.Steps.{step_at}
use Rattle.schedule_laws.specs.Tracked.{move_at, owner_span, part_at, rows_at, rows_in, taken_by, takes_in, tenures_at, tenures_in}
use Rattle.speed_laws.proofs.Histories.{found_in}
use Rattle.speed_laws.proofs.RunBoards.{IsRunBoard, run_board_at}
use Rattle.speed_laws.proofs.StepEvents.{of_in, once, taken}
use Rattle.sync_types.proofs.BoardTests.{no_truth}
use Rattle.sync_types.specs.BoardActions.{after_own_part, channels_started}
use Rattle.sync_types.specs.BoardAlarms.{alarm_of}
use Rattle.sync_types.specs.Boards.{Board, FreeAt, OwnedBy, Ownership, among, channel_numbers, is_free, is_running, owner_of}
use Rattle.sync_types.specs.Events.{channels_in}
use Rattle.sync_types.specs.GoingOn.{Going, after_goes, all_takings, first_of, going_at_once, going_of_start, goers_at_once}
use Rattle.sync_types.specs.Turns.{AreOfRunning, Move, after_step, goings_in_step}
use Rattle.sync_types.specs.declared.Action.TheVariants.{End as Ends}
use Rattle.sync_types.specs.declared.Step.{Step}
use Rattle.zone_stretches.proofs.EventLaws.{Once}
use Rattle.zone_stretches.proofs.NameLaws.{in_mapped}
use Rattle.zone_stretches.specs.Occurrences.{OccurrenceView, going_on_of, occurrences_in, occurrences_from, occurrences_of}
use Rattle.zone_stretches.specs.Tenures.{counted}

-- ---- the events of the first steps

abbrev no_step : Step
no_step = record { line = 0; action = Ends; at = []; on = [] }

abbrev step_in : Option Move → Step
step_in (Some m) = m.step
step_in None = no_step

abbrev in_step : ℕ → Board → List Move → ℕ → List OccurrenceView
in_step k b moves n = occurrences_in (k + n) (step_in (move_at moves n)) (happening_at b moves n)

abbrev upto : ℕ → Board → List Move → ℕ → List OccurrenceView
upto k b moves zero = []
upto k b moves (suc n) = upto k b moves n ++ in_step k b moves n

first_then : (k : ℕ) (b : Board) (m : Move) (ms : List Move) (n : ℕ)
    → upto k b (m ∷ ms) (suc n) ≡ occurrences_in k m.step (happening_of b m.channel m.step) ++ upto (suc k) (after_step b m.channel m.step) ms n
first_then k b m ms zero =
    let same : k + 0 ≡ k = omega arith in
    ap (λ (j : ℕ). occurrences_in j m.step (happening_of b m.channel m.step)) same ∙ sym (append-nil (occurrences_in k m.step (happening_of b m.channel m.step)))
first_then k b m ms (suc n) =
    let same : k + suc n ≡ suc k + n = omega arith in
    let next = after_step b m.channel m.step in
    ap₂ (λ (xs ys : List OccurrenceView). xs ++ ys) (first_then k b m ms n) (ap (λ (j : ℕ). occurrences_in j (step_in (move_at ms n)) (happening_at next ms n)) same)
    ∙ append_assoc (occurrences_in k m.step (happening_of b m.channel m.step)) (upto (suc k) next ms n) (in_step (suc k) next ms n)

all_upto : (ms : List Move) (b : Board) (k : ℕ) → occurrences_from b k ms ≡ upto k b ms (length ms)
all_upto [] b k = refl
all_upto (m ∷ ms) b k =
    let next = after_step b m.channel m.step in
    ap (λ (xs : List OccurrenceView). occurrences_in k m.step (happening_of b m.channel m.step) ++ xs) (all_upto ms next (suc k)) ∙ sym (first_then k b m ms (length ms))

-- ---- tenures by events

-- from the next event of the channel on
abbrev pub next_place : (ℕ → ℕ) → OccurrenceView → Place
next_place counts o = record { channel = o.channel; place = suc (counts o.channel) }

-- an event lets the axis go, or takes it, or neither
abbrev pub hand : ℕ → (ℕ → ℕ) → OccurrenceView → List Tenure → List Tenure
hand x counts o ts = if o.frees x then tenures_handed_on None (counts o.channel) (next_place counts o) ts else if o.takes x then tenures_handed_on (Some o.channel) 0 (next_place counts o) ts else ts

abbrev pub hands : ℕ → (ℕ → ℕ) → List Tenure → List OccurrenceView → List Tenure
hands x counts ts [] = ts
hands x counts ts (o ∷ os) = hands x (counted counts o.channel) (hand x counts o ts) os

abbrev pub counts_after : (ℕ → ℕ) → List OccurrenceView → ℕ → ℕ
counts_after counts [] = counts
counts_after counts (o ∷ os) = counts_after (counted counts o.channel) os

pub hands_append : (x : ℕ) (counts : ℕ → ℕ) (ts : List Tenure) (xs ys : List OccurrenceView) → hands x counts ts (xs ++ ys) ≡ hands x (counts_after counts xs) (hands x counts ts xs) ys
hands_append x counts ts [] ys = refl
hands_append x counts ts (o ∷ xs) ys = hands_append x (counted counts o.channel) (hand x counts o ts) xs ys

pub counts_append : (counts : ℕ → ℕ) (xs ys : List OccurrenceView) → counts_after counts (xs ++ ys) ≡ counts_after (counts_after counts xs) ys
counts_append counts [] ys = refl
counts_append counts (o ∷ xs) ys = counts_append (counted counts o.channel) xs ys

-- the same counts give the same
counted_same : (f g : ℕ → ℕ) (c : ℕ) → ((d : ℕ) → f d ≡ g d) → (d : ℕ) → counted f c d ≡ counted g c d
counted_same f g c same d = ap (λ (n : ℕ). cond (d == c) (suc n) n) (same d)

hands_same : (x : ℕ) (f g : ℕ → ℕ) (ts : List Tenure) (os : List OccurrenceView) → ((d : ℕ) → f d ≡ g d) → hands x f ts os ≡ hands x g ts os
hands_same x f g ts [] same = refl
hands_same x f g ts (o ∷ os) same =
    hands_same x (counted f o.channel) (counted g o.channel) (hand x f o ts) os (counted_same f g o.channel same)
    ∙ ap (λ (n : ℕ). hands x (counted g o.channel) (if o.frees x then tenures_handed_on None n (record { channel = o.channel; place = suc n }) ts else if o.takes x then tenures_handed_on (Some o.channel) 0 (record { channel = o.channel; place = suc n }) ts else ts) os) (same o.channel)

after_same : (f g : ℕ → ℕ) (os : List OccurrenceView) → ((d : ℕ) → f d ≡ g d) → (d : ℕ) → counts_after f os d ≡ counts_after g os d
after_same f g [] same d = same d
after_same f g (o ∷ os) same d = after_same (counted f o.channel) (counted g o.channel) os (counted_same f g o.channel same) d

-- ---- those that go on in a step

module _ (x i : ℕ) (all : List Going) where
  hand_not : (counts : ℕ → ℕ) (ts : List Tenure) (g : Going) → among g.took x ≡ false → hand x counts (going_on_of i all g) ts ≡ ts
  hand_not counts ts g off = ap (λ (t : Bool). if t then tenures_handed_on (Some g.channel) 0 (record { channel = g.channel; place = suc (counts g.channel) }) ts else ts) off

  hand_takes : (counts : ℕ → ℕ) (ts : List Tenure) (g : Going) → among g.took x ≡ true
      → hand x counts (going_on_of i all g) ts ≡ tenures_handed_on (Some g.channel) 0 (record { channel = g.channel; place = suc (counts g.channel) }) ts
  hand_takes counts ts g on = ap (λ (t : Bool). if t then tenures_handed_on (Some g.channel) 0 (record { channel = g.channel; place = suc (counts g.channel) }) ts else ts) on

  none_takes : (counts : ℕ → ℕ) (ts : List Tenure) (gs : List Going) → ((g : Going) → IsIn g gs → among g.took x ≡ false) → hands x counts ts (map (going_on_of i all) gs) ≡ ts
  none_takes counts ts [] none = refl
  none_takes counts ts (g ∷ gs) none =
      ap (λ (us : List Tenure). hands x (counted counts g.channel) us (map (going_on_of i all) gs)) (hand_not counts ts g (none g (inl refl)))
      ∙ (none_takes (counted counts g.channel) ts gs (λ h within. none h (inr within)))

  one_takes : (counts : ℕ → ℕ) (ts : List Tenure) (gs : List Going) (g : Going) → Once gs → IsIn g gs → among g.took x ≡ true → ((h : Going) → IsIn h gs → among h.took x ≡ true → h.channel ≡ g.channel)
      → hands x counts ts (map (going_on_of i all) gs) ≡ tenures_handed_on (Some g.channel) 0 (record { channel = g.channel; place = suc (counts g.channel) }) ts
  one_takes counts ts [] g once within takes only = absurd within
  one_takes counts ts (h ∷ gs) g once (inl e) takes only =
      let on : among h.took x ≡ true = ap (λ (k : Going). among k.took x) (sym e) ∙ takes in
      let rest : (k : Going) → IsIn k gs → among k.took x ≡ false = λ k there. elim (cases_Bool (among k.took x)) [
        | inr off ↦ off
        | inl yes_it ↦ absurd (once.0 k there (only h (inl refl) on ∙ sym (only k (inr there) yes_it)))
      ] in
      ap (λ (us : List Tenure). hands x (counted counts h.channel) us (map (going_on_of i all) gs)) (hand_takes counts ts h on)
      ∙ none_takes (counted counts h.channel) (tenures_handed_on (Some h.channel) 0 (record { channel = h.channel; place = suc (counts h.channel) }) ts) gs rest
      ∙ (ap (λ (k : Going). tenures_handed_on (Some k.channel) 0 (record { channel = k.channel; place = suc (counts k.channel) }) ts) (sym e))
  one_takes counts ts (h ∷ gs) g once (inr there) takes only =
      let apart : g.channel ≡ h.channel → ⊥ = λ same. once.0 g there (sym same) in
      let off : among h.took x ≡ false = elim (cases_Bool (among h.took x)) [ inl on ↦ absurd (apart (sym (only h (inl refl) on))) | inr off ↦ off ] in
      ap (λ (us : List Tenure). hands x (counted counts h.channel) us (map (going_on_of i all) gs)) (hand_not counts ts h off)
      ∙ (one_takes (counted counts h.channel) ts gs g once.1 there takes (λ k within on. only k (inr within) on)
      ∙ ap (λ (n : ℕ). tenures_handed_on (Some g.channel) 0 (record { channel = g.channel; place = suc n }) ts) (rw (ne_eqb g.channel h.channel apart) refl))

  goings_counted : (counts : ℕ → ℕ) (gs : List Going) (c : ℕ) → Once gs → counts_after counts (map (going_on_of i all) gs) c ≡ cond (among (channels_in gs) c) (suc (counts c)) (counts c)
  goings_counted counts [] c once = refl
  goings_counted counts (g ∷ gs) c once = goings_counted (counted counts g.channel) gs c once.1 ∙ by_test (g.channel == c) refl
    where
      by_test : (t : Bool) → (g.channel == c) ≡ t
          → cond (among (channels_in gs) c) (suc (counted counts g.channel c)) (counted counts g.channel c) ≡ cond ((g.channel == c) || among (channels_in gs) c) (suc (counts c)) (counts c)
      by_test true is =
          let same : g.channel ≡ c = eqb-true g.channel c is in
          let out : among (channels_in gs) c ≡ false = elim (cases_Bool (among (channels_in gs) c)) [
            | inr off ↦ off
            | inl on ↦ let w = there gs c on in absurd (once.0 w.0 w.1.0 (same ∙ sym w.1.1))
          ] in
          rw (is, out, eq-eqb c g.channel (sym same)) refl
        where
          there : (hs : List Going) (d : ℕ) → among (channels_in hs) d ≡ true → (h : Going) × (IsIn h hs × (h.channel ≡ d))
          there hs d on = going_there hs d on
      by_test false is = rw (is, ne_eqb c g.channel (λ e. no_truth (g.channel == c) (eq-eqb g.channel c (sym e)) is)) refl

-- ---- who takes an axis in a step

pub found_once : (gs : List Going) (g : Going) → Once gs → IsIn g gs → going_of gs g.channel ≡ Some g
found_once [] g once within = absurd within
found_once (h ∷ gs) g once (inl e) = rw (eq-eqb h.channel g.channel (ap (λ (k : Going). k.channel) (sym e))) (ap (λ (k : Going). Some k) (sym e))
found_once (h ∷ gs) g once (inr there) = rw (ne_eqb h.channel g.channel (once.0 g there)) (found_once gs g once.1 there)

first_no : (f : ℕ → Bool) (xs : List ℕ) (c : ℕ) → first_of (filter f xs) ≡ None → among xs c ≡ true → f c ≡ false
first_no f [] c none there = absurd cc
first_no f (y ∷ xs) c none there = by_test (f y) refl none (y == c) refl there (first_no f xs c)
  where
    by_test : (t : Bool) → f y ≡ t → first_of (cond t (y ∷ filter f xs) (filter f xs)) ≡ None → (s : Bool) → (y == c) ≡ s → (s || among xs c) ≡ true
        → (first_of (filter f xs) ≡ None → among xs c ≡ true → f c ≡ false) → f c ≡ false
    by_test true is none s same there rest = absurd cc
    by_test false is none true same there rest = ap f (sym (eqb-true y c same)) ∙ is
    by_test false is none false same there rest = rest none there

pub record AreTakers (x : ℕ) (gs : List Going) : Type 0 where
  pub once : Once gs
  pub only : (g h : Going) → IsIn g gs → IsIn h gs → among g.took x ≡ true → among h.took x ≡ true → h.channel ≡ g.channel
  pub known : (g : Going) → IsIn g gs → among g.took x ≡ true → among channel_numbers g.channel ≡ true

abbrev by_taker : (ℕ → ℕ) → Option ℕ → List Tenure → List Tenure
by_taker counts None ts = ts
by_taker counts (Some c) ts = tenures_handed_on (Some c) 0 (record { channel = c; place = suc (counts c) }) ts

goings_hand : (x i : ℕ) (all gs : List Going) (counts : ℕ → ℕ) (ts : List Tenure) → AreTakers x gs
    → hands x counts ts (map (going_on_of i all) gs) ≡ by_taker counts (first_of (filter (λ c. of_going (going_of gs c) (λ g. among g.took x)) channel_numbers)) ts
goings_hand x i all gs counts ts takers = by_first (first_of (filter takes channel_numbers)) refl
  where
    takes : ℕ → Bool
    takes c = of_going (going_of gs c) (λ g. among g.took x)

    by_going : (o : Option Going) → (c : ℕ) → going_of gs c ≡ o → of_going o (λ g. among g.took x) ≡ true
        → hands x counts ts (map (going_on_of i all) gs) ≡ tenures_handed_on (Some c) 0 (record { channel = c; place = suc (counts c) }) ts
    by_going None c e on = absurd cc
    by_going (Some g) c e on =
        let f = found_in gs c g e in
        one_takes x i all counts ts gs g takers.once f.0 on (λ h within takes_it. takers.only g h f.0 within on takes_it)
        ∙ ap (λ (d : ℕ). tenures_handed_on (Some d) 0 (record { channel = d; place = suc (counts d) }) ts) f.1

    by_first : (o : Option ℕ) → first_of (filter (λ c. of_going (going_of gs c) (λ g. among g.took x)) channel_numbers) ≡ o → hands x counts ts (map (going_on_of i all) gs) ≡ by_taker counts o ts
    by_first None e = none_takes x i all counts ts gs (λ g within. elim (cases_Bool (among g.took x)) [
      | inr off ↦ off
      | inl on ↦ no_truth (of_going (going_of gs g.channel) (λ h. among h.took x)) (ap (λ (o : Option Going). of_going o (λ h. among h.took x)) (found_once gs g takers.once within) ∙ on)
          (first_no (λ c. of_going (going_of gs c) (λ h. among h.took x)) channel_numbers g.channel e (takers.known g within on))
    ])
    by_first (Some c) e = by_going (going_of gs c) c refl (first_is (λ d. of_going (going_of gs d) (λ h. among h.took x)) channel_numbers c e)

module _ (b : Board) (p : ℕ) (step : Step) (zs : IsRunBoard b) (running : is_running (b.state p) ≡ true) (x : ℕ) where
  abbrev own_part : Board
  own_part = after_own_part b p step

  abbrev last_board : Board
  last_board = (all_takings (after_goes own_part)).board

  -- who takes an axis is one of those that take
  pub taker_in : (g : Going) → IsIn g (goings_in_step b p step) → among g.took x ≡ true → Taken (after_goes own_part) last_board g
  taker_in g within on = elim ((in_append g (map (going_of_start own_part) started) (map (going_at_once own_part) (goers_at_once own_part) ++ (all_takings (after_goes own_part)).goings)).0 within) [
    | inl start ↦ let w = in_mapped (going_of_start own_part) g started start in no_truth false (ap (λ (k : Going). among k.took x) (sym w.1.1) ∙ on) refl
    | inr rest ↦ elim ((in_append g (map (going_at_once own_part) (goers_at_once own_part)) (all_takings (after_goes own_part)).goings).0 rest) [
      | inl quick ↦ let w = in_mapped (going_at_once own_part) g (goers_at_once own_part) quick in no_truth false (ap (λ (k : Going). among k.took x) (sym w.1.1) ∙ on) refl
      | inr took ↦ (taken b p step zs running).each g (of_in g (all_takings (after_goes own_part)).goings took)
    ]
  ]
    where
      started : List ℕ
      started = channels_started (alarm_of b p step.action) step.action

  same_owner : (c d : ℕ) (o : Ownership) → o ≡ OwnedBy c → o ≡ OwnedBy d → c ≡ d
  same_owner c d o one two = let same : Some c ≡ Some d = ap owner_of (sym one ∙ two) in cc

  takers_of : AreTakers x (goings_in_step b p step)
  takers_of = record {
    once = once b p step zs running;
    only = λ g h within within' on on'.
        let t = taker_in g within on in
        let u = taker_in h within' on' in
        same_owner h.channel g.channel (last_board.axis x)
        (u.has x (and_parts _ _ (sym (u.took x) ∙ on')).0)
        (t.has x (and_parts _ _ (sym (t.took x) ∙ on)).0);
    known = λ g within on. (taker_in g within on).listed;
  }

-- ---- one step, and all

abbrev pub counts_at : Board → List Move → ℕ → ℕ → ℕ
counts_at b moves i c = (rows_at b moves i).past c c

module _ (b : Board) (moves : List Move) (zs : IsRunBoard b) (run : AreOfRunning b moves) (i : ℕ) (inside : i < length moves) where
  abbrev h : Happening
  h = happening_at b moves i

  step_takers : (x : ℕ) → AreTakers x h.goings
  step_takers x =
      let w = step_at b moves i inside run in
      subst (λ (k : Happening). AreTakers x k.goings) (sym w.happens) (takers_of (board_at b moves i) w.move.channel w.move.step (run_board_at b moves i zs) w.runs x)

  counts_in : (c : ℕ) → counted (counts_at b moves i) h.channel c ≡ (rows_in b moves i).past c c
  counts_in c = by_test (c == h.channel) refl
    where
      by_test : (t : Bool) → (c == h.channel) ≡ t → cond t (suc (counts_at b moves i c)) (counts_at b moves i c) ≡ (rows_in b moves i).past c c
      by_test true is = sym (count_act b moves i c (sym (eqb-true c h.channel is)))
      by_test false is = sym (opened_other (course_of b moves) i (rows_at b moves i) c c is)

  step_counts : (c : ℕ) → counts_after (counts_at b moves i) (in_step 0 b moves i) c ≡ counts_at b moves (suc i) c
  step_counts c =
      after_same (counted (counts_at b moves i) h.channel) (λ d. (rows_in b moves i).past d d) (map (going_on_of (0 + i) h.goings) h.goings) counts_in c
      ∙ goings_counted 0 (0 + i) h.goings (λ d. (rows_in b moves i).past d d) h.goings c (step_takers 0).once
      ∙ by_test (among (channels_in h.goings) c) refl
    where
      by_test : (t : Bool) → among (channels_in h.goings) c ≡ t → cond t (suc ((rows_in b moves i).past c c)) ((rows_in b moves i).past c c) ≡ counts_at b moves (suc i) c
      by_test true is = sym (count_go b moves i c is)
      by_test false is = sym (closed_other (course_of b moves) i (rows_in b moves i) c c is)

  -- who takes an axis takes it from nobody
  step_free : (x c : ℕ) → takes_in b moves i x c ≡ true → owner_span b moves i x ≡ 0
  step_free x c takes = by_going (going_of h.goings c) refl takes
    where
      of_nobody : (counts : ℕ → ℕ) (a : Ownership) → is_free a ≡ true → option_map_or counts (owner_of a) 0 ≡ 0
      of_nobody counts (OwnedBy d) free = no_truth false free refl
      of_nobody counts (FreeAt position) free = refl

      by_going : (o : Option Going) → going_of h.goings c ≡ o → of_going o (λ g. among g.took x) ≡ true → owner_span b moves i x ≡ 0
      by_going None e on = absurd cc
      by_going (Some g) e on =
          let w = step_at b moves i inside run in
          let within = subst (λ (k : Happening). IsIn g k.goings) w.happens (found_in h.goings c g e).0 in
          let t = taker_in (board_at b moves i) w.move.channel w.move.step (run_board_at b moves i zs) w.runs x g within on in
          of_nobody (λ d. (rows_in b moves i).past d d) ((part_at b moves i).axis x) (ap (λ (a : Board). is_free (a.axis x)) w.part ∙ taken_was_free _ _ g x t on)

  step_hands : (x : ℕ) → hands x (counts_at b moves i) (tenures_at b moves i x) (in_step 0 b moves i) ≡ tenures_at b moves (suc i) x
  step_hands x =
      hands_same x (counted (counts_at b moves i) h.channel) (λ d. (rows_in b moves i).past d d) (tenures_in b moves i (tenures_at b moves i x) x) (map (going_on_of (0 + i) h.goings) h.goings) counts_in
      ∙ goings_hand x (0 + i) h.goings h.goings (λ d. (rows_in b moves i).past d d) (tenures_in b moves i (tenures_at b moves i x) x) (step_takers x)
      ∙ same_taker (first_of (filter (takes_in b moves i x) channel_numbers)) (tenures_in b moves i (tenures_at b moves i x) x) (first_is (takes_in b moves i x) channel_numbers)
    where
      same_taker : (o : Option ℕ) (ts : List Tenure) → ((c : ℕ) → o ≡ Some c → takes_in b moves i x c ≡ true) → by_taker (λ d. (rows_in b moves i).past d d) o ts ≡ taken_by b moves i x o ts
      same_taker None ts takes = refl
      same_taker (Some c) ts takes =
          ap (λ (n : ℕ). tenures_handed_on (Some c) n (record { channel = c; place = suc ((rows_in b moves i).past c c) }) ts) (sym (step_free x c (takes c refl)))

record ReadUpto (b : Board) (moves : List Move) (i : ℕ) : Type 0 where
  counts : (c : ℕ) → counts_after (λ d. 0) (upto 0 b moves i) c ≡ counts_at b moves i c
  tenures : (x : ℕ) → hands x (λ d. 0) (tenures_at b moves 0 x) (upto 0 b moves i) ≡ tenures_at b moves i x

read_upto : (b : Board) (moves : List Move) → IsRunBoard b → AreOfRunning b moves → (i : ℕ) → i ≤ length moves → ReadUpto b moves i
read_upto b moves zs run zero inside = record { counts = λ c. refl; tenures = λ x. refl }
read_upto b moves zs run (suc i) inside =
    let old = read_upto b moves zs run i (omega (arith, inside)) in
    record {
      counts = λ c.
          ap (λ (f : ℕ → ℕ). f c) (counts_append (λ d. 0) (upto 0 b moves i) (in_step 0 b moves i))
          ∙ after_same (counts_after (λ d. 0) (upto 0 b moves i)) (counts_at b moves i) (in_step 0 b moves i) old.counts c
          ∙ step_counts b moves zs run i inside c;
      tenures = λ x.
          hands_append x (λ d. 0) (tenures_at b moves 0 x) (upto 0 b moves i) (in_step 0 b moves i)
          ∙ hands_same x (counts_after (λ d. 0) (upto 0 b moves i)) (counts_at b moves i) (hands x (λ d. 0) (tenures_at b moves 0 x) (upto 0 b moves i)) (in_step 0 b moves i) old.counts
          ∙ ap (λ (ts : List Tenure). hands x (counts_at b moves i) ts (in_step 0 b moves i)) (old.tenures x)
          ∙ step_hands b moves zs run i inside x;
    }

-- the tenures of an axis in a run are read from its events
pub tenures_read : (b : Board) (moves : List Move) (x : ℕ) → IsRunBoard b → AreOfRunning b moves → hands x (λ d. 0) (tenures_at b moves 0 x) (occurrences_of b moves) ≡ tenures_at b moves (length moves) x
unfolding occurrences_of
tenures_read b moves x zs run =
    ap (hands x (λ d. 0) (tenures_at b moves 0 x)) (all_upto moves b 0) ∙ (read_upto b moves zs run (length moves) (omega arith)).tenures x

-- and so are the counts of its events
pub counts_read : (b : Board) (moves : List Move) (c : ℕ) → IsRunBoard b → AreOfRunning b moves → counts_after (λ d. 0) (occurrences_of b moves) c ≡ counts_at b moves (length moves) c
unfolding occurrences_of
counts_read b moves c zs run =
    ap (λ (os : List OccurrenceView). counts_after (λ d. 0) os c) (all_upto moves b 0) ∙ (read_upto b moves zs run (length moves) (omega arith)).counts c
