-- A whole run: its entries are what happens on the board, and its ends say which of its steps alarm.
use Rattle.axis_sets.specs.declared.limits.TheConstants.{CHANNEL_LIMIT, CHANNEL_PLACES}
use Rattle.std.proofs.Common.{◌≡◌, ℕ, zero, suc, ◌+◌, ◌<◌, ◌≤◌, ◌⊎◌, ◌↔◌, ◌==◌, ◌&&◌, ◌||◌, not, Bool, true, false, cond, inl, inr, length, List, [], ◌∷◌, map, filter, Option, Some, None, refl, sym, ap, ◌∙◌, arith, if◌then◌else◌}
use Rattle.std.specs.Prelude.{is_some, replicate, slice_index_or}
use Rattle.std.specs.List.{list_any, range_with_len}
use Rattle.std.proofs.lemmas.Bool.{cases_Bool, cases_lt, eqb-true, eqb-false, eq-eqb}
use Rattle.axis_sets.specs.Sets.{has, members_of}
use Rattle.order_clocks.specs.Chains.{IsIn}
use Rattle.order_clocks.specs.Clocked.{moves_in}
use Rattle.order_clocks.specs.CourseOf.{course_of}
use Rattle.order_clocks.specs.Happenings.{Key, Raised, Freed, Started, Ended, board_at, happening_at, happening_of, gives, going_of, rests_in, rests_on}
use Rattle.order_clocks.specs.Steps.{IsStep, gives_of, keys_of, rests_at}
use Rattle.order_clocks.specs.Stops.{AreActors, AreLastPlaces, IsWhole, TellsAlarms, alarm_at, alarms_in, are_acted, channel_at, channels_of, is_alarm_end, is_alarm_in, is_alarmed}
use Rattle.order_clocks.specs.declared.stops.Stops.{Stops}
use Rattle.order_clocks.specs.Watching.{IsGoingOf, IsRead, wait_in, wait_shown}
use Rattle.step_deeds.specs.declared.deed.StepEvents.{StepEvents}
use Rattle.step_deeds.specs.declared.deed.Wakeup.{Wakeup}
use Rattle.step_deeds.specs.declared.deed.Hold as code
use Rattle.step_deeds.specs.declared.deed.Hold.TheVariants.{Marks, Ends, Axes}
use Rattle.step_deeds.specs.declared.deed.WaitAt.{WaitAt}
use Rattle.order_clocks.proofs.MemberLaws.{in_members, members_in, in_map, map_in}
use Rattle.order_clocks.proofs.CounterLaws.{is_in, contains_from}
use Rattle.order_clocks.proofs.StopLaws.{alarm_ends, no_alarm_ends, acted_awake, fresh_stays, awake_channels, ends_are}
use Rattle.order_clocks.proofs.TellLaws.{going_some, going_within}
use Rattle.sync_types.proofs.BoardTests.{no_truth, some_pass, not_found}
use Rattle.sync_types.specs.BoardAlarms.{alarm_of}
use Rattle.sync_types.specs.Boards.{Hold, AtMarks, AtEnds, AtAxes, State, IsIdle, IsRunning, IsHolding, Board, first_board, first_state, board_at_rest, start_grant, among, channel_numbers, is_idle, is_running}
use Rattle.sync_types.specs.GoingOn.{Going}
use Rattle.sync_types.specs.Turns.{Move, after_step, after_entries, after_moves, entry_of, AreEntries, AreOfRunning}
use Rattle.sync_types.specs.Runs.{ComesFrom}
use Rattle.sync_types.specs.Starts.{has_channel, runs_at_first}
use Rattle.sync_types.specs.Views.{EntryView, RunView, StartView}
use Rattle.sync_types.specs.declared.ChannelEnd.{ChannelEnd}
use Rattle.sync_types.specs.declared.ChannelEnd.TheVariants as ends
use Rattle.step_deeds.specs.Holds.{departure_of, is_given}

-- entries and moves
pub running_moves : (es : List EntryView) (b : Board) → AreEntries b es → AreOfRunning b (moves_in es)
running_moves [] b are = are
running_moves (e ∷ es) b are = (are.0, running_moves es (after_step b e.channel e.step) are.2)

pub same_board : (es : List EntryView) (b : Board) → after_entries b es ≡ after_moves b (moves_in es)
same_board [] b = refl
same_board (e ∷ es) b = same_board es (after_step b e.channel e.step)

pub same_channels : (es : List EntryView) → channels_of (moves_in es) ≡ map (λ e. e.channel) es
same_channels [] = refl
same_channels (e ∷ es) = ap (λ (cs : List ℕ). e.channel ∷ cs) (same_channels es)

pub moves_size : (es : List EntryView) → length (moves_in es) ≡ length es
moves_size [] = refl
moves_size (e ∷ es) = ap suc (moves_size es)

pub board_zero : (ms : List Move) (b : Board) → board_at b ms 0 ≡ b
board_zero [] b = refl
board_zero (m ∷ ms) b = refl

-- the entry of a place
pub record EntryAt (b : Board) (ms : List Move) (i : ℕ) (e : EntryView) : Type 0 where
  pub running : is_running ((board_at b ms i).state e.channel) ≡ true
  pub entry : e ≡ entry_of (board_at b ms i) e.channel e.step
  pub happening : happening_at b ms i ≡ happening_of (board_at b ms i) e.channel e.step
  pub next : board_at b ms (suc i) ≡ after_step (board_at b ms i) e.channel e.step
  pub alarm : alarm_at b ms i ≡ is_some (alarm_of (board_at b ms i) e.channel e.step.action)

pub entry_at : (es : List EntryView) (b : Board) (i : ℕ) (e : EntryView) → i < length es → AreEntries b es → EntryAt b (moves_in es) i (slice_index_or es i e)
entry_at [] b i e within are = absurd (omega arith)
entry_at (x ∷ xs) b zero e within are = record {
  running = are.0;
  entry = are.1;
  happening = refl;
  next = board_zero (moves_in xs) (after_step b x.channel x.step);
  alarm = refl;
}
entry_at (x ∷ xs) b (suc i) e within are =
    let rest = entry_at xs (after_step b x.channel x.step) i e (omega arith) are.2 in
    record { running = rest.running; entry = rest.entry; happening = rest.happening; next = rest.next; alarm = rest.alarm }

-- numbers in a range
in_range : (n a c : ℕ) → a ≤ c → c < a + n → among (range_with_len a n) c ≡ true
in_range zero a c from below = absurd (omega arith)
in_range (suc n) a c from below = elim (cases_Bool (a == c)) [
  | inl same ↦ rw same refl
  | inr other ↦ let apart = eqb-false a c other in rw other (in_range n (a + 1) c (omega arith) (omega arith))
]

decide : (chs : List ℕ) (c n : ℕ) → ((i : ℕ) × ((i < n) × (channel_at chs i ≡ c))) ⊎ ((i : ℕ) → i < n → channel_at chs i ≡ c → ⊥)
decide chs c zero = inr (λ i low. absurd (omega arith))
decide chs c (suc n) = elim (decide chs c n) [
  | inl w ↦ let low = w.1.0 in inl (w.0, (omega arith, w.1.1))
  | inr none ↦ elim (cases_Bool (channel_at chs n == c)) [
    | inl same ↦ inl (n, (omega arith, eqb-true _ _ same))
    | inr other ↦ inr (λ i low is. elim (cases_lt i n) [
      | inl earlier ↦ none i earlier is
      | inr late ↦ let e : i ≡ n = omega arith in eqb-false _ _ other (rw e at is)
    ])
  ]
]

filter_alike : (p q : ℕ → Bool) (xs : List ℕ) → ((x : ℕ) → among xs x ≡ true → p x ≡ q x) → filter p xs ≡ filter q xs
filter_alike p q [] same = refl
filter_alike p q (x ∷ xs) same = rw (same x (here (x == x) (among xs x) (eq-eqb x x refl))) (ap (λ (rest : List ℕ). cond (q x) (x ∷ rest) rest) (filter_alike p q xs (λ y on. same y (later (x == y) (among xs y) on))))
  where
    here : (s t : Bool) → s ≡ true → (s || t) ≡ true
    here s t on = rw on refl

    later : (s t : Bool) → t ≡ true → (s || t) ≡ true
    later true t on = refl
    later false t on = on

-- a channel of the machine is among the numbers
numbered : (c : ℕ) → 1 ≤ c → c < CHANNEL_PLACES → among channel_numbers c ≡ true
numbered c from below = in_range CHANNEL_LIMIT 1 c from (omega arith)

-- of ends of which none is an alarm no flag is set
no_flags : (ends : List ChannelEnd) → list_any is_alarm_end ends ≡ false → list_any (λ t. t) (alarms_in ends) ≡ false
no_flags [] none = refl
no_flags (e ∷ es) none = by_end e refl (no_flags es)
  where
    by_end : (x : ChannelEnd) → e ≡ x → (list_any is_alarm_end es ≡ false → list_any (λ t. t) (alarms_in es) ≡ false) → list_any (λ t. t) (alarms_in (e ∷ es)) ≡ false
    by_end ends.Idle is rest = rw is (rest (rw is at none))
    by_end (ends.Alarmed alarm) is rest = no_truth true refl (rw is at none)
    by_end other is rest = rw is (rest (rw is at none))

-- a channel that is kept and has the flag sets one
flag_set : (f kept : ℕ → Bool) (cs : List ℕ) (c : ℕ) → among cs c ≡ true → kept c ≡ true → f c ≡ true → list_any (λ t. t) (map f (filter kept cs)) ≡ true
flag_set f kept [] c on keeps is = no_truth false on refl
flag_set f kept (d ∷ ds) c on keeps is = elim (cases_Bool (d == c)) [
  | inl same ↦ rw (eqb-true d c same, keeps, is) refl
  | inr other ↦ by_kept (kept d) refl (flag_set f kept ds c (rw other at on) keeps is)
]
  where
    by_kept : (t : Bool) → kept d ≡ t → list_any (λ t. t) (map f (filter kept ds)) ≡ true → list_any (λ t. t) (map f (filter kept (d ∷ ds))) ≡ true
    by_kept false e rest = rw e rest
    by_kept true e rest = rw e (later (f d) rest)
      where
        later : (p : Bool) → list_any (λ t. t) (map f (filter kept ds)) ≡ true → (p || list_any (λ t. t) (map f (filter kept ds))) ≡ true
        later true on = refl
        later false on = on

-- of flags that all are down none is set
pub unset : (n c : ℕ) → has (replicate n false) c ≡ false
unset zero c = refl
unset (suc n) zero = refl
unset (suc n) (suc c) = unset n c

-- where no end is an alarm no step alarms
pub nobody_alarms : (b : Board) (es : List EntryView) (ends : List ChannelEnd) → IsWhole b es ends → AreActors es → list_any is_alarm_end ends ≡ false
    → (stops : Stops) → ((c : ℕ) → has stops.alarmed c ≡ false) → TellsAlarms b (moves_in es) stops
nobody_alarms b es ends whole numbers none stops off = record { alarm = at }
  where
    run : AreOfRunning b (moves_in es)
    run = running_moves es b whole.entries

    over : (c : ℕ) → among channel_numbers c ≡ true → is_running ((after_moves b (moves_in es)).state c) ≡ false
    over c on = rw (sym (same_board es b)) (elim (cases_Bool (is_running ((after_entries b es).state c))) [
      | inl runs ↦ no_truth false (rw (some_pass (λ d. is_running ((after_entries b es).state d)) channel_numbers c on runs) at whole.over) refl
      | inr stands ↦ stands
    ])

    all : alarms_in ends ≡ map (λ c. is_alarmed ((after_moves b (moves_in es)).state c)) (filter (λ c. not (is_idle ((after_moves b (moves_in es)).state c))) channel_numbers)
    all = rw (whole.ends_are, same_board es b) (ends_are (after_moves b (moves_in es)) channel_numbers (awake_channels (moves_in es) b run whole.awake) over)

    at : (i : ℕ) → i < length (moves_in es) → is_alarm_in stops i (channel_at (channels_of (moves_in es)) i) ≡ alarm_at b (moves_in es) i
    at i within = rw (off (channel_at (channels_of (moves_in es)) i)) (elim (cases_Bool (alarm_at b (moves_in es) i)) [
      | inr quiet ↦ sym quiet
      | inl alarms ↦
          let ends_so = (alarm_ends (moves_in es) b i run within alarms).0 in
          let awake : not (is_idle ((after_moves b (moves_in es)).state (channel_at (channels_of (moves_in es)) i))) ≡ true = ap not (acted_awake (moves_in es) b i within) in
          let here = rw (sym (same_channels es)) at (numbers i (rw (sym (moves_size es)) within)) in
          no_truth _ (flag_set (λ c. is_alarmed ((after_moves b (moves_in es)).state c)) (λ c. not (is_idle ((after_moves b (moves_in es)).state c))) channel_numbers
          (channel_at (channels_of (moves_in es)) i) (numbered _ here.0 here.1) awake ends_so) (rw all at (no_flags ends none))
    ])

-- which steps alarm
pub stops_tell : (b : Board) (es : List EntryView) (ends : List ChannelEnd) (last : List ℕ) (alarmed : List Bool) → IsWhole b es ends → AreLastPlaces (map (λ e. e.channel) es) (length es) last
    → ((i : ℕ) → i < length es → (1 ≤ channel_at (map (λ e. e.channel) es) i) × (channel_at (map (λ e. e.channel) es) i < CHANNEL_PLACES))
    → ((f : ℕ → Bool) → alarms_in ends ≡ map f (filter (are_acted last) channel_numbers) → (c : ℕ) → 1 ≤ c → c < CHANNEL_PLACES → are_acted last c ≡ true → has alarmed c ≡ f c)
    → TellsAlarms b (moves_in es) (record { last = last; alarmed = alarmed })
stops_tell b es ends last alarmed whole places numbers flags = record { alarm = at }
  where
    ms : List Move
    ms = moves_in es

    final : Board
    final = after_moves b (moves_in es)

    chs : List ℕ
    chs = map (λ e. e.channel) es

    run : AreOfRunning b (moves_in es)
    run = running_moves es b whole.entries

    over : (c : ℕ) → among channel_numbers c ≡ true → is_running ((after_moves b (moves_in es)).state c) ≡ false
    over c on = rw (sym (same_board es b)) (elim (cases_Bool (is_running ((after_entries b es).state c))) [
      | inl runs ↦ no_truth false (rw (some_pass (λ d. is_running ((after_entries b es).state d)) channel_numbers c on runs) at whole.over) refl
      | inr off ↦ off
    ])

    acted : (c : ℕ) → among channel_numbers c ≡ true → are_acted last c ≡ not (is_idle ((after_moves b (moves_in es)).state c))
    acted c on = elim (decide (map (λ e. e.channel) es) c (length es)) [
      | inl w ↦ rw (not_zero (slice_index_or last c 0) (λ e. places.some w.0 w.1.0 (rw (sym w.1.1) at e)), awake w) refl
      | inr none ↦ rw (places.none c none, idle none) refl
    ]
      where
        not_zero : (n : ℕ) → (n ≡ 0 → ⊥) → (n == 0) ≡ false
        not_zero n apart = elim (cases_Bool (n == 0)) [ inl zero_it ↦ absurd (apart (eqb-true n 0 zero_it)) | inr off ↦ off ]

        awake : (i : ℕ) × ((i < length es) × (channel_at (map (λ e. e.channel) es) i ≡ c)) → is_idle ((after_moves b (moves_in es)).state c) ≡ false
        awake w = rw (same_channels es, w.1.1) at (acted_awake (moves_in es) b w.0 (rw (moves_size es) w.1.0))

        idle : ((i : ℕ) → i < length es → channel_at (map (λ e. e.channel) es) i ≡ c → ⊥) → is_idle ((after_moves b (moves_in es)).state c) ≡ true
        idle none = first _ _ (fresh_stays (moves_in es) b c (whole.fresh c) (λ j low is. none j (rw (moves_size es) at low) (rw (same_channels es) at is))) (over c on)
          where
            first : (p q : Bool) → (p || q) ≡ true → q ≡ false → p ≡ true
            first true q on off = refl
            first false q on off = no_truth q on off

    all : alarms_in ends ≡ map (λ c. is_alarmed ((after_moves b (moves_in es)).state c)) (filter (are_acted last) channel_numbers)
    all = rw (whole.ends_are, same_board es b) (ends_are (after_moves b (moves_in es)) channel_numbers (awake_channels (moves_in es) b run whole.awake) over
        ∙ ap (map (λ c. is_alarmed ((after_moves b (moves_in es)).state c))) (sym (filter_alike (are_acted last) (λ c. not (is_idle ((after_moves b (moves_in es)).state c))) channel_numbers acted)))

    at : (i : ℕ) → i < length (moves_in es) → is_alarm_in (record { last = last; alarmed = alarmed }) i (channel_at (channels_of (moves_in es)) i) ≡ alarm_at b (moves_in es) i
    at i within = rw (same_channels es) (by_alarm (alarm_at b (moves_in es) i) refl)
      where
        inside : i < length es
        inside = rw (sym (moves_size es)) within

        c : ℕ
        c = channel_at (map (λ e. e.channel) es) i

        flag : are_acted last (channel_at (map (λ e. e.channel) es) i) ≡ true → has alarmed (channel_at (map (λ e. e.channel) es) i) ≡ is_alarmed ((after_moves b (moves_in es)).state (channel_at (map (λ e. e.channel) es) i))
        flag on = flags (λ d. is_alarmed ((after_moves b (moves_in es)).state d)) all (channel_at (map (λ e. e.channel) es) i) (numbers i inside).0 (numbers i inside).1 on

        acted_here : are_acted last (channel_at (map (λ e. e.channel) es) i) ≡ true
        acted_here = elim (cases_Bool (slice_index_or last (channel_at (map (λ e. e.channel) es) i) 0 == 0)) [
          | inl zero_it ↦ absurd (places.some i inside (eqb-true _ _ zero_it))
          | inr off ↦ rw off refl
        ]

        by_alarm : (t : Bool) → alarm_at b (moves_in es) i ≡ t → (has alarmed (channel_at (map (λ e. e.channel) es) i) && (slice_index_or last (channel_at (map (λ e. e.channel) es) i) 0 == i + 1)) ≡ t
        by_alarm true e =
            let w = alarm_ends (moves_in es) b i run within e in
            let stopped : is_alarmed ((after_moves b (moves_in es)).state (channel_at (map (λ e. e.channel) es) i)) ≡ true = rw (same_channels es) at w.0 in
            let newest = places.newest i inside (λ j after before is. w.1 j after (rw (moves_size es) before) (rw (same_channels es) is)) in
            rw (flag acted_here, stopped, newest) (eq-eqb (i + 1) (i + 1) refl)
        by_alarm false e = elim (cases_Bool (slice_index_or last (channel_at (map (λ e. e.channel) es) i) 0 == i + 1)) [
          | inl on ↦
              let off = no_alarm_ends (moves_in es) b i within e (λ j after before is. places.later i j after (rw (moves_size es) at before) (rw (same_channels es) at is) (eqb-true _ _ on)) in
              let stopped : is_alarmed ((after_moves b (moves_in es)).state (channel_at (map (λ e. e.channel) es) i)) ≡ false = rw (same_channels es) at off in
              rw (flag acted_here, stopped) refl
          | inr off ↦ rw off (never (has alarmed (channel_at (map (λ e. e.channel) es) i)))
        ]
          where
            never : (t : Bool) → (t && false) ≡ false
            never true = refl
            never false = refl

-- what the code reads is a step of the course
rests_by_wait : Option (Hold × ℕ) → ℕ → List ℕ → List Key
rests_by_wait (Some (AtMarks m named, line)) c took = map (λ d. Raised d m) named
rests_by_wait (Some (AtEnds named, line)) c took = map Ended named
rests_by_wait (Some (AtAxes from_standing axes, line)) c took = map Freed took
rests_by_wait None c took = Started c ∷ []

going_rests : (g : Going) (s : State) → rests_in g s ≡ rests_by_wait (wait_in s) g.channel g.took
unfolding rests_by_wait
going_rests g (IsHolding (AtMarks m named) line) = refl
going_rests g (IsHolding (AtEnds named) line) = refl
going_rests g (IsHolding (AtAxes from_standing axes) line) = refl
going_rests g other = refl

departure_rests : (c : ℕ) (took : List Bool) (list : List ℕ) (held : Option WaitAt) (k : Key) → ((x : ℕ) → has took x ≡ among list x) → IsIn k (rests_by_wait (wait_shown held) c list) ↔ IsIn k (rests_at c took held)
unfolding rests_by_wait
departure_rests c took list (Some held) k same = by_hold held.hold held.line
  where
    by_hold : (h : code.Hold) (line : ℕ) → IsIn k (rests_by_wait (wait_shown (Some (record { hold = h; line = line }))) c list) ↔ IsIn k (rests_at c took (Some (record { hold = h; line = line })))
    by_hold (Marks m named) line = ((λ h. h), (λ h. h))
    by_hold (Ends named) line = ((λ h. h), (λ h. h))
    by_hold (Axes axes) line = (
      (λ h. let w = map_in Freed k list h in rw w.1.1 (in_map Freed w.0 (members_of took) (in_members took w.0 (same w.0 ∙ contains_from list w.0 w.1.0)))),
      (λ h. let w = map_in Freed k (members_of took) h in rw w.1.1 (in_map Freed w.0 list (is_in list w.0 (sym (same w.0) ∙ members_in took w.0 w.1.0)))),
    )
departure_rests c took list None k same = ((λ h. h), (λ h. h))

and_back : (p q : Bool) → (p && q) ≡ (q && p)
and_back true true = refl
and_back true false = refl
and_back false true = refl
and_back false false = refl

pub read_step : (b : Board) (ms : List Move) (i : ℕ) (deed : StepEvents) → IsRead deed (happening_at b ms i) → IsStep (course_of b ms) i deed
read_step b ms i deed read = record {
  actor = sym read.channel;
  gives = gives_alike;
  goers = λ c. sym (going_some (happening_at b ms i).goings c) ∙ given (departure_of deed c) (going_of (happening_at b ms i).goings c) (read.goings c);
  asks = λ c on k. rests (departure_of deed c) (going_of (happening_at b ms i).goings c) c k refl (read.goings c);
  group = λ c d c_on d_on. read.group c d c_on d_on;
}
  where
    gives_alike : (k : Key) → gives (happening_at b ms i) k ≡ gives_of deed k
    gives_alike (Raised c m) = rw (read.raises m, read.channel) (and_back (c == (happening_at b ms i).channel) ((happening_at b ms i).raises m))
    gives_alike (Freed x) = sym (read.frees x)
    gives_alike (Started c) = sym (read.starts c)
    gives_alike (Ended c) = rw (read.ends, read.channel) (and_back (c == (happening_at b ms i).channel) ((happening_at b ms i).ends))

    given : (x : Option Wakeup) (y : Option Going) → IsGoingOf x y → is_some y ≡ is_given x
    given (Some x) (Some y) is = refl
    given (Some x) None is = absurd is
    given None (Some y) is = absurd is
    given None None is = refl

    rests : (x : Option Wakeup) (y : Option Going) (c : ℕ) (k : Key) → going_of (happening_at b ms i).goings c ≡ y → IsGoingOf x y → IsIn k (rests_on y) ↔ IsIn k (keys_of c x)
    rests (Some x) (Some g) c k e is =
        let w = going_within (happening_at b ms i).goings c g e in
        let same : rests_in g g.from ≡ rests_by_wait (wait_shown x.held) c g.took = going_rests g g.from ∙ (ap (λ (v : Option (Hold × ℕ)). rests_by_wait v g.channel g.took) (sym is.from) ∙ ap (λ (d : ℕ). rests_by_wait (wait_shown x.held) d g.took) w.1) in
        let alike = departure_rests c x.took g.took x.held k is.took in
        ((λ h. alike.0 (rw same at h)), (λ h. rw same (alike.1 h)))
    rests (Some x) None c k e is = absurd is
    rests None (Some g) c k e is = absurd is
    rests None None c k e is = ((λ h. h), (λ h. h))

pub fresh_waits : (s : State) → (is_idle s || is_running s) ≡ true → wait_in s ≡ None
fresh_waits (IsHolding hold line) bad = no_truth false bad refl
fresh_waits other on = refl

-- a run that comes from a start is a whole one
pub whole_of : (start : StartView) (run : RunView) → ComesFrom start run → IsWhole (first_board start) run.entries run.ends
unfolding first_state
whole_of start run comes = record {
  entries = comes.entries;
  over = comes.over;
  ends_are = comes.ends;
  fresh = λ c. either (runs_at_first start c) c;
  awake = λ c off. elim (cases_Bool (has_channel start c)) [
    | inl on ↦ on
    | inr out ↦ no_truth true refl (rw (not_found (λ line. line.0 == c) start.channels out) at off)
  ];
  marks = λ c m. refl;
}
  where
    either : (t : Bool) (c : ℕ) → (is_idle (if t then IsRunning (start_grant (board_at_rest start) c) else IsIdle) || is_running (if t then IsRunning (start_grant (board_at_rest start) c) else IsIdle)) ≡ true
    either true c = refl
    either false c = refl
