-- Which channels have acted and have alarmed at the end of a run.
use Rattle.axis_sets.specs.declared.limits.TheConstants.{CHANNEL_PLACES}
use Rattle.std.proofs.Common.{◌≡◌, ℕ, zero, suc, add-one, ◌-◌, ◌+◌, ◌<◌, ◌==◌, ◌||◌, not, Bool, true, false, cond, inl, inr, length, List, [], ◌∷◌, map, filter, refl, sym, ap, ◌∙◌, arith}
use Rattle.std.specs.Prelude.{slice_index_or, slice_set}
use Rattle.std.specs.List.{range_with_len}
use Rattle.std.proofs.lemmas.Bool.{cases_Bool, cases_lt, eqb-true, eqb-false, eq-eqb}
use Rattle.std.proofs.lemmas.List.{get_or-set_same, get_or-set_other}
use Rattle.order_clocks.specs.Stops.{AreLastPlaces, is_alarmed, alarms_in, channel_at, channels_of, alarm_at}
use Rattle.order_clocks.proofs.AlarmLaws.{other_stays, other_unalarmed, actor_alarms, actor_unalarmed, actor_awake, other_awake, other_fresh, idle_stays}
use Rattle.sync_types.proofs.BoardTests.{no_truth}
use Rattle.sync_types.specs.BoardEnds.{ends_among}
use Rattle.sync_types.specs.Boards.{State, IsIdle, IsRunning, IsHolding, HasEnded, HasAlarmed, Board, among, is_idle, is_running}
use Rattle.sync_types.specs.Starts.{has_channel}
use Rattle.sync_types.specs.Turns.{Move, after_step, after_moves, AreOfRunning}
use Rattle.sync_types.specs.Views.{EntryView}

not_runs : (s : State) → is_alarmed s ≡ true → is_running s ≡ false
not_runs (HasAlarmed code line) on = refl
not_runs other on = no_truth false on refl

-- one that is alarmed does not act
alarmed_apart : (b : Board) (c d : ℕ) → is_alarmed (b.state d) ≡ true → is_running (b.state c) ≡ true → (d == c) ≡ false
alarmed_apart b c d on runs = elim (cases_Bool (d == c)) [
  | inl same ↦ no_truth (is_running (b.state c)) runs (not_runs (b.state c) (rw (eqb-true d c same) at on))
  | inr other ↦ other
]

pub alarmed_stays : (ms : List Move) (b : Board) (d : ℕ) → AreOfRunning b ms → is_alarmed (b.state d) ≡ true → is_alarmed ((after_moves b ms).state d) ≡ true
alarmed_stays [] b d run on = on
alarmed_stays (m ∷ ms) b d run on = alarmed_stays ms (after_step b m.channel m.step) d run.1 (other_stays b m.channel m.step d (alarmed_apart b m.channel d on run.0) on)

pub alarmed_acts_not : (ms : List Move) (b : Board) (d j : ℕ) → AreOfRunning b ms → is_alarmed (b.state d) ≡ true → j < length ms → channel_at (channels_of ms) j ≡ d → ⊥
alarmed_acts_not [] b d j run on within = absurd (omega arith)
alarmed_acts_not (m ∷ ms) b d zero run on within = λ e. no_truth (d == m.channel) (eq-eqb d m.channel (sym e)) (alarmed_apart b m.channel d on run.0)
alarmed_acts_not (m ∷ ms) b d (suc j) run on within = alarmed_acts_not ms (after_step b m.channel m.step) d j run.1 (other_stays b m.channel m.step d (alarmed_apart b m.channel d on run.0) on) (omega arith)

apart : (c d : ℕ) → (c ≡ d → ⊥) → (d == c) ≡ false
apart c d other = elim (cases_Bool (d == c)) [ inl same ↦ absurd (other (sym (eqb-true d c same))) | inr off ↦ off ]

pub unalarmed_stays : (ms : List Move) (b : Board) (d : ℕ) → is_alarmed (b.state d) ≡ false → ((j : ℕ) → j < length ms → channel_at (channels_of ms) j ≡ d → ⊥) → is_alarmed ((after_moves b ms).state d) ≡ false
unalarmed_stays [] b d off none = off
unalarmed_stays (m ∷ ms) b d off none = unalarmed_stays ms (after_step b m.channel m.step) d (other_unalarmed b m.channel m.step d (apart m.channel d (none 0 (omega arith))) off) (λ j within. none (suc j) (omega arith))

-- an alarm is the last step of its channel, which is alarmed at the end
pub alarm_ends : (ms : List Move) (b : Board) (i : ℕ) → AreOfRunning b ms → i < length ms → alarm_at b ms i ≡ true
    → (is_alarmed ((after_moves b ms).state (channel_at (channels_of ms) i)) ≡ true) × ((j : ℕ) → i < j → j < length ms → channel_at (channels_of ms) j ≡ channel_at (channels_of ms) i → ⊥)
alarm_ends [] b i run within on = absurd (omega arith)
alarm_ends (m ∷ ms) b zero run within on =
    let alarmed = actor_alarms b m.channel m.step on in
    (alarmed_stays ms (after_step b m.channel m.step) m.channel run.1 alarmed, later alarmed)
  where
    later : is_alarmed ((after_step b m.channel m.step).state m.channel) ≡ true → (j : ℕ) → 0 < j → j < suc (length ms) → channel_at (channels_of (m ∷ ms)) j ≡ m.channel → ⊥
    later alarmed zero low high = absurd (omega arith)
    later alarmed (suc j) low high = alarmed_acts_not ms (after_step b m.channel m.step) m.channel j run.1 alarmed (omega arith)
alarm_ends (m ∷ ms) b (suc i) run within on =
    let rest = alarm_ends ms (after_step b m.channel m.step) i run.1 (omega arith) on in
    (rest.0, later rest.1)
  where
    later : ((j : ℕ) → i < j → j < length ms → channel_at (channels_of ms) j ≡ channel_at (channels_of ms) i → ⊥) → (j : ℕ) → suc i < j → j < suc (length ms) → channel_at (channels_of (m ∷ ms)) j ≡ channel_at (channels_of ms) i → ⊥
    later none zero low high = absurd (omega arith)
    later none (suc j) low high = none j (omega arith) (omega arith)

-- a last step that does not alarm leaves its channel not alarmed
pub no_alarm_ends : (ms : List Move) (b : Board) (i : ℕ) → i < length ms → alarm_at b ms i ≡ false
    → ((j : ℕ) → i < j → j < length ms → channel_at (channels_of ms) j ≡ channel_at (channels_of ms) i → ⊥) → is_alarmed ((after_moves b ms).state (channel_at (channels_of ms) i)) ≡ false
no_alarm_ends [] b i within off none = absurd (omega arith)
no_alarm_ends (m ∷ ms) b zero within off none = unalarmed_stays ms (after_step b m.channel m.step) m.channel (actor_unalarmed b m.channel m.step off) (λ j inside. none (suc j) (omega arith) (omega arith))
no_alarm_ends (m ∷ ms) b (suc i) within off none = no_alarm_ends ms (after_step b m.channel m.step) i (omega arith) off (λ j low high. none (suc j) (omega arith) (omega arith))

-- one that is not idle is never idle again
awake_step : (b : Board) (m : Move) (d : ℕ) → is_idle (b.state d) ≡ false → is_idle ((after_step b m.channel m.step).state d) ≡ false
awake_step b m d off = elim (cases_Bool (d == m.channel)) [
  | inl same ↦ rw (eqb-true d m.channel same) (actor_awake b m.channel m.step)
  | inr other ↦ other_awake b m.channel m.step d other off
]

awake_stays : (ms : List Move) (b : Board) (d : ℕ) → is_idle (b.state d) ≡ false → is_idle ((after_moves b ms).state d) ≡ false
awake_stays [] b d off = off
awake_stays (m ∷ ms) b d off = awake_stays ms (after_step b m.channel m.step) d (awake_step b m d off)

pub acted_awake : (ms : List Move) (b : Board) (i : ℕ) → i < length ms → is_idle ((after_moves b ms).state (channel_at (channels_of ms) i)) ≡ false
acted_awake [] b i within = absurd (omega arith)
acted_awake (m ∷ ms) b zero within = awake_stays ms (after_step b m.channel m.step) m.channel (actor_awake b m.channel m.step)
acted_awake (m ∷ ms) b (suc i) within = acted_awake ms (after_step b m.channel m.step) i (omega arith)

-- one that has not acted is idle or runs
pub fresh_stays : (ms : List Move) (b : Board) (d : ℕ) → (is_idle (b.state d) || is_running (b.state d)) ≡ true → ((j : ℕ) → j < length ms → channel_at (channels_of ms) j ≡ d → ⊥)
    → (is_idle ((after_moves b ms).state d) || is_running ((after_moves b ms).state d)) ≡ true
fresh_stays [] b d on none = on
fresh_stays (m ∷ ms) b d on none = fresh_stays ms (after_step b m.channel m.step) d (other_fresh b m.channel m.step d (apart m.channel d (none 0 (omega arith))) on) (λ j within. none (suc j) (omega arith))

-- one that is not idle is a channel of the machine
abbrev pub AwakeAreChannels : Board → Type 0
AwakeAreChannels b = (d : ℕ) → is_idle (b.state d) ≡ false → has_channel b.start d ≡ true

pub awake_channels : (ms : List Move) (b : Board) → AreOfRunning b ms → AwakeAreChannels b → AwakeAreChannels (after_moves b ms)
awake_channels [] b run are = are
awake_channels (m ∷ ms) b run are = awake_channels ms (after_step b m.channel m.step) run.1 (idle_stays b m.channel m.step run.0 are)

-- the ends of those that are not idle
pub ends_are : (b : Board) (cs : List ℕ) → AwakeAreChannels b → ((c : ℕ) → among cs c ≡ true → is_running (b.state c) ≡ false)
    → alarms_in (ends_among b cs) ≡ map (λ c. is_alarmed (b.state c)) (filter (λ c. not (is_idle (b.state c))) cs)
ends_are b [] are over = refl
ends_are b (c ∷ cs) are over = by_state (b.state c) refl (over c (here (c == c) (among cs c) (eq-eqb c c refl))) (ends_are b cs are (λ d on. over d (later (c == d) (among cs d) on)))
  where
    here : (p q : Bool) → p ≡ true → (p || q) ≡ true
    here p q on = rw on refl

    later : (p q : Bool) → q ≡ true → (p || q) ≡ true
    later true q on = refl
    later false q on = on

    by_state : (s : State) → b.state c ≡ s → is_running (b.state c) ≡ false → alarms_in (ends_among b cs) ≡ map (λ d. is_alarmed (b.state d)) (filter (λ d. not (is_idle (b.state d))) cs)
        → alarms_in (ends_among b (c ∷ cs)) ≡ map (λ d. is_alarmed (b.state d)) (filter (λ d. not (is_idle (b.state d))) (c ∷ cs))
    by_state IsIdle e off rest = elim (cases_Bool (has_channel b.start c)) [
      | inl on ↦ rw (on, e) rest
      | inr out ↦ rw (out, e) rest
    ]
    by_state (IsRunning grant) e off rest = no_truth true refl (rw e at off)
    by_state (IsHolding hold line) e off rest = rw (are c (ap is_idle e), e) (ap (λ (bs : List Bool). false ∷ bs) rest ∙ ap (λ (t : Bool). t ∷ (map (λ d. is_alarmed (b.state d)) (filter (λ d. not (is_idle (b.state d))) cs))) (sym (ap is_alarmed e)))
    by_state (HasEnded line) e off rest = rw (are c (ap is_idle e), e) (ap (λ (bs : List Bool). false ∷ bs) rest ∙ ap (λ (t : Bool). t ∷ (map (λ d. is_alarmed (b.state d)) (filter (λ d. not (is_idle (b.state d))) cs))) (sym (ap is_alarmed e)))
    by_state (HasAlarmed code line) e off rest = rw (are c (ap is_idle e), e) (ap (λ (bs : List Bool). true ∷ bs) rest ∙ ap (λ (t : Bool). t ∷ (map (λ d. is_alarmed (b.state d)) (filter (λ d. not (is_idle (b.state d))) cs))) (sym (ap is_alarmed e)))

-- the last places, one entry more
pub last_more : (chs : List ℕ) (i : ℕ) (places : List ℕ) → length places ≡ CHANNEL_PLACES → channel_at chs i < CHANNEL_PLACES → AreLastPlaces chs i places → AreLastPlaces chs (i + 1) (slice_set places (channel_at chs i) (i + 1))
last_more chs i places size below are = record {
  none = λ d absent.
      other d (λ e. absent i (omega arith) (sym e)) ∙ are.none d (λ j low. absent j (omega arith));
  newest = λ j low none. elim (cases_lt j i) [
    | inl earlier ↦ other (channel_at chs j) (λ e. none i earlier (omega arith) (sym e)) ∙ are.newest j earlier (λ k after before. none k after (omega arith))
    | inr late ↦ let e : j ≡ i = omega arith in rw e here
  ];
  later = λ j k after before same is. elim (cases_lt k i) [
    | inl earlier ↦ elim (cases_Bool (channel_at chs j == channel_at chs i)) [
      | inl on ↦ let now : i + 1 ≡ j + 1 = sym here ∙ (ap (λ (d : ℕ). slice_index_or (slice_set places (channel_at chs i) (i + 1)) d 0) (sym (eqb-true _ _ on)) ∙ is) in absurd (omega arith)
      | inr off ↦ are.later j k after earlier same (sym (other (channel_at chs j) (eqb-false _ _ off)) ∙ is)
    ]
    | inr late ↦
        let e : k ≡ i = omega arith in
        let now : i + 1 ≡ j + 1 = sym here ∙ (ap (λ (d : ℕ). slice_index_or (slice_set places (channel_at chs i) (i + 1)) d 0) (rw e at same) ∙ is) in
        absurd (omega arith)
  ];
  some = λ j low is. elim (cases_Bool (channel_at chs j == channel_at chs i)) [
    | inl on ↦ let now : i + 1 ≡ 0 = sym here ∙ (ap (λ (d : ℕ). slice_index_or (slice_set places (channel_at chs i) (i + 1)) d 0) (sym (eqb-true _ _ on)) ∙ is) in absurd (omega arith)
    | inr off ↦ elim (cases_lt j i) [
      | inl earlier ↦ are.some j earlier (sym (other (channel_at chs j) (eqb-false _ _ off)) ∙ is)
      | inr late ↦ let e : j ≡ i = omega arith in absurd (eqb-false _ _ off (ap (channel_at chs) e))
    ]
  ];
}
  where
    here : slice_index_or (slice_set places (channel_at chs i) (i + 1)) (channel_at chs i) 0 ≡ i + 1
    here = get_or-set_same places (channel_at chs i) (i + 1) 0 (rw size below)

    other : (d : ℕ) → (d ≡ channel_at chs i → ⊥) → slice_index_or (slice_set places (channel_at chs i) (i + 1)) d 0 ≡ slice_index_or places d 0
    other d apart_from = get_or-set_other places (channel_at chs i) d (i + 1) 0 apart_from

pub entry_channel : (es : List EntryView) (i : ℕ) (e : EntryView) → i < length es → channel_at (map (λ x. x.channel) es) i ≡ (slice_index_or es i e).channel
entry_channel [] i e within = absurd (omega arith)
entry_channel (x ∷ xs) zero e within = refl
entry_channel (x ∷ xs) (suc i) e within = entry_channel xs i e (omega arith)

pub filter_from : (p : ℕ → Bool) (c : ℕ) → c < CHANNEL_PLACES → filter p (range_with_len c (CHANNEL_PLACES - c)) ≡ cond (p c) (c ∷ filter p (range_with_len (c + 1) (CHANNEL_PLACES - (c + 1)))) (filter p (range_with_len (c + 1) (CHANNEL_PLACES - (c + 1))))
filter_from p c below =
    let e : CHANNEL_PLACES - c ≡ suc (CHANNEL_PLACES - (c + 1)) = omega arith in
    rw (e, add-one) refl

pub filter_on : (p : ℕ → Bool) (c : ℕ) → c < CHANNEL_PLACES → p c ≡ true → filter p (range_with_len c (CHANNEL_PLACES - c)) ≡ c ∷ filter p (range_with_len (c + 1) (CHANNEL_PLACES - (c + 1)))
filter_on p c below on = filter_from p c below ∙ rw on refl

pub filter_off : (p : ℕ → Bool) (c : ℕ) → c < CHANNEL_PLACES → p c ≡ false → filter p (range_with_len c (CHANNEL_PLACES - c)) ≡ filter p (range_with_len (c + 1) (CHANNEL_PLACES - (c + 1)))
filter_off p c below off = filter_from p c below ∙ rw off refl
