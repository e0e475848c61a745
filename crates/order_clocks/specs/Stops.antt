-- Steps. Which channels have acted and have alarmed, as the code finds it from the ends of a run.
use Rattle.axis_sets.specs.declared.limits.TheConstants.{CHANNEL_PLACES}
use Rattle.std.specs.Prelude.{◌≡◌, ◌≤◌, ℕ, zero, suc, ◌∷◌, is_some, ◌+◌, ◌<◌, ◌==◌, ◌&&◌, ◌||◌, not, Bool, true, false, List, [], map, filter, length, slice_index_or}
use Rattle.sync_types.specs.Boards.{State, HasAlarmed, Board, is_idle, is_running}
use Rattle.sync_types.specs.declared.ChannelEnd.{ChannelEnd}
use Rattle.sync_types.specs.declared.ChannelEnd.TheVariants as end
use Rattle.sync_types.specs.BoardAlarms.{alarm_of}
use Rattle.sync_types.specs.BoardEnds.{ends_of}
use Rattle.sync_types.specs.Runs.{is_over}
use Rattle.sync_types.specs.Starts.{has_channel}
use Rattle.sync_types.specs.Turns.{Move, after_step, after_entries, AreEntries}
use Rattle.sync_types.specs.Views.{EntryView}
use Rattle.axis_sets.specs.Sets.{has}
use Rattle.order_clocks.specs.declared.stops.Stops.{Stops}

abbrev pub is_alarmed : State → Bool
is_alarmed (HasAlarmed code line) = true
is_alarmed other = false

abbrev pub is_idle_end : ChannelEnd → Bool
is_idle_end end.Idle = true
is_idle_end other = false

abbrev pub is_alarm_end : ChannelEnd → Bool
is_alarm_end (end.Alarmed alarm) = true
is_alarm_end other = false

-- of the ends of channels that have started, whether each is an alarm
abbrev pub alarms_in : List ChannelEnd → List Bool
alarms_in ends = map is_alarm_end (filter (λ e. not (is_idle_end e)) ends)

-- the channel of an entry
abbrev pub channel_at : List ℕ → ℕ → ℕ
channel_at channels i = slice_index_or channels i 0

-- who acts in each entry is a channel of the machine
abbrev pub AreActors : List EntryView → Type 0
AreActors es = (i : ℕ) → i < length es → (1 ≤ channel_at (map (λ e. e.channel) es) i) × (channel_at (map (λ e. e.channel) es) i < CHANNEL_PLACES)

-- for each channel one more than the place of its last entry among the first so many, 0 where it has none
pub record AreLastPlaces (channels : List ℕ) (count : ℕ) (last : List ℕ) : Type 0 where
  pub none : (c : ℕ) → ((i : ℕ) → i < count → (channel_at channels i ≡ c → ⊥)) → slice_index_or last c 0 ≡ 0
  pub newest : (i : ℕ) → i < count → ((j : ℕ) → i < j → j < count → (channel_at channels j ≡ channel_at channels i → ⊥)) → slice_index_or last (channel_at channels i) 0 ≡ i + 1
  pub later : (i j : ℕ) → i < j → j < count → channel_at channels j ≡ channel_at channels i → (slice_index_or last (channel_at channels i) 0 ≡ i + 1 → ⊥)
  pub some : (i : ℕ) → i < count → (slice_index_or last (channel_at channels i) 0 ≡ 0 → ⊥)

-- whether the step of this place alarms
abbrev pub alarm_at : Board → List Move → ℕ → Bool
alarm_at b [] i = false
alarm_at b (m ∷ ms) zero = is_some (alarm_of b m.channel m.step.action)
alarm_at b (m ∷ ms) (suc i) = alarm_at (after_step b m.channel m.step) ms i

abbrev pub channels_of : List Move → List ℕ
channels_of moves = map (λ m. m.channel) moves

abbrev pub no_end : ChannelEnd
no_end = end.Idle

-- the flags of the channels that have acted
abbrev pub are_acted : List ℕ → ℕ → Bool
are_acted last c = not (slice_index_or last c 0 == 0)

-- the step of this place is the last of its channel, which an alarm has stopped
abbrev pub is_alarm_in : Stops → ℕ → ℕ → Bool
is_alarm_in stops i c = has stops.alarmed c && (slice_index_or stops.last c 0 == i + 1)

-- it says of each step whether it alarms
pub record TellsAlarms (b : Board) (moves : List Move) (stops : Stops) : Type 0 where
  pub alarm : (i : ℕ) → i < length moves → is_alarm_in stops i (channel_at (channels_of moves) i) ≡ alarm_at b moves i

-- the entries and ends of a whole run from this board, on which nobody waits and no mark stands
pub record IsWhole (b : Board) (es : List EntryView) (ends : List ChannelEnd) : Type 0 where
  pub entries : AreEntries b es
  pub over : is_over (after_entries b es) ≡ true
  pub ends_are : ends ≡ ends_of (after_entries b es)
  pub fresh : (c : ℕ) → (is_idle (b.state c) || is_running (b.state c)) ≡ true
  pub awake : (c : ℕ) → is_idle (b.state c) ≡ false → has_channel b.start c ≡ true
  pub marks : (c m : ℕ) → b.marks c m ≡ false
