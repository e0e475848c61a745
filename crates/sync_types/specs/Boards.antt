-- Meaning. The board on which channels meet: marks, owners of axes, zones, and what each channel does.
use Rattle.axis_sets.specs.declared.limits.TheConstants.{AXIS_LIMIT, CHANNEL_LIMIT, ZONE_LIMIT}
use Rattle.std.specs.Prelude.{ℕ, ℤ, ◌==◌, ◌&&◌, Bool, true, false, List, ◌∷◌, map, Option, Some, None, if◌then◌else◌}
use Rattle.std.specs.List.{range_with_len, list_any}
use Rattle.sync_types.specs.Starts.{first_program, runs_at_first, first_owner, first_position, first_holder, is_on_at_first}
use Rattle.sync_types.specs.Views.{StartView}
use Rattle.sync_types.specs.declared.Grant.{Grant}

-- for what a channel waits: marks of one number of these channels, ends of these channels, these axes; where
-- from_standing is true it takes them also from channels that stand
pub data Hold : Type 0 where
  AtMarks : (number : ℕ) → (named : List ℕ) → Hold
  AtEnds : (named : List ℕ) → Hold
  AtAxes : (from_standing : Bool) → (axes : List ℕ) → Hold

-- what a channel does: with what it goes on, or at which line it waits or has stopped
pub data State : Type 0 where
  IsIdle : State
  IsRunning : Grant → State
  IsHolding : Hold → (line : ℕ) → State
  HasEnded : (line : ℕ) → State
  HasAlarmed : (code line : ℕ) → State

-- an axis has one owner, or is free at one position
pub data Ownership : Type 0 where
  OwnedBy : (channel : ℕ) → Ownership
  FreeAt : (position : ℤ) → Ownership

-- where the board started; for each channel its marks by their numbers, what it does, its selected program, and
-- by their numbers where its axes stood after its last step or at the start; for each axis who has it; for each
-- zone its holder and whether it is on
pub record Board : Type 0 where
  pub start : StartView
  pub marks : ℕ → ℕ → Bool
  pub state : ℕ → State
  pub program : ℕ → Option ℕ
  pub last_position : ℕ → ℕ → ℤ
  pub axis : ℕ → Ownership
  pub holder : ℕ → Option ℕ
  pub is_on : ℕ → Bool

-- the numbers that channels, axes and zones may have
abbrev pub channel_numbers : List ℕ
channel_numbers = range_with_len 1 CHANNEL_LIMIT

abbrev pub axis_numbers : List ℕ
axis_numbers = range_with_len 0 AXIS_LIMIT

abbrev pub zone_numbers : List ℕ
zone_numbers = range_with_len 1 ZONE_LIMIT

abbrev pub among : List ℕ → ℕ → Bool
among numbers n = list_any (λ m. m == n) numbers

abbrev pub is_idle : State → Bool
is_idle IsIdle = true
is_idle other = false

abbrev pub is_running : State → Bool
is_running (IsRunning grant) = true
is_running other = false

-- a channel stands where it is idle, holding or ended; an alarmed one does not
abbrev pub stands : State → Bool
stands IsIdle = true
stands (IsHolding hold line) = true
stands (HasEnded line) = true
stands other = false

abbrev pub has_ended : State → Bool
has_ended (HasEnded line) = true
has_ended other = false

-- with what a running channel goes on; none where it does not run
abbrev pub grant_in : State → Option Grant
grant_in (IsRunning grant) = Some grant
grant_in other = None

abbrev pub is_this : Option ℕ → ℕ → Bool
is_this (Some d) c = d == c
is_this None c = false

abbrev pub owner_of : Ownership → Option ℕ
owner_of (OwnedBy c) = Some c
owner_of (FreeAt p) = None

abbrev pub is_free : Ownership → Bool
is_free (OwnedBy c) = false
is_free (FreeAt p) = true

abbrev pub owns : Board → ℕ → ℕ → Bool
owns b c x = is_this (owner_of (b.axis x)) c

-- positions of the axes for which the test holds
abbrev pub positions_where : (ℕ → Bool) → (ℕ → ℤ) → List (Option ℤ)
positions_where test place = map (λ x. if test x then Some (place x) else None) axis_numbers

abbrev pub no_positions : List (Option ℤ)
no_positions = map (λ x. None) axis_numbers

-- what a channel goes on with, where it has got axes at these positions: all that it owns, and those of
-- the zones that it holds that are on
unfoldable pub grant_with : Board → ℕ → List (Option ℤ) → Grant
grant_with b c at = record {
  axes = map (owns b c) axis_numbers;
  at = at;
  on = false ∷ map (λ z. is_this (b.holder z) c && b.is_on z) zone_numbers;
  program = b.program c;
}

-- a channel that starts goes on with the positions of all its axes
unfoldable pub start_grant : Board → ℕ → Grant
start_grant b c = grant_with b c (positions_where (owns b c) (first_position b.start))

abbrev pub ownership_of : Option ℕ → ℤ → Ownership
ownership_of (Some c) position = OwnedBy c
ownership_of None position = FreeAt position

-- the board on which nobody runs yet
abbrev pub board_at_rest : StartView → Board
board_at_rest start = record {
  start = start;
  marks = λ c m. false;
  state = λ c. IsIdle;
  program = first_program start;
  last_position = λ c. first_position start;
  axis = λ x. ownership_of (first_owner start x) (first_position start x);
  holder = first_holder start;
  is_on = is_on_at_first start;
}

-- the board before the first step: the channels run that START in their lines lets run
unfoldable pub first_state : StartView → ℕ → State
first_state start c = if runs_at_first start c then IsRunning (start_grant (board_at_rest start) c) else IsIdle

abbrev pub first_board : StartView → Board
first_board start = record (board_at_rest start) { state = first_state start }
