-- Steps. Waits and goings on as the code has them.
use Rattle.std.specs.Prelude.{◌≡◌, ℕ, ◌<◌, ◌==◌, ◌&&◌, Bool, true, false, List, Option, Some, None, slice_index_or}
use Rattle.axis_sets.specs.Sets.{has}
use Rattle.axis_sets.specs.declared.limits.TheConstants.{MARK_LIMIT}
use Rattle.step_deeds.specs.declared.deed.StepEvents.{StepEvents}
use Rattle.step_deeds.specs.declared.deed.Wakeup.{Wakeup}
use Rattle.step_deeds.specs.declared.deed.Hold.{Hold}
use Rattle.step_deeds.specs.declared.deed.Hold.TheVariants.{Marks, Ends, Axes}
use Rattle.step_deeds.specs.declared.deed.WaitAt.{WaitAt}
use Rattle.step_deeds.specs.declared.named.NamedMarks.{NamedMarks}

-- how a channel goes on in a step, and whether it does
abbrev pub is_given : {A : Type 0} → Option A → Bool
is_given (Some x) = true
is_given None = false

abbrev pub departure_of : StepEvents → ℕ → Option Wakeup
departure_of deed c = slice_index_or deed.goes c None

abbrev pub goes_in : StepEvents → ℕ → Bool
goes_in deed c = is_given (departure_of deed c)

-- nothing of the step may be in a race: no wait begins, no mark is lowered, no channel is named, nobody goes on
pub record IsTraceless (deed : StepEvents) : Type 0 where
  pub begins : deed.begins ≡ None
  pub lowers : (m : ℕ) → has deed.lowers m ≡ false
  pub touches : (c : ℕ) → has deed.touches c ≡ false
  pub goes : (c : ℕ) → goes_in deed c ≡ false

-- the number of a hold at marks is a mark's
abbrev pub HoldOfMark : Hold → Type 0
HoldOfMark (Marks m named) = m < MARK_LIMIT
HoldOfMark (Ends named) = Unit {0}
HoldOfMark (Axes axes) = Unit {0}

abbrev pub HoldAtLineOfMark : Option WaitAt → Type 0
HoldAtLineOfMark (Some held) = HoldOfMark held.hold
HoldAtLineOfMark None = Unit {0}

abbrev pub DepartsFromMark : Option Wakeup → Type 0
DepartsFromMark (Some gone) = HoldAtLineOfMark gone.held
DepartsFromMark None = Unit {0}

-- the number of a hold that begins is a mark's
abbrev pub BeginsAtMark : Option Hold → Type 0
BeginsAtMark (Some hold) = HoldOfMark hold
BeginsAtMark None = Unit {0}

-- the line of a hold that ends, 0 at a start
abbrev pub line_of_held : Option WaitAt → ℕ
line_of_held (Some held) = held.line
line_of_held None = 0

abbrev pub line_of : Option Wakeup → ℕ
line_of (Some gone) = line_of_held gone.held
line_of None = 0

-- the mark that the end of a wait lowers
abbrev pub lowers_in : Hold → ℕ → Bool
lowers_in (Marks n named) m = m == n
lowers_in (Ends named) m = false
lowers_in (Axes axes) m = false

abbrev pub lowers_at : Option WaitAt → ℕ → Bool
lowers_at (Some held) m = lowers_in held.hold m
lowers_at None m = false

-- the marks that it needed
abbrev pub names_in : Hold → ℕ → ℕ → Bool
names_in (Marks n named) m c = (n == m) && has named c
names_in (Ends named) m c = false
names_in (Axes axes) m c = false

abbrev pub names_at : Option WaitAt → ℕ → ℕ → Bool
names_at (Some held) m c = names_in held.hold m c
names_at None m c = false

-- whether a wait was for axes
abbrev pub is_axes : Hold → Bool
is_axes (Axes axes) = true
is_axes (Marks m named) = false
is_axes (Ends named) = false

abbrev pub is_at_axes : Option WaitAt → Bool
is_at_axes (Some held) = is_axes held.hold
is_at_axes None = false

-- the marks and the axes of a hold
abbrev pub marks_of_hold : Hold → Option NamedMarks
marks_of_hold (Marks m named) = Some (record { number = m; named = named })
marks_of_hold (Ends named) = None
marks_of_hold (Axes axes) = None

abbrev pub asks_of_hold : Hold → ℕ → Bool
asks_of_hold (Marks m named) x = false
asks_of_hold (Ends named) x = false
asks_of_hold (Axes axes) x = has axes x

abbrev pub marks_begun : Option Hold → Option NamedMarks
marks_begun (Some hold) = marks_of_hold hold
marks_begun None = None

abbrev pub asks_begun : Option Hold → ℕ → Bool
asks_begun (Some hold) x = asks_of_hold hold x
asks_begun None x = false

-- the mark of a channel is among these
abbrev pub waits_in : Option NamedMarks → ℕ → ℕ → Bool
waits_in (Some wait) m c = (wait.number == m) && has wait.named c
waits_in None m c = false

-- two that name each other's channels at one number
abbrev pub are_named : Option NamedMarks → Option NamedMarks → ℕ → ℕ → Bool
are_named (Some one) (Some two) a b = (one.number == two.number) && (has one.named b && has two.named a)
are_named (Some one) None a b = false
are_named None two a b = false

abbrev pub marks_in : Option WaitAt → Option NamedMarks
marks_in (Some held) = marks_of_hold held.hold
marks_in None = None

abbrev pub named_marks : Option Wakeup → Option NamedMarks
named_marks (Some gone) = marks_in gone.held
named_marks None = None

-- the channels a and b of those that go on
abbrev pub are_partners : List (Option Wakeup) → ℕ → ℕ → Bool
are_partners goes a b = are_named (named_marks (slice_index_or goes a None)) (named_marks (slice_index_or goes b None)) a b
