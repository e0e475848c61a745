-- Law. What holds of all that a block asks of the other channels.
use Rattle.std.specs.Prelude.{◌≡◌, ◌≢◌, ℕ, ◌<◌, ◌≤◌, Bool, true, false, List, [], length, slice_index_or, Option, Some, None, IfSome}
use Rattle.std.specs.List.{list_all}
use Rattle.axis_sets.specs.Sets.{has, members_of}
use Rattle.axis_sets.specs.declared.limits.TheConstants.{MARK_LIMIT}
use Rattle.sync_types.specs.BoardActions.{axes_to_free}
use Rattle.sync_types.specs.BoardAlarms.{is_whole, named_axes, named_channels, names_no_mark, own_alarm}
use Rattle.sync_types.specs.declared.Action.{Action}
use Rattle.sync_types.specs.declared.Action.TheVariants.{WaitM, Init, End}
use Rattle.coordination_words.specs.Settings.{SettingView}

-- each axis in a slot of the channel and each axis with a name passes
pub record AllAxesPass (setting : SettingView) (test : ℕ → Bool) : Type 0 where
  pub in_slots : (slot axis : ℕ) → slice_index_or setting.slots slot None ≡ Some axis → test axis ≡ true
  pub with_names : (name : List ℕ) (axis : ℕ) → setting.axis_named name ≡ Some axis → test axis ≡ true

-- the channels for whose marks it waits
abbrev pub awaited_channels : Action → List Bool
awaited_channels (WaitM mark named) = named
awaited_channels other = []

-- the program that it selects
abbrev pub selected_program : Action → Option ℕ
selected_program (Init channel program) = Some program
selected_program other = None

-- it names marks that there are, where the job has no more than a set can hold, and channels of the job; it waits for no mark of the channel itself; it selects a program of the library; it names axes of the job, whatever test tells those; it lets go of own axes alone; of each zone it names all axes or none; and it is no alarm and no program end
pub record IsOfTheJob (setting : SettingView) (action : Action) : Type 0 where
  pub marks : setting.marks ≤ MARK_LIMIT → names_no_mark action ≡ false
  pub channels : list_all setting.has_channel (named_channels action) ≡ true
  pub itself : has (awaited_channels action) setting.channel ≡ false
  pub program : IfSome (selected_program action) (λ place. place < length setting.names)
  pub axes : (test : ℕ → Bool) → AllAxesPass setting test → list_all test (members_of (named_axes action)) ≡ true
  pub own : list_all (has setting.owned) (axes_to_free action) ≡ true
  pub zones : list_all (is_whole (named_axes action)) setting.zones ≡ true
  pub no_alarm : own_alarm action ≡ None
  pub no_end : action ≢ End
