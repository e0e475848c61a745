-- Meaning. What a coordination block finds in its job and in its channel.
use Rattle.std.specs.Prelude.{ℕ, Bool, List, Option}

-- how many marks there are; the number of the channel; whether the job has a channel; the names of the programs in the order of their numbers; the axis with a name; the axes in the channel's slots X, Y and Z; whether the channel owns an axis; the axes that carry each zone of the job; whether the channel holds a zone, by its number
pub record SettingView : Type 0 where
  pub marks : ℕ
  pub channel : ℕ
  pub has_channel : ℕ → Bool
  pub names : List (List ℕ)
  pub axis_named : List ℕ → Option ℕ
  pub slots : List (Option ℕ)
  pub owned : List Bool
  pub zones : List (List Bool)
  pub holds : ℕ → Bool
