-- Meaning. What contracts see of entries, runs and start states: the same records with plain lists.
use Rattle.std.specs.Prelude.{ℕ, Bool, List, Option}
use Rattle.micro_units.specs.declared.Um.{Um}
use Rattle.sync_types.specs.declared.ChannelEnd.{ChannelEnd}
use Rattle.sync_types.specs.declared.Item.{Item}
use Rattle.sync_types.specs.declared.Step.{Step}
use Rattle.sync_types.specs.declared.runs.Go.{Go}

-- a step of a run: who acted, what it did, and who goes on in the same step
pub record EntryView : Type 0 where
  pub channel : ℕ
  pub step : Step
  pub goes : List Go

-- a run: its steps, what the channel of each did before it, and how each channel has stopped
pub record RunView : Type 0 where
  pub entries : List EntryView
  pub items : List (List Item)
  pub ends : List ChannelEnd

-- each channel with its selected program and whether it runs; each axis with its owner and where it
-- stands; each zone with the axes that carry it, its holder and whether it is on
pub record StartView : Type 0 where
  pub channels : List (ℕ × Option ℕ × Bool)
  pub axes : List (ℕ × Option ℕ × Um)
  pub zones : List (ℕ × List Bool × Option ℕ × Bool)
