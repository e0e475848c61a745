-- Steps. What the code keeps of the events of a run.
use Rattle.std.specs.Prelude.{◌≡◌, ℕ, List, length, map}
use Rattle.axis_sets.specs.declared.limits.TheConstants.{CHANNEL_PLACES}
use Rattle.job_types.specs.Job.{JobView}
use Rattle.protection_zones.specs.Beginnings.{AreOutsets}
use Rattle.protection_zones.specs.Exchanges.{AreExchanges, count_in, counts_in, shown_exchange}
use Rattle.protection_zones.specs.declared.logs.Log.{Log}
use Rattle.zone_stretches.specs.Occurrences.{OccurrenceView}

pub record IsLog (job : JobView) (os : List OccurrenceView) (log : Log) : Type 0 where
  pub size : length log.outsets.items ≡ CHANNEL_PLACES
  pub outsets : AreOutsets job os log.outsets.items
  pub exchanges : AreExchanges os (map shown_exchange log.exchanges.items)
  pub counts : (c : ℕ) → counts_in log.counts c ≡ count_in os c
