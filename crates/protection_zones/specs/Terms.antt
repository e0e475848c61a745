-- Steps. The tenures of a zone as the code keeps them.
use Rattle.std.specs.Prelude.{Bool}
use Rattle.axis_sets.specs.Sets.{has}
use Rattle.job_types.specs.declared.job.ZoneLine.{ZoneLine}
use Rattle.protection_zones.specs.declared.notes.Occurrence.{Occurrence}
use Rattle.protection_zones.specs.declared.tenures.Tenure.{Tenure}
use Rattle.sync_types.specs.declared.verdicts.StretchKind.TheVariants.{Free}
use Rattle.zone_stretches.specs.Rows.{positions_in}
use Rattle.zone_stretches.specs.Tenures.{TenureView, carry}

abbrev pub shown_term : Tenure → TenureView
shown_term t = record {
  owner = t.owner;
  from = t.from;
  upto = t.upto;
  begins = record { kind = Free; line = t.line; at = positions_in t.at; on = has t.on; first = t.first };
  last = t.last;
}

-- axes of the zone change hands
abbrev pub changes : ZoneLine → Occurrence → Bool
changes zone note = carry zone (has note.axes)
