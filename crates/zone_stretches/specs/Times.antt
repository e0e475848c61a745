-- Steps. The zones of a job with their stretches, from a place on.
use Rattle.std.specs.Prelude.{ℕ, List, drop, map, Vec}
use Rattle.std.specs.Global.{Global}
use Rattle.std.specs.List.{zip}
use Rattle.job_types.specs.Job.{JobView}
use Rattle.job_types.specs.Zones.{zones_in_order}
use Rattle.job_types.specs.declared.job.ZoneLine.{ZoneLine}
use Rattle.zone_stretches.specs.Overlaps.{ZoneTime}
use Rattle.zone_stretches.specs.Stretches.{StretchView}

-- the stretches of each zone
abbrev pub lists_in : List (Vec StretchView Global) → List (List StretchView)
lists_in lists = map (λ s. s.items) lists

-- zones with their stretches, as far as there are both
abbrev pub times_in : List ZoneLine → List (List StretchView) → List ZoneTime
times_in zones lists = map (λ p. record { zone = p.0; stretches = p.1 }) (zip zones lists)

abbrev pub times_from : JobView → List (List StretchView) → ℕ → List ZoneTime
times_from job lists place = times_in (drop place (zones_in_order job)) (drop place lists)
