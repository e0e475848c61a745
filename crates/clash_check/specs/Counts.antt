-- Meaning. How many pairs of boxes are compared.
use Rattle.std.specs.Prelude.{ℕ, ◌-◌, ◌^◌, length, min}
use Rattle.job_types.specs.Job.{JobView}
use Rattle.zone_stretches.specs.Overlaps.{Order, compared_pairs}
use Rattle.zone_stretches.specs.Stretches.{StretchesView}

unfoldable pub count_of : Order → JobView → StretchesView → ℕ
count_of before job stretches = length (compared_pairs before job stretches)

-- a number, or the greatest that is counted
abbrev pub capped : ℕ → ℕ
capped n = min n (2 ^ 64 - 1)
