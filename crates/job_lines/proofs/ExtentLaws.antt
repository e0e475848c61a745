-- No job has more than there is at most.
use Rattle.std.proofs.Common.{ℕ, ◌≤◌, ◌==◌, Bool, true, false, if◌then◌else◌, arith}
use Rattle.axis_sets.specs.declared.limits.TheConstants.{AXIS_LIMIT, CHANNEL_LIMIT, MARK_LIMIT}
use Rattle.job_lines.specs.Extent.{extent_of, first_extent, widest_extent}
use Rattle.job_lines.specs.declared.extent.TheConstants.{FIRST_VERSION}

pub few_channels : (version : ℕ) → (extent_of version).channels ≤ CHANNEL_LIMIT
few_channels version = by_test (version == FIRST_VERSION)
  where
    by_test : (first : Bool) → (if first then first_extent else widest_extent).channels ≤ CHANNEL_LIMIT
    by_test true = omega arith
    by_test false = omega arith

pub few_axes : (version : ℕ) → (extent_of version).axes ≤ AXIS_LIMIT
few_axes version = by_test (version == FIRST_VERSION)
  where
    by_test : (first : Bool) → (if first then first_extent else widest_extent).axes ≤ AXIS_LIMIT
    by_test true = omega arith
    by_test false = omega arith

pub few_marks : (version : ℕ) → (extent_of version).marks ≤ MARK_LIMIT
few_marks version = by_test (version == FIRST_VERSION)
  where
    by_test : (first : Bool) → (if first then first_extent else widest_extent).marks ≤ MARK_LIMIT
    by_test true = omega arith
    by_test false = omega arith
