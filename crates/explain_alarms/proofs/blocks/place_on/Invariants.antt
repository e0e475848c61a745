-- The programs so far have it not.
use Rattle.std.proofs.Common.{◌≡◌, ℕ, ◌<◌, None}
use Rattle.explain_alarms.specs.Blocks.{place_at}
use Rattle.explain_alarms.proofs.blocks.place_on.Given as goal

abbrev pub invariant-loop-number : goal.invariant-loop-number
invariant-loop-number l = (k : ℕ) → k < l.number → place_at l.line l.job.programs k ≡ None
