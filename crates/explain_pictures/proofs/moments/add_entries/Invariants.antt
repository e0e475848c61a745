use Rattle.std.proofs.Common.{◌≡◌, ◌++◌, drop, take}
use Rattle.explain_pictures.specs.Moments.{moments_from}
use Rattle.explain_pictures.proofs.moments.add_entries.Given as goal

abbrev pub invariant-loop-entry : goal.invariant-loop-entry
invariant-loop-entry l =
    take l.limit (l.moments.items ++ moments_from l.step (drop l.entry-index l.entries)) ≡ take l.limit (l.initial.moments.items ++ moments_from 0 l.entries)
