use Rattle.std.proofs.Common.{◌≡◌, drop}
use Rattle.explain_assumptions.specs.Assumptions.{does_act}
use Rattle.explain_assumptions.proofs.assumptions.acts_in.Given as goal

abbrev pub invariant-loop-entry : goal.invariant-loop-entry
invariant-loop-entry l = does_act l.channel (drop l.entry-index l.entries) ≡ does_act l.channel l.entries
