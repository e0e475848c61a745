use Rattle.std.proofs.Common.{◌≡◌, map, take}
use Rattle.explain_meetings.specs.GroupSteps.{AreNamed, key_of}
use Rattle.explain_meetings.proofs.groups.named_of.Given as goal

abbrev pub invariant-loop-place : goal.invariant-loop-place
invariant-loop-place l = AreNamed (take l.place l.met) l.rows.items × (l.keys.keys ≡ map key_of l.rows.items)
