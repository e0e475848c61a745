-- The boxes so far lie in the cover.
use Rattle.std.proofs.Common.{All, take}
use Rattle.explain_reach.specs.Parts.{LiesIn}
use Rattle.explain_reach.proofs.parts.cover_of.Given as goal

abbrev pub invariant-loop-other : goal.invariant-loop-other
invariant-loop-other l = All (LiesIn l.cover) (take l.other-index l.boxes)
