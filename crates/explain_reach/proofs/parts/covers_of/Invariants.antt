-- The covers so far.
use Rattle.std.proofs.Common.{◌≡◌, map, take}
use Rattle.explain_reach.proofs.parts.covers_of.Given as goal

abbrev pub invariant-loop-part : goal.invariant-loop-part
invariant-loop-part l = l.covers.items ≡ map (λ part. part.cover) (take l.part-index l.parts)
