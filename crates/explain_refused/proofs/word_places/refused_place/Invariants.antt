-- The place in the words that are left is that in all.
use Rattle.std.proofs.Common.{◌≡◌, length}
use Rattle.explain_refused.specs.WordPlaces.{refused_place}
use Rattle.explain_refused.proofs.word_places.refused_place.Given as goal

abbrev pub invariant-loop-rest : goal.invariant-loop-rest
invariant-loop-rest l = refused_place l.code l.line l.rest ≡ refused_place l.code l.fn.line l.fn.words

abbrev pub decreases-loop-rest : goal.decreases-loop-rest
decreases-loop-rest l = length l.rest
