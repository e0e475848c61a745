use Rattle.std.proofs.Common.{◌≡◌, drop}
use Rattle.explain_refused.specs.WordPlaces.{parenthesis_place}
use Rattle.explain_refused.proofs.word_places.parenthesis_place.Given as goal

abbrev pub invariant-loop-word : goal.invariant-loop-word
invariant-loop-word l = parenthesis_place (drop l.word-index l.words) ≡ parenthesis_place l.fn.words
