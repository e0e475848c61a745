use Rattle.std.proofs.Common.{◌≡◌, drop}
use Rattle.explain_refused.specs.Slips.{then_place}
use Rattle.explain_refused.proofs.slips.then_place.Given as goal

abbrev pub invariant-loop-word : goal.invariant-loop-word
invariant-loop-word l = then_place (drop l.word-index l.words) ≡ then_place l.fn.words
