use Rattle.std.proofs.Common.{◌≡◌, true, drop}
use Rattle.explain_refused.specs.Slips.{comment_place}
use Rattle.explain_refused.proofs.slips.comment_place.Given as goal

abbrev pub invariant-loop-word : goal.invariant-loop-word
invariant-loop-word l = comment_place l.may_begin (drop l.word-index l.words) ≡ comment_place true l.fn.words
