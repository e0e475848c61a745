-- The answers that are left have the first.
use Rattle.std.proofs.Common.{◌≡◌, drop}
use Rattle.clash_check.specs.FirstAnswer.{first_some}
use Rattle.clash_check.proofs.sharing.first_answer.Given as goal

abbrev pub invariant-loop-answer : goal.invariant-loop-answer
invariant-loop-answer l = first_some (λ answer. answer) (drop l.answer-index l.answers) ≡ first_some (λ answer. answer) l.answers
