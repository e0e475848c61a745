-- The words ask for what the arguments ask for.
use Rattle.std.proofs.Common.{◌≡◌, map, string_bytes, refl}
use Rattle.turnmill.proofs.ArgumentLemmas.{asked_call, no_words}
use Rattle.turnmill.proofs.CallAnswers.{answers_as, out_of_memory}
use Rattle.turnmill.proofs.arguments.run_arguments.Goals as goal
use Rattle.turnmill.specs.Arguments.{call_in}
use Rattle.turnmill.specs.Words.{words_of}

pub returns-in-Err-clause-answer : goal.returns-in-Err-clause-answer
returns-in-Err-clause-answer g c = no_words _ _ refl refl c.args.arguments c.in-Err.status c.in-Err.ensures

pub returns-in_default-clause-answer : goal.returns-in_default-clause-answer
returns-in_default-clause-answer g c = out_of_memory _ _ (call_in c.args.arguments) refl (λ other. refl) refl

pub returns-clause-answer : goal.returns-clause-answer
returns-clause-answer g c =
    let texts : words_of c.deref-2.result.now ≡ map string_bytes c.in-Ok.words.items
    = rw c.deref-2.ensures.value (rw c.deref.ensures.value at c.in-Ok-texts_of.ensures) in
    answers_as _ _ _ _ _ (asked_call c.args.arguments c.in-Ok.words _ c.in-Ok.ensures texts) c.run_words.ensures.answer
