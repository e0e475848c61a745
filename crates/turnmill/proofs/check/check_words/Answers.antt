-- What the words ask for says what is promised.
use Rattle.std.proofs.Common.{◌≡◌, None, Some, refl, rules}
use Rattle.turnmill.proofs.CallAnswers.{answers_as, out_of_memory, sample_answered, sink_stays, unaccepted}
use Rattle.turnmill.specs.Words.{request_of, words_of}
use Rattle.turnmill.specs.declared.words.Request.TheVariants.{Check, Sample}
use Rattle.turnmill.proofs.check.check_words.Goals as goal

pub returns-in-Ok-Some-Check-clause-answer : goal.returns-in-Ok-Some-Check-clause-answer
returns-in-Ok-Some-Check-clause-answer g c =
    let is : Some Check ≡ request_of (words_of c.args.words.now) = search rules in
    answers_as _ _ (Some Check) _ _ is c.check_source.ensures

pub returns-in-Ok-Some-Sample-clause-answer : goal.returns-in-Ok-Some-Sample-clause-answer
returns-in-Ok-Some-Sample-clause-answer g c =
    let number = c.in-Ok-Some-Sample.number in
    let is : Some (Sample number) ≡ request_of (words_of c.args.words.now) = search rules in
    let told = c.answer_sample.ensures in
    answers_as _ _ (Some (Sample number)) _ _ is
    (sample_answered _ _ number _ refl told.short (record {
      whole = told.whole;
      front = told.front;
      silent = λ is. sink_stays g.K.Sink.written g.K.Sink.faults _ _ (told.silent is);
      cause = told.cause;
      never_fall = told.never_fall;
      is_answer = told.ends;
    }))

pub returns-in-Ok-None-clause-answer : goal.returns-in-Ok-None-clause-answer
returns-in-Ok-None-clause-answer g c =
    let is : None ≡ request_of (words_of c.args.words.now) = search rules in
    answers_as _ _ None _ _ is (unaccepted _ _ refl refl)

pub returns-in-Err-clause-answer : goal.returns-in-Err-clause-answer
returns-in-Err-clause-answer g c = out_of_memory _ _ (request_of (words_of c.args.words.now)) refl (λ other. refl) refl
