-- `run` is answered as `check` is, and other words as they are without it.
use Rattle.std.proofs.Common.{◌≡◌, ◌∙◌, true, false, Some, refl, rules}
use Rattle.turnmill.proofs.CallAnswers.{answers_as, out_of_memory, read_failed, read_too_long, read_whole, sink_stays}
use Rattle.turnmill.proofs.CallLemmas.{other_calls, run_calls}
use Rattle.turnmill.proofs.ReadLemmas.{read_is_sound}
use Rattle.turnmill.proofs.running.run_words.Goals as goal
use Rattle.turnmill.specs.Words.{is_run, request_of, words_of}
use Rattle.turnmill.specs.declared.words.Request.TheVariants.{Check}

-- ---- other words than `run`

pub returns-then-not-is_run-clause-answer : goal.returns-then-not-is_run-clause-answer
returns-then-not-is_run-clause-answer g c =
    let other : is_run (words_of c.args.words.now) ≡ false = search rules in
    answers_as _ _ (request_of (words_of c.args.words.now)) _ _ (other_calls (words_of c.args.words.now) other) c.check_words.ensures.answer

pub returns-then-not-is_run-clause-usage : goal.returns-then-not-is_run-clause-usage
returns-then-not-is_run-clause-usage g c = λ none.
    let other : is_run (words_of c.args.words.now) ≡ false = search rules in
    c.check_words.ensures.usage (other_calls (words_of c.args.words.now) other ∙ none)

-- ---- `run`

pub returns-in-Err-Failed-clause-answer : goal.returns-in-Err-Failed-clause-answer
returns-in-Err-Failed-clause-answer g c =
    let asked : is_run (words_of c.args.words.now) ≡ true = search rules in
    answers_as _ _ (Some Check) _ _ (run_calls (words_of c.args.words.now) asked)
    (read_failed _ _ (rw c.in-Err-Failed.field-0-is at c.in-Err-Failed.ensures.exact) refl)

pub returns-in-Err-TooLong-clause-answer : goal.returns-in-Err-TooLong-clause-answer
returns-in-Err-TooLong-clause-answer g c =
    let asked : is_run (words_of c.args.words.now) ≡ true = search rules in
    let told = rw c.in-Err-TooLong.field-0-is at c.in-Err-TooLong.ensures.exact in
    answers_as _ _ (Some Check) _ _ (run_calls (words_of c.args.words.now) asked) (read_too_long _ _ told.0 told.1 refl)

pub returns-in-Err-NoMemory-clause-answer : goal.returns-in-Err-NoMemory-clause-answer
returns-in-Err-NoMemory-clause-answer g c =
    let asked : is_run (words_of c.args.words.now) ≡ true = search rules in
    answers_as _ _ (Some Check) _ _ (run_calls (words_of c.args.words.now) asked)
    (out_of_memory _ _ (Some Check) (rw c.in-Err-NoMemory.field-0-is at c.in-Err-NoMemory.ensures.exact) (λ other. absurd (other refl)) refl)

pub answer_read-status-requires-clause-accepted : goal.answer_read-status-requires-clause-accepted
answer_read-status-requires-clause-accepted g c = λ _ _. read_is_sound _ _ _ c.in-Ok.ensures.exact.1

pub returns-clause-answer : goal.returns-clause-answer
returns-clause-answer g c =
    let asked : is_run (words_of c.args.words.now) ≡ true = search rules in
    let told = c.answer_read-status.ensures in
    answers_as _ _ (Some Check) _ _ (run_calls (words_of c.args.words.now) asked)
    (read_whole _ _ _ _ c.in-Ok.ensures.exact.0 c.in-Ok.ensures.exact.1 (record {
      whole = told.whole;
      front = told.front;
      silent = λ is. sink_stays g.K.Sink.written g.K.Sink.faults _ _ (told.silent is);
      cause = told.cause;
      never_fall = told.never_fall;
      is_answer = told.ends;
    }))
