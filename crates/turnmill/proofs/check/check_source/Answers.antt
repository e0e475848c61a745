-- What the call promises of an input, by how it was read.
use Rattle.std.proofs.Common.{Some, refl}
use Rattle.turnmill.proofs.CallAnswers.{out_of_memory, read_failed, read_too_long, read_whole, sink_stays}
use Rattle.turnmill.proofs.ReadLemmas.{read_is_sound}
use Rattle.turnmill.proofs.check.check_source.Goals as goal
use Rattle.turnmill.specs.declared.words.Request.TheVariants.{Check}

pub returns-in-Err-Failed : goal.returns-in-Err-Failed
returns-in-Err-Failed g c = read_failed _ _ (rw c.in-Err-Failed.field-0-is at c.in-Err-Failed.ensures.exact) refl

pub returns-in-Err-TooLong : goal.returns-in-Err-TooLong
returns-in-Err-TooLong g c =
    let told = rw c.in-Err-TooLong.field-0-is at c.in-Err-TooLong.ensures.exact in
    read_too_long _ _ told.0 told.1 refl

pub returns-in-Err-NoMemory : goal.returns-in-Err-NoMemory
returns-in-Err-NoMemory g c =
    out_of_memory _ _ (Some Check) (rw c.in-Err-NoMemory.field-0-is at c.in-Err-NoMemory.ensures.exact) (λ other. absurd (other refl)) refl

pub answer_read-status-requires-clause-accepted : goal.answer_read-status-requires-clause-accepted
answer_read-status-requires-clause-accepted g c = read_is_sound _ _ _ c.in-Ok.ensures.exact.1

pub returns : goal.returns
returns g c =
    let told = c.answer_read-status.ensures in
    read_whole _ _ _ _ c.in-Ok.ensures.exact.0 c.in-Ok.ensures.exact.1 (record {
      whole = told.whole;
      front = told.front;
      silent = λ is. sink_stays g.K.Sink.written g.K.Sink.faults _ _ (told.silent is);
      cause = told.cause;
      never_fall = told.never_fall;
      is_answer = told.ends;
    })
