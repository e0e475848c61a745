-- What a call promises, by how it ends.
use Rattle.std.proofs.Common.{◌≡◌, ◌≢◌, ◌⊎◌, ℕ, ◌<◌, ◌≤◌, List, [], length, Option, None, Some, Result, IfSome, inl, inr, refl, ap, sym, subst, arith}
use Rattle.exit_statuses.specs.declared.Status.{Status}
use Rattle.exit_statuses.specs.declared.Status.TheVariants as ends
use Rattle.job_types.specs.Job.{JobView}
use Rattle.fault_codes.specs.declared.Refusal.{Refusal}
use Rattle.sample_jobs.specs.Samples.{sample_bytes}
use Rattle.tape_job.specs.Read.{read_of}
use Rattle.turnmill.proofs.InputAnswers.{WritesAnswer, at_no_memory, at_read_fault, at_too_long, input_answered, not_less}
use Rattle.turnmill.proofs.ReadLemmas.{read_front, read_writes}
use Rattle.turnmill.specs.Calls.{AnswersCall, AnswersInput, Change, SinkState, SourceState, sink_change}
use Rattle.turnmill.specs.Input.{IsReadFrom, ReadsAll, TakesTooMany}
use Rattle.turnmill.specs.Output.{IsAnswer, IsReadWhole, ReadingCallsFor}
use Rattle.turnmill.specs.Summary.{IsSummaryBy, WordsCallFor}
use Rattle.turnmill.specs.Words.{input_for}
use Rattle.turnmill.specs.declared.words.Request.{Request}
use Rattle.turnmill.specs.declared.words.Request.TheVariants.{Check, Sample}

-- a sink that is as it was
module _ {K : Type 0} (written : K → Option (List ℕ)) (faults : K → ℕ) where
  pub sink_stays : (old new : K) → new ≡ old → (sink_change written faults old new).new ≡ (sink_change written faults old new).old
  sink_stays old new same = ap (λ (k : K). (sink_change written faults k k).old) same

-- ---- what is so of each input is so of the one that is there

for_each : (left : Option (List ℕ)) (P : List ℕ → Type 0) → ((input : List ℕ) → P input) → IfSome left P
for_each None P so = tt
for_each (Some input) P so = so input

for_read : (left after : Option (List ℕ)) (bytes : List ℕ) (P : List ℕ → Type 0) → ReadsAll left after bytes → (after ≡ Some [] → P bytes) → IfSome left P
for_read None after bytes P reads so = tt
for_read (Some input) after bytes P reads so = subst P (sym reads.0) (so reads.1)

for_long : (left after : Option (List ℕ)) (P : List ℕ → Type 0) → TakesTooMany left after → ((input : List ℕ) → 8388608 < length input → P input) → IfSome left P
for_long None after P many so = tt
for_long (Some input) after P many so = so input many.0

-- ---- a call that has all that it needs does not end early

no_usage : (result : Status) → IsAnswer result → result ≡ ends.Usage → ⊥
no_usage result is usage = early (subst IsAnswer usage is)
  where
    early : IsAnswer ends.Usage → ⊥
    early (inl whole) = whole
    early (inr (inl same)) = cc
    early (inr (inr same)) = cc

no_read_fault : (result : Status) → IsAnswer result → result ≡ ends.ReadFault → ⊥
no_read_fault result is fault = early (subst IsAnswer fault is)
  where
    early : IsAnswer ends.ReadFault → ⊥
    early (inl whole) = whole
    early (inr (inl same)) = cc
    early (inr (inr same)) = cc

not_too_long : (result : Status) → IsAnswer result → result ≡ ends.TooLong → ⊥
not_too_long result is long = early (subst IsAnswer long is)
  where
    early : IsAnswer ends.TooLong → ⊥
    early (inl whole) = whole
    early (inr (inl same)) = cc
    early (inr (inr same)) = cc

silent_by : (A : Type 0) (result : Status) → IsAnswer result → (result ≡ ends.NoMemory → A)
    → (result ≡ ends.Usage) ⊎ (result ≡ ends.ReadFault) ⊎ (result ≡ ends.TooLong) ⊎ (result ≡ ends.NoMemory) → A
silent_by A result is silent (inl usage) = absurd (no_usage result is usage)
silent_by A result is silent (inr (inl fault)) = absurd (no_read_fault result is fault)
silent_by A result is silent (inr (inr (inl long))) = absurd (not_too_long result is long)
silent_by A result is silent (inr (inr (inr memory))) = silent memory

no_fewer : (before now : ℕ) → now ≡ before → before ≤ now
no_fewer before now same = omega (arith, same)

module _ {S K : Type 0} (source : Change (SourceState S)) (sink : Change (SinkState K)) where
  -- words that ask for the same are answered alike
  pub answers_as : (is asks : Option Request) (result : Status) → is ≡ asks → AnswersCall is result source sink → AnswersCall asks result source sink
  answers_as is asks result same answer = subst (λ (request : Option Request). AnswersCall request result source sink) same answer

  no_read_failed : source.new ≡ source.old → source.new.faults ≡ source.old.faults
  no_read_failed same = ap (λ (state : SourceState S). state.faults) same

  no_write_failed : sink.new ≡ sink.old → sink.new.faults ≡ sink.old.faults
  no_write_failed same = ap (λ (state : SinkState K). state.faults) same

  -- ---- the words have no accepted form

  pub unaccepted : source.new ≡ source.old → sink.new ≡ sink.old → AnswersCall None ends.Usage source sink
  unaccepted unread unwritten = record {
    known = tt;
    usage = λ is. refl;
    usage_comes = λ none. inr refl;
    usage_writes_nothing = λ none. unwritten;
    only_asked_reads = λ other. unread;
    read_fault = ((λ is. absurd cc), (λ rose. absurd (not_less source.old.faults source.new.faults (no_read_failed unread) rose)));
    write_fault = ((λ is. absurd cc), (λ rose. absurd (not_less sink.old.faults sink.new.faults (no_write_failed unwritten) rose)));
    read_faults_never_fall = no_fewer source.old.faults source.new.faults (no_read_failed unread);
    write_faults_never_fall = no_fewer sink.old.faults sink.new.faults (no_write_failed unwritten);
    too_long = λ is. absurd cc;
    silent = λ early. unwritten;
  }

  -- ---- memory was wanted and not found

  pub out_of_memory : (request : Option Request) → source.new.faults ≡ source.old.faults → (request ≢ Some Check → source.new ≡ source.old) → sink.new ≡ sink.old
      → AnswersCall request ends.NoMemory source sink
  out_of_memory request same unread unwritten = record {
    known = for_each (input_for request source.old.left) (λ input. AnswersInput request input ends.NoMemory source sink) (λ input. at_no_memory request input source sink);
    usage = λ is. absurd cc;
    usage_comes = λ none. inl refl;
    usage_writes_nothing = λ none. unwritten;
    only_asked_reads = unread;
    read_fault = ((λ is. absurd cc), (λ rose. absurd (not_less source.old.faults source.new.faults same rose)));
    write_fault = ((λ is. absurd cc), (λ rose. absurd (not_less sink.old.faults sink.new.faults (no_write_failed unwritten) rose)));
    read_faults_never_fall = no_fewer source.old.faults source.new.faults same;
    write_faults_never_fall = no_fewer sink.old.faults sink.new.faults (no_write_failed unwritten);
    too_long = λ is. absurd cc;
    silent = λ early. unwritten;
  }

  -- ---- the input is asked for, and was not read to its end

  pub read_failed : source.old.faults < source.new.faults → sink.new ≡ sink.old → AnswersCall (Some Check) ends.ReadFault source sink
  read_failed rose unwritten = record {
    known = for_each source.old.left (λ input. AnswersInput (Some Check) input ends.ReadFault source sink) (λ input. at_read_fault (Some Check) input source sink rose);
    usage = λ is. absurd cc;
    usage_comes = λ none. absurd cc;
    usage_writes_nothing = λ none. unwritten;
    only_asked_reads = λ other. absurd (other refl);
    read_fault = ((λ is. rose), (λ more. refl));
    write_fault = ((λ is. absurd cc), (λ more. absurd (not_less sink.old.faults sink.new.faults (no_write_failed unwritten) more)));
    read_faults_never_fall = omega (arith, rose);
    write_faults_never_fall = no_fewer sink.old.faults sink.new.faults (no_write_failed unwritten);
    too_long = λ is. absurd cc;
    silent = λ early. unwritten;
  }

  pub read_too_long : source.new.faults ≡ source.old.faults → TakesTooMany source.old.left source.new.left → sink.new ≡ sink.old
      → AnswersCall (Some Check) ends.TooLong source sink
  read_too_long same many unwritten = record {
    known =
        for_long source.old.left source.new.left (λ input. AnswersInput (Some Check) input ends.TooLong source sink) many
        (λ input long. at_too_long input source sink long unwritten);
    usage = λ is. absurd cc;
    usage_comes = λ none. absurd cc;
    usage_writes_nothing = λ none. unwritten;
    only_asked_reads = λ other. absurd (other refl);
    read_fault = ((λ is. absurd cc), (λ rose. absurd (not_less source.old.faults source.new.faults same rose)));
    write_fault = ((λ is. absurd cc), (λ rose. absurd (not_less sink.old.faults sink.new.faults (no_write_failed unwritten) rose)));
    read_faults_never_fall = no_fewer source.old.faults source.new.faults same;
    write_faults_never_fall = no_fewer sink.old.faults sink.new.faults (no_write_failed unwritten);
    too_long = λ is. many;
    silent = λ early. unwritten;
  }

  -- ---- the call has all that it needs

  answered_call : (request : Option Request) (result : Status) (calls_for : Status → List ℕ → Type 0) → (request ≡ None → ⊥)
      → source.new.faults ≡ source.old.faults → (request ≢ Some Check → source.new ≡ source.old) → WritesAnswer calls_for result sink
      → IfSome (input_for request source.old.left) (λ input. AnswersInput request input result source sink) → AnswersCall request result source sink
  answered_call request result calls_for asked same unread answer known = record {
    known = known;
    usage = λ is. absurd (no_usage result answer.is_answer is);
    usage_comes = λ none. absurd (asked none);
    usage_writes_nothing = λ none. absurd (asked none);
    only_asked_reads = unread;
    read_fault = ((λ is. absurd (no_read_fault result answer.is_answer is)), (λ rose. absurd (not_less source.old.faults source.new.faults same rose)));
    write_fault = answer.cause;
    read_faults_never_fall = no_fewer source.old.faults source.new.faults same;
    write_faults_never_fall = answer.never_fall;
    too_long = λ is. absurd (not_too_long result answer.is_answer is);
    silent = silent_by (sink.new ≡ sink.old) result answer.is_answer answer.silent;
  }

  -- an input that was read whole is answered as what it was read
  answer_read : (read : Result JobView Refusal) (result : Status) (from : IsReadFrom read source.old.left source.new.left) → WritesAnswer (ReadingCallsFor read) result sink
      → WritesAnswer (WordsCallFor (Some Check) from.bytes) result sink
  answer_read read result from answer = record {
    whole = read_writes read source.old.left source.new.left sink.old.written sink.new.written result from answer.whole;
    front = λ fault. read_front read source.old.left source.new.left sink.old.written sink.new.written from (answer.front fault);
    silent = answer.silent;
    cause = answer.cause;
    never_fall = answer.never_fall;
    is_answer = answer.is_answer;
  }

  pub read_whole : (read : Result JobView Refusal) (result : Status) → source.new.faults ≡ source.old.faults → IsReadFrom read source.old.left source.new.left
      → WritesAnswer (ReadingCallsFor read) result sink → AnswersCall (Some Check) result source sink
  read_whole read result same from answer =
      answered_call (Some Check) result (ReadingCallsFor read) (λ none. cc) same (λ other. absurd (other refl)) answer
      (for_read source.old.left source.new.left from.bytes (λ input. AnswersInput (Some Check) input result source sink) from.all
      (λ emptied. input_answered (Some Check) from.bytes result source sink (λ whole. from.short) (λ asked. (from.short, emptied)) (answer_read read result from answer)))

  -- the job of a number is answered as it is read
  pub sample_answered : (number : ℕ) (result : Status) → source.new ≡ source.old → (IsReadWhole result → length (sample_bytes number) ≤ 8388608)
      → WritesAnswer (IsSummaryBy number (read_of (sample_bytes number))) result sink → AnswersCall (Some (Sample number)) result source sink
  sample_answered number result unread short answer =
      answered_call (Some (Sample number)) result (IsSummaryBy number (read_of (sample_bytes number))) (λ none. cc) (no_read_failed unread) (λ other. unread) answer
      (input_answered (Some (Sample number)) (sample_bytes number) result source sink short (λ asked. absurd cc) answer)
