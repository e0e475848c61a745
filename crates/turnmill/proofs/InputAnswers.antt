-- What a call promises of its input, by how it ends.
use Rattle.std.proofs.Common.{◌≡◌, ◌↔◌, ◌⊎◌, ℕ, ◌<◌, ◌≤◌, List, [], length, Option, Some, IsOkAnd, IfOk, inl, inr, refl, sym, subst, arith}
use Rattle.edge_io.specs.Moves.{Grows}
use Rattle.exit_statuses.specs.declared.Status.{Status}
use Rattle.exit_statuses.specs.declared.Status.TheVariants as ends
use Rattle.tape_job.proofs.SoundJobs.{read_sound}
use Rattle.tape_job.specs.Read.{read_of}
use Rattle.turnmill.proofs.CalledVerdicts.{clear_at_yes, named_at_no, read_as, refused_calls, refused_wrote, safe_where, yes_where_clear}
use Rattle.turnmill.proofs.CheckLemmas.{Grows-none, answered, long_output, whole_verdict}
use Rattle.turnmill.proofs.ResultLemmas.{all_spoken_for, result_by}
use Rattle.turnmill.specs.Calls.{AnswersInput, Change, HadNoFault, SinkState, SourceState}
use Rattle.turnmill.specs.Judged.{IsClear}
use Rattle.turnmill.specs.OneResult.{OneQuietRunSpeaksForAll}
use Rattle.turnmill.specs.Output.{IsAnswer, IsReadWhole, ReadingCallsFor, Writes, WritesFront}
use Rattle.turnmill.specs.Summary.{WordsCallFor}
use Rattle.turnmill.specs.declared.words.Request.{Request}
use Rattle.turnmill.specs.declared.words.Request.TheVariants.{Check}

-- what is written by a call that has all that it needs
pub record WritesAnswer {K : Type 0} (calls_for : Status → List ℕ → Type 0) (result : Status) (sink : Change (SinkState K)) : Type 0 where
  pub whole : IsReadWhole result → Writes calls_for result sink.old.written sink.new.written
  pub front : result ≡ ends.WriteFault → WritesFront calls_for sink.old.written sink.new.written
  pub silent : result ≡ ends.NoMemory → sink.new ≡ sink.old
  pub cause : (result ≡ ends.WriteFault) ↔ (sink.old.faults < sink.new.faults)
  pub never_fall : sink.old.faults ≤ sink.new.faults
  pub is_answer : IsAnswer result

whole_at : (status wanted : Status) → IsReadWhole wanted → status ≡ wanted → IsReadWhole status
whole_at status wanted whole is = subst IsReadWhole (sym is) whole

pub not_less : (before now : ℕ) → now ≡ before → before < now → ⊥
not_less before now same less = omega (arith, same, less)

too_short : (n : ℕ) → n ≤ 8388608 → 8388608 < n → ⊥
too_short n short long = omega (arith, short, long)

-- in any case
spoken_for : (input : List ℕ) → IfOk (read_of input) OneQuietRunSpeaksForAll
spoken_for input = all_spoken_for (read_of input) (read_sound input)

-- ---- the input was read whole, or is the job of a number

module _ {S K : Type 0} (request : Option Request) (input : List ℕ) (result : Status) (source : Change (SourceState S)) (sink : Change (SinkState K))
    (short : IsReadWhole result → length input ≤ 8388608) (read : request ≡ Some Check → (length input ≤ 8388608) × (source.new.left ≡ Some []))
    (answer : WritesAnswer (WordsCallFor request input) result sink) where
  called : (whole : IsReadWhole result) → (report : List ℕ) × ReadingCallsFor (read_of input) result report
  called whole = read_as request input result (answer.whole whole).bytes whole (short whole) (answer.whole whole).called_for

  unless_memory : (W : Type 0) → (IsReadWhole result → W) → HadNoFault source sink → (result ≡ ends.NoMemory) ⊎ W
  unless_memory W holds no_fault = answered W result sink.old.faults sink.new.faults answer.is_answer holds (λ fault. answer.cause.0 fault) no_fault.1

  clear : result ≡ ends.Yes → IsOkAnd (read_of input) IsClear
  clear is = let report = called (whole_at result ends.Yes tt is) in clear_at_yes (read_of input) result report.0 is report.1

  pub input_answered : AnswersInput request input result source sink
  input_answered = record {
    exact = unless_memory (Writes (WordsCallFor request input) result sink.old.written sink.new.written) answer.whole;
    verdict = λ is. (answer.whole (whole_verdict result is), λ asked. (read asked).1);
    yes = clear;
    yes_comes = λ no_fault within is_clear.
        unless_memory (result ≡ ends.Yes) (λ whole. yes_where_clear (read_of input) result (called whole).0 is_clear (called whole).1) no_fault;
    no = λ is. let whole = whole_at result ends.No tt is in named_at_no request input result sink.old.written sink.new.written is (short whole) (answer.whole whole);
    schedules = λ verdict other. let report = called (whole_verdict result verdict) in result_by (read_of input) result report.0 (read_sound input) verdict other report.1;
    quiet_runs = spoken_for input;
    speeds = λ is. safe_where (read_of input) (read_sound input) (clear is);
    refused = λ is.
        let whole = whole_at result ends.Refused tt is in
        (refused_wrote request input result sink.old.written sink.new.written is (short whole) (answer.whole whole), λ asked. (read asked).1);
    refused_comes = λ asked no_fault within refused.
        unless_memory (result ≡ ends.Refused) (λ whole. refused_calls (read_of input) result (called whole).0 refused (called whole).1) no_fault;
    written_front = answer.front;
    too_long_comes = λ asked same long. absurd (too_short (length input) (read asked).0 long);
  }

-- ---- a read failed, or memory was wanted and not found

module _ {S K : Type 0} (request : Option Request) (input : List ℕ) (source : Change (SourceState S)) (sink : Change (SinkState K)) where
  pub at_read_fault : source.old.faults < source.new.faults → AnswersInput request input ends.ReadFault source sink
  at_read_fault rose = record {
    exact = λ no_fault. absurd (not_less source.old.faults source.new.faults no_fault.0 rose);
    verdict = λ is. absurd is;
    yes = λ is. absurd cc;
    yes_comes = λ no_fault within is_clear. absurd (not_less source.old.faults source.new.faults no_fault.0 rose);
    no = λ is. absurd cc;
    schedules = λ is other. absurd is;
    quiet_runs = spoken_for input;
    speeds = λ is. absurd cc;
    refused = λ is. absurd cc;
    refused_comes = λ asked no_fault within refused. absurd (not_less source.old.faults source.new.faults no_fault.0 rose);
    written_front = λ is. absurd cc;
    too_long_comes = λ asked same long. absurd (not_less source.old.faults source.new.faults same rose);
  }

  pub at_no_memory : AnswersInput request input ends.NoMemory source sink
  at_no_memory = record {
    exact = λ no_fault. inl refl;
    verdict = λ is. absurd is;
    yes = λ is. absurd cc;
    yes_comes = λ no_fault within is_clear. inl refl;
    no = λ is. absurd cc;
    schedules = λ is other. absurd is;
    quiet_runs = spoken_for input;
    speeds = λ is. absurd cc;
    refused = λ is. absurd cc;
    refused_comes = λ asked no_fault within refused. inl refl;
    written_front = λ is. absurd cc;
    too_long_comes = λ asked same long. inl refl;
  }

-- ---- the input is too long

module _ {S K : Type 0} (input : List ℕ) (source : Change (SourceState S)) (sink : Change (SinkState K)) where
  pub at_too_long : 8388608 < length input → sink.new ≡ sink.old → AnswersInput (Some Check) input ends.TooLong source sink
  at_too_long long unwritten = record {
    exact = λ no_fault. inr (record {
      bytes = [];
      called_for = long_output input long;
      grows = subst (λ (state : SinkState K). Grows sink.old.written state.written []) (sym unwritten) (Grows-none sink.old.written);
    });
    verdict = λ is. absurd is;
    yes = λ is. absurd cc;
    yes_comes = λ no_fault within is_clear. absurd (too_short (length input) within long);
    no = λ is. absurd cc;
    schedules = λ is other. absurd is;
    quiet_runs = spoken_for input;
    speeds = λ is. absurd cc;
    refused = λ is. absurd cc;
    refused_comes = λ asked no_fault within refused. absurd (too_short (length input) within long);
    written_front = λ is. absurd cc;
    too_long_comes = λ asked same many. inr refl;
  }
