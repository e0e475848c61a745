-- The arguments of the program, and the words that they give.
use Rattle.std.proofs.Common.{◌≡◌, ◌⊎◌, ℕ, List, None, Result, Ok, Err, map, string_bytes, inl, inr, refl, sym, ap, subst, ◌∙◌}
use Rattle.std.specs.Global.{Global, Vec}
use Rattle.std.specs.IoError.{error_kind}
use Rattle.std.specs.declared.io.Error.{Error}
use Rattle.std.specs.declared.io.ErrorKind.TheVariants.{OutOfMemory}
use Rattle.std.specs.declared.string.String.{String}
use Rattle.exit_statuses.specs.declared.Status.{Status}
use Rattle.exit_statuses.specs.declared.Status.TheVariants as ends
use Rattle.turnmill.proofs.CallAnswers.{out_of_memory, unaccepted}
use Rattle.turnmill.specs.Arguments.{Arguments, GivesWords, call_in, words_in}
use Rattle.turnmill.specs.Calls.{AnswersCall, Change, SinkState, SourceState}
use Rattle.turnmill.specs.Words.{call_of}

-- the words call for what the arguments call for
pub asked_call : (arguments : Result Arguments Error) (words : Vec (String Global)) (texts : List (List ℕ)) → GivesWords arguments (Ok words)
    → texts ≡ map string_bytes words.items → call_of texts ≡ call_in arguments
asked_call (Ok arguments) words texts given same = ap call_of (same ∙ given)
asked_call (Err error) words texts given same = absurd given

-- ---- the arguments have no words

-- a status that is the one under a fact and the other without it, is one of them
neither : (A : Type 0) (status : Status) → (status ≡ ends.NoMemory → ⊥) → (status ≡ ends.Usage → ⊥) → (A → status ≡ ends.NoMemory) → ((A → ⊥) → status ≡ ends.Usage) → ⊥
neither A status no_memory no_usage with_it without_it = no_usage (without_it (λ holds. no_memory (with_it holds)))

one_of_two : (A : Type 0) (status : Status) → (A → status ≡ ends.NoMemory) → ((A → ⊥) → status ≡ ends.Usage) → (status ≡ ends.NoMemory) ⊎ (status ≡ ends.Usage)
one_of_two A ends.NoMemory with_it without_it = inl refl
one_of_two A ends.Usage with_it without_it = inr refl
one_of_two A ends.Yes with_it without_it = absurd (neither A ends.Yes (λ e. cc) (λ e. cc) with_it without_it)
one_of_two A ends.No with_it without_it = absurd (neither A ends.No (λ e. cc) (λ e. cc) with_it without_it)
one_of_two A ends.Race with_it without_it = absurd (neither A ends.Race (λ e. cc) (λ e. cc) with_it without_it)
one_of_two A ends.Stuck with_it without_it = absurd (neither A ends.Stuck (λ e. cc) (λ e. cc) with_it without_it)
one_of_two A ends.Alarm with_it without_it = absurd (neither A ends.Alarm (λ e. cc) (λ e. cc) with_it without_it)
one_of_two A ends.Undecided with_it without_it = absurd (neither A ends.Undecided (λ e. cc) (λ e. cc) with_it without_it)
one_of_two A ends.Refused with_it without_it = absurd (neither A ends.Refused (λ e. cc) (λ e. cc) with_it without_it)
one_of_two A ends.ReadFault with_it without_it = absurd (neither A ends.ReadFault (λ e. cc) (λ e. cc) with_it without_it)
one_of_two A ends.WriteFault with_it without_it = absurd (neither A ends.WriteFault (λ e. cc) (λ e. cc) with_it without_it)
one_of_two A ends.TooLong with_it without_it = absurd (neither A ends.TooLong (λ e. cc) (λ e. cc) with_it without_it)

module _ {S K : Type 0} (source : Change (SourceState S)) (sink : Change (SinkState K)) (unread : source.new ≡ source.old) (unwritten : sink.new ≡ sink.old) where
  no_read_failed : source.new.faults ≡ source.old.faults
  no_read_failed = ap (λ (state : SourceState S). state.faults) unread

  -- memory was wanted for them and not found, or one of them is no text
  pub no_words : (arguments : Result Arguments Error) (status : Status) → GivesWords arguments (Err status) → AnswersCall (call_in arguments) status source sink
  no_words (Ok arguments) status gives =
      subst (λ (s : Status). AnswersCall (call_of (words_in arguments)) s source sink) (sym gives)
      (out_of_memory source sink (call_of (words_in arguments)) no_read_failed (λ other. unread) unwritten)
  no_words (Err error) status gives = by_end (one_of_two (error_kind error ≡ OutOfMemory) status gives.0 gives.1)
    where
      by_end : (status ≡ ends.NoMemory) ⊎ (status ≡ ends.Usage) → AnswersCall None status source sink
      by_end (inl memory) = subst (λ (s : Status). AnswersCall None s source sink) (sym memory) (out_of_memory source sink None no_read_failed (λ other. unread) unwritten)
      by_end (inr usage) = subst (λ (s : Status). AnswersCall None s source sink) (sym usage) (unaccepted source sink unread unwritten)
