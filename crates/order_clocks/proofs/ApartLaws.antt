-- The races of two events are those of their names.
use Rattle.std.proofs.Common.{◌≡◌, ℕ, ◌<◌, inl, inr, sym, ap, ◌∙◌, arith}
use Rattle.std.proofs.lemmas.Bool.{cases_lt}
use Rattle.counter_rows.specs.Rows.{count_of}
use Rattle.order_clocks.specs.Counters.{row}
use Rattle.order_clocks.specs.Courses.{Course}
use Rattle.order_clocks.specs.Pairs.{IsApartPair, IsEventOf}
use Rattle.order_clocks.specs.TracedRaces.{shown}
use Rattle.order_clocks.specs.Tracks.{Tracks, IsApartRace, spot}
use Rattle.order_clocks.specs.declared.events.Event.{Event}
use Rattle.order_clocks.proofs.CounterLaws.{before_from, before_to}
use Rattle.sync_types.specs.declared.runs.EventId.{EventId}
use Rattle.sync_types.specs.declared.runs.Race.{Race}

-- of events of two steps the earlier is not before the later exactly where the later counts less of its channel
pub apart_from : (run : Course) (tracks : Tracks) (a b : EventId) (e l : Event) (race : Race) → IsEventOf run tracks a e → IsEventOf run tracks b l → a.step < b.step
    → IsApartPair e l race → IsApartRace run tracks a b race
apart_from run tracks a b e l race first second early given =
    let less = given.apart.1 in
    let one : count_of l.row e.channel ≡ row run b a.channel = ap (λ (c : ℕ). count_of l.row c) first.channel ∙ second.row a.channel in
    let two : count_of e.row e.channel ≡ row run a a.channel = ap (λ (c : ℕ). count_of e.row c) first.channel ∙ first.row a.channel in
    record {
      trace = given.trace;
      apart = record {
        first = first.event;
        second = second.event;
        step = early;
        channels = rw (first.channel, second.channel) at given.apart.0;
        left = (first.left given.trace).0 given.met.left;
        minded = (second.minded given.trace).0 given.met.minded;
        unordered = λ path. let up = (before_to run a b a.channel path).0 in absurd (omega arith);
      };
      is = given.is ∙ (ap (λ (s : ℕ × ℕ). shown given.trace s (l.channel, l.line)) (at first) ∙ ap (λ (s : ℕ × ℕ). shown given.trace (spot tracks a) s) (at_late second));
    }
  where
    at : IsEventOf run tracks a e → (e.channel, e.line) ≡ spot tracks a
    at is = ap (λ (c : ℕ). (c, e.line)) is.channel ∙ ap (λ (n : ℕ). (a.channel, n)) is.line

    at_late : IsEventOf run tracks b l → (l.channel, l.line) ≡ spot tracks b
    at_late is = ap (λ (c : ℕ). (c, l.line)) is.channel ∙ ap (λ (n : ℕ). (b.channel, n)) is.line

pub apart_to : (run : Course) (tracks : Tracks) (a b : EventId) (e l : Event) (race : Race) → IsEventOf run tracks a e → IsEventOf run tracks b l
    → IsApartRace run tracks a b race → IsApartPair e l race
apart_to run tracks a b e l race first second given =
    let one : count_of l.row e.channel ≡ row run b a.channel = ap (λ (c : ℕ). count_of l.row c) first.channel ∙ second.row a.channel in
    let two : count_of e.row e.channel ≡ row run a a.channel = ap (λ (c : ℕ). count_of e.row c) first.channel ∙ first.row a.channel in
    let lower = given.apart.step in
    record {
      apart = (
        rw (first.channel, second.channel) given.apart.channels,
        elim (cases_lt (count_of l.row e.channel) (count_of e.row e.channel)) [
          | inl less ↦ less
          | inr more ↦ absurd (given.apart.unordered (before_from run a b first.event second.event (omega arith) (λ one_event. let same = one_event.step in absurd (omega arith))))
        ],
      );
      trace = given.trace;
      met = record {
        left = (first.left given.trace).1 given.apart.left;
        minded = (second.minded given.trace).1 given.apart.minded;
      };
      is = given.is ∙ (ap (λ (s : ℕ × ℕ). shown given.trace s (spot tracks b)) (sym (at first)) ∙ ap (λ (s : ℕ × ℕ). shown given.trace (e.channel, e.line) s) (sym (at_late second)));
    }
  where
    at : IsEventOf run tracks a e → (e.channel, e.line) ≡ spot tracks a
    at is = ap (λ (c : ℕ). (c, e.line)) is.channel ∙ ap (λ (n : ℕ). (a.channel, n)) is.line

    at_late : IsEventOf run tracks b l → (l.channel, l.line) ≡ spot tracks b
    at_late is = ap (λ (c : ℕ). (c, l.line)) is.channel ∙ ap (λ (n : ℕ). (b.channel, n)) is.line
