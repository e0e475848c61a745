-- The order of a run is that of its course.
use Rattle.std.proofs.Common.{◌≡◌, ℕ, zero, suc, ◌+◌, ◌*◌, ◌<◌, ◌≤◌, Bool, true, false, List, [], ◌∷◌, length, Option, Some, None, refl, sym, ap, ◌∙◌, arith, if◌then◌else◌}
use Rattle.std.proofs.lemmas.Bool.{false≢true}
use Rattle.std.proofs.lemmas.Option.{none-some}
use Rattle.order_clocks.specs.Before.{Rule, InChannel, Gives, RaisedMark, FreedAxis, StartedChannel, EndedProgram, Follows, Before}
use Rattle.order_clocks.specs.Chains.{IsPath}
use Rattle.order_clocks.specs.CourseOf.{course_of}
use Rattle.order_clocks.specs.Courses.{AreJoinedIn, IsThereIn, IsEventIn, AreOneIn, RuleIn, InOrder, GivesKey, FollowsIn, IsBeforeIn}
use Rattle.order_clocks.specs.Happenings.{Key, Raised, Freed, Started, Ended, happening_at}
use Rattle.order_clocks.proofs.CounterLaws.{rule_later}
use Rattle.order_clocks.proofs.GroupLaws.{chained_from, chained_to}
use Rattle.sync_types.specs.Boards.{Board, among}
use Rattle.sync_types.specs.Events.{IsThere, IsEvent, AreJoined, AreOne, actor_at, goings_at, channels_in, pairs_of}
use Rattle.sync_types.specs.Turns.{Move, after_step}
use Rattle.sync_types.specs.declared.runs.EventId.{EventId}

-- what happens in a step has its actor and its goings
pub goings_are : (b : Board) (moves : List Move) (i : ℕ) → (happening_at b moves i).goings ≡ goings_at b moves i
goings_are b [] i = refl
goings_are b (m ∷ ms) zero = refl
goings_are b (m ∷ ms) (suc i) = goings_are (after_step b m.channel m.step) ms i

actor_is : (b : Board) (moves : List Move) (i : ℕ) → i < length moves → actor_at moves i ≡ Some ((happening_at b moves i).channel)
actor_is b [] i inside = absurd (omega arith)
actor_is b (m ∷ ms) zero inside = refl
actor_is b (m ∷ ms) (suc i) inside = actor_is (after_step b m.channel m.step) ms i (omega arith)

actor_within : (moves : List Move) (i c : ℕ) → actor_at moves i ≡ Some c → i < length moves
actor_within [] i c e = absurd (none-some c e)
actor_within (m ∷ ms) zero c e = omega arith
actor_within (m ∷ ms) (suc i) c e = let up = actor_within ms i c e in omega arith

going_within : (b : Board) (moves : List Move) (i c : ℕ) → among (channels_in (goings_at b moves i)) c ≡ true → i < length moves
going_within b [] i c e = absurd (false≢true e)
going_within b (m ∷ ms) zero c e = omega arith
going_within b (m ∷ ms) (suc i) c e = let up = going_within (after_step b m.channel m.step) ms i c e in omega arith

pub event_within : (b : Board) (moves : List Move) (e : EventId) → IsEvent b moves e → e.step < length moves
event_within b moves e event = by_kind e.go event
  where
    by_kind : (go : Bool) → IsThere b moves e go → e.step < length moves
    by_kind true h = going_within b moves e.step e.channel h
    by_kind false h = actor_within moves e.step e.channel h

abbrev number_in : Option ℕ → ℕ
number_in (Some c) = c
number_in None = 0

-- the events
there_in : (b : Board) (moves : List Move) (e : EventId) (go : Bool) → IsThere b moves e go → IsThereIn (course_of b moves) e go
there_in b moves e true h = rw (goings_are b moves e.step) h
there_in b moves e false h = ap number_in (sym (actor_is b moves e.step (actor_within moves e.step e.channel h)) ∙ h)

there_from : (b : Board) (moves : List Move) (e : EventId) (go : Bool) → e.step < length moves → IsThereIn (course_of b moves) e go → IsThere b moves e go
there_from b moves e true inside h = rw (sym (goings_are b moves e.step)) h
there_from b moves e false inside h = actor_is b moves e.step inside ∙ ap (λ (c : ℕ). Some c) h

pub event_in : (b : Board) (moves : List Move) (e : EventId) → IsEvent b moves e → IsEventIn (course_of b moves) e
event_in b moves e event = there_in b moves e e.go event

pub event_from : (b : Board) (moves : List Move) (e : EventId) → e.step < length moves → IsEventIn (course_of b moves) e → IsEvent b moves e
event_from b moves e inside event = there_from b moves e e.go inside event

joined_in : (b : Board) (moves : List Move) (e f : EventId) (go : Bool) → e.step ≡ f.step → AreJoined b moves e f go → AreJoinedIn (course_of b moves) e f go
joined_in b moves e f true same h = rw (sym same, goings_are b moves e.step) (chained_to (pairs_of (goings_at b moves e.step)) e.channel f.channel h)
joined_in b moves e f false same h = h

joined_from : (b : Board) (moves : List Move) (e f : EventId) (go : Bool) → e.step ≡ f.step → AreJoinedIn (course_of b moves) e f go → AreJoined b moves e f go
joined_from b moves e f true same h = chained_from (pairs_of (goings_at b moves e.step)) e.channel f.channel (rw (sym same, goings_are b moves e.step) at h)
joined_from b moves e f false same h = h

pub one_in : (b : Board) (moves : List Move) (e f : EventId) → AreOne b moves e f → AreOneIn (course_of b moves) e f
one_in b moves e f one = record {
  first = event_in b moves e one.first;
  second = event_in b moves f one.second;
  step = one.step;
  go = one.go;
  joined = joined_in b moves e f e.go one.step one.joined;
}

pub one_from : (b : Board) (moves : List Move) (e f : EventId) → e.step < length moves → AreOneIn (course_of b moves) e f → AreOne b moves e f
one_from b moves e f inside one = record {
  first = event_from b moves e inside one.first;
  second = event_from b moves f (rw one.step at inside) one.second;
  step = one.step;
  go = one.go;
  joined = joined_from b moves e f e.go one.step one.joined;
}

-- the rules
given_in : (b : Board) (moves : List Move) (e f : EventId) (key : Key) → Gives b moves key e f → RuleIn (course_of b moves) e f
given_in b moves e f key given = GivesKey key given.act given.going given.rests (record { gives = given.last.given; up = given.last.up; none_later = given.last.none_later })

rule_in : (b : Board) (moves : List Move) (e f : EventId) → Rule b moves e f → RuleIn (course_of b moves) e f
rule_in b moves e f (InChannel same early) = InOrder same early
rule_in b moves e f (RaisedMark c m given) = given_in b moves e f (Raised c m) given
rule_in b moves e f (FreedAxis x given) = given_in b moves e f (Freed x) given
rule_in b moves e f (StartedChannel c given) = given_in b moves e f (Started c) given
rule_in b moves e f (EndedProgram c given) = given_in b moves e f (Ended c) given

given_from : (b : Board) (moves : List Move) (e f : EventId) (key : Key) → Gives b moves key e f → Rule b moves e f
given_from b moves e f (Raised c m) given = RaisedMark c m given
given_from b moves e f (Freed x) given = FreedAxis x given
given_from b moves e f (Started c) given = StartedChannel c given
given_from b moves e f (Ended c) given = EndedProgram c given

rule_from : (b : Board) (moves : List Move) (e f : EventId) → RuleIn (course_of b moves) e f → Rule b moves e f
rule_from b moves e f (InOrder same early) = InChannel same early
rule_from b moves e f (GivesKey key act go rests gift) =
    given_from b moves e f key (record { act = act; going = go; rests = rests; last = record { given = gift.gives; up = gift.up; none_later = gift.none_later } })

half : (s t : ℕ) (g h : Bool) → 2 * s + (if g then 1 else 0) < 2 * t + (if h then 1 else 0) → s ≤ t
half s t true true less = omega arith
half s t true false less = omega arith
half s t false true less = omega arith
half s t false false less = omega arith

follows_in : (b : Board) (moves : List Move) (e f : EventId) → Follows b moves e f → FollowsIn (course_of b moves) e f
follows_in b moves e f follows = record {
  from = follows.from;
  to = follows.to;
  left = one_in b moves e follows.from follows.left;
  right = one_in b moves follows.to f follows.right;
  rule = rule_in b moves follows.from follows.to follows.rule;
}

follows_up : (b : Board) (moves : List Move) (e f : EventId) → FollowsIn (course_of b moves) e f → e.step ≤ f.step
follows_up b moves e f follows =
    let up = half follows.from.step follows.to.step follows.from.go follows.to.go (rule_later (course_of b moves) follows.from follows.to follows.rule) in
    let left = follows.left.step in
    let right = follows.right.step in
    omega arith

follows_from : (b : Board) (moves : List Move) (e f : EventId) → f.step < length moves → FollowsIn (course_of b moves) e f → Follows b moves e f
follows_from b moves e f inside follows =
    let up = follows_up b moves e f follows in
    let right = follows.right.step in
    record {
      from = follows.from;
      to = follows.to;
      left = one_from b moves e follows.from (omega arith) follows.left;
      right = one_from b moves follows.to f (omega arith) follows.right;
      rule = rule_from b moves follows.from follows.to follows.rule;
    }

path_in : (b : Board) (moves : List Move) (es : List EventId) (e f : EventId) → IsPath (Follows b moves) e es f → IsPath (FollowsIn (course_of b moves)) e es f
path_in b moves [] e f path = follows_in b moves e f path
path_in b moves (d ∷ es) e f path = (follows_in b moves e d path.0, path_in b moves es d f path.1)

path_from : (b : Board) (moves : List Move) (es : List EventId) (e f : EventId) → f.step < length moves → IsPath (FollowsIn (course_of b moves)) e es f
    → (e.step ≤ f.step) × IsPath (Follows b moves) e es f
path_from b moves [] e f inside path = (follows_up b moves e f path, follows_from b moves e f inside path)
path_from b moves (d ∷ es) e f inside path =
    let rest = path_from b moves es d f inside path.1 in
    let up = rest.0 in
    let first = follows_up b moves e d path.0 in
    (omega arith, (follows_from b moves e d (omega arith) path.0, rest.1))

pub order_in : (b : Board) (moves : List Move) (e f : EventId) → Before b moves e f → IsBeforeIn (course_of b moves) e f
order_in b moves e f path = (path.0, path_in b moves path.0 e f path.1)

pub order_from : (b : Board) (moves : List Move) (e f : EventId) → f.step < length moves → IsBeforeIn (course_of b moves) e f → Before b moves e f
order_from b moves e f inside path = (path.0, (path_from b moves path.0 e f inside path.1).1)
