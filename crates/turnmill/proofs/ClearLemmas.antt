-- What the verdicts YES and NO say of the run that they are on.
use Rattle.std.proofs.Common.{◌≡◌, ◌∙◌, ℕ, ◌≤◌, nat_lt, Bool, true, false, if◌then◌else◌, List, [], ◌∷◌, All, find, Option, None, Some, refl, ap, sym, subst}
use Rattle.std.proofs.lemmas.Bool.{le-ltb, ltb-false}
use Rattle.std.proofs.lemmas.List.Elements.{All-cons, All-head, All-nil, All-tail, All-weaker}
use Rattle.std.specs.Option.{option_or}
use Rattle.clash_check.specs.Counts.{count_of}
use Rattle.clash_check.specs.FirstAnswer.{first_some}
use Rattle.clash_check.specs.Verdicts.{alarm_by, budget_verdict, meeting_verdict, name_of, no_by, or_else, race_verdict, stops_of, stuck_by, verdict_by}
use Rattle.job_types.specs.Job.{JobView}
use Rattle.sync_types.specs.Views.{RunView}
use Rattle.sync_types.specs.declared.ChannelEnd.{ChannelEnd}
use Rattle.sync_types.specs.declared.ChannelEnd.TheVariants as end
use Rattle.sync_types.specs.declared.runs.Race.{Race}
use Rattle.sync_types.specs.declared.verdicts.PlaceName.{PlaceName}
use Rattle.sync_types.specs.declared.verdicts.Verdict.{Verdict}
use Rattle.sync_types.specs.declared.verdicts.Verdict.TheVariants as verdicts
use Rattle.turnmill.specs.Judged.{HasFinished, HasFirstMeeting, IsClear, IsFirstRaceIn, IsJudgedInOrder, zone_time_in}
use Rattle.zone_stretches.specs.Overlaps.{Order, Pair, compared_pairs}
use Rattle.zone_stretches.specs.Pieces.{pair_meets}
use Rattle.zone_stretches.specs.Stretches.{StretchesView}

-- ---- the first that fits

-- YES and NO come last
abbrev is_last : Verdict → Bool
is_last verdicts.Yes = true
is_last (verdicts.No first second) = true
is_last (verdicts.Undecided count budget) = false
is_last (verdicts.Alarm channel alarm) = false
is_last (verdicts.Race race) = false
is_last (verdicts.Stuck channel line) = false

-- this is neither YES nor NO
abbrev IsEarly : Option Verdict → Type 0
IsEarly answer = (verdict : Verdict) → answer ≡ Some verdict → is_last verdict ≡ false

early_by : (answer verdict : Verdict) → is_last answer ≡ false → Some answer ≡ Some verdict → is_last verdict ≡ false
early_by answer verdict early is = let same : answer ≡ verdict = cc in subst (λ (v : Verdict). is_last v ≡ false) same early

-- what comes before them did not fit where one of them is the verdict
past : (first : Option Verdict) (later verdict : Verdict) → IsEarly first → is_last verdict ≡ true → or_else first later ≡ verdict → (first ≡ None) × (later ≡ verdict)
past None later verdict early last is = (refl, is)
past (Some answer) later verdict early last is = let not_last : is_last verdict ≡ false = early verdict (ap Some is) in absurd cc

-- the first answer is early where all are
either_early : (first later : Option Verdict) → IsEarly first → IsEarly later → IsEarly (option_or first later)
either_early None later first_early later_early = later_early
either_early (Some verdict) later first_early later_early = first_early

first_early : {X : Type 0} (f : X → Option Verdict) (xs : List X) → ((x : X) → IsEarly (f x)) → IsEarly (first_some f xs)
first_early f [] early = λ verdict is. absurd cc
first_early f (x ∷ xs) early = either_early (f x) (first_some f xs) (early x) (first_early f xs early)

-- no answer is none of each
or_none : (first later : Option Verdict) → option_or first later ≡ None → (first ≡ None) × (later ≡ None)
or_none None later is = (refl, is)
or_none (Some verdict) later is = absurd cc

all_none : {X : Type 0} (f : X → Option Verdict) (xs : List X) → first_some f xs ≡ None → All (λ x. f x ≡ None) xs
all_none f [] is = All-nil (λ x. f x ≡ None)
all_none f (x ∷ xs) is = let both = or_none (f x) (first_some f xs) is in All-cons (λ y. f y ≡ None) x xs both.0 (all_none f xs both.1)

none_first : {X : Type 0} (f : X → Option Verdict) (xs : List X) → All (λ x. f x ≡ None) xs → first_some f xs ≡ None
none_first f [] none = refl
none_first f (x ∷ xs) none =
    let head : f x ≡ None = All-head (λ y. f y ≡ None) x xs none in
    ap (λ (o : Option Verdict). option_or o (first_some f xs)) head ∙ none_first f xs (All-tail (λ y. f y ≡ None) x xs none)

-- ---- each verdict before YES and NO

race_early : (race : Option Race) → IsEarly (race_verdict race)
race_early None = λ verdict is. absurd cc
race_early (Some race) = λ verdict is. early_by (verdicts.Race race) verdict refl is

race_none : (race : Option Race) → race_verdict race ≡ None → race ≡ None
race_none None is = refl
race_none (Some race) is = absurd cc

alarm_early : (channel : ℕ) (stop : ChannelEnd) → IsEarly (alarm_by channel stop)
alarm_early channel (end.Alarmed alarm) = λ verdict is. early_by (verdicts.Alarm channel alarm) verdict refl is
alarm_early channel end.Idle = λ verdict is. absurd cc
alarm_early channel (end.Ended line) = λ verdict is. absurd cc
alarm_early channel (end.Holding line) = λ verdict is. absurd cc

stuck_early : (channel : ℕ) (stop : ChannelEnd) → IsEarly (stuck_by channel stop)
stuck_early channel (end.Holding line) = λ verdict is. early_by (verdicts.Stuck channel line) verdict refl is
stuck_early channel end.Idle = λ verdict is. absurd cc
stuck_early channel (end.Ended line) = λ verdict is. absurd cc
stuck_early channel (end.Alarmed alarm) = λ verdict is. absurd cc

-- a channel that no alarm has stopped and that does not wait has finished
has_finished : (channel : ℕ) (stop : ChannelEnd) → alarm_by channel stop ≡ None → stuck_by channel stop ≡ None → HasFinished stop
has_finished channel end.Idle no_alarm no_wait = tt
has_finished channel (end.Ended line) no_alarm no_wait = tt
has_finished channel (end.Holding line) no_alarm no_wait = absurd cc
has_finished channel (end.Alarmed alarm) no_alarm no_wait = absurd cc

all_finished : (stops : List (ℕ × ChannelEnd)) → All (λ stop. alarm_by stop.0 stop.1 ≡ None) stops → All (λ stop. stuck_by stop.0 stop.1 ≡ None) stops
    → All (λ stop. HasFinished stop.1) stops
all_finished [] no_alarm no_wait = All-nil (λ stop. HasFinished stop.1)
all_finished (stop ∷ stops) no_alarm no_wait =
    All-cons (λ s. HasFinished s.1) stop stops
    (has_finished stop.0 stop.1
    (All-head (λ s. alarm_by s.0 s.1 ≡ None) stop stops no_alarm)
    (All-head (λ s. stuck_by s.0 s.1 ≡ None) stop stops no_wait))
    (all_finished stops
    (All-tail (λ s. alarm_by s.0 s.1 ≡ None) stop stops no_alarm)
    (All-tail (λ s. stuck_by s.0 s.1 ≡ None) stop stops no_wait))

-- and the other way round
no_alarm_by : (channel : ℕ) (stop : ChannelEnd) → HasFinished stop → alarm_by channel stop ≡ None
no_alarm_by channel end.Idle is = refl
no_alarm_by channel (end.Ended line) is = refl
no_alarm_by channel (end.Holding line) is = refl
no_alarm_by channel (end.Alarmed alarm) is = absurd is

no_wait_by : (channel : ℕ) (stop : ChannelEnd) → HasFinished stop → stuck_by channel stop ≡ None
no_wait_by channel end.Idle is = refl
no_wait_by channel (end.Ended line) is = refl
no_wait_by channel (end.Holding line) is = absurd is
no_wait_by channel (end.Alarmed alarm) is = refl

where_early : (test : Bool) (answer : Verdict) → is_last answer ≡ false → IsEarly (if test then Some answer else None)
where_early true answer early = λ verdict is. early_by answer verdict early is
where_early false answer early = λ verdict is. absurd cc

where_none : (test : Bool) (verdict : Verdict) → (if test then Some verdict else None) ≡ None → test ≡ false
where_none true verdict is = absurd cc
where_none false verdict is = refl

none_where : (test : Bool) (verdict : Verdict) → test ≡ false → (if test then Some verdict else None) ≡ None
none_where true verdict is = absurd cc
none_where false verdict is = refl

budget_early : (before : Order) (job : JobView) (stretches : StretchesView) → IsEarly (budget_verdict before job stretches)
unfolding budget_verdict
budget_early before job stretches =
    where_early (nat_lt job.budget (count_of before job stretches)) (verdicts.Undecided (count_of before job stretches) job.budget) refl

budget_few : (before : Order) (job : JobView) (stretches : StretchesView) → budget_verdict before job stretches ≡ None → count_of before job stretches ≤ job.budget
unfolding budget_verdict
budget_few before job stretches is =
    let within : nat_lt job.budget (count_of before job stretches) ≡ false =
    where_none (nat_lt job.budget (count_of before job stretches)) (verdicts.Undecided (count_of before job stretches) job.budget) is in
    ltb-false job.budget (count_of before job stretches) within

budget_none : (before : Order) (job : JobView) (stretches : StretchesView) → count_of before job stretches ≤ job.budget → budget_verdict before job stretches ≡ None
unfolding budget_verdict
budget_none before job stretches few =
    none_where (nat_lt job.budget (count_of before job stretches)) (verdicts.Undecided (count_of before job stretches) job.budget)
    (le-ltb job.budget (count_of before job stretches) few)

-- ---- the pairs that are compared

meeting_none : (before : Order) (job : JobView) (run : RunView) (stretches : StretchesView) → find (pair_meets job run) (compared_pairs before job stretches) ≡ None
    → meeting_verdict before job run stretches ≡ None
unfolding meeting_verdict
meeting_none before job run stretches apart = ap no_by apart

-- YES comes where none meets
apart_at_yes : (found : Option Pair) → or_else (no_by found) verdicts.Yes ≡ verdicts.Yes → found ≡ None
apart_at_yes None is = refl
apart_at_yes (Some pair) is = absurd cc

-- NO has the names of the first that meets
record IsNamed (found : Option Pair) (first second : PlaceName) : Type 0 where
  pair : Pair
  is : found ≡ Some pair
  first_is : first ≡ name_of pair.0
  second_is : second ≡ name_of pair.1

named_at_no : (found : Option Pair) (first second : PlaceName) → or_else (no_by found) verdicts.Yes ≡ verdicts.No first second → IsNamed found first second
named_at_no None first second is = absurd cc
named_at_no (Some pair) first second is =
    let first_is : first ≡ name_of pair.0 = cc in
    let second_is : second ≡ name_of pair.1 = cc in
    record { pair = pair; is = refl; first_is = first_is; second_is = second_is }

-- ---- YES and NO

-- what is so where one of them is the verdict
record IsPast (before : Order) (race : Option Race) (job : JobView) (run : RunView) (stretches : StretchesView) (verdict : Verdict) : Type 0 where
  no_race : race ≡ None
  finished : All (λ stop. HasFinished stop.1) (stops_of job run)
  few : count_of before job stretches ≤ job.budget
  meeting : or_else (no_by (find (pair_meets job run) (compared_pairs before job stretches))) verdicts.Yes ≡ verdict

is_past : (before : Order) (race : Option Race) (job : JobView) (run : RunView) (stretches : StretchesView) (verdict : Verdict) → is_last verdict ≡ true
    → verdict_by before race job run stretches ≡ verdict → IsPast before race job run stretches verdict
unfolding verdict_by meeting_verdict
is_past before race job run stretches verdict last is =
    let past_race = past (race_verdict race) _ verdict (race_early race) last is in
    let past_alarm = past (first_some (λ stop. alarm_by stop.0 stop.1) (stops_of job run)) _ verdict
    (first_early (λ stop. alarm_by stop.0 stop.1) (stops_of job run) (λ stop. alarm_early stop.0 stop.1)) last past_race.1 in
    let past_stuck = past (first_some (λ stop. stuck_by stop.0 stop.1) (stops_of job run)) _ verdict
    (first_early (λ stop. stuck_by stop.0 stop.1) (stops_of job run) (λ stop. stuck_early stop.0 stop.1)) last past_alarm.1 in
    let past_budget = past (budget_verdict before job stretches) _ verdict (budget_early before job stretches) last past_stuck.1 in
    record {
      no_race = race_none race past_race.0;
      finished = all_finished (stops_of job run) (all_none (λ stop. alarm_by stop.0 stop.1) (stops_of job run) past_alarm.0)
          (all_none (λ stop. stuck_by stop.0 stop.1) (stops_of job run) past_stuck.0);
      few = budget_few before job stretches past_budget.0;
      meeting = past_budget.1;
    }

-- a job of which the verdict is YES is clear
pub clear_by : (job : JobView) (run : RunView) → IsJudgedInOrder job run verdicts.Yes → IsClear job
clear_by job run judged =
    let told = judged.on in
    let fits = is_past told.before told.race job run (zone_time_in job run) verdicts.Yes refl (sym told.verdict_is) in
    let first : IsFirstRaceIn job run None = subst (λ race. IsFirstRaceIn job run race) fits.no_race told.first in
    record {
      run = run;
      in_order = judged.in_order;
      no_race = first;
      finished = fits.finished;
      before = told.before;
      ordered = told.ordered;
      few = fits.few;
      apart = apart_at_yes (find (pair_meets job run) (compared_pairs told.before job (zone_time_in job run))) fits.meeting;
    }

-- and one of which it is NO has a first pair that meets, by these names
pub meeting_by : (job : JobView) (run : RunView) (first second : PlaceName) → IsJudgedInOrder job run (verdicts.No first second) → HasFirstMeeting job first second
meeting_by job run first second judged =
    let told = judged.on in
    let fits = is_past told.before told.race job run (zone_time_in job run) (verdicts.No first second) refl (sym told.verdict_is) in
    let no_race : IsFirstRaceIn job run None = subst (λ race. IsFirstRaceIn job run race) fits.no_race told.first in
    let named = named_at_no (find (pair_meets job run) (compared_pairs told.before job (zone_time_in job run))) first second fits.meeting in
    record {
      run = run;
      in_order = judged.in_order;
      no_race = no_race;
      finished = fits.finished;
      before = told.before;
      ordered = told.ordered;
      few = fits.few;
      pair = named.pair;
      meets_first = named.is;
      first_is = named.first_is;
      second_is = named.second_is;
    }

-- ---- the verdict on a job that is clear

none_fits : (alarm stuck budget meeting : Option Verdict) → alarm ≡ None → stuck ≡ None → budget ≡ None → meeting ≡ None
    → or_else (race_verdict None) (or_else alarm (or_else stuck (or_else budget (or_else meeting verdicts.Yes)))) ≡ verdicts.Yes
none_fits alarm stuck budget meeting no_alarm no_wait few apart = rw (no_alarm, no_wait, few, apart) refl

yes_by : (job : JobView) (clear : IsClear job) → verdict_by clear.before None job clear.run (zone_time_in job clear.run) ≡ verdicts.Yes
unfolding verdict_by
yes_by job clear =
    let stops = stops_of job clear.run in
    none_fits (first_some (λ stop. alarm_by stop.0 stop.1) stops) (first_some (λ stop. stuck_by stop.0 stop.1) stops)
    (budget_verdict clear.before job (zone_time_in job clear.run)) (meeting_verdict clear.before job clear.run (zone_time_in job clear.run))
    (none_first (λ stop. alarm_by stop.0 stop.1) stops
    (All-weaker (λ (stop : ℕ × ChannelEnd). HasFinished stop.1) (λ (stop : ℕ × ChannelEnd). alarm_by stop.0 stop.1 ≡ None) (λ stop is. no_alarm_by stop.0 stop.1 is) stops clear.finished))
    (none_first (λ stop. stuck_by stop.0 stop.1) stops
    (All-weaker (λ (stop : ℕ × ChannelEnd). HasFinished stop.1) (λ (stop : ℕ × ChannelEnd). stuck_by stop.0 stop.1 ≡ None) (λ stop is. no_wait_by stop.0 stop.1 is) stops clear.finished))
    (budget_none clear.before job (zone_time_in job clear.run) clear.few)
    (meeting_none clear.before job clear.run (zone_time_in job clear.run) clear.apart)

-- is YES
pub clear_is_judged : (job : JobView) (clear : IsClear job) → IsJudgedInOrder job clear.run verdicts.Yes
clear_is_judged job clear = record {
  in_order = clear.in_order;
  on = record { before = clear.before; ordered = clear.ordered; race = None; first = clear.no_race; verdict_is = sym (yes_by job clear) };
}
