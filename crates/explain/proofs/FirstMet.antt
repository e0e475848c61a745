-- The first boxes that meet are those that NO names.
use Rattle.std.proofs.Common.{◌≡◌, ◌∙◌, ℕ, Bool, true, false, cond, List, [], ◌∷◌, map, filter, find, Option, None, Some, refl, sym, ap}
use Rattle.std.specs.Prelude.{nat_lt, IfOk, Result, Ok, Err, Vec}
use Rattle.std.specs.Global.{Global}
use Rattle.std.specs.Option.{option_or}
use Rattle.clash_check.specs.Counts.{count_of}
use Rattle.clash_check.specs.Verdicts.{alarm_by, budget_verdict, meeting_verdict, name_of, no_by, or_else, race_verdict, stops_of, stuck_by, verdict_by}
use Rattle.explain.specs.Judgements.{AreMet, IsFirstMet}
use Rattle.job_types.specs.Job.{JobView}
use Rattle.explain_meetings.specs.Meetings.{meetings_of, told_box, told_pair}
use Rattle.out_of_memory.specs.declared.NoMemory.{NoMemory}
use Rattle.zone_stretches.specs.Overlaps.{Order, Pair, compared_pairs}
use Rattle.zone_stretches.specs.Pieces.{pair_meets}
use Rattle.zone_stretches.specs.Stretches.{StretchesView}
use Rattle.stop_verdicts.specs.FirstAnswer.{first_some}
use Rattle.sync_types.specs.Views.{RunView}
use Rattle.sync_types.specs.declared.ChannelEnd.{ChannelEnd}
use Rattle.sync_types.specs.declared.ChannelEnd.TheVariants as end
use Rattle.sync_types.specs.declared.runs.Race.{Race}
use Rattle.sync_types.specs.declared.verdicts.PlaceName.{PlaceName}
use Rattle.sync_types.specs.declared.verdicts.Verdict.{Verdict}
use Rattle.sync_types.specs.declared.verdicts.Verdict.TheVariants as verdicts
use Rattle.explain_places.specs.declared.place.Meeting.{Meeting}

-- ---- which part of the verdict is NO

module _ (left right : PlaceName) where
  -- an answer that is not NO
  IsOther : Option Verdict → Type 0
  IsOther answer = (verdict : Verdict) → answer ≡ Some verdict → verdict ≡ verdicts.No left right → ⊥

  later_is : (answer : Option Verdict) (later : Verdict) → ((verdict : Verdict) → answer ≡ Some verdict → verdict ≡ verdicts.No left right → ⊥)
      → or_else answer later ≡ verdicts.No left right → later ≡ verdicts.No left right
  later_is None later other is = is
  later_is (Some verdict) later other is = absurd (other verdict refl is)

  race_other : (race : Option Race) (verdict : Verdict) → race_verdict race ≡ Some verdict → verdict ≡ verdicts.No left right → ⊥
  race_other None verdict is same = cc
  race_other (Some race) verdict is same = cc

  alarm_other : (channel : ℕ) (stop : ChannelEnd) (verdict : Verdict) → alarm_by channel stop ≡ Some verdict → verdict ≡ verdicts.No left right → ⊥
  alarm_other channel end.Idle verdict is same = cc
  alarm_other channel (end.Ended line) verdict is same = cc
  alarm_other channel (end.Holding line) verdict is same = cc
  alarm_other channel (end.Alarmed alarm) verdict is same = cc

  stuck_other : (channel : ℕ) (stop : ChannelEnd) (verdict : Verdict) → stuck_by channel stop ≡ Some verdict → verdict ≡ verdicts.No left right → ⊥
  stuck_other channel end.Idle verdict is same = cc
  stuck_other channel (end.Ended line) verdict is same = cc
  stuck_other channel (end.Holding line) verdict is same = cc
  stuck_other channel (end.Alarmed alarm) verdict is same = cc

  first_other : {X : Type 0} (f : X → Option Verdict) → ((x : X) (verdict : Verdict) → f x ≡ Some verdict → verdict ≡ verdicts.No left right → ⊥)
      → (xs : List X) (verdict : Verdict) → first_some f xs ≡ Some verdict → verdict ≡ verdicts.No left right → ⊥
  first_other f other [] verdict is same = cc
  first_other f other (x ∷ xs) verdict is same = by_first (f x) refl (λ found. first_other f other xs verdict found same) is
    where
      by_first : (answer : Option Verdict) → f x ≡ answer → (first_some f xs ≡ Some verdict → ⊥) → option_or answer (first_some f xs) ≡ Some verdict → ⊥
      by_first None own_is later found = later found
      by_first (Some own) own_is later found = other x own own_is (let e : own ≡ verdict = cc in e ∙ same)

  by_budget : (more : Bool) (count budget : ℕ) (verdict : Verdict) → cond more (Some (verdicts.Undecided count budget)) None ≡ Some verdict → verdict ≡ verdicts.No left right → ⊥
  by_budget true count budget verdict is same = cc
  by_budget false count budget verdict is same = cc

  budget_other : (before : Order) (job : JobView) (stretches : StretchesView) (verdict : Verdict) → budget_verdict before job stretches ≡ Some verdict
      → verdict ≡ verdicts.No left right → ⊥
  unfolding budget_verdict
  budget_other before job stretches verdict is same = by_budget (nat_lt job.budget (count_of before job stretches)) (count_of before job stretches) job.budget verdict is same

  -- the first compared pair that meets, by its names
  IsNamed : Pair → Type 0
  IsNamed pair = (name_of pair.0 ≡ left) × (name_of pair.1 ≡ right)

  pair_of : (found : Option Pair) → or_else (no_by found) verdicts.Yes ≡ verdicts.No left right
      → (pair : Pair) × (found ≡ Some pair) × (name_of pair.0 ≡ left) × (name_of pair.1 ≡ right)
  pair_of None is = absurd cc
  pair_of (Some pair) is = (pair, refl, (cc), (cc))

  pub no_means : (before : Order) (race : Option Race) (job : JobView) (run : RunView) (stretches : StretchesView)
      → verdict_by before race job run stretches ≡ verdicts.No left right
      → (pair : Pair) × (find (pair_meets job run) (compared_pairs before job stretches) ≡ Some pair) × (name_of pair.0 ≡ left) × (name_of pair.1 ≡ right)
  unfolding verdict_by meeting_verdict
  no_means before race job run stretches is =
      pair_of (find (pair_meets job run) (compared_pairs before job stretches))
      (later_is (budget_verdict before job stretches) _ (budget_other before job stretches)
      (later_is (first_some (λ stop. stuck_by stop.0 stop.1) (stops_of job run)) _ (first_other (λ stop. stuck_by stop.0 stop.1) (λ stop. stuck_other stop.0 stop.1) (stops_of job run))
      (later_is (first_some (λ stop. alarm_by stop.0 stop.1) (stops_of job run)) _ (first_other (λ stop. alarm_by stop.0 stop.1) (λ stop. alarm_other stop.0 stop.1) (stops_of job run))
      (later_is (race_verdict race) _ (race_other race) is))))

-- ---- the first of those that meet

first_kept : {X : Type 0} (test : X → Bool) (xs : List X) (x : X) → find test xs ≡ Some x → (rest : List X) × (filter test xs ≡ x ∷ rest)
first_kept test [] x is = absurd cc
first_kept {X = X} test (y ∷ ys) x is = by_test (test y) (first_kept test ys x) is
  where
    by_test : (b : Bool) → (find test ys ≡ Some x → (rest : List X) × (filter test ys ≡ x ∷ rest)) → cond b (Some y) (find test ys) ≡ Some x
        → (rest : List X) × (cond b (y ∷ filter test ys) (filter test ys) ≡ x ∷ rest)
    by_test true later found = (filter test ys, let same : y ≡ x = cc in ap (λ z. z ∷ filter test ys) same)
    by_test false later found = later found

names_told : (left right : PlaceName) (pair : Pair) (rest : List Pair) (met : List Meeting) → met ≡ map told_pair (pair ∷ rest) → name_of pair.0 ≡ left → name_of pair.1 ≡ right
    → IsFirstMet left right met
unfolding name_of told_box
names_told left right pair rest met are own other = record {
  pair = told_pair pair;
  others = map told_pair rest;
  first = are;
  left_named = own;
  right_named = other;
}

pub first_named : (before : Order) (race : Option Race) (job : JobView) (run : RunView) (stretches : StretchesView) (left right : PlaceName) (met : List Meeting)
    → verdict_by before race job run stretches ≡ verdicts.No left right → met ≡ meetings_of before job run stretches → IsFirstMet left right met
unfolding meetings_of
first_named before race job run stretches left right met verdict are =
    let found = no_means left right before race job run stretches verdict in
    let kept = first_kept (pair_meets job run) (compared_pairs before job stretches) found.0 found.1 in
    names_told left right found.0 kept.0 met (are ∙ ap (λ pairs. map told_pair pairs) kept.1) found.2 found.3

-- ---- what is listed at NO

pub all_met_named : (before : Order) (race : Option Race) (job : JobView) (run : RunView) (stretches : StretchesView) (verdict : Verdict) (left right : PlaceName)
    (result : Result (Vec Meeting Global) NoMemory) → verdict ≡ verdicts.No left right → verdict ≡ verdict_by before race job run stretches
    → IfOk result (λ met. met.items ≡ meetings_of before job run stretches) → IfOk result (λ met. AreMet before job run stretches verdict met.items)
all_met_named before race job run stretches verdict left right (Ok met) names by are =
    rw names (are, first_named before race job run stretches left right met.items (sym by ∙ names) are)
all_met_named before race job run stretches verdict left right (Err error) names by are = are
