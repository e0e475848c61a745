-- The verdict, by what comes first.
use Rattle.std.proofs.Common.{◌≡◌, ◌∙◌, ℕ, ◌<◌, ◌≤◌, ◌^◌, length, Bool, true, false, cond, nat_lt, Option, None, Some, find, refl, sym, ap, subst, arith}
use Rattle.std.proofs.lemmas.Bool.{lt-ltb, ltb-true}
use Rattle.std.specs.Option.{option_map}
use Rattle.std.specs.List.{All}
use Rattle.clash_check.proofs.MeetLaws.{names_of, meetings_are}
use Rattle.clash_check.specs.Counts.{count_of}
use Rattle.clash_check.specs.FirstAnswer.{first_some}
use Rattle.zone_stretches.specs.Told.{IsTold}
use Rattle.clash_check.specs.Meetings.{first_in_times, verdict_by_names}
use Rattle.clash_check.specs.Verdicts.{alarm_by, budget_verdict, meeting_verdict, no_by, or_else, race_verdict, stops_of, stuck_by, verdict_by}
use Rattle.job_types.specs.Job.{JobView}
use Rattle.order_clocks.specs.Clocked.{ClocksView}
use Rattle.zone_stretches.proofs.BoxCounts.{pairs_are_few}
use Rattle.zone_stretches.proofs.PiecesInCovers.{times_in_cover}
use Rattle.zone_stretches.specs.InCovers.{IsTimeInCover}
use Rattle.zone_stretches.specs.SoundStretches.{IsOfSize}
use Rattle.zone_stretches.specs.Overlaps.{Order, Pair, compared_pairs, zone_times}
use Rattle.zone_stretches.specs.Pieces.{pair_meets}
use Rattle.zone_stretches.specs.Stretches.{StretchesView}
use Rattle.zone_stretches.specs.ZoneBoxes.{IsFit}
use Rattle.sync_types.specs.Boards.{first_board}
use Rattle.sync_types.specs.Views.{RunView}
use Rattle.sync_types.specs.declared.verdicts.Verdict.{Verdict}
use Rattle.sync_types.specs.declared.verdicts.Verdict.TheVariants as verdicts

-- UNDECIDED
pub too_many : (before : Order) (job : JobView) (stretches : StretchesView) (n : ℕ) (later : Verdict) → n ≡ count_of before job stretches → job.budget < n
    → or_else (budget_verdict before job stretches) later ≡ verdicts.Undecided n job.budget
unfolding budget_verdict
too_many before job stretches n later counted many = let more : nat_lt job.budget n ≡ true = lt-ltb job.budget n many in rw (← counted, more) refl

pub few_enough : (before : Order) (job : JobView) (stretches : StretchesView) (n : ℕ) (later : Verdict) → n ≡ count_of before job stretches → n ≤ job.budget
    → or_else (budget_verdict before job stretches) later ≡ later
unfolding budget_verdict
few_enough before job stretches n later counted few = by_count (nat_lt job.budget (count_of before job stretches)) refl
  where
    by_count : (b : Bool) → nat_lt job.budget (count_of before job stretches) ≡ b
        → or_else (cond b (Some (verdicts.Undecided (count_of before job stretches) job.budget)) None) later ≡ later
    by_count true e = let many : job.budget < count_of before job stretches = ltb-true job.budget (count_of before job stretches) e in absurd (omega arith)
    by_count false e = refl

-- the boxes are compared
pub by_names : (job : JobView) (run : RunView) (stretches : StretchesView) (clocks : ClocksView) (before : Order) → IsTold job run stretches clocks → All (All IsFit) run.items
    → verdict_by_names (first_in_times (record { job = job; run = run; before = before }) (zone_times job stretches)) ≡ or_else (meeting_verdict before job run stretches) verdicts.Yes
unfolding meeting_verdict
by_names job run stretches clocks before told fit =
    ap verdict_by_names (sym (meetings_are (record { job = job; run = run; before = before }) stretches in_cover)) ∙ by_found (find (pair_meets job run) (compared_pairs before job stretches))
  where
    in_cover : All (IsTimeInCover job run) (zone_times job stretches)
    in_cover = subst (λ (s : StretchesView). All (IsTimeInCover job run) (zone_times job s)) (sym told.told) (times_in_cover job (first_board told.start) run fit)

    by_found : (o : Option Pair) → verdict_by_names (option_map names_of o) ≡ or_else (no_by o) verdicts.Yes
    by_found None = refl
    by_found (Some pair) = refl

-- so few pairs are compared in a whole run that a number of 64 bits can count them
pub few_pairs : (job : JobView) (run : RunView) (stretches : StretchesView) (clocks : ClocksView) (before : Order) → IsTold job run stretches clocks → IsOfSize run
    → count_of before job stretches < 2 ^ 64
unfolding count_of
few_pairs job run stretches clocks before told size =
    subst (λ (s : StretchesView). length (compared_pairs before job s) < 2 ^ 64) (sym told.told) (pairs_are_few before job told.start run size told.whole)

-- what comes before the boxes are compared
abbrev pub Precedes : JobView → RunView → StretchesView → ClocksView → Order → Option Verdict → Type 0
Precedes job run stretches clocks before early =
    (later : Verdict) → or_else early later
    ≡ or_else (race_verdict clocks.race)
    (or_else (first_some (λ stop. alarm_by stop.0 stop.1) (stops_of job run))
    (or_else (first_some (λ stop. stuck_by stop.0 stop.1) (stops_of job run))
    (or_else (budget_verdict before job stretches) later)))

pub comes_before : (job : JobView) (run : RunView) (stretches : StretchesView) (clocks : ClocksView) (before : Order) (verdict : Verdict) → Precedes job run stretches clocks before (Some verdict)
    → verdict ≡ verdict_by before clocks.race job run stretches
unfolding verdict_by
comes_before job run stretches clocks before verdict precedes = precedes (or_else (meeting_verdict before job run stretches) verdicts.Yes)

pub by_boxes : (job : JobView) (run : RunView) (stretches : StretchesView) (clocks : ClocksView) (before : Order) → IsTold job run stretches clocks → All (All IsFit) run.items
    → Precedes job run stretches clocks before None → verdict_by_names (first_in_times (record { job = job; run = run; before = before }) (zone_times job stretches)) ≡ verdict_by before clocks.race job run stretches
unfolding verdict_by
by_boxes job run stretches clocks before told fit precedes =
    by_names job run stretches clocks before told fit ∙ precedes (or_else (meeting_verdict before job run stretches) verdicts.Yes)
