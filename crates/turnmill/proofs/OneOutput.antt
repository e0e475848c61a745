-- An input calls for one output: a job has one run in order and one verdict on it.
use Rattle.std.proofs.Common.{◌≡◌, ◌≤◌, ℕ, zero, suc, ◌<◌, ◌⊎◌, inl, inr, List, [], ◌∷◌, length, Option, Some, None, Result, Ok, Err, if◌then◌else◌, find, refl, sym, ap, ap₂, subst, ◌∙◌, arith}
use Rattle.std.specs.Prelude.{nat_lt}
use Rattle.channel_machine.specs.StartStates.{start_of}
use Rattle.clash_check.specs.Counts.{count_of}
use Rattle.clash_check.specs.FirstAnswer.{first_some}
use Rattle.clash_check.specs.Verdicts.{alarm_by, budget_verdict, meeting_verdict, no_by, or_else, race_verdict, stops_of, stuck_by, verdict_by}
use Rattle.exit_statuses.specs.Statuses.{status_of}
use Rattle.exit_statuses.specs.declared.Status.{Status}
use Rattle.job_lines.specs.declared.limits.TheConstants.{INPUT_LIMIT}
use Rattle.job_report.specs.Report.{report_bytes}
use Rattle.job_types.specs.Job.{JobView}
use Rattle.fault_codes.specs.declared.Refusal.{Refusal}
use Rattle.order_clocks.specs.Clocked.{moves_in}
use Rattle.order_clocks.specs.RaceOrder.{IsUpTo, numbers_of}
use Rattle.order_clocks.specs.Races.{IsFirst, IsFirstAt, IsRace}
use Rattle.channel_machine.specs.Scripts.{IsRunInOrder, run_of, script_of}
use Rattle.zone_stretches.proofs.OneOrder.{orders_compare_the_same}
use Rattle.zone_stretches.specs.Overlaps.{Order, Pair, compared_pairs}
use Rattle.zone_stretches.specs.Pieces.{pair_meets}
use Rattle.zone_stretches.specs.Stretches.{StretchesView}
use Rattle.sync_types.proofs.Replays.{sequential_is_one}
use Rattle.sync_types.specs.Boards.{Board}
use Rattle.sync_types.specs.Runs.{first_stage}
use Rattle.sync_types.specs.Turns.{Move}
use Rattle.sync_types.specs.Views.{RunView}
use Rattle.sync_types.specs.declared.runs.Race.{Race}
use Rattle.sync_types.specs.declared.verdicts.Verdict.{Verdict}
use Rattle.sync_types.specs.declared.verdicts.Verdict.TheVariants as verdicts
use Rattle.tape_job.specs.Read.{read_of}
use Rattle.turnmill.specs.Output.{IsLineOf, InputCallsFor, ReadingCallsFor, JobCallsFor}
use Rattle.turnmill.specs.Judged.{IsJudgedInOrder, IsFirstRaceIn, IsOrderIn, board_of, zone_time_in}

-- ---- the run in order

one_run : (job : JobView) (run other : RunView) → IsRunInOrder job (start_of job) run → IsRunInOrder job (start_of job) other → run ≡ other
one_run job run other one two =
    let same : one.channels ≡ two.channels = (sequential_is_one (script_of job) (first_stage (start_of job)) one.channels two.channels one.sequential).only two.sequential in
    one.all ∙ ap (run_of job (start_of job)) same ∙ sym two.all

-- ---- the first race

not_under : (x y : ℕ) → x < y → y < x → ⊥
not_under x y low high = omega (arith, low, high)

same_number : (x y : ℕ) → x < y → y ≡ x → ⊥
same_number x y low same = omega (arith, low, same)

-- two lists of five numbers, each up to the other, are the same
one_row : (x y : ℕ) (xs ys : List ℕ) → IsUpTo (x ∷ xs) (y ∷ ys) → IsUpTo (y ∷ ys) (x ∷ xs) → (x ≡ y) × (IsUpTo xs ys × IsUpTo ys xs)
one_row x y xs ys (inl low) (inl high) = absurd (not_under x y low high)
one_row x y xs ys (inl low) (inr same) = absurd (same_number x y low same.0)
one_row x y xs ys (inr same) (inl high) = absurd (same_number y x high same.0)
one_row x y xs ys (inr same) (inr back) = (same.0, (same.1, back.1))

abbrev race_of : ℕ → ℕ → ℕ → ℕ → ℕ → Race
race_of letter c line d other = record { case = letter; first = (c, line); second = (d, other) }

race_is : (r : Race) → r ≡ race_of r.case r.first.0 r.first.1 r.second.0 r.second.1
race_is r = refl

one_race : (r s : Race) → IsUpTo (numbers_of r) (numbers_of s) → IsUpTo (numbers_of s) (numbers_of r) → r ≡ s
one_race r s up down =
    let a = one_row r.case s.case (r.first.0 ∷ r.first.1 ∷ r.second.0 ∷ r.second.1 ∷ []) (s.first.0 ∷ s.first.1 ∷ s.second.0 ∷ s.second.1 ∷ []) up down in
    let b = one_row r.first.0 s.first.0 (r.first.1 ∷ r.second.0 ∷ r.second.1 ∷ []) (s.first.1 ∷ s.second.0 ∷ s.second.1 ∷ []) a.1.0 a.1.1 in
    let c = one_row r.first.1 s.first.1 (r.second.0 ∷ r.second.1 ∷ []) (s.second.0 ∷ s.second.1 ∷ []) b.1.0 b.1.1 in
    let d = one_row r.second.0 s.second.0 (r.second.1 ∷ []) (s.second.1 ∷ []) c.1.0 c.1.1 in
    let e = one_row r.second.1 s.second.1 [] [] d.1.0 d.1.1 in
    let case_is : r.case ≡ s.case = a.0 in
    let first_is : r.first.0 ≡ s.first.0 = b.0 in
    let line_is : r.first.1 ≡ s.first.1 = c.0 in
    let second_is : r.second.0 ≡ s.second.0 = d.0 in
    let other_is : r.second.1 ≡ s.second.1 = e.0 in
    race_is r ∙ rw (case_is, first_is, line_is, second_is, other_is) refl

order_of : (i j : ℕ) → (i < j) ⊎ ((j < i) ⊎ (i ≡ j))
order_of zero zero = inr (inr refl)
order_of zero (suc j) = inl (omega arith)
order_of (suc i) zero = inr (inl (omega arith))
order_of (suc i) (suc j) = one_more i j (order_of i j)
  where
    one_more : (i j : ℕ) → (i < j) ⊎ ((j < i) ⊎ (i ≡ j)) → (suc i < suc j) ⊎ ((suc j < suc i) ⊎ (suc i ≡ suc j))
    one_more i j (inl less) = inl (omega (arith, less))
    one_more i j (inr (inl more)) = inr (inl (omega (arith, more)))
    one_more i j (inr (inr same)) = inr (inr (ap (λ n. suc n) same))

module _ (b : Board) (moves : List Move) (count : ℕ) where
  first_of_two : (r s : Race) (i j : ℕ) → IsFirstAt b moves count r i → IsFirstAt b moves count s j → r ≡ s
  first_of_two r s i j one two = by_order (order_of i j)
    where
      by_order : (i < j) ⊎ ((j < i) ⊎ (i ≡ j)) → r ≡ s
      by_order (inl less) = absurd (two.none_before i r less one.race_there)
      by_order (inr (inl more)) = absurd (one.none_before j s more two.race_there)
      by_order (inr (inr same)) = one_race r s (one.least s (subst (λ (k : ℕ). IsRace b moves k s) (sym same) two.race_there)) (two.least r (subst (λ (k : ℕ). IsRace b moves k r) same one.race_there))

  one_first : (o p : Option Race) → IsFirst b moves count o → IsFirst b moves count p → o ≡ p
  one_first None None one two = refl
  one_first None (Some s) one two = absurd (one two.0 s two.1.within two.1.race_there)
  one_first (Some r) None one two = absurd (two one.0 r one.1.within one.1.race_there)
  one_first (Some r) (Some s) one two = ap (λ (x : Race). Some x) (first_of_two r s one.0 two.0 one.1 two.1)

-- ---- the verdict

-- by the pairs that are compared
abbrev by_pairs : List Pair → Option Race → JobView → RunView → Verdict
by_pairs pairs race job run =
    or_else (race_verdict race)
    (or_else (first_some (λ stop. alarm_by stop.0 stop.1) (stops_of job run))
    (or_else (first_some (λ stop. stuck_by stop.0 stop.1) (stops_of job run))
    (or_else (if nat_lt job.budget (length pairs) then Some (verdicts.Undecided (length pairs) job.budget) else None)
    (or_else (no_by (find (pair_meets job run) pairs)) verdicts.Yes))))

is_by_pairs : (before : Order) (race : Option Race) (job : JobView) (run : RunView) (stretches : StretchesView)
    → verdict_by before race job run stretches ≡ by_pairs (compared_pairs before job stretches) race job run
unfolding verdict_by budget_verdict meeting_verdict count_of
is_by_pairs before race job run stretches = refl

one_verdict : (job : JobView) (run : RunView) (before other_before : Order) (race other_race : Option Race) → IsOrderIn job run before → IsOrderIn job run other_before
    → IsFirstRaceIn job run race → IsFirstRaceIn job run other_race
    → verdict_by before race job run (zone_time_in job run) ≡ verdict_by other_before other_race job run (zone_time_in job run)
one_verdict job run before other_before race other_race ordered other_ordered first other_first =
    let pairs : compared_pairs before job (zone_time_in job run) ≡ compared_pairs other_before job (zone_time_in job run) =
    orders_compare_the_same before other_before job (board_of job) run ordered other_ordered in
    let same : race ≡ other_race = one_first (board_of job) (moves_in run.entries) (length run.entries) race other_race first other_first in
    is_by_pairs before race job run (zone_time_in job run)
    ∙ ap₂ (λ (ps : List Pair) (r : Option Race). by_pairs ps r job run) pairs same
    ∙ sym (is_by_pairs other_before other_race job run (zone_time_in job run))

pub judged_once : (job : JobView) (run other_run : RunView) (verdict other : Verdict) → IsJudgedInOrder job run verdict → IsJudgedInOrder job other_run other → (run ≡ other_run) × (verdict ≡ other)
judged_once job run other_run verdict other one two = (same, one.on.verdict_is ∙ verdicts_agree ∙ sym two.on.verdict_is)
  where
    same : run ≡ other_run
    same = one_run job run other_run one.in_order two.in_order

    verdicts_agree : verdict_by one.on.before one.on.race job run (zone_time_in job run) ≡ verdict_by two.on.before two.on.race job other_run (zone_time_in job other_run)
    verdicts_agree =
        one_verdict job run one.on.before two.on.before one.on.race two.on.race one.on.ordered (subst (λ (r : RunView). IsOrderIn job r two.on.before) (sym same) two.on.ordered)
        one.on.first (subst (λ (r : RunView). IsFirstRaceIn job r two.on.race) (sym same) two.on.first)
        ∙ ap (λ (r : RunView). verdict_by two.on.before two.on.race job r (zone_time_in job r)) same

-- ---- the output

one_report : (job : JobView) (s t : Status) (bs cs : List ℕ) → JobCallsFor job s bs → JobCallsFor job t cs → (s ≡ t) × (bs ≡ cs)
one_report job s t bs cs one two =
    let same = judged_once job one.run two.run one.verdict two.verdict one.judged two.judged in
    (one.status_is ∙ ap status_of same.1 ∙ sym two.status_is, one.bytes_are ∙ ap₂ (λ (r : RunView) (v : Verdict). report_bytes job r v) same.0 same.1 ∙ sym two.bytes_are)

one_line : (refusal : Refusal) (s t : Status) (bs cs : List ℕ) → IsLineOf refusal s bs → IsLineOf refusal t cs → (s ≡ t) × (bs ≡ cs)
one_line refusal s t bs cs one two = (one.status_is ∙ sym two.status_is, one.bytes_are ∙ sym two.bytes_are)

one_output_of : (read : Result JobView Refusal) (s t : Status) (bs cs : List ℕ) → ReadingCallsFor read s bs → ReadingCallsFor read t cs → (s ≡ t) × (bs ≡ cs)
one_output_of (Ok job) s t bs cs one two = one_report job s t bs cs one two
one_output_of (Err refusal) s t bs cs one two = one_line refusal s t bs cs one two

-- how the call ends and the bytes that it writes are one, whatever the input is
pub one_output : (input : List ℕ) (s t : Status) (bs cs : List ℕ) → InputCallsFor input s bs → InputCallsFor input t cs → (s ≡ t) × (bs ≡ cs)
one_output input s t bs cs one two = by_length (order_of INPUT_LIMIT (length input))
  where
    fits : length input ≤ INPUT_LIMIT → (s ≡ t) × (bs ≡ cs)
    fits short = one_output_of (read_of input) s t bs cs (one.short short) (two.short short)

    by_length : (INPUT_LIMIT < length input) ⊎ ((length input < INPUT_LIMIT) ⊎ (INPUT_LIMIT ≡ length input)) → (s ≡ t) × (bs ≡ cs)
    by_length (inl long) = ((one.long long).0 ∙ sym (two.long long).0, (one.long long).1 ∙ sym (two.long long).1)
    by_length (inr (inl less)) = fits (omega (arith, less))
    by_length (inr (inr same)) = fits (omega (arith, same))
