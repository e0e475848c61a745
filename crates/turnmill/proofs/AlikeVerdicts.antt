-- Where the times of zones are alike in two runs without a race, and their channels stop alike, the verdicts are the same.
use Rattle.std.proofs.Common.{◌≡◌, ◌∙◌, ℕ, zero, suc, nat_lt, List, [], ◌∷◌, filter, zip, slice_get, slice_index_or, Option, None, Some, if◌then◌else◌, ap, ap₂}
use Rattle.clash_check.specs.Counts.{count_of}
use Rattle.clash_check.specs.FirstAnswer.{first_some}
use Rattle.clash_check.specs.Verdicts.{alarm_by, budget_verdict, meeting_verdict, or_else, stuck_by, verdict_by}
use Rattle.job_types.specs.Channels.{has_channel}
use Rattle.stop_verdicts.specs.Stops.{stops_of}
use Rattle.job_types.specs.Job.{JobView}
use Rattle.zone_stretches.specs.Overlaps.{Order, compared_pairs}
use Rattle.zone_stretches.specs.Stretches.{StretchView}
use Rattle.speed_laws.specs.AlikeRuns.{AreAlike, HaveAlikeZoneTimes, zones_in_run}
use Rattle.sync_types.specs.Boards.{channel_numbers}
use Rattle.sync_types.specs.Views.{RunView}
use Rattle.sync_types.specs.declared.ChannelEnd.{ChannelEnd}
use Rattle.sync_types.specs.declared.verdicts.Verdict.{Verdict}
use Rattle.sync_types.specs.declared.verdicts.Verdict.TheVariants as verdicts
use Rattle.turnmill.proofs.AlikePairs.{IsSamePair, same_first, same_pairs, zones_match}
use Rattle.turnmill.proofs.Matches.{Match, match-length, match-places}
use Rattle.turnmill.specs.Judged.{zone_time_in}

-- stretches of one zone and one place in it
record IsSame (job : JobView) (run other : RunView) (left right : StretchView) : Type 0 where
  alike : AreAlike run other left right
  zone : ℕ
  place : ℕ
  one : slice_get (slice_index_or (zones_in_run job run) zone []) place ≡ Some left
  two : slice_get (slice_index_or (zones_in_run job other) zone []) place ≡ Some right

index_at : {X : Type 0} (xs : List X) (k : ℕ) (x d : X) → slice_get xs k ≡ Some x → slice_index_or xs k d ≡ x
index_at [] k x d is = absurd cc
index_at (y ∷ ys) zero x d is = cc
index_at (y ∷ ys) (suc k) x d is = index_at ys k x d is

module _ (job : JobView) (before after : Order) (run other : RunView) (times : HaveAlikeZoneTimes job before after run other) where
  same_stretches : Match (Match (IsSame job run other)) (zones_in_run job run) (zones_in_run job other)
  same_stretches =
      match-places (Match (AreAlike run other)) (Match (IsSame job run other)) (zones_in_run job run) (zones_in_run job other)
      (λ z lefts rights l r m.
      match-places (AreAlike run other) (IsSame job run other) lefts rights
      (λ k left right a b alike. record {
        alike = alike;
        zone = z;
        place = k;
        one = ap (λ (xs : List StretchView). slice_get xs k) (index_at (zones_in_run job run) z lefts [] l) ∙ a;
        two = ap (λ (xs : List StretchView). slice_get xs k) (index_at (zones_in_run job other) z rights [] r) ∙ b;
      }) m)
      (zones_match run other (zones_in_run job run) (zones_in_run job other) times.zones)

  pairs_alike : Match (IsSamePair run other) (compared_pairs before job (zone_time_in job run)) (compared_pairs after job (zone_time_in job other))
  pairs_alike =
      same_pairs run other before after (IsSame job run other) (λ left right s. s.alike)
      (λ left right same_left same_right l r. times.overlaps l.zone l.place r.zone r.place left right same_left same_right l.one r.one l.two r.two)
      job (zone_time_in job run) (zone_time_in job other) same_stretches

  pub same_count : count_of before job (zone_time_in job run) ≡ count_of after job (zone_time_in job other)
  unfolding count_of
  same_count =
      match-length (IsSamePair run other) (compared_pairs before job (zone_time_in job run)) (compared_pairs after job (zone_time_in job other)) pairs_alike

  same_budget : budget_verdict before job (zone_time_in job run) ≡ budget_verdict after job (zone_time_in job other)
  unfolding budget_verdict
  same_budget = ap (λ (n : ℕ). if nat_lt job.budget n then Some (verdicts.Undecided n job.budget) else None) same_count

  same_meeting : meeting_verdict before job run (zone_time_in job run) ≡ meeting_verdict after job other (zone_time_in job other)
  unfolding meeting_verdict
  same_meeting = same_first run other job (compared_pairs before job (zone_time_in job run)) (compared_pairs after job (zone_time_in job other)) pairs_alike

  same_stops : run.ends ≡ other.ends → stops_of job run ≡ stops_of job other
  unfolding stops_of
  same_stops ends = ap (λ (es : List ChannelEnd). zip (filter (has_channel job) channel_numbers) es) ends

  pub same_verdict : run.ends ≡ other.ends → verdict_by before None job run (zone_time_in job run) ≡ verdict_by after None job other (zone_time_in job other)
  unfolding verdict_by
  same_verdict ends =
      ap (λ (stops : List (ℕ × ChannelEnd)).
      or_else (first_some (λ stop. alarm_by stop.0 stop.1) stops)
      (or_else (first_some (λ stop. stuck_by stop.0 stop.1) stops)
      (or_else (budget_verdict before job (zone_time_in job run)) (or_else (meeting_verdict before job run (zone_time_in job run)) verdicts.Yes)))) (same_stops ends)
      ∙ ap₂ (λ (budget meeting : Option Verdict).
      or_else (first_some (λ stop. alarm_by stop.0 stop.1) (stops_of job other))
      (or_else (first_some (λ stop. stuck_by stop.0 stop.1) (stops_of job other)) (or_else budget (or_else meeting verdicts.Yes)))) same_budget same_meeting
