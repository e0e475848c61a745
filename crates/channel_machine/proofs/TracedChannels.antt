-- The segment of a channel after one grant more, with the levels of its alarm.
use Rattle.std.proofs.Common.{◌≡◌, ◌∙◌, ℕ, List, [], ◌∷◌, ◌++◌, Option, Some, None, Result, Ok, Err, IfOk, sym, ap, subst}
use Rattle.channel_machine.specs.CallLevels.{IsPlaced, alarmed_in, alarmed_levels}
use Rattle.channel_machine.specs.Kept.{IsSettingIn, Keeps, StateView}
use Rattle.channel_machine.specs.Locals.{IsKeptOf}
use Rattle.channel_machine.specs.Run.{Channel, SurroundingsView, SegmentView, channel_after_grant, channel_at_start, segment_of, surroundings_of}
use Rattle.channel_machine.specs.Scripts.{channel_after_grants, segment_after}
use Rattle.channel_machine.specs.TracedSegments.{IsTraced, IsTracedOf}
use Rattle.channel_machine.specs.declared.traces.TracedSegment.{TracedSegment}
use Rattle.channel_machine.proofs.NextSegments.{first_segment, later_segment, told_first, told_next}
use Rattle.channel_machine.proofs.PlacedChannels.{placed_grant, placed_grants, placed_segment, placed_start}
use Rattle.job_types.specs.Job.{JobView}
use Rattle.sync_types.specs.declared.Grant.{Grant}

-- after its segments a channel of a job is where its blocks lead it
placed_there : (job : JobView) (c : ℕ) (first : Grant) (rest : List Grant) → IsPlaced (surroundings_of job c first) (segment_after job c (first ∷ rest)).after
unfolding segment_after
placed_there job c first rest =
    let s : SurroundingsView = surroundings_of job c first in
    placed_segment s (channel_after_grants s rest) (placed_grants s rest (channel_at_start s) (placed_start s))

-- the levels of the alarm are those of the segment after these grants
levels_of : (job : JobView) (c : ℕ) (first : Grant) (rest : List Grant) (segment : SegmentView) → segment_after job c (first ∷ rest) ≡ segment
    → alarmed_in (surroundings_of job c first) segment ≡ alarmed_levels job c (first ∷ rest)
unfolding alarmed_levels
levels_of job c first rest segment same = ap (alarmed_in (surroundings_of job c first)) (sym same)

-- a channel of which nothing is kept has made no segment
traced_first : (job : JobView) (c : ℕ) (made : List Grant) (grant : Grant) (before : StateView) (traced : TracedSegment) → IsKeptOf job c made None
    → IsSettingIn job (surroundings_of job c grant) before → traced.segment.after.channel ≡ before.channel
    → IsTraced (surroundings_of job c grant) (channel_at_start (surroundings_of job c grant)) traced
    → IsTracedOf job c (made ++ grant ∷ []) traced
traced_first job c [] grant before traced none setting channel told =
    let s : SurroundingsView = surroundings_of job c grant in
    record {
      segment = told_first job c [] grant before traced.segment none setting channel told.segment;
      levels = told.levels (placed_start s) ∙ levels_of job c grant [] (segment_of s (channel_at_start s)) (first_segment job c grant);
    }
traced_first job c (first ∷ rest) grant before traced none setting channel told = absurd none

-- and one of which this is kept makes its next
traced_next : (job : JobView) (c : ℕ) (made : List Grant) (grant : Grant) (before : StateView) (traced : TracedSegment) → IsKeptOf job c made (Some before)
    → traced.segment.after.channel ≡ before.channel
    → ((s : SurroundingsView) (channel : Channel) → IsSettingIn job s before → Keeps s channel before → IsTraced s (channel_after_grant channel grant) traced)
    → IsTracedOf job c (made ++ grant ∷ []) traced
traced_next job c [] grant before traced is channel told = absurd is
traced_next job c (first ∷ rest) grant before traced is channel told =
    let s : SurroundingsView = surroundings_of job c first in
    let there : Channel = (segment_after job c (first ∷ rest)).after in
    record {
      segment = told_next job c (first ∷ rest) grant before traced.segment is channel (λ setting from set keeps. (told setting from set keeps).segment);
      levels =
          (told s there is.setting is.keeps).levels (placed_grant s there grant (placed_there job c first rest))
          ∙ levels_of job c first (rest ++ grant ∷ []) (segment_of s (channel_after_grant there grant)) (later_segment job c first rest grant);
    }

-- so a call tells it, where nothing was kept of the channel
pub first_traced : {E : Type 0} (job : JobView) (c : ℕ) (local : Option StateView) (grant : Grant) (before : StateView) (r : Result TracedSegment E) → local ≡ None
    → IsSettingIn job (surroundings_of job c grant) before → Keeps (surroundings_of job c grant) (channel_at_start (surroundings_of job c grant)) before
    → IfOk r (λ traced. (s : SurroundingsView) (channel : Channel) → IsSettingIn job s before → Keeps s channel before → IsTraced s channel traced)
    → IfOk r (λ traced. traced.segment.after.channel ≡ before.channel)
    → IfOk r (λ traced. (made : List Grant) → IsKeptOf job c made local → IsTracedOf job c (made ++ grant ∷ []) traced)
first_traced job c local grant before (Ok traced) none setting keeps told channel =
    λ made has. traced_first job c made grant before traced (subst (IsKeptOf job c made) none has) setting channel (told (surroundings_of job c grant) (channel_at_start (surroundings_of job c grant)) setting keeps)
first_traced job c local grant before (Err e) none setting keeps told channel = tt

-- and where this was kept of it
pub next_traced : {E : Type 0} (job : JobView) (c : ℕ) (local : Option StateView) (grant : Grant) (before : StateView) (r : Result TracedSegment E) → local ≡ Some before
    → IfOk r (λ traced. (s : SurroundingsView) (channel : Channel) → IsSettingIn job s before → Keeps s channel before → IsTraced s (channel_after_grant channel grant) traced)
    → IfOk r (λ traced. traced.segment.after.channel ≡ before.channel)
    → IfOk r (λ traced. (made : List Grant) → IsKeptOf job c made local → IsTracedOf job c (made ++ grant ∷ []) traced)
next_traced job c local grant before (Ok traced) is told channel = λ made has. traced_next job c made grant before traced (subst (IsKeptOf job c made) is has) channel told
next_traced job c local grant before (Err e) is told channel = tt
