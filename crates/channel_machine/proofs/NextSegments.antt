-- The segment of a channel after one grant more.
use Rattle.std.proofs.Common.{◌≡◌, ℕ, List, [], ◌∷◌, ◌++◌, Option, Some, None, Result, Ok, Err, IfOk, refl, sym, ap, subst, ◌∙◌}
use Rattle.channel_machine.specs.Kept.{IsSegment, IsSettingIn, Keeps, KeptSegment, StateView}
use Rattle.channel_machine.specs.Run.{Channel, SurroundingsView, SegmentView, channel_after_grant, channel_at_start, segment_of, surroundings_of}
use Rattle.channel_machine.proofs.Segments.{setting_kept}
use Rattle.job_types.specs.Job.{JobView}
use Rattle.sync_types.specs.declared.Grant.{Grant}
use Rattle.channel_machine.proofs.Pushes.{grants-push}
use Rattle.channel_machine.specs.Locals.{IsKeptOf, IsSegmentOf}
use Rattle.channel_machine.specs.Scripts.{segment_after}

-- the first
pub first_segment : (job : JobView) (c : ℕ) (grant : Grant) → segment_after job c (grant ∷ []) ≡ segment_of (surroundings_of job c grant) (channel_at_start (surroundings_of job c grant))
unfolding segment_after
first_segment job c grant = refl

-- and each further one
pub later_segment : (job : JobView) (c : ℕ) (first : Grant) (rest : List Grant) (grant : Grant)
    → segment_after job c (first ∷ (rest ++ grant ∷ [])) ≡ segment_of (surroundings_of job c first) (channel_after_grant (segment_after job c (first ∷ rest)).after grant)
unfolding segment_after
later_segment job c first rest grant =
    let s : SurroundingsView = surroundings_of job c first in
    ap (segment_of s) (grants-push s (channel_at_start s) rest grant)

-- what a call tells of the segment of a channel is told of that after these grants
told_of : (job : JobView) (c : ℕ) (first : Grant) (rest : List Grant) (segment : SegmentView) (before : StateView) (kept : KeptSegment)
    → segment_after job c (first ∷ rest) ≡ segment → IsSettingIn job (surroundings_of job c first) before → kept.after.channel ≡ before.channel
    → IsSegment (surroundings_of job c first) segment kept → IsSegmentOf job c (first ∷ rest) kept
told_of job c first rest segment before kept same setting channel told = record {
  items = ap (λ (g : SegmentView). g.items) same ∙ told.items;
  step = ap (λ (g : SegmentView). g.step) same ∙ told.step;
  after = record {
    setting = setting_kept job (surroundings_of job c first) before kept.after setting channel;
    keeps = subst (λ (g : SegmentView). Keeps (surroundings_of job c first) g.after kept.after) (sym same) told.after;
  };
}

-- a channel of which nothing is kept has made no segment
pub told_first : (job : JobView) (c : ℕ) (made : List Grant) (grant : Grant) (before : StateView) (kept : KeptSegment) → IsKeptOf job c made None
    → IsSettingIn job (surroundings_of job c grant) before → kept.after.channel ≡ before.channel
    → IsSegment (surroundings_of job c grant) (segment_of (surroundings_of job c grant) (channel_at_start (surroundings_of job c grant))) kept
    → IsSegmentOf job c (made ++ grant ∷ []) kept
told_first job c [] grant before kept none setting channel told =
    told_of job c grant [] (segment_of (surroundings_of job c grant) (channel_at_start (surroundings_of job c grant))) before kept (first_segment job c grant) setting channel told
told_first job c (first ∷ rest) grant before kept none setting channel told = absurd none

-- and one of which this is kept makes its next
pub told_next : (job : JobView) (c : ℕ) (made : List Grant) (grant : Grant) (before : StateView) (kept : KeptSegment) → IsKeptOf job c made (Some before)
    → kept.after.channel ≡ before.channel
    → ((s : SurroundingsView) (channel : Channel) → IsSettingIn job s before → Keeps s channel before → IsSegment s (segment_of s (channel_after_grant channel grant)) kept)
    → IsSegmentOf job c (made ++ grant ∷ []) kept
told_next job c [] grant before kept is channel told = absurd is
told_next job c (first ∷ rest) grant before kept is channel told =
    told_of job c first (rest ++ grant ∷ []) (segment_of (surroundings_of job c first) (channel_after_grant (segment_after job c (first ∷ rest)).after grant)) before kept
    (later_segment job c first rest grant) is.setting channel (told (surroundings_of job c first) (segment_after job c (first ∷ rest)).after is.setting is.keeps)

-- so a call tells it, where nothing was kept of the channel
pub first_told : {E : Type 0} (job : JobView) (c : ℕ) (local : Option StateView) (grant : Grant) (before : StateView) (r : Result KeptSegment E) → local ≡ None
    → IsSettingIn job (surroundings_of job c grant) before → Keeps (surroundings_of job c grant) (channel_at_start (surroundings_of job c grant)) before
    → IfOk r (λ kept. (s : SurroundingsView) (channel : Channel) → IsSettingIn job s before → Keeps s channel before → IsSegment s (segment_of s channel) kept)
    → IfOk r (λ kept. kept.after.channel ≡ before.channel)
    → IfOk r (λ kept. (made : List Grant) → IsKeptOf job c made local → IsSegmentOf job c (made ++ grant ∷ []) kept)
first_told job c local grant before (Ok kept) none setting keeps told channel =
    λ made has. told_first job c made grant before kept (subst (IsKeptOf job c made) none has) setting channel (told (surroundings_of job c grant) (channel_at_start (surroundings_of job c grant)) setting keeps)
first_told job c local grant before (Err e) none setting keeps told channel = tt

-- and where this was kept of it
pub next_told : {E : Type 0} (job : JobView) (c : ℕ) (local : Option StateView) (grant : Grant) (before : StateView) (r : Result KeptSegment E) → local ≡ Some before
    → IfOk r (λ kept. (s : SurroundingsView) (channel : Channel) → IsSettingIn job s before → Keeps s channel before → IsSegment s (segment_of s (channel_after_grant channel grant)) kept)
    → IfOk r (λ kept. kept.after.channel ≡ before.channel)
    → IfOk r (λ kept. (made : List Grant) → IsKeptOf job c made local → IsSegmentOf job c (made ++ grant ∷ []) kept)
next_told job c local grant before (Ok kept) is told channel = λ made has. told_next job c made grant before kept (subst (IsKeptOf job c made) is has) channel told
next_told job c local grant before (Err e) is told channel = tt
