-- The step at the end of a segment says where the axes stand that the channel owns.
use Rattle.std.proofs.Common.{◌≡◌, ℕ, zero, suc, Bool, true, false, cond, Option, None, Some, Result, Ok, Err, refl}
use Rattle.channel_machine.specs.Run.{SurroundingsView, Executed, Channel, SegmentView, alarm_segment, block_at, channel_after_block, end_segment, ends_main, executed_block, grant_after, owned_at, run_after, segment_after_block, segment_after_course, segment_after_request, segment_of, stands_after, with_block, with_levels}
use Rattle.channel_machine.specs.Levels.{levels_after}
use Rattle.channel_machine.specs.declared.levels.Levels.{Levels}
use Rattle.coordination_words.specs.declared.asked.Request.{Request}
use Rattle.coordination_words.specs.declared.asked.Request.TheVariants.{Act, Switch}
use Rattle.nc_blocks.specs.Statement.{BlockView}

-- it says so of the channel after it
abbrev TellsPlaces : SurroundingsView → SegmentView → Type 0
TellsPlaces s segment = segment.step.at ≡ owned_at (grant_after s segment.after.past).axes (stands_after s segment.after.past)

module _ (s : SurroundingsView) where
  abbrev Next : ℕ → Type 0
  Next more = (c : Channel) → TellsPlaces s (run_after s more c)

  tells : (more : ℕ) (c : Channel) → TellsPlaces s (run_after s more c)
  unfolding run_after
  tells zero c = by_levels c.levels
    where
      by_block : (o : Option (ℕ × BlockView)) → TellsPlaces s (with_block s c.past o (λ block. alarm_segment s c.past block.0 8))
      by_block None = refl
      by_block (Some block) = refl

      by_levels : (o : Option Levels) → TellsPlaces s (with_levels s c.past o (λ levels block. alarm_segment s c.past block.0 8))
      by_levels None = refl
      by_levels (Some levels) = by_block (block_at s levels.here)
  tells (suc more) c = by_levels c.levels (λ c. tells more c)
    where
      by_request : (done : Executed) (request : Option Request) (levels : Option Levels) → Next more
          → TellsPlaces s (segment_after_request s c.past done levels request (λ after. run_after s more after))
      by_request done None levels next = next (channel_after_block c.past done levels)
      by_request done (Some (Switch zone on)) levels next = next (channel_after_block c.past done levels)
      by_request done (Some (Act action)) levels next = refl

      by_led : (done : Executed) (r : Result (Option Levels) ℕ) → Next more → TellsPlaces s (segment_after_course s c.past done r (λ after. run_after s more after))
      by_led done (Err code) next = refl
      by_led done (Ok levels) next = by_request done done.request levels next

      by_end : (done : Executed) (levels : Levels) (flag : Bool) → Next more
          → TellsPlaces s (cond flag (end_segment s c.past done) (segment_after_course s c.past done (levels_after s.skip s.programs levels done.effect.course) (λ after. run_after s more after)))
      by_end done levels true next = refl
      by_end done levels false next = by_led done (levels_after s.skip s.programs levels done.effect.course) next

      by_done : (levels : Levels) (b : ℕ × BlockView) (r : Result Executed ℕ) → Next more
          → TellsPlaces s (segment_after_block s c.past levels b.0 r (λ after. run_after s more after))
      by_done levels b (Err code) next = refl
      by_done levels b (Ok done) next = by_end done levels (ends_main levels done.effect.course) next

      by_block : (levels : Levels) (o : Option (ℕ × BlockView)) → Next more
          → TellsPlaces s (with_block s c.past o (λ block. segment_after_block s c.past levels block.0 (executed_block s c.past levels.here block) (λ after. run_after s more after)))
      by_block levels None next = refl
      by_block levels (Some b) next = by_done levels b (executed_block s c.past levels.here b) next

      by_levels : (o : Option Levels) → Next more
          → TellsPlaces s (with_levels s c.past o (λ levels block. segment_after_block s c.past levels block.0 (executed_block s c.past levels.here block) (λ after. run_after s more after)))
      by_levels None next = refl
      by_levels (Some levels) next = by_block levels (block_at s levels.here) next

  pub step_tells : (c : Channel) → (segment_of s c).step.at ≡ owned_at (grant_after s (segment_of s c).after.past).axes (stands_after s (segment_of s c).after.past)
  unfolding segment_of
  step_tells c = tells _ c
