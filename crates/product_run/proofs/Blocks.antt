-- A segment ends its channel, or executes a block.
use Rattle.std.proofs.Common.{◌≡◌, ℕ, zero, suc, ◌+◌, ◌≤◌, ◌-◌, Bool, true, false, cond, List, [], ◌∷◌, ◌++◌, length, Option, Some, None, Result, Ok, Err, ◌⊎◌, inl, inr, refl, arith}
use Rattle.std.specs.Option.{option_to_list}
use Rattle.channel_machine.proofs.Pasts.{count-did}
use Rattle.channel_machine.specs.Levels.{levels_after}
use Rattle.channel_machine.specs.Run.{SurroundingsView, Channel, Deed, Did, Executed, SegmentView, alarm_segment, block_at, blocks_of, channel_after_block, end_segment, ends_main, executed_block, item_of, run_after, segment_after_block, segment_after_course, segment_after_request, segment_of, with_block, with_items_before, with_levels}
use Rattle.channel_machine.specs.declared.levels.Levels.{Levels}
use Rattle.channel_machine.specs.declared.limits.TheConstants.{BLOCK_LIMIT}
use Rattle.fault_codes.specs.declared.alarms.TheConstants.{TOO_MANY_BLOCKS}
use Rattle.coordination_words.specs.declared.asked.Request.{Request}
use Rattle.coordination_words.specs.declared.asked.Request.TheVariants.{Act, Switch}
use Rattle.nc_blocks.specs.Statement.{BlockView}
use Rattle.coord_core.proofs.Staying.{stops}

-- the segment stops the channel, or leaves at least one block more than these deeds have
abbrev pub Grows : List Deed → SegmentView → Type 0
Grows past segment = (stops segment.step.action ≡ true) ⊎ (length (blocks_of past) + 1 ≤ length (blocks_of segment.after.past))

module _ (s : SurroundingsView) where
  -- after a block more
  goes_further : (past : List Deed) (done : Executed) (segment : SegmentView) → Grows (past ++ Did done ∷ []) segment → Grows past segment
  goes_further past done segment (inl ends) = inl ends
  goes_further past done segment (inr more) = let long = count-did past done in inr (omega (arith, long, more))

  abbrev Next : ℕ → Type 0
  Next more = (next : Channel) → Grows next.past (run_after s more next)

  run_grows : (more : ℕ) (c : Channel) → Grows c.past (run_after s more c)
  unfolding run_after
  run_grows zero c = by_levels c.levels
    where
      by_block : (o : Option (ℕ × BlockView)) → Grows c.past (with_block s c.past o (λ block. alarm_segment s c.past block.0 TOO_MANY_BLOCKS))
      by_block None = inl refl
      by_block (Some block) = inl refl

      by_levels : (o : Option Levels) → Grows c.past (with_levels s c.past o (λ levels block. alarm_segment s c.past block.0 TOO_MANY_BLOCKS))
      by_levels None = inl refl
      by_levels (Some levels) = by_block (block_at s levels.here)
  run_grows (suc more) c = by_levels c.levels (λ next. run_grows more next)
    where
      goes_on : (done : Executed) (levels : Option Levels) → Next more → Grows c.past (with_items_before (option_to_list (item_of done)) (run_after s more (channel_after_block c.past done levels)))
      goes_on done levels next = goes_further c.past done (run_after s more (channel_after_block c.past done levels)) (next (channel_after_block c.past done levels))

      by_request : (done : Executed) (levels : Option Levels) (request : Option Request) → Next more → Grows c.past (segment_after_request s c.past done levels request (λ after. run_after s more after))
      by_request done levels None next = goes_on done levels next
      by_request done levels (Some (Switch zone on)) next = goes_on done levels next
      by_request done levels (Some (Act action)) next = let long = count-did c.past done in inr (omega (arith, long))

      by_led : (done : Executed) (r : Result (Option Levels) ℕ) → Next more → Grows c.past (segment_after_course s c.past done r (λ after. run_after s more after))
      by_led done (Err code) next = inl refl
      by_led done (Ok levels) next = by_request done levels done.request next

      by_end : (done : Executed) (r : Result (Option Levels) ℕ) (flag : Bool) → Next more
          → Grows c.past (cond flag (end_segment s c.past done) (segment_after_course s c.past done r (λ after. run_after s more after)))
      by_end done r true next = inl refl
      by_end done r false next = by_led done r next

      by_done : (levels : Levels) (line : ℕ) (r : Result Executed ℕ) → Next more → Grows c.past (segment_after_block s c.past levels line r (λ after. run_after s more after))
      by_done levels line (Err code) next = inl refl
      by_done levels line (Ok done) next = by_end done (levels_after s.skip s.programs levels done.effect.course) (ends_main levels done.effect.course) next

      by_block : (levels : Levels) (o : Option (ℕ × BlockView)) → Next more
          → Grows c.past (with_block s c.past o (λ block. segment_after_block s c.past levels block.0 (executed_block s c.past levels.here block) (λ after. run_after s more after)))
      by_block levels None next = inl refl
      by_block levels (Some block) next = by_done levels block.0 (executed_block s c.past levels.here block) next

      by_levels : (o : Option Levels) → Next more
          → Grows c.past (with_levels s c.past o (λ levels block. segment_after_block s c.past levels block.0 (executed_block s c.past levels.here block) (λ after. run_after s more after)))
      by_levels None next = inl refl
      by_levels (Some levels) next = by_block levels (block_at s levels.here) next

  pub segment_grows : (c : Channel) → Grows c.past (segment_of s c)
  unfolding segment_of
  segment_grows c = run_grows (BLOCK_LIMIT - length (blocks_of c.past)) c
