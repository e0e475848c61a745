-- Where control is in a channel is where the blocks lead it that it has executed.
use Rattle.std.proofs.Common.{◌≡◌, ◌∙◌, ℕ, zero, suc, ◌-◌, Bool, true, false, cond, List, [], ◌∷◌, fold, length, Option, None, Some, Result, Ok, Err, refl, ap}
use Rattle.coordination_words.specs.declared.asked.Request.{Request}
use Rattle.coordination_words.specs.declared.asked.Request.TheVariants.{Act, Switch}
use Rattle.nc_blocks.specs.Statement.{BlockView}
use Rattle.sync_types.specs.declared.Grant.{Grant}
use Rattle.channel_machine.specs.CallLevels.{IsPlaced, led, or_nowhere}
use Rattle.channel_machine.specs.Levels.{levels_after}
use Rattle.channel_machine.specs.Run.{SurroundingsView, Executed, Deed, Channel, alarm_segment, block_at, blocks_of, channel_after_block, channel_after_grant, channel_at_end, channel_at_start, ends_main, end_segment, executed_block, run_after, segment_after_block, segment_after_course, segment_after_request, segment_of, with_block, with_levels}
use Rattle.channel_machine.specs.Scripts.{channel_after_segment}
use Rattle.channel_machine.specs.declared.levels.Levels.{Levels}
use Rattle.channel_machine.proofs.Pasts.{blocks_of-got, fold-did}

module _ (s : SurroundingsView) where
  -- at its start, at its end, and with a grant more
  pub placed_start : IsPlaced s (channel_at_start s)
  placed_start levels is = is

  pub placed_end : (past : List Deed) → IsPlaced s (channel_at_end past)
  placed_end past levels is = absurd cc

  pub placed_grant : (c : Channel) (grant : Grant) → IsPlaced s c → IsPlaced s (channel_after_grant c grant)
  placed_grant c grant placed levels is = ap (fold (led s) (channel_at_start s).levels) (blocks_of-got c.past grant) ∙ placed levels is

  -- after a block more
  pub placed_block : (c : Channel) (levels : Levels) → c.levels ≡ Some levels → IsPlaced s c → (done : Executed) (next : Option Levels)
      → levels_after s.skip s.programs levels done.effect.course ≡ Ok next → IsPlaced s (channel_after_block c.past done next)
  placed_block c levels there placed done next goes later is =
      fold-did (led s) (channel_at_start s).levels c.past done ∙ ap (λ (o : Option Levels). led s o done) (placed levels there) ∙ ap or_nowhere goes ∙ is

  -- ---- after a segment
  abbrev Next : ℕ → Type 0
  Next more = (c : Channel) → IsPlaced s c → IsPlaced s (run_after s more c).after

  pub placed_after : (more : ℕ) (c : Channel) → IsPlaced s c → IsPlaced s (run_after s more c).after
  unfolding run_after
  placed_after zero c placed = by_levels c.levels
    where
      by_block : (o : Option (ℕ × BlockView)) → IsPlaced s (with_block s c.past o (λ block. alarm_segment s c.past block.0 8)).after
      by_block None = placed_end c.past
      by_block (Some block) = placed_end c.past

      by_levels : (o : Option Levels) → IsPlaced s (with_levels s c.past o (λ levels block. alarm_segment s c.past block.0 8)).after
      by_levels None = placed_end c.past
      by_levels (Some levels) = by_block (block_at s levels.here)
  placed_after (suc more) c placed = by_levels c.levels refl (λ later is. placed_after more later is)
    where
      by_request : (done : Executed) (request : Option Request) (next : Option Levels) → IsPlaced s (channel_after_block c.past done next) → Next more
          → IsPlaced s (segment_after_request s c.past done next request (λ after. run_after s more after)).after
      by_request done None next now each = each (channel_after_block c.past done next) now
      by_request done (Some (Switch zone on)) next now each = each (channel_after_block c.past done next) now
      by_request done (Some (Act action)) next now each = now

      by_course : (levels : Levels) → c.levels ≡ Some levels → (done : Executed) (r : Result (Option Levels) ℕ) → levels_after s.skip s.programs levels done.effect.course ≡ r → Next more
          → IsPlaced s (segment_after_course s c.past done r (λ after. run_after s more after)).after
      by_course levels there done (Err code) goes each = placed_end c.past
      by_course levels there done (Ok next) goes each = by_request done done.request next (placed_block c levels there placed done next goes) each

      by_end : (levels : Levels) → c.levels ≡ Some levels → (done : Executed) (flag : Bool) → Next more
          → IsPlaced s (cond flag (end_segment s c.past done) (segment_after_course s c.past done (levels_after s.skip s.programs levels done.effect.course) (λ after. run_after s more after))).after
      by_end levels there done true each = λ later is. absurd cc
      by_end levels there done false each = by_course levels there done (levels_after s.skip s.programs levels done.effect.course) refl each

      by_done : (levels : Levels) → c.levels ≡ Some levels → (line : ℕ) (r : Result Executed ℕ) → Next more
          → IsPlaced s (segment_after_block s c.past levels line r (λ after. run_after s more after)).after
      by_done levels there line (Err code) each = placed_end c.past
      by_done levels there line (Ok done) each = by_end levels there done (ends_main levels done.effect.course) each

      by_block : (levels : Levels) → c.levels ≡ Some levels → (o : Option (ℕ × BlockView)) → Next more
          → IsPlaced s (with_block s c.past o (λ block. segment_after_block s c.past levels block.0 (executed_block s c.past levels.here block) (λ after. run_after s more after))).after
      by_block levels there None each = placed_end c.past
      by_block levels there (Some block) each = by_done levels there block.0 (executed_block s c.past levels.here block) each

      by_levels : (o : Option Levels) → c.levels ≡ o → Next more
          → IsPlaced s (with_levels s c.past o (λ levels block. segment_after_block s c.past levels block.0 (executed_block s c.past levels.here block) (λ after. run_after s more after))).after
      by_levels None there each = placed_end c.past
      by_levels (Some levels) there each = by_block levels there (block_at s levels.here) each

  pub placed_segment : (c : Channel) → IsPlaced s c → IsPlaced s (segment_of s c).after
  unfolding segment_of
  placed_segment c placed = placed_after (100000 - length (blocks_of c.past)) c placed

  -- and after segments with these grants
  pub placed_grants : (grants : List Grant) (c : Channel) → IsPlaced s c → IsPlaced s (fold (channel_after_segment s) c grants)
  placed_grants [] c placed = placed
  placed_grants (grant ∷ grants) c placed = placed_grants grants (channel_after_segment s c grant) (placed_grant (segment_of s c).after grant (placed_segment c placed))
