-- Where the alarm of a block ends a segment, control is on the levels that are told of it, at a block on the line of the alarm.
use Rattle.std.proofs.Common.{◌≡◌, ◌≢◌, ◌∙◌, ℕ, zero, suc, ◌-◌, ◌==◌, Bool, true, false, cond, List, [], ◌∷◌, length, Option, None, Some, Result, Ok, Err, refl, ap, eqb-true}
use Rattle.std.specs.Option.{option_map}
use Rattle.block_effects.specs.Words.{values_in}
use Rattle.coordination_words.specs.declared.asked.Request.{Request}
use Rattle.coordination_words.specs.declared.asked.Request.TheVariants.{Act, Switch}
use Rattle.job_types.specs.Job.{JobView}
use Rattle.nc_blocks.specs.Statement.{BlockView}
use Rattle.sync_types.specs.declared.Action.{Action}
use Rattle.sync_types.specs.declared.Action.TheVariants.{Alarm}
use Rattle.sync_types.specs.declared.Grant.{Grant}
use Rattle.channel_machine.specs.CallLevels.{IsAlarmedThere, IsPlaced, alarmed_levels, levels_at_step, levels_by}
use Rattle.channel_machine.specs.Levels.{levels_after}
use Rattle.channel_machine.specs.Run.{SurroundingsView, Executed, Deed, Channel, SegmentView, alarm_segment, block_at, blocks_of, channel_after_block, channel_at_start, ends_main, end_segment, executed_block, line_after, parameters_after, run_after, segment_after_block, segment_after_course, segment_after_request, segment_of, setting_after, surroundings_of, with_block, with_levels}
use Rattle.channel_machine.specs.Scripts.{channel_after_grants, segment_after}
use Rattle.channel_machine.specs.declared.levels.Levels.{Levels}
use Rattle.channel_machine.proofs.PlacedChannels.{placed_block, placed_grants, placed_start}
use Rattle.channel_machine.proofs.Requests.{asked_no_alarm}
use Rattle.channel_machine.proofs.RunLaws.{IsExecuted, was_executed}

module _ (s : SurroundingsView) where
  -- these deeds lead control to a block on this line
  record IsLed (past : List Deed) (line : ℕ) : Type 0 where
    there : Levels
    led : levels_by s past ≡ Some there
    here : option_map (λ b. b.0) (block_at s there.here) ≡ Some line

  -- as the blocks before the alarm of a block do
  abbrev IfAlarmed : SegmentView → Type 0
  IfAlarmed segment = (code : ℕ) → segment.step.action ≡ Alarm code → code ≢ 9 → IsLed segment.after.past segment.step.line

  abbrev Next : ℕ → Type 0
  Next more = (c : Channel) → IsPlaced s c → IfAlarmed (run_after s more c)

  module _ (c : Channel) (placed : IsPlaced s c) where
    none_comes : (line : ℕ) → IfAlarmed (alarm_segment s c.past line 9)
    none_comes line code is ne = let nine : code ≡ 9 = cc in absurd (ne nine)

    comes : (levels : Levels) → c.levels ≡ Some levels → (b : ℕ × BlockView) → block_at s levels.here ≡ Some b → (line alarm : ℕ) → b.0 ≡ line → IfAlarmed (alarm_segment s c.past line alarm)
    comes levels there b here line alarm same code is ne = record {
      there = levels;
      led = placed levels there;
      here = ap (option_map (λ (e : ℕ × BlockView). e.0)) here ∙ ap (λ (n : ℕ). Some n) same;
    }

  alarmed_after : (more : ℕ) (c : Channel) → IsPlaced s c → IfAlarmed (run_after s more c)
  unfolding run_after
  alarmed_after zero c placed = by_levels c.levels refl
    where
      by_block : (levels : Levels) → c.levels ≡ Some levels → (o : Option (ℕ × BlockView)) → block_at s levels.here ≡ o → IfAlarmed (with_block s c.past o (λ block. alarm_segment s c.past block.0 8))
      by_block levels there None here = none_comes c placed (line_after s c.past)
      by_block levels there (Some b) here = comes c placed levels there b here b.0 8 refl

      by_levels : (o : Option Levels) → c.levels ≡ o → IfAlarmed (with_levels s c.past o (λ levels block. alarm_segment s c.past block.0 8))
      by_levels None there = none_comes c placed (line_after s c.past)
      by_levels (Some levels) there = by_block levels there (block_at s levels.here) refl
  alarmed_after (suc more) c placed = by_levels c.levels refl (λ later is. alarmed_after more later is)
    where
      by_request : (done : Executed) (r : Option Request) → ((alarm : ℕ) → r ≡ Some (Act (Alarm alarm)) → ⊥) → (next : Option Levels) → IsPlaced s (channel_after_block c.past done next) → Next more
          → IfAlarmed (segment_after_request s c.past done next r (λ after. run_after s more after))
      by_request done None asks next now each = each (channel_after_block c.past done next) now
      by_request done (Some (Switch zone on)) asks next now each = each (channel_after_block c.past done next) now
      by_request done (Some (Act action)) asks next now each = λ code is ne. absurd (asks code (ap (λ (a : Action). Some (Act a)) is))

      by_course : (levels : Levels) → c.levels ≡ Some levels → (b : ℕ × BlockView) → block_at s levels.here ≡ Some b → (done : Executed) → IsExecuted s c.past levels.here b done
          → (r : Result (Option Levels) ℕ) → levels_after s.skip s.programs levels done.effect.course ≡ r → Next more → IfAlarmed (segment_after_course s c.past done r (λ after. run_after s more after))
      by_course levels there b here done did (Err alarm) goes each = comes c placed levels there b here done.line alarm did.line
      by_course levels there b here done did (Ok next) goes each =
          by_request done done.request
          (λ alarm acts. asked_no_alarm (setting_after s c.past) (values_in (parameters_after c.past)) b.1.statement alarm (did.asks ∙ ap (λ (r : Option Request). Ok r) acts))
          next (placed_block s c levels there placed done next goes) each

      by_end : (levels : Levels) → c.levels ≡ Some levels → (b : ℕ × BlockView) → block_at s levels.here ≡ Some b → (done : Executed) → IsExecuted s c.past levels.here b done → (flag : Bool) → Next more
          → IfAlarmed (cond flag (end_segment s c.past done) (segment_after_course s c.past done (levels_after s.skip s.programs levels done.effect.course) (λ after. run_after s more after)))
      by_end levels there b here done did true each = λ code is ne. absurd cc
      by_end levels there b here done did false each = by_course levels there b here done did (levels_after s.skip s.programs levels done.effect.course) refl each

      by_done : (levels : Levels) → c.levels ≡ Some levels → (b : ℕ × BlockView) → block_at s levels.here ≡ Some b → (r : Result Executed ℕ) → executed_block s c.past levels.here b ≡ r → Next more
          → IfAlarmed (segment_after_block s c.past levels b.0 r (λ after. run_after s more after))
      by_done levels there b here (Err alarm) is each = comes c placed levels there b here b.0 alarm refl
      by_done levels there b here (Ok done) is each = by_end levels there b here done (was_executed s c.past levels.here b done is) (ends_main levels done.effect.course) each

      by_block : (levels : Levels) → c.levels ≡ Some levels → (o : Option (ℕ × BlockView)) → block_at s levels.here ≡ o → Next more
          → IfAlarmed (with_block s c.past o (λ block. segment_after_block s c.past levels block.0 (executed_block s c.past levels.here block) (λ after. run_after s more after)))
      by_block levels there None here each = none_comes c placed (line_after s c.past)
      by_block levels there (Some b) here each = by_done levels there b here (executed_block s c.past levels.here b) refl each

      by_levels : (o : Option Levels) → c.levels ≡ o → Next more
          → IfAlarmed (with_levels s c.past o (λ levels block. segment_after_block s c.past levels block.0 (executed_block s c.past levels.here block) (λ after. run_after s more after)))
      by_levels None there each = none_comes c placed (line_after s c.past)
      by_levels (Some levels) there each = by_block levels there (block_at s levels.here) refl each

  alarmed_segment : (c : Channel) → IsPlaced s c → IfAlarmed (segment_of s c)
  unfolding segment_of
  alarmed_segment c placed = alarmed_after (100000 - length (blocks_of c.past)) c placed

-- the same levels at an alarm of a block
told_at : (action : Action) (code : ℕ) (levels : Option Levels) → action ≡ Alarm code → code ≢ 9 → levels_at_step action levels ≡ levels
told_at action code levels is ne = ap (λ (a : Action). levels_at_step a levels) is ∙ by_code (code == 9) refl
  where
    by_code : (t : Bool) → (code == 9) ≡ t → cond t None levels ≡ levels
    by_code true nine = absurd (ne (eqb-true code 9 nine))
    by_code false other = refl

-- of a channel of a job
pub alarmed_there : (job : JobView) (c : ℕ) (grants : List Grant) (code : ℕ) → (segment_after job c grants).step.action ≡ Alarm code → code ≢ 9 → IsAlarmedThere job c grants
unfolding segment_after alarmed_levels
alarmed_there job c [] code is ne = absurd cc
alarmed_there job c (first ∷ rest) code is ne =
    let s : SurroundingsView = surroundings_of job c first in
    let from : Channel = channel_after_grants s rest in
    let led = alarmed_segment s from (placed_grants s rest (channel_at_start s) (placed_start s)) code is ne in
    record {
      levels = led.there;
      alarmed = told_at (segment_of s from).step.action code (levels_by s (segment_of s from).after.past) is ne ∙ led.led;
      line = led.here;
    }
