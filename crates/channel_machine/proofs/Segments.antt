-- From one block of a segment to the next.
use Rattle.std.proofs.Common.{◌≡◌, ◌∙◌, ℕ, zero, suc, ◌-◌, ◌==◌, Bool, true, false, cond, List, [], length, Option, None, Some, Result, Ok, Err, IfOk, refl, ap, subst, sym, eq-eqb}
use Rattle.sync_types.specs.declared.Action.{Action}
use Rattle.sync_types.specs.declared.Action.TheVariants.{WaitM, SetM, ClearM, Init, Start, WaitE, Release, Get, End, Alarm}
use Rattle.sync_types.specs.declared.Item.{Item}
use Rattle.sync_types.specs.declared.Step.{Step}
use Rattle.job_types.specs.Job.{JobView}
use Rattle.channel_machine.specs.CallLevels.{IsPlaced, alarmed_in, levels_at_step, levels_by}
use Rattle.channel_machine.specs.declared.levels.Levels.{Levels}
use Rattle.channel_machine.specs.Kept.{StateView, Keeps, GoesOn, Advances, IsSegment, IsSettingIn}
use Rattle.channel_machine.specs.Run.{SurroundingsView, Channel, SegmentView, blocks_of, run_after, segment_of}
use Rattle.job_types.specs.Slots.{offset_of}
use Rattle.channel_machine.specs.Tools.{tools_of}

pub if_ok : {A E : Type 0} {P Q : A → Type 0} (r : Result A E) → ((x : A) → P x → Q x) → IfOk r P → IfOk r Q
if_ok (Ok x) each p = each x p
if_ok (Err e) each p = tt

-- the same levels at a step, where they are the same at an alarm of a block
same_at : (action : Action) (here there : Option Levels) → ((code : ℕ) → action ≡ Alarm code → (code == 9) ≡ false → here ≡ there) → levels_at_step action here ≡ levels_at_step action there
same_at (Alarm code) here there each = by_code (code == 9) refl
  where
    by_code : (t : Bool) → (code == 9) ≡ t → cond t None here ≡ cond t None there
    by_code true is = refl
    by_code false is = each code refl is
same_at (WaitM number channels) here there each = refl
same_at (SetM marks) here there each = refl
same_at (ClearM marks) here there each = refl
same_at (Init channel program) here there each = refl
same_at (Start channels) here there each = refl
same_at (WaitE channels) here there each = refl
same_at (Release axes) here there each = refl
same_at (Get axes) here there each = refl
same_at End here there each = refl

-- where control is nowhere, alarm 9 comes
nowhere_alarms : (s : SurroundingsView) (c : Channel) → c.levels ≡ None → (segment_of s c).step.action ≡ Alarm 9
unfolding segment_of run_after
nowhere_alarms s c gone = by_left (100000 - length (blocks_of c.past))
  where
    by_left : (n : ℕ) → (run_after s n c).step.action ≡ Alarm 9
    by_left zero = rw gone refl
    by_left (suc more) = rw gone refl

-- so at another alarm control is where the blocks lead it
led_there : (s : SurroundingsView) (c : Channel) (code : ℕ) → (segment_of s c).step.action ≡ Alarm code → (code == 9) ≡ false → IsPlaced s c → c.levels ≡ levels_by s c.past
led_there s c code alarms other placed = by_levels c.levels refl
  where
    by_levels : (o : Option Levels) → c.levels ≡ o → c.levels ≡ levels_by s c.past
    by_levels (Some levels) is = is ∙ sym (placed levels is)
    by_levels None is =
        let both : Alarm code ≡ Alarm 9 = sym alarms ∙ nowhere_alarms s c is in
        let nine : code ≡ 9 = cc in
        let yes : (code == 9) ≡ true = eq-eqb code 9 nine in
        absurd cc

module _ (s : SurroundingsView) (c : Channel) (mid after : List Item) (kept later : StateView) (was : GoesOn s c [] mid kept) where
  -- the segment ends
  pub ends_so : (halt : Option Step) (step : Step) → halt ≡ Some step → Advances s was.next mid halt after later
      → IsSegment s (segment_of s c) (record { items = after; step = step; after = later })
  ends_so None step is told = absurd cc
  ends_so (Some other) step is told = record {
    items = ap (λ (g : SegmentView). g.items) was.rest ∙ told.segment.items;
    step = let same : other ≡ step = cc in ap (λ (g : SegmentView). g.step) was.rest ∙ told.segment.step ∙ same;
    after = subst (λ (g : SegmentView). Keeps s g.after later) (sym was.rest) told.segment.after;
  }

  -- its alarm comes where control was before
  pub alarms_so : (halt : Option Step) (step : Step) → halt ≡ Some step → Advances s was.next mid halt after later → (there : Option Levels) → there ≡ kept.levels
      → IsPlaced s c → levels_at_step step.action there ≡ alarmed_in s (segment_of s c)
  alarms_so None step is told there from placed = absurd cc
  alarms_so (Some other) step is told there from placed =
      let same : other ≡ step = cc in
      let acts : (segment_of s c).step.action ≡ step.action = ap (λ (g : SegmentView). g.step.action) was.rest ∙ ap (λ (t : Step). t.action) (told.segment.step ∙ same) in
      same_at step.action there (levels_by s (segment_of s c).after.past) (λ code alarm other_code.
      let stays : (segment_of s c).after.past ≡ was.next.past = ap (λ (g : SegmentView). g.after.past) was.rest ∙ told.stays code (ap (λ (t : Step). t.action) same ∙ alarm) in
      let alarms : (segment_of s was.next).step.action ≡ Alarm code = ap (λ (t : Step). t.action) (told.segment.step ∙ same) ∙ alarm in
      from ∙ was.keeps.levels ∙ led_there s was.next code alarms other_code (was.placed placed) ∙ ap (levels_by s) (sym stays))
      ∙ ap (λ (a : Action). levels_at_step a (levels_by s (segment_of s c).after.past)) (sym acts)

  -- or it goes on
  pub goes_so : (halt : Option Step) → halt ≡ None → Advances s was.next mid halt after later → GoesOn s c [] after later
  goes_so None is told = record { next = told.goes.next; keeps = told.goes.keeps; placed = λ placed. told.goes.placed (was.placed placed); rest = was.rest ∙ told.goes.rest }
  goes_so (Some step) is told = absurd cc

-- a setting is one of the job for a channel, however far that has come
pub setting_kept : (job : JobView) (s : SurroundingsView) (k later : StateView) → IsSettingIn job s k → later.channel ≡ k.channel → IsSettingIn job s later
setting_kept job s k later set same = record {
  version = set.version;
  channel = set.channel ∙ sym same;
  channels = set.channels;
  programs = set.programs;
  axes = set.axes;
  zones = set.zones;
  offset = set.offset ∙ ap (λ (n : ℕ). offset_of job n) (sym same);
  tools = set.tools ∙ ap (λ (n : ℕ). tools_of job n) (sym same);
  skip = set.skip;
}
