-- One block of a segment, told by what is kept.
use Rattle.std.proofs.Common.{◌≡◌, ◌∙◌, ℕ, zero, suc, ◌+◌, ◌-◌, ℤ, Bool, true, false, List, [], ◌∷◌, ◌++◌, append-nil, length, option_and_then, unwrap_or, Option, None, Some, Result, Ok, Err, refl, sym, ap, subst, arith}
use mathlib.Core.Path.{fun_ext}
use Rattle.std.proofs.lemmas.List.{append_assoc}
use Rattle.std.specs.Option.{option_to_list}
use Rattle.axis_sets.specs.Positions.{stands}
use Rattle.sync_types.specs.Items.{end_in, StandsAtEnd}
use Rattle.block_effects.specs.Courses.{IsLeft, Does, course_view}
use Rattle.block_effects.specs.Effects.{Course, Effect, IsStill, group_words, effect_of}
use Rattle.block_effects.proofs.StillLaws.{searching_stays}
use Rattle.block_effects.specs.Words.{values_in, zeros}
use Rattle.coordination_words.specs.declared.asked.Request.{Request}
use Rattle.coordination_words.specs.declared.asked.Request.TheVariants.{Act, Switch}
use Rattle.channel_machine.specs.Coordination.{request_in}
use Rattle.block_effects.specs.declared.course.Done.{Done}
use Rattle.block_effects.specs.declared.situation.Situation.{Situation}
use Rattle.frames.specs.Composition.{IsComposed}
use Rattle.frames.specs.Maps.{Map}
use Rattle.g_groups.specs.Modal.{IsAfter}
use Rattle.g_groups.specs.declared.GWord.{GWord}
use Rattle.nc_blocks.specs.Statement.{BlockView}
use Rattle.sync_types.specs.declared.Action.{Action}
use Rattle.sync_types.specs.declared.Action.TheVariants.{End, Alarm}
use Rattle.sync_types.specs.declared.Grant.{Grant}
use Rattle.sync_types.specs.declared.Item.{Item}
use Rattle.sync_types.specs.declared.Step.{Step}
use Rattle.channel_machine.specs.declared.levels.Levels.{Levels}
use Rattle.channel_machine.specs.Levels.{levels_after}
use Rattle.channel_machine.specs.Run.{SurroundingsView, Executed, Deed, Did, Channel, SegmentView, blocks_of, edges_in, item_by, item_of, on_after, on_by_request, parameters_after, setting_after, setup_after, grant_after, header_of, words_after, found_after, stands_after, line_after, opener_at, block_at, executed_block, step_at, step_after, alarm_segment, with_items_before, channel_at_end, ends_main, segment_after_block, segment_after_request, run_after, segment_of}
use Rattle.channel_machine.specs.Kept.{StateView, Keeps, GoesOnBy, Advances, Halts, IsBlockMore, IsFollowing, IsHeld, IsSegment, after_block}
use Rattle.tool_offsets.specs.Choices.{Choice, in_use_after}
use Rattle.tool_offsets.specs.declared.tools.ToolEdge.{ToolEdge}
use Rattle.channel_machine.proofs.PlacedChannels.{placed_block}
use Rattle.channel_machine.proofs.Requests.{asked_no_alarm}
use Rattle.channel_machine.proofs.Pasts.{fold-did, map-did, count-did, grant-did, on-did, stands-did}
use Rattle.channel_machine.proofs.Searching.{alarms_by_search}

-- the segment ends with this step, after these blocks
abbrev pub ended : List Item → StateView → ℕ → Action → List Deed → SegmentView
ended items k line action past = record { items = items; step = step_at k.axes k.on (stands k.at) line action; after = channel_at_end past }

abbrev segment_view : List Item → Step → Channel → SegmentView
segment_view items step after = record { items = items; step = step; after = after }

-- a segment that ends so, where this is kept of the channel after it
pub ends_at : (s : SurroundingsView) (segment : SegmentView) (items : List Item) (k later : StateView) (line : ℕ) (action : Action) (past : List Deed) (step : Step)
    → segment ≡ ended items k line action past → step ≡ step_at k.axes k.on (stands k.at) line action → Keeps s (channel_at_end past) later
    → IsSegment s segment (record { items = items; step = step; after = later })
ends_at s segment items k later line action past step is at keeps = record {
  items = ap (λ (g : SegmentView). g.items) is;
  step = ap (λ (g : SegmentView). g.step) is ∙ sym at;
  after = subst (λ (g : SegmentView). Keeps s g.after later) (sym is) keeps;
}

-- no block was executed
none_more : (s : SurroundingsView) (c : Channel) (items : List Item) (past : List Deed) → past ≡ c.past → IsBlockMore s c items items past
none_more s c items past same = record { done = None; past = same ∙ sym (append-nil c.past); items = sym (append-nil items); there = tt }

-- an alarm ends the segment of a channel that has done no more
pub alarms_at : (s : SurroundingsView) (c : Channel) (items : List Item) (k later : StateView) (line : ℕ) (action : Action) (step : Step)
    → with_items_before items (segment_of s c) ≡ ended items k line action c.past → step ≡ step_at k.axes k.on (stands k.at) line action → Keeps s (channel_at_end c.past) later
    → Halts s c items step items later
alarms_at s c items k later line action step is at keeps = record {
  segment = ends_at s (with_items_before items (segment_of s c)) items k later line action c.past step is at keeps;
  stays = λ _ _. ap (λ (g : SegmentView). g.after.past) is;
  more = none_more s c items (segment_of s c).after.past (ap (λ (g : SegmentView). g.after.past) is);
}

-- with this step, after these items
pub halts_at : (s : SurroundingsView) (c : Channel) (items : List Item) (k later : StateView) (line : ℕ) (action : Action) (halt : Option Step)
    → with_items_before items (segment_of s c) ≡ ended items k line action c.past → halt ≡ Some (step_at k.axes k.on (stands k.at) line action) → Keeps s (channel_at_end c.past) later
    → Advances s c items halt items later
halts_at s c items k later line action halt is at keeps =
    subst (λ (h : Option Step). Advances s c items h items later) (sym at)
    (alarms_at s c items k later line action (step_at k.axes k.on (stands k.at) line action) is refl keeps)

-- the step of what is kept is that of the channel
pub step_kept : (s : SurroundingsView) (past : List Deed) (k : StateView) → k.axes ≡ (grant_after s past).axes → k.on ≡ on_after s past
    → ((axis : ℕ) → stands k.at axis ≡ stands_after s past axis)
    → (line here : ℕ) (action : Action) → line ≡ here → step_at k.axes k.on (stands k.at) line action ≡ step_after s past here action
step_kept s past k axes on at line here action is =
    ap (λ (row : List Bool). step_at row k.on (stands k.at) line action) axes ∙ ap (λ (row : List Bool). step_at (grant_after s past).axes row (stands k.at) line action) on
    ∙ ap (λ (f : ℕ → ℤ). step_at (grant_after s past).axes (on_after s past) f line action) (fun_ext at) ∙ ap (λ (n : ℕ). step_after s past n action) is

-- what was done is the effect of the block
pub effect_done : (edges : List ToolEdge) (r : Result Effect ℕ) (done : Done) (new : Situation) → Does edges r done new → (effect : Effect) × (r ≡ Ok effect) × IsLeft edges effect done new
effect_done edges (Ok effect) done new is = (effect, refl, is)
effect_done edges (Err code) done new is = absurd is

-- what is kept, in another situation
abbrev pub in_situation : StateView → Option Levels → Situation → StateView
in_situation k levels new = record k { levels = levels; parameters = new.parameters; modal = new.modal; frame = new.frame; tool = new.tool; at = new.at }

module _ (s : SurroundingsView) (c : Channel) (k : StateView) (keeps : Keeps s c k) (before : List Item) where
  step_is : (line here : ℕ) (action : Action) → line ≡ here → step_at k.axes k.on (stands k.at) line action ≡ step_after s c.past here action
  step_is = step_kept s c.past k keeps.axes keeps.on keeps.at

  -- where control is nowhere the rest is kept of a channel that is over
  pub over_keeps : (later : StateView) → later ≡ record k { levels = None } → Keeps s (channel_at_end c.past) later
  over_keeps later is = subst (λ (l : StateView). Keeps s (channel_at_end c.past) l) (sym is) (record {
    levels = refl;
    count = keeps.count;
    last = keeps.last;
    parameters = keeps.parameters;
    modal = keeps.modal;
    frame = keeps.frame;
    tool = keeps.tool;
    at = keeps.at;
    slots = keeps.slots;
    axes = keeps.axes;
    on = keeps.on;
  })

  -- an alarm ends it
  alarm_is : (line here code : ℕ) → line ≡ here → with_items_before before (alarm_segment s c.past here code) ≡ ended before k line (Alarm code) c.past
  alarm_is line here code is =
      ap (λ (items : List Item). segment_view items (step_after s c.past here (Alarm code)) (channel_at_end c.past)) (append-nil before)
      ∙ ap (λ (t : Step). segment_view before t (channel_at_end c.past)) (sym (step_is line here (Alarm code) is))

  segment_is : (n : ℕ) → 100000 - length (blocks_of c.past) ≡ n → segment_of s c ≡ run_after s n c
  unfolding segment_of
  segment_is n left = ap (λ (m : ℕ). run_after s m c) left

  -- control is nowhere
  pub nowhere : k.levels ≡ None → with_items_before before (segment_of s c) ≡ ended before k k.last (Alarm 9) c.past
  unfolding run_after
  nowhere none = by_left (100000 - length (blocks_of c.past)) refl
    where
      gone : c.levels ≡ None
      gone = sym keeps.levels ∙ none

      run_is : (n : ℕ) → run_after s n c ≡ alarm_segment s c.past (line_after s c.past) 9
      run_is zero = rw gone refl
      run_is (suc more) = rw gone refl

      by_left : (n : ℕ) → 100000 - length (blocks_of c.past) ≡ n → with_items_before before (segment_of s c) ≡ ended before k k.last (Alarm 9) c.past
      by_left n left = ap (with_items_before before) (segment_is n left ∙ run_is n) ∙ alarm_is k.last (line_after s c.past) 9 keeps.last

  module _ (levels : Levels) (is : k.levels ≡ Some levels) where
    there : c.levels ≡ Some levels
    there = sym keeps.levels ∙ is

    -- no block stands there
    pub no_block : block_at s levels.here ≡ None → with_items_before before (segment_of s c) ≡ ended before k k.last (Alarm 9) c.past
    unfolding run_after
    no_block none = by_left (100000 - length (blocks_of c.past)) refl
      where
        run_is : (n : ℕ) → run_after s n c ≡ alarm_segment s c.past (line_after s c.past) 9
        run_is zero = rw (there, none) refl
        run_is (suc more) = rw (there, none) refl

        by_left : (n : ℕ) → 100000 - length (blocks_of c.past) ≡ n → with_items_before before (segment_of s c) ≡ ended before k k.last (Alarm 9) c.past
        by_left n left = ap (with_items_before before) (segment_is n left ∙ run_is n) ∙ alarm_is k.last (line_after s c.past) 9 keeps.last

    module _ (line : ℕ) (block : BlockView) (here : block_at s levels.here ≡ Some (line, block)) where
      -- no block may be executed
      pub spent : k.count ≡ 100000 → with_items_before before (segment_of s c) ≡ ended before k line (Alarm 8) c.past
      unfolding run_after
      spent full =
          let none : 100000 - length (blocks_of c.past) ≡ 0 = omega (arith, full, keeps.count) in
          ap (with_items_before before) (segment_is 0 none ∙ run_is) ∙ alarm_is line line 8 refl
        where
          run_is : run_after s 0 c ≡ alarm_segment s c.past line 8
          run_is = rw (there, here) refl

      goes : (more : ℕ) → run_after s (suc more) c ≡ segment_after_block s c.past levels line (executed_block s c.past levels.here (line, block)) (λ after. run_after s more after)
      unfolding run_after
      goes more = rw (there, here) refl

      abbrev request_here : Result (Option Request) ℕ
      request_here = request_in (setting_after s c.past) (values_in (parameters_after c.past)) block.statement

      abbrev effect_here : Result Effect ℕ
      effect_here = effect_of (setup_after s c.past) (found_after s c.past) line (opener_at s levels.here) block.statement

      -- an argument alarms
      pub refuses : (more code : ℕ) → k.count + suc more ≡ 100000 → request_here ≡ Err code → with_items_before before (segment_of s c) ≡ ended before k line (Alarm code) c.past
      refuses more code room e =
          let left : 100000 - length (blocks_of c.past) ≡ suc more = omega (arith, room, keeps.count) in
          ap (with_items_before before) (segment_is (suc more) left ∙ goes more ∙ rw e refl) ∙ alarm_is line line code refl

      -- the block alarms
      pub stops : (more code : ℕ) → k.count + suc more ≡ 100000 → (request : Option Request) → request_here ≡ Ok request → effect_here ≡ Err code → with_items_before before (segment_of s c) ≡ ended before k line (Alarm code) c.past
      stops more code room request asks e =
          let left : 100000 - length (blocks_of c.past) ≡ suc more = omega (arith, room, keeps.count) in
          ap (with_items_before before) (segment_is (suc more) left ∙ goes more ∙ rw (asks, e) refl) ∙ alarm_is line line code refl

      module _ (more : ℕ) (room : k.count + suc more ≡ 100000) (request : Option Request) (asks : request_here ≡ Ok request) (effect : Effect) (done : effect_here ≡ Ok effect) where
        executed_as : segment_of s c ≡ segment_after_block s c.past levels line (Ok (record { line = line; block = block; request = request; effect = effect })) (λ after. run_after s more after)
        executed_as = let left : 100000 - length (blocks_of c.past) ≡ suc more = omega (arith, room, keeps.count) in segment_is (suc more) left ∙ goes more ∙ rw (asks, done) refl

        -- where it leads alarms
        leads_not : (code : ℕ) → ends_main levels effect.course ≡ false → levels_after s.skip s.programs levels effect.course ≡ Err code
            → with_items_before before (segment_of s c) ≡ ended before k line (Alarm code) c.past
        leads_not code on e = ap (with_items_before before) (executed_as ∙ rw (on, e) refl) ∙ alarm_is line line code refl

        abbrev this : Executed
        this = record { line = line; block = block; request = request; effect = effect }

        abbrev past_more : List Deed
        past_more = c.past ++ Did this ∷ []

        module _ (mid : StateView) (gone : mid.levels ≡ None) (counted : mid.count ≡ k.count) (last : mid.last ≡ k.last) (slots : mid.slots ≡ k.slots) (axes : mid.axes ≡ k.axes) (on : mid.on ≡ k.on)
            (stand : StandsAtEnd effect.item k.at mid.at) where
          at_more : (axis : ℕ) → stands mid.at axis ≡ stands_after s past_more axis
          at_more axis =
              stand axis ∙ ap (λ (z : ℤ). unwrap_or (option_and_then (λ item. end_in axis item) effect.item) z) (keeps.at axis)
              ∙ sym (stands-did s c.past this axis)

          axes_more : mid.axes ≡ (grant_after s past_more).axes
          axes_more = axes ∙ keeps.axes ∙ ap (λ (g : Grant). g.axes) (sym (grant-did s c.past this))

          on_more : on_by_request mid.on request ≡ on_after s past_more
          on_more = ap (λ (row : List Bool). on_by_request row request) (on ∙ keeps.on) ∙ sym (on-did s c.past this)

          abbrev items_more : List Item
          items_more = before ++ option_to_list (item_by line request effect.item)

          -- the block was executed
          one_more : (past : List Deed) → past ≡ past_more → IsBlockMore s c before items_more past
          one_more past same = record { done = Some this; past = same; items = refl; there = record { levels = levels; control = there; found = here } }

          abbrev kept_after : Option Levels → StateView
          kept_after next = after_block mid line request next

          step_more : (action : Action) → step_at mid.axes (on_by_request mid.on request) (stands mid.at) line action ≡ step_after s past_more line action
          step_more action = step_kept s past_more (kept_after None) axes_more on_more at_more line line action refl

          -- the main program ends
          finishes : ends_main levels effect.course ≡ true → with_items_before before (segment_of s c) ≡ ended items_more (kept_after None) line End past_more
          finishes ends =
              ap (with_items_before before) (executed_as ∙ rw ends refl)
              ∙ ap (λ (t : Step). segment_view items_more t (channel_at_end past_more))
              (sym (step_more End))

          abbrev after : Option Levels → Channel
          after next = record { past = past_more; levels = next }

          longer : length (blocks_of past_more) ≡ length (blocks_of c.past) + 1
          longer = count-did c.past this

          there_after : (next : Option Levels) → segment_of s (after next) ≡ run_after s more (after next)
          unfolding segment_of
          there_after next = let left : 100000 - length (blocks_of past_more) ≡ more = omega (arith, room, keeps.count, longer) in ap (λ (m : ℕ). run_after s m (after next)) left

          both : (segment : SegmentView) → with_items_before before (with_items_before (option_to_list (item_of this)) segment) ≡ with_items_before items_more segment
          both segment = ap (λ (items : List Item). segment_view items segment.step segment.after) (sym (append_assoc before (option_to_list (item_of this)) segment.items))

          module _ (parameters : effect.parameters ≡ mid.parameters) (modal : IsAfter (words_after c.past ++ group_words block.statement ∷ []) mid.modal) (frame : IsComposed effect.chain mid.frame)
              (tool : mid.tool ≡ in_use_after (edges_in s) effect.choices) where
            keeps_after : (next : Option Levels) → Keeps s (after next) (kept_after next)
            keeps_after next = record {
              levels = refl;
              count = ap (λ (n : ℕ). n + 1) (counted ∙ keeps.count) ∙ sym longer;
              last = sym (fold-did (λ (_ : ℕ) (e : Executed). e.line) (header_of s) c.past this);
              parameters = sym parameters ∙ sym (fold-did (λ (_ : List ℤ) (e : Executed). e.effect.parameters) zeros c.past this);
              modal = subst (λ (words : List (List GWord)). IsAfter words mid.modal) (sym (map-did (λ (e : Executed). group_words e.block.statement) c.past this)) modal;
              frame = subst (λ (chain : List Map). IsComposed chain mid.frame) (sym (fold-did (λ (_ : List Map) (e : Executed). e.effect.chain) [] c.past this)) frame;
              tool = tool ∙ ap (in_use_after (edges_in s)) (sym (fold-did (λ (_ : List Choice) (e : Executed). e.effect.choices) [] c.past this));
              at = at_more;
              slots = slots ∙ keeps.slots;
              axes = axes_more;
              on = on_more;
            }

            -- the channel is over after the block
            over_after : (new : StateView) → new ≡ kept_after None → Keeps s (channel_at_end past_more) new
            over_after new is = subst (λ (l : StateView). Keeps s (channel_at_end past_more) l) (sym is) (keeps_after None)

            -- a block that leads nowhere leaves what was kept before it, but for the words of groups
            module _ (code : ℕ) (alarms : levels_after s.skip s.programs levels effect.course ≡ Err code) where
              still : IsStill (found_after s c.past) effect
              still =
                  searching_stays (setup_after s c.past) (found_after s c.past) line (opener_at s levels.here) block.statement effect done (alarms_by_search s.skip s.programs levels effect.course code alarms)

              same_stand : (axis : ℕ) → stands mid.at axis ≡ stands k.at axis
              same_stand = subst (λ (o : Option Item). StandsAtEnd o k.at mid.at) still.item stand

              same_step : step_at mid.axes mid.on (stands mid.at) line (Alarm code) ≡ step_at k.axes k.on (stands k.at) line (Alarm code)
              same_step =
                  ap (λ (row : List Bool). step_at row mid.on (stands mid.at) line (Alarm code)) axes ∙ ap (λ (row : List Bool). step_at k.axes row (stands mid.at) line (Alarm code)) on
                  ∙ ap (λ (f : ℕ → ℤ). step_at k.axes k.on f line (Alarm code)) (fun_ext same_stand)

              over_before : (new : StateView) → new ≡ record mid { modal = k.modal } → Keeps s (channel_at_end c.past) new
              over_before new is = subst (λ (l : StateView). Keeps s (channel_at_end c.past) l) (sym is) (record {
                levels = gone;
                count = counted ∙ keeps.count;
                last = last ∙ keeps.last;
                parameters = sym parameters ∙ still.parameters;
                modal = keeps.modal;
                frame = subst (λ (chain : List Map). IsComposed chain mid.frame) still.chain frame;
                tool = tool ∙ ap (in_use_after (edges_in s)) still.choices;
                at = λ axis. same_stand axis ∙ keeps.at axis;
                slots = slots ∙ keeps.slots;
                axes = axes ∙ keeps.axes;
                on = on ∙ keeps.on;
              })

            -- control goes on
            leads : (next : Option Levels) → levels_after s.skip s.programs levels effect.course ≡ Ok next
                → segment_after_block s c.past levels line (Ok this) (λ after. run_after s more after) ≡ with_items_before (option_to_list (item_of this)) (run_after s more (after next))
                → GoesOnBy s c before items_more (kept_after next)
            leads next led goes_on = record {
              goes = record {
                next = after next;
                keeps = keeps_after next;
                placed = λ placed. placed_block s c levels there placed this next led;
                rest = ap (with_items_before before) (executed_as ∙ goes_on) ∙ both (run_after s more (after next)) ∙ ap (with_items_before items_more) (sym (there_after next));
              };
              more = one_more past_more refl;
            }

            -- the block ends the segment with a step
            holds : (next : Option Levels) (action : Action) → request ≡ Some (Act action)
                → segment_after_block s c.past levels line (Ok this) (λ after. run_after s more after) ≡ segment_view (option_to_list (item_of this)) (step_after s past_more line action) (after next)
                → Halts s c before (step_at mid.axes (on_by_request mid.on request) (stands mid.at) line action) items_more (kept_after next)
            holds next action acts is = record {
              segment = record {
                items = ap (λ (g : SegmentView). before ++ g.items) (executed_as ∙ is);
                step = ap (λ (g : SegmentView). g.step) (executed_as ∙ is) ∙ sym (step_more action);
                after = subst (λ (g : SegmentView). Keeps s g.after (kept_after next)) (sym (executed_as ∙ is)) (keeps_after next);
              };
              stays = λ code alarm.
                  absurd (asked_no_alarm (setting_after s c.past) (values_in (parameters_after c.past)) block.statement code
                  (asks ∙ ap (λ (r : Option Request). Ok r) acts ∙ ap (λ (a : Action). Ok (Some (Act a))) alarm));
              more = one_more (segment_of s c).after.past (ap (λ (g : SegmentView). g.after.past) (executed_as ∙ is));
            }

            held_so : (r : Option Request) → request ≡ r → (next : Option Levels) → ends_main levels effect.course ≡ false → levels_after s.skip s.programs levels effect.course ≡ Ok next
                → (halt : Option Step) → IsHeld (kept_after next) line r halt → Advances s c before halt items_more (kept_after next)
            held_so None is next on led halt none = rw none (leads next led (rw (on, led) refl ∙ ap (λ (q : Option Request). segment_after_request s c.past this next q (λ after. run_after s more after)) is))
            held_so (Some (Switch zone new)) is next on led halt none = rw none (leads next led (rw (on, led) refl ∙ ap (λ (q : Option Request). segment_after_request s c.past this next q (λ after. run_after s more after)) is))
            held_so (Some (Act action)) is next on led halt some = rw some (holds next action is (rw (on, led) refl ∙ ap (λ (q : Option Request). segment_after_request s c.past this next q (λ after. run_after s more after)) is))

            led_so : (r : Result (Option Levels) ℕ) → ends_main levels effect.course ≡ false → levels_after s.skip s.programs levels effect.course ≡ r
                → (halt : Option Step) (items : List Item) (new : StateView) → IsFollowing mid k.modal before effect.item line request false r halt items new → Advances s c before halt items new
            led_so (Err code) goes e halt items new is =
                rw (is.0, is.1) (alarms_at s c before k new line (Alarm code) (step_at mid.axes mid.on (stands mid.at) line (Alarm code))
                (leads_not code goes e) (same_step code e) (over_before code e new is.2))
            led_so (Ok next) goes e halt items new is = rw (is.1, is.2) (held_so request refl next goes e halt is.0)

            -- what comes after the block
            after_so : (flag : Bool) → ends_main levels effect.course ≡ flag
                → (halt : Option Step) (items : List Item) (new : StateView) → IsFollowing mid k.modal before effect.item line request flag (levels_after s.skip s.programs levels effect.course) halt items new
                → Advances s c before halt items new
            after_so true ends halt items new is =
                rw (is.0, is.1) (record {
                  segment =
                      ends_at s (with_items_before before (segment_of s c)) items_more (kept_after None) new line End past_more (step_at mid.axes (on_by_request mid.on request) (stands mid.at) line End)
                      (finishes ends) refl (over_after new is.2);
                  stays = λ code alarm. absurd cc;
                  more = one_more (segment_of s c).after.past (ap (λ (g : SegmentView). g.after.past) (finishes ends));
                })
            after_so false goes halt items new is = led_so (levels_after s.skip s.programs levels effect.course) goes refl halt items new is

      -- what comes after a block that has done this
      pub performed : (more : ℕ) → k.count + suc more ≡ 100000 → (done : Done) (new : Situation) → Does (edges_in s) effect_here done new
          → IsAfter (words_after c.past ++ group_words block.statement ∷ []) new.modal → StandsAtEnd done.item k.at new.at
          → (request : Option Request) → request_here ≡ Ok request → (next : Option Levels) → next ≡ None → (halt : Option Step) (items : List Item) (kept : StateView)
          → IsFollowing (in_situation k next new) k.modal before done.item line request (ends_main levels (course_view done.course)) (levels_after s.skip s.programs levels (course_view done.course)) halt items kept
          → Advances s c before halt items kept
      performed more room done new does modal stand request asks next gone halt items kept is =
          let (effect, made, left) = effect_done (edges_in s) effect_here done new does in
          let mid = in_situation k next new in
          after_so more room request asks effect made mid gone refl refl refl refl refl (subst (λ (o : Option Item). StandsAtEnd o k.at new.at) (sym left.item) stand)
          left.parameters modal left.frame left.tool (ends_main levels effect.course) refl halt items kept
          (subst (λ (o : Option Item). IsFollowing mid k.modal before o line request (ends_main levels effect.course) (levels_after s.skip s.programs levels effect.course) halt items kept) (sym left.item)
          (subst (λ (course : Course). IsFollowing mid k.modal before done.item line request (ends_main levels course) (levels_after s.skip s.programs levels course) halt items kept) (sym left.course) is))
