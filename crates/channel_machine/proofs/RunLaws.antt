-- Laws of segments.
use Rattle.std.proofs.Common.{◌≡◌, ◌∙◌, ℕ, zero, suc, ◌+◌, ◌-◌, ◌≤◌, ℤ, Bool, true, false, cond, List, [], ◌∷◌, ◌++◌, append-nil, append_assoc, length, length-append, option_and_then, unwrap_or, Option, None, Some, Result, Ok, Err, All, inl, inr, refl, sym, ap, subst, arith}
use mathlib.Core.Path.{fun_ext}
use Rattle.std.specs.Option.{option_to_list}
use Rattle.block_motions.specs.Motions.{IsMotionOf}
use Rattle.block_effects.specs.Effects.{Course, Goes, Ends, Calls, effect_of}
use Rattle.block_effects.proofs.AlarmLaws.{effect_listed, listed_8, listed_9}
use Rattle.nc_expressions.proofs.ListedAlarms.{IsListed, bind_listed}
use Rattle.block_effects.proofs.EffectLaws.{effect_is}
use Rattle.channel_machine.proofs.Follows.{AllFollow, AllFollow-push, follows_none, ends_in_range, sound_motions, still_follows}
use Rattle.nc_blocks.specs.Statement.{BlockView}
use Rattle.nc_control_flow.specs.Counted.{next_going}
use Rattle.nc_control_flow.proofs.Alarms.{Alarms, going_alarms}
use Rattle.nc_expressions.specs.Value.{◌>>=◌}
use Rattle.fault_codes.specs.Codes.{IsAlarmCode, alarm_codes}
use Rattle.nc_subprograms.specs.declared.Place.{Place}
use Rattle.nc_subprograms.specs.Stack.{stack_after_call}
use Rattle.path_geometry.specs.Motions.{IsSound}
use Rattle.sync_types.specs.Items.{end_in, left_at, movement_of}
use Rattle.sync_types.proofs.Positions.{left_at-nil, left_at-push, left_in_range}
use Rattle.sync_types.specs.declared.Grant.{Grant}
use Rattle.sync_types.specs.declared.Action.{Action}
use Rattle.sync_types.specs.declared.Item.{Item}
use Rattle.sync_types.specs.declared.Part.TheVariants as part
use Rattle.block_effects.specs.Words.{values_in}
use Rattle.channel_machine.specs.Coordination.{request_in}
use Rattle.channel_machine.proofs.Requests.{asked_listed, asks_still, statement_listed}
use Rattle.coordination_words.specs.declared.asked.Request.{Request}
use Rattle.coordination_words.specs.declared.asked.Request.TheVariants.{Act, Switch}
use Rattle.job_types.specs.Job.{ProgramView}
use Rattle.channel_machine.specs.declared.levels.Levels.{Levels}
use Rattle.channel_machine.specs.Levels.{program_blocks, gone_on, past_end, levels_from, levels_after}
use Rattle.channel_machine.specs.Run.{SurroundingsView, Executed, Deed, Did, Channel, SegmentView, blocks_of, item_by, item_of, parameters_after, setting_after, setup_after, found_after, grant_after, segment_after_request, with_items_before, stands_after, opener_at, block_at, executed_block, line_after, alarm_segment, ends_main, with_block, with_levels, channel_after_block, segment_after_course, end_segment, segment_after_block, run_after, segment_of, IsListedAction}
use Rattle.channel_machine.proofs.Pasts.{count-did, grant-did, stands-did}
use Rattle.micro_units.specs.Position.{IsPosition}

-- ---- alarms of control

listed_5 : IsAlarmCode 5
unfolding IsAlarmCode alarm_codes
listed_5 = refl

listed_6 : IsAlarmCode 6
unfolding IsAlarmCode alarm_codes
listed_6 = refl

listed_32 : IsAlarmCode 32
unfolding IsAlarmCode alarm_codes
listed_32 = refl

going_listed : {A : Type 0} (r : Result A ℕ) → Alarms r → IsListed r
going_listed (Ok x) alarms = tt
going_listed (Err code) (inl five) = subst IsAlarmCode (sym five) listed_5
going_listed (Err code) (inr many) = subst IsAlarmCode (sym many) listed_32

called_listed : (stack : List Place) (place : Place) → IsListed (stack_after_call stack place)
called_listed stack place = by_room _
  where
    by_room : (b : Bool) → IsListed (cond b (Err 6) (Ok (place ∷ stack)))
    by_room true = listed_6
    by_room false = tt

followed_listed : (skip : Bool) (programs : List (List ℕ × ProgramView)) (levels : Levels) (course : Course) → IsListed (levels_after skip programs levels course)
unfolding levels_after
followed_listed skip programs levels (Goes outcome) =
    bind_listed (next_going skip levels.here.pc (program_blocks programs levels.here.program) levels.here.repeats outcome) (λ going. Ok (levels_from skip programs (gone_on levels.here going) levels.returns))
    (going_listed _ (going_alarms skip levels.here.pc (program_blocks programs levels.here.program) levels.here.repeats outcome)) (λ going. tt)
followed_listed skip programs levels Ends = tt
followed_listed skip programs levels (Calls number passes) =
    bind_listed (stack_after_call levels.returns levels.here) (λ returns. Ok (past_end skip programs number passes returns)) (called_listed levels.returns levels.here) (λ returns. tt)

-- ---- one block

bind_ok : {A B : Type 0} (r : Result A ℕ) (f : A → Result B ℕ) (y : B) → (r >>= f) ≡ Ok y → (x : A) × (r ≡ Ok x) × (f x ≡ Ok y)
bind_ok (Ok x) f y is = (x, refl, is)
bind_ok (Err code) f y is = absurd cc

module _ (s : SurroundingsView) where
  executed_listed : (past : List Deed) (place : Place) (b : ℕ × BlockView) → IsListed (executed_block s past place b)
  executed_listed past place (line, block) =
      bind_listed (request_in (setting_after s past) (values_in (parameters_after past)) block.statement) _
      (statement_listed (setting_after s past) (values_in (parameters_after past)) block.statement)
      (λ request. bind_listed (effect_of (setup_after s past) (found_after s past) line (opener_at s place) block.statement)
      (λ effect. Ok (record { line = line; block = block; request = request; effect = effect }))
      (effect_listed (setup_after s past) (found_after s past) line (opener_at s place) block.statement) (λ effect. tt))

  -- how a block was executed
  pub record IsExecuted (past : List Deed) (place : Place) (b : ℕ × BlockView) (done : Executed) : Type 0 where
    pub line : b.0 ≡ done.line
    pub asks : request_in (setting_after s past) (values_in (parameters_after past)) b.1.statement ≡ Ok done.request
    pub leaves : effect_of (setup_after s past) (found_after s past) b.0 (opener_at s place) b.1.statement ≡ Ok done.effect

  pub was_executed : (past : List Deed) (place : Place) (b : ℕ × BlockView) (done : Executed) → executed_block s past place b ≡ Ok done → IsExecuted past place b done
  was_executed past place (line, block) done is =
      let (request, asked, rest) = bind_ok (request_in (setting_after s past) (values_in (parameters_after past)) block.statement) _ done is in
      let (effect, made, last) = bind_ok (effect_of (setup_after s past) (found_after s past) line (opener_at s place) block.statement)
      (λ effect. Ok (record { line = line; block = block; request = request; effect = effect })) done rest in
      let left : Executed = record { line = line; block = block; request = request; effect = effect } in
      let same : left ≡ done = cc in
      record {
        line = ap (λ (e : Executed). e.line) same;
        asks = asked ∙ ap (λ (e : Executed). Ok e.request) same;
        leaves = made ∙ ap (λ (e : Executed). Ok e.effect) same;
      }

  -- what it does leaves an axis as its motion does
  item_end : (past : List Deed) (place : Place) (b : ℕ × BlockView) (done : Executed) → IsExecuted past place b done → (axis : ℕ)
      → option_and_then (λ item. end_in axis item) (item_of done) ≡ option_and_then (λ item. end_in axis item) done.effect.item
  item_end past place b done is axis = by_request done.request is.asks
    where
      by_request : (r : Option Request) → request_in (setting_after s past) (values_in (parameters_after past)) b.1.statement ≡ Ok r
          → option_and_then (λ item. end_in axis item) (item_by done.line r done.effect.item) ≡ option_and_then (λ item. end_in axis item) done.effect.item
      by_request None asks = refl
      by_request (Some (Act action)) asks = refl
      by_request (Some (Switch zone on)) asks =
          ap (λ (o : Option Item). option_and_then (λ item. end_in axis item) o)
          (sym (asks_still (setting_after s past) (values_in (parameters_after past)) (setup_after s past) (found_after s past) b.0 (opener_at s place) b.1.statement (Switch zone on) done.effect asks is.leaves))

  -- it moves where its motion does
  item_moves : (axes : List Bool) (at : ℕ → ℤ) (line : ℕ) (request : Option Request) (motion : Option Item) → ((item : Item) → motion ≡ Some item → IsMotionOf axes at (movement_of item))
      → (item : Item) → item_by line request motion ≡ Some item → IsMotionOf axes at (movement_of item)
  item_moves axes at line None motion each item is = each item is
  item_moves axes at line (Some (Act action)) motion each item is = each item is
  item_moves axes at line (Some (Switch zone on)) motion each item is =
      let here : Item = record { line = line; part = part.Switch zone on } in
      let same : here ≡ item = cc in
      subst (λ (i : Item). IsMotionOf axes at (movement_of i)) same (still_follows axes at)

  -- a segment begins after this grant, with the axes there, and after so many blocks
  module _ (grant : Grant) (start : ℕ → ℤ) (first : ℕ) where
    -- what holds of a channel that has done this, where these are the items of the segment so far
    pub record Holds (past : List Deed) (made : List Item) : Type 0 where
      pub owns : grant_after s past ≡ grant
      pub stand : (axis : ℕ) → stands_after s past axis ≡ left_at made start axis
      pub follow : AllFollow grant.axes start made
      pub few : first + length made ≤ length (blocks_of past)

    at_most_one : (o : Option Item) → length (option_to_list o) ≤ 1
    at_most_one None = omega arith
    at_most_one (Some item) = omega arith

    executed_is : (past : List Deed) (made : List Item) (place : Place) (b : ℕ × BlockView) (done : Executed) → Holds past made → IsExecuted past place b done
        → AllFollow grant.axes start (made ++ option_to_list (item_of done))
    executed_is past made place b done holds is =
        AllFollow-push grant.axes start made (item_of done) holds.follow
        (λ item has. subst (λ (g : Grant). IsMotionOf g.axes (left_at made start) (movement_of item)) holds.owns
        (subst (λ (at : ℕ → ℤ). IsMotionOf (grant_after s past).axes at (movement_of item)) (fun_ext holds.stand)
        (item_moves (grant_after s past).axes (stands_after s past) done.line done.request done.effect.item
        (λ motion moves. effect_is (setup_after s past) (found_after s past) b.0 (opener_at s place) b.1.statement done.effect motion is.leaves moves) item has)))

    holds_more : (past : List Deed) (made : List Item) (place : Place) (b : ℕ × BlockView) (done : Executed) → Holds past made → IsExecuted past place b done
        → Holds (past ++ Did done ∷ []) (made ++ option_to_list (item_of done))
    holds_more past made place b done holds is = record {
      owns = grant-did s past done ∙ holds.owns;
      stand = λ axis.
          stands-did s past done axis
          ∙ ap (λ (z : ℤ). unwrap_or (option_and_then (λ item. end_in axis item) done.effect.item) z) (holds.stand axis)
          ∙ ap (λ (o : Option ℤ). unwrap_or o (left_at made start axis)) (sym (item_end past place b done is axis))
          ∙ sym (left_at-push made (item_of done) start axis);
      follow = executed_is past made place b done holds is;
      few =
          let one = at_most_one (item_of done) in
          let items = length-append made (option_to_list (item_of done)) in
          let blocks = count-did past done in
          omega (arith, holds.few, one, items, blocks);
    }

    -- ---- the segment

    -- what comes after these items: a segment whose channel has executed at most so many blocks
    pub record Comes (made : List Item) (most : ℕ) (segment : SegmentView) : Type 0 where
      pub listed : IsListedAction segment.step.action
      pub holds : Holds segment.after.past (made ++ segment.items)
      pub many : length (blocks_of segment.after.past) ≤ most

    alarms_at : (past : List Deed) (made : List Item) (most line code : ℕ) → Holds past made → length (blocks_of past) ≤ most → IsAlarmCode code → Comes made most (alarm_segment s past line code)
    alarms_at past made most line code holds many listed = record {
      listed = listed;
      holds = subst (λ (xs : List Item). Holds past xs) (sym (append-nil made)) holds;
      many = many;
    }

    abbrev Next : ℕ → Type 0
    Next more = (c : Channel) (made : List Item) → Holds c.past made → Comes made (length (blocks_of c.past) + more) (run_after s more c)

    comes : (more : ℕ) (c : Channel) (made : List Item) → Holds c.past made → Comes made (length (blocks_of c.past) + more) (run_after s more c)
    unfolding run_after
    comes zero c made holds = by_levels c.levels
      where
        by_block : (o : Option (ℕ × BlockView)) → Comes made (length (blocks_of c.past) + 0) (with_block s c.past o (λ block. alarm_segment s c.past block.0 8))
        by_block None = alarms_at c.past made (length (blocks_of c.past) + 0) (line_after s c.past) 9 holds (omega arith) listed_9
        by_block (Some block) = alarms_at c.past made (length (blocks_of c.past) + 0) block.0 8 holds (omega arith) listed_8

        by_levels : (o : Option Levels) → Comes made (length (blocks_of c.past) + 0) (with_levels s c.past o (λ levels block. alarm_segment s c.past block.0 8))
        by_levels None = alarms_at c.past made (length (blocks_of c.past) + 0) (line_after s c.past) 9 holds (omega arith) listed_9
        by_levels (Some levels) = by_block (block_at s levels.here)
    comes (suc more) c made holds = by_levels c.levels (λ c made holds. comes more c made holds)
      where
        room : (done : Executed) → length (blocks_of (c.past ++ Did done ∷ [])) ≤ length (blocks_of c.past) + suc more
        room done = let long = count-did c.past done in omega (arith, long)

        goes_on : (done : Executed) (levels : Option Levels) → Holds (c.past ++ Did done ∷ []) (made ++ option_to_list (item_of done)) → Next more
            → Comes made (length (blocks_of c.past) + suc more) (with_items_before (option_to_list (item_of done)) (run_after s more (channel_after_block c.past done levels)))
        goes_on done levels more_holds next =
            let later : Channel = channel_after_block c.past done levels in
            let rest = next later (made ++ option_to_list (item_of done)) more_holds in
            let long = count-did c.past done in
            record {
              listed = rest.listed;
              holds =
                  subst (λ (xs : List Item). Holds (run_after s more later).after.past xs) (append_assoc made (option_to_list (item_of done)) (run_after s more later).items)
                  rest.holds;
              many = omega (arith, rest.many, long);
            }

        by_request : (done : Executed) (request : Option Request) → ((action : Action) → request ≡ Some (Act action) → IsListedAction action) → (levels : Option Levels)
            → Holds (c.past ++ Did done ∷ []) (made ++ option_to_list (item_of done)) → Next more
            → Comes made (length (blocks_of c.past) + suc more) (segment_after_request s c.past done levels request (λ after. run_after s more after))
        by_request done None asks levels more_holds next = goes_on done levels more_holds next
        by_request done (Some (Switch zone on)) asks levels more_holds next = goes_on done levels more_holds next
        by_request done (Some (Act action)) asks levels more_holds next = record { listed = asks action refl; holds = more_holds; many = room done }

        by_led : (done : Executed) → ((action : Action) → done.request ≡ Some (Act action) → IsListedAction action) → (r : Result (Option Levels) ℕ) → IsListed r
            → Holds (c.past ++ Did done ∷ []) (made ++ option_to_list (item_of done)) → Next more
            → Comes made (length (blocks_of c.past) + suc more) (segment_after_course s c.past done r (λ after. run_after s more after))
        by_led done asks (Err code) listed more_holds next = alarms_at c.past made (length (blocks_of c.past) + suc more) done.line code holds (omega arith) listed
        by_led done asks (Ok levels) listed more_holds next = by_request done done.request asks levels more_holds next

        by_end : (levels : Levels) (b : ℕ × BlockView) (done : Executed) → executed_block s c.past levels.here b ≡ Ok done → (flag : Bool) → Next more
            → Comes made (length (blocks_of c.past) + suc more) (cond flag (end_segment s c.past done) (segment_after_course s c.past done (levels_after s.skip s.programs levels done.effect.course) (λ after. run_after s more after)))
        by_end levels b done is true next = record {
          listed = tt;
          holds = holds_more c.past made levels.here b done holds (was_executed c.past levels.here b done is);
          many = room done;
        }
        by_end levels b done is false next =
            let did = was_executed c.past levels.here b done is in
            by_led done
            (λ action asks. asked_listed (setting_after s c.past) (values_in (parameters_after c.past)) b.1.statement action (did.asks ∙ ap (λ (o : Option Request). Ok o) asks))
            (levels_after s.skip s.programs levels done.effect.course) (followed_listed s.skip s.programs levels done.effect.course) (holds_more c.past made levels.here b done holds did) next

        by_done : (levels : Levels) (b : ℕ × BlockView) (r : Result Executed ℕ) → executed_block s c.past levels.here b ≡ r → IsListed r → Next more
            → Comes made (length (blocks_of c.past) + suc more) (segment_after_block s c.past levels b.0 r (λ after. run_after s more after))
        by_done levels b (Err code) is listed next = alarms_at c.past made (length (blocks_of c.past) + suc more) b.0 code holds (omega arith) listed
        by_done levels b (Ok done) is listed next = by_end levels b done is (ends_main levels done.effect.course) next

        by_block : (levels : Levels) (o : Option (ℕ × BlockView)) → Next more
            → Comes made (length (blocks_of c.past) + suc more) (with_block s c.past o (λ block. segment_after_block s c.past levels block.0 (executed_block s c.past levels.here block) (λ after. run_after s more after)))
        by_block levels None next = alarms_at c.past made (length (blocks_of c.past) + suc more) (line_after s c.past) 9 holds (omega arith) listed_9
        by_block levels (Some b) next = by_done levels b (executed_block s c.past levels.here b) refl (executed_listed c.past levels.here b) next

        by_levels : (o : Option Levels) → Next more
            → Comes made (length (blocks_of c.past) + suc more) (with_levels s c.past o (λ levels block. segment_after_block s c.past levels block.0 (executed_block s c.past levels.here block) (λ after. run_after s more after)))
        by_levels None next = alarms_at c.past made (length (blocks_of c.past) + suc more) (line_after s c.past) 9 holds (omega arith) listed_9
        by_levels (Some levels) next = by_block levels (block_at s levels.here) next

  -- a segment, from where its channel is
  module _ (c : Channel) where
    segment_comes : Comes (grant_after s c.past) (stands_after s c.past) (length (blocks_of c.past)) [] (length (blocks_of c.past) + (100000 - length (blocks_of c.past))) (segment_of s c)
    unfolding segment_of
    segment_comes = comes (grant_after s c.past) (stands_after s c.past) (length (blocks_of c.past)) (100000 - length (blocks_of c.past)) c []
        (record { owns = refl; stand = λ axis. sym (left_at-nil (stands_after s c.past) axis); follow = follows_none (grant_after s c.past).axes (stands_after s c.past); few = omega arith })

    -- its motions are those of blocks, one after another
    pub all_follow : AllFollow (grant_after s c.past).axes (stands_after s c.past) (segment_of s c).items
    all_follow = segment_comes.holds.follow

    pub counted : length (blocks_of c.past) + length (segment_of s c).items ≤ length (blocks_of (segment_of s c).after.past)
    counted = segment_comes.holds.few

    pub few_blocks : length (blocks_of c.past) ≤ 100000 → length (blocks_of (segment_of s c).after.past) ≤ 100000
    few_blocks few = let many = segment_comes.many in omega (arith, many, few)

    pub few_items : length (segment_of s c).items ≤ 100000 - length (blocks_of c.past)
    few_items = let few = counted in let many = segment_comes.many in omega (arith, few, many)

    pub end_listed : IsListedAction (segment_of s c).step.action
    end_listed = segment_comes.listed

    -- after it the axes stand where its motions left them, and the grant is that from which it began
    pub stands_then : (axis : ℕ) → stands_after s (segment_of s c).after.past axis ≡ left_at (segment_of s c).items (stands_after s c.past) axis
    stands_then axis = segment_comes.holds.stand axis

    pub grant_then : grant_after s (segment_of s c).after.past ≡ grant_after s c.past
    grant_then = segment_comes.holds.owns

    -- from axes in range its motions are sound, and leave the axes in range
    module _ (starts : (axis : ℕ) → IsPosition (stands_after s c.past axis)) where
      pub items_sound : All (λ item. IsSound (movement_of item)) (segment_of s c).items
      items_sound = sound_motions (grant_after s c.past).axes (stands_after s c.past) (segment_of s c).items all_follow starts

      pub in_range_then : (axis : ℕ) → IsPosition (stands_after s (segment_of s c).after.past axis)
      in_range_then axis = subst IsPosition (sym (stands_then axis))
          (left_in_range (segment_of s c).items (stands_after s c.past) (ends_in_range (grant_after s c.past).axes (stands_after s c.past) (segment_of s c).items all_follow) starts axis)
