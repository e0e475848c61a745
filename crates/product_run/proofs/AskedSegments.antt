-- What a segment asks of the other channels is of the job, and the zones that it switches its channel holds.
use Rattle.std.proofs.Common.{◌≡◌, ◌∙◌, ℕ, zero, suc, ◌-◌, ℤ, Bool, true, false, cond, List, [], ◌∷◌, ◌++◌, length, Option, None, Some, option_map, Result, Ok, Err, refl, sym, ap, subst}
use Rattle.std.specs.Option.{option_to_list}
use Rattle.block_effects.proofs.EffectSteps.{left}
use Rattle.block_effects.specs.Effects.{Effect, Turning, SituationView, word_in, item_on, words_moved, words_run, words_effect, group_words, frame_effect, turned_only, control_effect, effect_of}
use Rattle.block_effects.specs.Shapes.{plane_of, shaped_by, turned_by}
use Rattle.block_effects.specs.Words.{SetupView, first_progress, values_in, words_done}
use Rattle.channel_machine.proofs.Pasts.{grant-did}
use Rattle.channel_machine.specs.Coordination.{request_in, setting_with}
use Rattle.channel_machine.specs.Levels.{levels_after}
use Rattle.channel_machine.specs.Run.{SurroundingsView, Executed, Deed, Did, Channel, SegmentView, blocks_of, item_by, item_of, parameters_after, setting_after, setup_after, found_after, grant_after, opener_at, block_at, executed_block, line_after, alarm_segment, ends_main, with_block, with_levels, channel_after_block, segment_after_request, segment_after_course, end_segment, segment_after_block, run_after, segment_of}
use Rattle.channel_machine.specs.declared.levels.Levels.{Levels}
use Rattle.coordination_words.proofs.RequestLaws.{asks}
use Rattle.coordination_words.specs.Laws.{IsOfTheJob}
use Rattle.coordination_words.specs.Requests.{request_of}
use Rattle.coordination_words.specs.Settings.{SettingView}
use Rattle.coordination_words.specs.declared.asked.Request.{Request}
use Rattle.coordination_words.specs.declared.asked.Request.TheVariants.{Act, Switch}
use Rattle.frames.specs.Maps.{Map}
use Rattle.g_groups.specs.Modal.{has_group_twice}
use Rattle.g_groups.specs.declared.GWord.{GWord}
use Rattle.nc_blocks.specs.Statement.{BlockView, OperandView, WordView, Statement, WordBlock, Shape, Turn, Coord}
use Rattle.nc_blocks.specs.declared.blocks.CoordWord.{CoordWord}
use Rattle.nc_expressions.specs.Value.{◌>>=◌}
use Rattle.nc_expressions.specs.Values.{Values}
use Rattle.nc_subprograms.specs.declared.Place.{Place}
use Rattle.path_geometry.specs.declared.motion.Motion.{Motion}
use Rattle.sync_types.specs.declared.Action.{Action}
use Rattle.sync_types.specs.declared.Action.TheVariants.{End, Alarm}
use Rattle.sync_types.specs.declared.Grant.{Grant}
use Rattle.sync_types.specs.declared.Item.{Item}
use Rattle.sync_types.specs.declared.Part.{Part}
use Rattle.sync_types.specs.declared.Part.TheVariants as part

-- ---- what blocks move

-- what a block does by itself is a motion
abbrev pub IsMove : Part → Type 0
IsMove (part.Move motion) = Unit {0}
IsMove (part.Switch zone on) = ⊥

module _ (equipment : SetupView) (found : SituationView) (line : ℕ) where
  abbrev OnlyMoves : Result Effect ℕ → Type 0
  OnlyMoves (Ok effect) = (item : Item) → effect.item ≡ Some item → IsMove item.part
  OnlyMoves (Err code) = Unit {0}

  moves_bind : {A : Type 0} (r : Result A ℕ) (f : A → Result Effect ℕ) → ((x : A) → OnlyMoves (f x)) → OnlyMoves (r >>= f)
  moves_bind (Ok x) f each = each x
  moves_bind (Err code) f each = tt

  on_motion : (o : Option Motion) (item : Item) → option_map (item_on line) o ≡ Some item → IsMove item.part
  on_motion None item is = absurd cc
  on_motion (Some motion) item is = let same : item_on line motion ≡ item = cc in subst (λ (i : Item). IsMove i.part) same tt

  words_move : (groups : List GWord) (words : List WordView) → OnlyMoves (words_effect equipment found line groups words)
  words_move groups words = by_test (has_group_twice groups)
    where
      by_test : (b : Bool) → OnlyMoves (cond b (Err 10) (words_run equipment found line groups words))
      by_test true = tt
      by_test false =
          moves_bind (words_done equipment (first_progress found.parameters found.choices) words) (λ p. words_moved equipment found groups p >>= λ motion. Ok (left line found p motion))
          (λ p. moves_bind (words_moved equipment found groups p) (λ motion. Ok (left line found p motion)) on_motion)

  framed_still : (made : Result (List Map) ℕ) → OnlyMoves (frame_effect found made)
  framed_still (Ok chain) = λ item is. absurd cc
  framed_still (Err code) = tt

  turned_still : (turning : Result Turning ℕ) → OnlyMoves (turned_only found turning)
  turned_still (Ok t) = λ item is. absurd cc
  turned_still (Err code) = tt

  effect_moves : (opener statement : Statement) → OnlyMoves (effect_of equipment found line opener statement)
  unfolding effect_of
  effect_moves opener (WordBlock words) = words_move (group_words (WordBlock words)) words
  effect_moves opener (Shape word values) = framed_still (shaped_by (values_in found.parameters) found.chain word values)
  effect_moves opener (Turn additive angle) = framed_still (turned_by (values_in found.parameters) found.chain (plane_of (word_in found [] 6)) additive angle)
  effect_moves opener statement = turned_still (control_effect equipment.names found.parameters opener statement)

-- ---- what blocks ask

module _ (setting : SettingView) where
  -- the program end, an alarm of the channel's own, or an action that a block may ask for
  abbrev pub IsAsked : Action → Type 0
  IsAsked End = Unit {0}
  IsAsked (Alarm code) = Unit {0}
  IsAsked action = IsOfTheJob setting action

  -- a zone that is switched is held
  abbrev pub SwitchesHeld : Part → Type 0
  SwitchesHeld (part.Move motion) = Unit {0}
  SwitchesHeld (part.Switch zone on) = setting.holds zone ≡ true

  abbrev pub AllSwitchHeld : List Item → Type 0
  AllSwitchHeld [] = Unit {0}
  AllSwitchHeld (item ∷ items) = SwitchesHeld item.part × AllSwitchHeld items

  moves_held : (p : Part) → IsMove p → SwitchesHeld p
  moves_held (part.Move motion) move = tt
  moves_held (part.Switch zone on) move = absurd move

  of_job : (action : Action) → IsOfTheJob setting action → IsAsked action
  of_job End is = tt
  of_job (Alarm code) is = tt
  of_job other is = is

  abbrev AsksFor : Option Request → Type 0
  AsksFor None = Unit {0}
  AsksFor (Some (Act action)) = IsAsked action
  AsksFor (Some (Switch zone on)) = setting.holds zone ≡ true

  abbrev AsksForAll : Result (Option Request) ℕ → Type 0
  AsksForAll (Ok request) = AsksFor request
  AsksForAll (Err code) = Unit {0}

  some_asked : (values : Values) (w : CoordWord) (operands : List OperandView) (r : Result Request ℕ) → request_of setting values w operands ≡ r
      → AsksForAll (r >>= λ request. Ok (Some request))
  some_asked values w operands (Ok (Act action)) is = of_job action (asks setting values w operands (Act action) is).0
  some_asked values w operands (Ok (Switch zone on)) is = (asks setting values w operands (Switch zone on) is).0
  some_asked values w operands (Err code) is = tt

  statement_asked : (values : Values) (statement : Statement) → AsksForAll (request_in setting values statement)
  unfolding request_in
  statement_asked values (Coord w operands) = some_asked values w operands (request_of setting values w operands) refl
  statement_asked values other = tt

  -- ---- one block

  pub record IsDone (done : Executed) : Type 0 where
    pub asks_for : AsksFor done.request
    pub moves : (item : Item) → done.effect.item ≡ Some item → IsMove item.part

  items_held : (o : Option Item) (items : List Item) → ((item : Item) → o ≡ Some item → SwitchesHeld item.part) → AllSwitchHeld items → AllSwitchHeld (option_to_list o ++ items)
  items_held None items each all = all
  items_held (Some item) items each all = (each item refl, all)

  item_held : (o : Option Item) → ((item : Item) → o ≡ Some item → SwitchesHeld item.part) → AllSwitchHeld (option_to_list o)
  item_held None each = tt
  item_held (Some item) each = (each item refl, tt)

  done_held : (done : Executed) → IsDone done → (item : Item) → item_of done ≡ Some item → SwitchesHeld item.part
  done_held done did item is = by_request done.request did.asks_for is
    where
      by_request : (r : Option Request) → AsksFor r → item_by done.line r done.effect.item ≡ Some item → SwitchesHeld item.part
      by_request None asked is = moves_held item.part (did.moves item is)
      by_request (Some (Act action)) asked is = moves_held item.part (did.moves item is)
      by_request (Some (Switch zone on)) asked is =
          let switch : Item = record { line = done.line; part = part.Switch zone on } in
          let same : switch ≡ item = cc in
          subst (λ (i : Item). SwitchesHeld i.part) same asked

  -- ---- a segment

  pub record IsAskedSegment (segment : SegmentView) : Type 0 where
    pub asked : IsAsked segment.step.action
    pub held : AllSwitchHeld segment.items

module _ (s : SurroundingsView) (axes : List Bool) where
  -- what a block of coordination finds in a channel that owns these axes
  abbrev pub found_with : SettingView
  found_with = setting_with s.version s.channels s.programs s.axes s.zones s.channel s.slots axes

  pub was_done : (past : List Deed) (place : Place) (b : ℕ × BlockView) (done : Executed) → (grant_after s past).axes ≡ axes → executed_block s past place b ≡ Ok done → IsDone found_with done
  was_done past place (line, block) done own is =
      by_request (request_in (setting_after s past) (values_in (parameters_after past)) block.statement)
      (subst (λ (owned : List Bool). AsksForAll found_with (request_in (setting_with s.version s.channels s.programs s.axes s.zones s.channel s.slots owned) (values_in (parameters_after past)) block.statement)) (sym own)
      (statement_asked found_with (values_in (parameters_after past)) block.statement)) is
    where
      made : Option Request → Effect → Executed
      made request effect = record { line = line; block = block; request = request; effect = effect }

      effect : Result Effect ℕ
      effect = effect_of (setup_after s past) (found_after s past) line (opener_at s place) block.statement

      by_effect : (request : Option Request) → AsksFor found_with request → (r : Result Effect ℕ) → OnlyMoves (setup_after s past) (found_after s past) line r → (r >>= λ e. Ok (made request e)) ≡ Ok done → IsDone found_with done
      by_effect request asked (Ok e) moves is =
          let same : made request e ≡ done = cc in
          subst (IsDone found_with) same (record { asks_for = asked; moves = moves })
      by_effect request asked (Err code) moves is = absurd cc

      by_request : (r : Result (Option Request) ℕ) → AsksForAll found_with r → (r >>= λ request. effect >>= λ e. Ok (made request e)) ≡ Ok done → IsDone found_with done
      by_request (Err code) asked is = absurd cc
      by_request (Ok request) asked is = by_effect request asked effect (effect_moves (setup_after s past) (found_after s past) line (opener_at s place) block.statement) is

  alarm_asked : (past : List Deed) (line code : ℕ) → IsAskedSegment found_with (alarm_segment s past line code)
  alarm_asked past line code = record { asked = tt; held = tt }

  abbrev Next : ℕ → Type 0
  Next more = (c : Channel) → (grant_after s c.past).axes ≡ axes → IsAskedSegment found_with (run_after s more c)

  goes_asked : (more : ℕ) → Next more
  unfolding run_after
  goes_asked zero c own = by_levels c.levels
    where
      by_block : (o : Option (ℕ × BlockView)) → IsAskedSegment found_with (with_block s c.past o (λ block. alarm_segment s c.past block.0 8))
      by_block None = alarm_asked c.past (line_after s c.past) 9
      by_block (Some block) = alarm_asked c.past block.0 8

      by_levels : (o : Option Levels) → IsAskedSegment found_with (with_levels s c.past o (λ levels block. alarm_segment s c.past block.0 8))
      by_levels None = alarm_asked c.past (line_after s c.past) 9
      by_levels (Some levels) = by_block (block_at s levels.here)
  goes_asked (suc more) c own = by_levels c.levels (goes_asked more)
    where
      own_then : (done : Executed) → (grant_after s (c.past ++ Did done ∷ [])).axes ≡ axes
      own_then done = ap (λ (g : Grant). g.axes) (grant-did s c.past done) ∙ own

      by_request : (done : Executed) → IsDone found_with done → (request : Option Request) → AsksFor found_with request → (levels : Option Levels) → Next more
          → IsAskedSegment found_with (segment_after_request s c.past done levels request (λ after. run_after s more after))
      by_request done did None asked levels next =
          let rest = next (channel_after_block c.past done levels) (own_then done) in
          record { asked = rest.asked; held = items_held found_with (item_of done) (run_after s more (channel_after_block c.past done levels)).items (done_held found_with done did) rest.held }
      by_request done did (Some (Switch zone on)) asked levels next =
          let rest = next (channel_after_block c.past done levels) (own_then done) in
          record { asked = rest.asked; held = items_held found_with (item_of done) (run_after s more (channel_after_block c.past done levels)).items (done_held found_with done did) rest.held }
      by_request done did (Some (Act action)) asked levels next = record { asked = asked; held = item_held found_with (item_of done) (done_held found_with done did) }

      by_led : (done : Executed) → IsDone found_with done → (r : Result (Option Levels) ℕ) → Next more
          → IsAskedSegment found_with (segment_after_course s c.past done r (λ after. run_after s more after))
      by_led done did (Err code) next = alarm_asked c.past done.line code
      by_led done did (Ok levels) next = by_request done did done.request did.asks_for levels next

      by_end : (levels : Levels) (done : Executed) → IsDone found_with done → (flag : Bool) → Next more
          → IsAskedSegment found_with (cond flag (end_segment s c.past done) (segment_after_course s c.past done (levels_after s.skip s.programs levels done.effect.course) (λ after. run_after s more after)))
      by_end levels done did true next = record { asked = tt; held = item_held found_with (item_of done) (done_held found_with done did) }
      by_end levels done did false next = by_led done did (levels_after s.skip s.programs levels done.effect.course) next

      by_done : (levels : Levels) (b : ℕ × BlockView) (r : Result Executed ℕ) → executed_block s c.past levels.here b ≡ r → Next more
          → IsAskedSegment found_with (segment_after_block s c.past levels b.0 r (λ after. run_after s more after))
      by_done levels b (Err code) at next = alarm_asked c.past b.0 code
      by_done levels b (Ok done) at next = by_end levels done (was_done c.past levels.here b done own at) (ends_main levels done.effect.course) next

      by_block : (levels : Levels) (o : Option (ℕ × BlockView)) → Next more
          → IsAskedSegment found_with (with_block s c.past o (λ block. segment_after_block s c.past levels block.0 (executed_block s c.past levels.here block) (λ after. run_after s more after)))
      by_block levels None next = alarm_asked c.past (line_after s c.past) 9
      by_block levels (Some b) next = by_done levels b (executed_block s c.past levels.here b) refl next

      by_levels : (o : Option Levels) → Next more
          → IsAskedSegment found_with (with_levels s c.past o (λ levels block. segment_after_block s c.past levels block.0 (executed_block s c.past levels.here block) (λ after. run_after s more after)))
      by_levels None next = alarm_asked c.past (line_after s c.past) 9
      by_levels (Some levels) next = by_block levels (block_at s levels.here) next

  pub segment_asked : (c : Channel) → (grant_after s c.past).axes ≡ axes → IsAskedSegment found_with (segment_of s c)
  unfolding segment_of
  segment_asked c own = goes_asked (100000 - length (blocks_of c.past)) c own
