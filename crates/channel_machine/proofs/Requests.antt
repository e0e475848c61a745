-- What blocks of coordination ask for: an action that is no alarm, or an alarm of the table.
use Rattle.std.proofs.Common.{◌≡◌, ℕ, ℤ, List, Option, None, Some, IfOk, Result, Ok, Err, refl, ap, subst, ◌∙◌}
use Rattle.std.specs.Prelude.{⊤}
use Rattle.nc_expressions.proofs.ListedAlarms.{IsListed, bind_listed}
use Rattle.block_effects.specs.Effects.{Effect, Turning, SituationView, turned_only, control_effect, effect_of}
use Rattle.block_effects.specs.Words.{SetupView}
use Rattle.channel_machine.specs.Coordination.{request_in}
use Rattle.channel_machine.specs.Run.{IsListedAction}
use Rattle.coordination_words.proofs.ListedAlarms.{request_listed}
use Rattle.coordination_words.proofs.RequestLaws.{asks}
use Rattle.coordination_words.specs.Requests.{request_of}
use Rattle.coordination_words.specs.Settings.{SettingView}
use Rattle.coordination_words.specs.declared.asked.Request.{Request}
use Rattle.coordination_words.specs.declared.asked.Request.TheVariants.{Act, Switch}
use Rattle.nc_blocks.specs.Statement.{OperandView, Statement, Coord}
use Rattle.nc_blocks.specs.declared.blocks.CoordWord.{CoordWord}
use Rattle.nc_expressions.specs.Value.{◌>>=◌}
use Rattle.nc_expressions.specs.Values.{Values}
use Rattle.sync_types.specs.BoardAlarms.{own_alarm}
use Rattle.sync_types.specs.declared.Action.{Action}
use Rattle.sync_types.specs.declared.Action.TheVariants.{Alarm}

module _ (setting : SettingView) (values : Values) where
  pub statement_listed : (statement : Statement) → IsListed (request_in setting values statement)
  unfolding request_in
  statement_listed (Coord w operands) = bind_listed (request_of setting values w operands) _ (request_listed setting values w operands) (λ request. tt)
  statement_listed other = tt

  -- an action that is asked for is no alarm
  no_alarm_listed : (action : Action) → own_alarm action ≡ None → IsListedAction action
  no_alarm_listed (Alarm code) none = absurd cc
  no_alarm_listed action none = tt

  abbrev AsksListed : Result (Option Request) ℕ → Type 0
  AsksListed (Ok (Some (Act action))) = IsListedAction action
  AsksListed (Ok (Some (Switch zone on))) = ⊤
  AsksListed (Ok None) = ⊤
  AsksListed (Err code) = ⊤

  some_asks : (w : CoordWord) (operands : List OperandView) (r : Result Request ℕ) → request_of setting values w operands ≡ r → AsksListed (r >>= λ request. Ok (Some request))
  some_asks w operands (Ok (Act action)) is = no_alarm_listed action (asks setting values w operands (Act action) is).0.no_alarm
  some_asks w operands (Ok (Switch zone on)) is = tt
  some_asks w operands (Err code) is = tt

  statement_asks : (statement : Statement) → AsksListed (request_in setting values statement)
  unfolding request_in
  statement_asks (Coord w operands) = some_asks w operands (request_of setting values w operands) refl
  statement_asks other = tt

  pub asked_listed : (statement : Statement) (action : Action) → request_in setting values statement ≡ Ok (Some (Act action)) → IsListedAction action
  asked_listed statement action is = subst AsksListed is (statement_asks statement)

  -- it asks for no alarm
  some_no_alarm : (w : CoordWord) (operands : List OperandView) (r : Result Request ℕ) (code : ℕ) → request_of setting values w operands ≡ r → (r >>= λ request. Ok (Some request)) ≡ Ok (Some (Act (Alarm code))) → ⊥
  some_no_alarm w operands (Ok request) code is asked =
      let same : request ≡ Act (Alarm code) = cc in
      let none : own_alarm (Alarm code) ≡ None = (asks setting values w operands (Act (Alarm code)) (is ∙ ap (λ (r : Request). Ok r) same)).0.no_alarm in
      cc
  some_no_alarm w operands (Err fault) code is asked = cc

  pub asked_no_alarm : (statement : Statement) (code : ℕ) → request_in setting values statement ≡ Ok (Some (Act (Alarm code))) → ⊥
  unfolding request_in
  asked_no_alarm (Coord w operands) code asked = some_no_alarm w operands (request_of setting values w operands) code refl asked
  asked_no_alarm other code asked = cc

-- ---- a block of coordination moves nothing

turned_still : (found : SituationView) (turning : Result Turning ℕ) → IfOk (turned_only found turning) (λ effect. effect.item ≡ None)
turned_still found (Ok t) = refl
turned_still found (Err code) = tt

if_ok_is : {A : Type 0} (P : A → Type 0) (r : Result A ℕ) (x : A) → r ≡ Ok x → IfOk r P → P x
if_ok_is P (Ok y) x is p = let same : y ≡ x = cc in subst P same p
if_ok_is P (Err code) x is p = absurd cc

-- what asks for anything has no motion
pub asks_still : (setting : SettingView) (values : Values) (setup : SetupView) (found : SituationView) (line : ℕ) (opener statement : Statement) (request : Request) (effect : Effect)
    → request_in setting values statement ≡ Ok (Some request) → effect_of setup found line opener statement ≡ Ok effect → effect.item ≡ None
unfolding request_in effect_of
asks_still setting values setup found line opener (Coord w operands) request effect asks done =
    if_ok_is (λ e. e.item ≡ None) (turned_only found (control_effect setup.names found.parameters opener (Coord w operands))) effect done
    (turned_still found (control_effect setup.names found.parameters opener (Coord w operands)))
asks_still setting values setup found line opener other request effect asks done = absurd cc
